-- What the code that evaluates expressions gives, beside the definition's values.
use Rattle.std.specs.Prelude.{List, ℤ, Option, Some, None, Result, Ok, Err}
use Rattle.eio_value.specs.declared.plain.Misuse.TheVariants.{Overflow}
use Rattle.eio_value.specs.declared.plain.Misuse.{Misuse}
use Rattle.eio_value.specs.declared.plain.Plain.TheVariants.{Invalid}
use Rattle.eio_value.specs.declared.value.TextId.{TextId}
use Rattle.eio_value.specs.declared.value.Value.{Value}
use Rattle.eio_value.specs.declared.value.Value.TheVariants.{Int}
use Rattle.spec_fiber.specs.Evaluation.{Evaluated, Is, Raises}
use Rattle.fiber_step.specs.declared.evaluation.AllOperands.{AllOperands}
use Rattle.fiber_step.specs.declared.evaluation.NumberOperand.{NumberOperand}
use Rattle.fiber_step.specs.declared.evaluation.Operand.{Operand}
use Rattle.fiber_step.specs.declared.evaluation.TextOperand.{TextOperand}

-- a value, or what is raised in its place
abbrev pub evaluated : Result Value Misuse → Evaluated Value
evaluated (Ok it) = Is it
evaluated (Err why) = Raises (Invalid why)

abbrev pub operand_value : Result Operand Misuse → Evaluated Value
operand_value (Ok it) = Is it.value
operand_value (Err why) = Raises (Invalid why)

-- a sum, where there is one
abbrev pub fitted : Option ℤ → Evaluated Value
fitted (Some z) = Is (Int z)
fitted None = Raises (Invalid Overflow)

abbrev pub operand_number : Result NumberOperand Misuse → Evaluated ℤ
operand_number (Ok it) = Is it.number
operand_number (Err why) = Raises (Invalid why)

abbrev pub operand_text : Result TextOperand Misuse → Evaluated TextId
operand_text (Ok it) = Is it.text
operand_text (Err why) = Raises (Invalid why)

abbrev pub operand_values : Result AllOperands Misuse → Evaluated (List Value)
operand_values (Ok it) = Is it.values
operand_values (Err why) = Raises (Invalid why)
