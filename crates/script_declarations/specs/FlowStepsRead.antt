-- The steps of flows in the code as those of the definitions.
use Rattle.std.specs.Prelude.{ℕ, ◌==◌, Bool}
use Rattle.eio_value.specs.declared.flow_step.FlowStep.{FlowStep}
use Rattle.eio_value.specs.declared.flow_step.FlowStep.TheVariants.{Data, Fault, Pause}
use Rattle.spec_script.specs.FlowSteps as model
use Rattle.spec_script.specs.Faults.{Shape}
use Rattle.spec_script.specs.Reads.{Reads, ◌>>>◌, gives, refuses, text_of}
use Rattle.spec_script.specs.Trees.{Trees, Nil, And}
use Rattle.script_declarations.specs.declared.flow_steps.StepHead.{StepHead}
use Rattle.script_declarations.specs.declared.flow_steps.StepHead.TheVariants as head

abbrev pub head_of : StepHead → model.StepHead
head_of head.Data = model.DataHead
head_of head.Fault = model.FaultHead
head_of head.Pause = model.PauseHead

-- whether a step has that many items behind its word
abbrev pub takes : StepHead → (count : ℕ) → Bool
takes head.Data count = count == 1
takes head.Fault count = count == 1
takes head.Pause count = count == 0

-- a step that was counted, by what stands behind its word
abbrev pub operand : StepHead → Trees → Reads FlowStep
operand head.Data (And text Nil) = model.data_of text >>> λ bytes. gives (Data bytes)
operand head.Fault (And text Nil) = text_of text >>> λ id. gives (Fault id)
operand head.Pause Nil = gives Pause
operand other items = refuses (Shape 0)
