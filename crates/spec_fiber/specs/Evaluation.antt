-- The value of an expression, or the exception that it raises.
-- The operands of an operator are evaluated from the left, and the first exception ends it. Only then is it asked whether they are
-- numbers, and last whether the result fits in 64 bits. Truth is 1 or 0.
use Rattle.std.specs.Prelude.{ℕ, Bool, true, false, ◌&&◌, ◌==◌, int_lt, int_le, List, [], ◌∷◌, ℤ, pos, ◌+ℤ◌, ◌-ℤ◌, slice_get}
use Rattle.std.specs.Option.{unwrap_or}
use Rattle.eio_value.specs.declared.value.TextId.{TextId}
use Rattle.eio_value.specs.declared.value.Value.{Value}
use Rattle.eio_value.specs.declared.value.Value.TheVariants.{Unit, Int, Text, Ctx, Switch}
use Rattle.eio_value.specs.declared.plain.Misuse.TheVariants.{Overflow, NotNumber, NotText}
use Rattle.eio_value.specs.declared.plain.Plain.{Plain}
use Rattle.eio_value.specs.declared.plain.Plain.TheVariants.{Invalid}
use Rattle.spec_script.specs.Limits.{is_within}
use Rattle.spec_script.specs.Syntax.{Operator, Plus, Minus, Same, Less, Expression, NumberValue, TextValue, Variable, UnitValue, Operation, Expressions, NoExpressions, AndExpression}

-- what evaluation comes to: something, or what is raised
pub data Evaluated (A : Type 0) : Type 0 where
  Is : A → Evaluated A
  Raises : Plain → Evaluated A

-- ## Variables

-- the value of a slot, which is the place of a variable among those of a fiber
abbrev pub value_at : List Value → ℕ → Value
value_at variables slot = unwrap_or (slice_get variables slot) Unit

-- the number of the context that a value names, and of the switch; 0 for every other value
abbrev pub context_in : Value → ℕ
context_in (Ctx number) = number
context_in value = 0

abbrev pub switch_in : Value → ℕ
switch_in (Switch number) = number
switch_in value = 0

-- a reader, a writer and a directory are named by a number; 0 for every other value
abbrev pub number_in : Value → ℕ
number_in (Int (pos number)) = number
number_in value = 0

-- what a slot stands for that holds a context, or a switch, or a reader, a writer or a directory: its number
abbrev pub held_context : List Value → (slot : ℕ) → ℕ
held_context variables slot = context_in (value_at variables slot)

abbrev pub held_switch : List Value → (slot : ℕ) → ℕ
held_switch variables slot = switch_in (value_at variables slot)

abbrev pub held_number : List Value → (slot : ℕ) → ℕ
held_number variables slot = number_in (value_at variables slot)

-- ## Operators

abbrev pub is_same_int : ℤ → ℤ → Bool
is_same_int x y = int_le x y && int_le y x

-- two values are the same where they are of one kind and equal
abbrev pub is_same : Value → Value → Bool
is_same Unit Unit = true
is_same (Int x) (Int y) = is_same_int x y
is_same (Text a) (Text b) = a.0 == b.0
is_same (Ctx m) (Ctx n) = m == n
is_same (Switch m) (Switch n) = m == n
is_same a b = false

abbrev pub truth : Bool → Value
truth true = Int (pos 1)
truth false = Int (pos 0)

-- a number of 64 bits
abbrev pub fitting : ℤ → Evaluated Value
fitting z = elim (is_within z) [ true ↦ Is (Int z) | false ↦ Raises (Invalid Overflow) ]

-- an operator on two numbers
abbrev pub on_numbers : (ℤ → ℤ → Evaluated Value) → Value → Value → Evaluated Value
on_numbers result (Int x) (Int y) = result x y
on_numbers result a b = Raises (Invalid NotNumber)

abbrev pub operated : Operator → Value → Value → Evaluated Value
operated Plus a b = on_numbers (λ x y. fitting (x +ℤ y)) a b
operated Minus a b = on_numbers (λ x y. fitting (x -ℤ y)) a b
operated Same a b = Is (truth (is_same a b))
operated Less a b = on_numbers (λ x y. Is (truth (int_lt x y))) a b

-- ## Expressions

-- goes on with what was evaluated; what is raised stays
infixl 10 ◌then◌
abbrev pub ◌then◌ : {A B : Type 0} → Evaluated A → (A → Evaluated B) → Evaluated B
(Is it) then next = next it
(Raises what) then next = Raises what

unfoldable pub value_of : List Value → Expression → Evaluated Value
value_of variables (NumberValue z) = Is (Int z)
value_of variables (TextValue text) = Is (Text text)
value_of variables (Variable slot) = Is (value_at variables slot)
value_of variables UnitValue = Is Unit
value_of variables (Operation operator left right) =
    value_of variables left then λ a. value_of variables right then λ b. operated operator a b

unfoldable pub values_of : List Value → Expressions → Evaluated (List Value)
values_of variables NoExpressions = Is []
values_of variables (AndExpression e rest) = value_of variables e then λ first. values_of variables rest then λ others. Is (first ∷ others)

abbrev pub as_number : Value → Evaluated ℤ
as_number (Int z) = Is z
as_number value = Raises (Invalid NotNumber)

abbrev pub as_text : Value → Evaluated TextId
as_text (Text text) = Is text
as_text value = Raises (Invalid NotText)

-- an operand that has to be a number, and one that has to be a text: asked as soon as it is evaluated
abbrev pub number_of : List Value → Expression → Evaluated ℤ
number_of variables e = value_of variables e then as_number

abbrev pub text_of : List Value → Expression → Evaluated TextId
text_of variables e = value_of variables e then as_text
