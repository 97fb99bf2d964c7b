-- Expressions come to values whose texts stand, or raise what is held.
use Rattle.std.proofs.Common.{ℕ, Bool, true, false, List, [], ◌∷◌, map, ℤ, ◌+ℤ◌, ◌-ℤ◌}
use Rattle.std.specs.Prelude.{int_lt}
use Rattle.eio_value.specs.declared.plain.Misuse.{Misuse}
use Rattle.eio_value.specs.declared.plain.Misuse.TheVariants.{Overflow, NotNumber, NotText}
use Rattle.eio_value.specs.declared.plain.Plain.TheVariants.{Invalid}
use Rattle.eio_value.specs.declared.value.TextId.{TextId}
use Rattle.eio_value.specs.declared.value.Value.{Value}
use Rattle.eio_value.specs.declared.value.Value.TheVariants as value
use Rattle.eio_value.specs.declared.value.Value.TheVariants.{Int, Text}
use Rattle.spec_script.specs.Limits.{is_within}
use Rattle.spec_script.specs.Syntax.{Operator, Plus, Minus, Same, Less, Expression, NumberValue, TextValue, Variable, UnitValue, Operation, Expressions, NoExpressions, AndExpression}
use Rattle.spec_fiber.specs.Evaluation.{Evaluated, Is, Raises, ◌then◌, value_at, is_same, truth, fitting, on_numbers, operated, value_of, values_of, as_number, as_text, number_of, text_of}
use Rattle.law_fiber.specs.Texts.Texts.{Written, Held, IsWrittenExpression, AreWrittenExpressions, IsHeldValue, AreHeldValues}
use Rattle.law_fiber.proofs.Texts.Lists.{each_at}

-- it comes to something of which this holds, or raises an exception that is held
abbrev pub IsHeldEvaluated : Held → {A : Type 0} → (A → Type 0) → Evaluated A → Type 0
IsHeldEvaluated held P (Is it) = P it
IsHeldEvaluated held P (Raises what) = held.exception what

abbrev pub Anything : {A : Type 0} → A → Type 0
Anything it = Unit {0}

module _ (held : Held) (refuses : (why : Misuse) → held.exception (Invalid why)) where
  then_held : {A B : Type 0} (P : A → Type 0) (Q : B → Type 0) (e : Evaluated A) (next : A → Evaluated B) → IsHeldEvaluated held P e
      → ((it : A) → P it → IsHeldEvaluated held Q (next it)) → IsHeldEvaluated held Q (e then next)
  then_held P Q (Is it) next is nexts = nexts it is
  then_held P Q (Raises what) next is nexts = is

  fitting_held : (z : ℤ) → IsHeldEvaluated held (IsHeldValue held) (fitting z)
  fitting_held z = by (is_within z)
    where
      by : (b : Bool) → IsHeldEvaluated held (IsHeldValue held) (elim b [ true ↦ Is (Int z) | false ↦ Raises (Invalid Overflow) ])
      by true = tt
      by false = refuses Overflow

  on_numbers_held : (result : ℤ → ℤ → Evaluated Value) → ((x y : ℤ) → IsHeldEvaluated held (IsHeldValue held) (result x y)) → (a b : Value)
      → IsHeldEvaluated held (IsHeldValue held) (on_numbers result a b)
  on_numbers_held result are (Int x) (Int y) = are x y
  on_numbers_held result are a b = refuses NotNumber

  truth_held : (b : Bool) → IsHeldValue held (truth b)
  truth_held true = tt
  truth_held false = tt

  operated_held : (operator : Operator) (a b : Value) → IsHeldEvaluated held (IsHeldValue held) (operated operator a b)
  operated_held Plus a b = on_numbers_held (λ x y. fitting (x +ℤ y)) (λ x y. fitting_held (x +ℤ y)) a b
  operated_held Minus a b = on_numbers_held (λ x y. fitting (x -ℤ y)) (λ x y. fitting_held (x -ℤ y)) a b
  operated_held Same a b = truth_held (is_same a b)
  operated_held Less a b = on_numbers_held (λ x y. Is (truth (int_lt x y))) (λ x y. truth_held (int_lt x y)) a b

  as_number_held : (it : Value) → IsHeldEvaluated held Anything (as_number it)
  as_number_held (Int z) = tt
  as_number_held other = refuses NotNumber

  as_text_held : (it : Value) → IsHeldValue held it → IsHeldEvaluated held held.text (as_text it)
  as_text_held (Text text) is = is
  as_text_held other is = refuses NotText

  module _ (written : Written) (writes : (text : TextId) → written.text text
      → held.text text) (variables : List Value) (are : AreHeldValues held variables) where
    pub value_held : (e : Expression) → IsWrittenExpression written e → IsHeldEvaluated held (IsHeldValue held) (value_of variables e)
    unfolding value_of IsWrittenExpression
    value_held (NumberValue z) is = tt
    value_held (TextValue text) is = writes text is
    value_held (Variable slot) is = each_at (IsHeldValue held) variables slot value.Unit are tt
    value_held UnitValue is = tt
    value_held (Operation operator left right) is =
        then_held (IsHeldValue held) (IsHeldValue held) (value_of variables left) (λ a. value_of variables right then λ b. operated operator a b)
        (value_held left is.0) (λ a first.
        then_held (IsHeldValue held) (IsHeldValue held) (value_of variables right) (λ b. operated operator a b) (value_held right is.1)
        (λ b second. operated_held operator a b))

    pub values_held : (es : Expressions) → AreWrittenExpressions written es → IsHeldEvaluated held (AreHeldValues held) (values_of variables es)
    unfolding values_of AreWrittenExpressions
    values_held NoExpressions is = tt
    values_held (AndExpression e rest) is =
        then_held (IsHeldValue held) (AreHeldValues held) (value_of variables e) (λ first. values_of variables rest then λ others. Is (first ∷ others))
        (value_held e is.0) (λ first one.
        then_held (AreHeldValues held) (AreHeldValues held) (values_of variables rest) (λ others. Is (first ∷ others)) (values_held rest is.1)
        (λ others all. (one, all)))

    pub number_held : (e : Expression) → IsWrittenExpression written e → IsHeldEvaluated held Anything (number_of variables e)
    number_held e is = then_held (IsHeldValue held) Anything (value_of variables e) as_number (value_held e is) (λ it one. as_number_held it)

    pub text_held : (e : Expression) → IsWrittenExpression written e → IsHeldEvaluated held held.text (text_of variables e)
    text_held e is = then_held (IsHeldValue held) held.text (value_of variables e) as_text (value_held e is) as_text_held

    -- the values of some slots
    pub given_held : (captured : List ℕ) → AreHeldValues held (map (value_at variables) captured)
    given_held [] = tt
    given_held (slot ∷ captured) = (each_at (IsHeldValue held) variables slot value.Unit are tt, given_held captured)
