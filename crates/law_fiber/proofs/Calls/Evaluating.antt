-- Expressions see the variables that they name, and the texts in sight.
use Rattle.std.proofs.Common.{◌≡◌, Bool, true, false, List, ℤ, pos, ◌+ℤ◌, ◌-ℤ◌, int_lt, refl, subst}
use Rattle.eio_value.specs.declared.plain.Misuse.TheVariants.{Overflow, NotNumber, NotText}
use Rattle.eio_value.specs.declared.plain.Plain.{Plain}
use Rattle.eio_value.specs.declared.plain.Plain.TheVariants.{Invalid}
use Rattle.eio_value.specs.declared.value.Value.{Value}
use Rattle.eio_value.specs.declared.value.Value.TheVariants as value
use Rattle.spec_script.specs.Limits.{is_within}
use Rattle.spec_script.specs.Syntax.{Operator, Plus, Minus, Same, Less, Expression, NumberValue, TextValue, Variable, UnitValue, Operation, Expressions, NoExpressions, AndExpression}
use Rattle.spec_fiber.specs.Evaluation.{Evaluated, Is, Raises, context_in, switch_in, number_in, is_same, truth, on_numbers, operated, ◌then◌, value_of, values_of, as_number, as_text, number_of, text_of}
use Rattle.law_fiber.specs.Calls.Sights.{Sight, SeesExpression, SeesExpressions}
use Rattle.law_fiber.specs.Calls.Alike.{Tables, AlikeLists, Ends, Goes, IsSameText, AlikeValue, Units, Numbers, Texts, Contexts, Switches, AlikePlain, Invalids, AlikeVariables, AlikeTables}
use Rattle.law_fiber.proofs.Calls.Texts.{in_sight, same_numbers}

-- two evaluations come to what is alike, or raise what is
pub data AlikeEvaluated (t : Tables) {A : Type 0} (Alike : A → A → Type 0) : Evaluated A → Evaluated A → Type 0 where
  Both : {a b : A} → Alike a b → AlikeEvaluated t Alike (Is a) (Is b)
  Neither : {p q : Plain} → AlikePlain t p q → AlikeEvaluated t Alike (Raises p) (Raises q)

then_alike : {t : Tables} {A B : Type 0} {R : A → A → Type 0} {S : B → B → Type 0} {e f : Evaluated A} {next follow : A → Evaluated B}
    → AlikeEvaluated t R e f → ((a b : A) → R a b → AlikeEvaluated t S (next a) (follow b)) → AlikeEvaluated t S (e then next) (f then follow)
then_alike (Both {a = a} {b = b} alike) nexts = nexts a b alike
then_alike (Neither alike) nexts = Neither alike

-- ## Operators

abbrev fits : ℤ → Bool → Evaluated Value
fits z b = elim b [ true ↦ Is (value.Int z) | false ↦ Raises (Invalid Overflow) ]

fitted : {t : Tables} (z : ℤ) (b : Bool) → AlikeEvaluated t (AlikeValue t) (fits z b) (fits z b)
fitted z true = Both (Numbers z)
fitted z false = Neither (Invalids Overflow)

numbers_alike : {t : Tables} {result : ℤ → ℤ → Evaluated Value} → ((x y : ℤ) → AlikeEvaluated t (AlikeValue t) (result x y) (result x y))
    → {a b p q : Value} → AlikeValue t a p → AlikeValue t b q
    → AlikeEvaluated t (AlikeValue t) (on_numbers result a b) (on_numbers result p q)
numbers_alike results (Numbers x) (Numbers y) = results x y
numbers_alike results one two = Neither (Invalids NotNumber)

truth_alike : {t : Tables} (b : Bool) → AlikeValue t (truth b) (truth b)
truth_alike true = Numbers (pos 1)
truth_alike false = Numbers (pos 0)

same_alike : {sight : Sight} {t : Tables} → AlikeTables sight t → {a b p q : Value} → AlikeValue t a p → AlikeValue t b q → is_same a b ≡ is_same p q
same_alike tables (Texts {a = a} {b = p} one) (Texts {a = b} {b = q} two) = same_numbers tables a b p q one two
same_alike tables Units Units = refl
same_alike tables (Numbers x) (Numbers y) = refl
same_alike tables (Contexts m) (Contexts n) = refl
same_alike tables (Switches m) (Switches n) = refl
same_alike tables one two = refl

operated_alike : {sight : Sight} {t : Tables} → AlikeTables sight t → (operator : Operator) {a b p q : Value} → AlikeValue t a p → AlikeValue t b q
    → AlikeEvaluated t (AlikeValue t) (operated operator a b) (operated operator p q)
operated_alike tables Plus one two = numbers_alike (λ x y. fitted (x +ℤ y) (is_within (x +ℤ y))) one two
operated_alike tables Minus one two = numbers_alike (λ x y. fitted (x -ℤ y) (is_within (x -ℤ y))) one two
operated_alike {t = t} tables Same {a = a} {b = b} {p = p} {q = q} one two =
    subst (λ test. AlikeEvaluated t (AlikeValue t) (Is (truth (is_same a b))) (Is (truth test)))
    (same_alike tables one two) (Both (truth_alike (is_same a b)))
operated_alike tables Less one two = numbers_alike (λ x y. Both (truth_alike (int_lt x y))) one two

-- ## Expressions

module _ {sight : Sight} {t : Tables} {these those : List Value} (tables : AlikeTables sight t) (variables : AlikeVariables sight t these those) where
  pub value_alike : (e : Expression) → SeesExpression sight e → AlikeEvaluated t (AlikeValue t) (value_of these e) (value_of those e)
  unfolding value_of SeesExpression
  value_alike (NumberValue z) sees = Both (Numbers z)
  value_alike (TextValue text) sees = Both (Texts (in_sight tables text sees))
  value_alike (Variable slot) sees = Both (variables.in_scope slot sees)
  value_alike UnitValue sees = Both Units
  value_alike (Operation operator left right) sees =
      then_alike (value_alike left sees.0) (λ a p one. then_alike (value_alike right sees.1) (λ b q two. operated_alike tables operator one two))

  pub values_alike : (operands : Expressions) → SeesExpressions sight operands
      → AlikeEvaluated t (AlikeLists (AlikeValue t)) (values_of these operands) (values_of those operands)
  unfolding values_of SeesExpressions
  values_alike NoExpressions sees = Both Ends
  values_alike (AndExpression e rest) sees =
      then_alike (value_alike e sees.0) (λ a p first. then_alike (values_alike rest sees.1) (λ values others alike. Both (Goes first alike)))

  as_number_alike : (a b : Value) → AlikeValue t a b → AlikeEvaluated t (λ y z. y ≡ z) (as_number a) (as_number b)
  as_number_alike a b (Numbers z) = Both refl
  as_number_alike a b other = Neither (Invalids NotNumber)

  as_text_alike : (a b : Value) → AlikeValue t a b → AlikeEvaluated t (IsSameText t) (as_text a) (as_text b)
  as_text_alike a b (Texts same) = Both same
  as_text_alike a b other = Neither (Invalids NotText)

  pub number_alike : (e : Expression) → SeesExpression sight e → AlikeEvaluated t (λ y z. y ≡ z) (number_of these e) (number_of those e)
  number_alike e sees = then_alike (value_alike e sees) as_number_alike

  pub text_alike : (e : Expression) → SeesExpression sight e → AlikeEvaluated t (IsSameText t) (text_of these e) (text_of those e)
  text_alike e sees = then_alike (value_alike e sees) as_text_alike

-- contexts, switches and numbers are the same in both
pub context_in_alike : {t : Tables} {a b : Value} → AlikeValue t a b → context_in a ≡ context_in b
context_in_alike (Texts same) = refl
context_in_alike other = refl

pub switch_in_alike : {t : Tables} {a b : Value} → AlikeValue t a b → switch_in a ≡ switch_in b
switch_in_alike (Texts same) = refl
switch_in_alike other = refl

pub number_in_alike : {t : Tables} {a b : Value} → AlikeValue t a b → number_in a ≡ number_in b
number_in_alike (Texts same) = refl
number_in_alike other = refl
