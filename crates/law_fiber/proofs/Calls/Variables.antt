-- Variables that are alike stay so where they are cut, and where names are bound.
use Rattle.std.proofs.Common.{◌≡◌, ℕ, zero, suc, ◌+◌, min, List, [], ◌∷◌, ◌++◌, length, take, refl, sym, ap, ◌∙◌, arith}
use Rattle.std.proofs.lemmas.List.{length-take, length-append}
use Rattle.eio_value.specs.declared.value.Value.{Value}
use Rattle.spec_fiber.specs.Evaluation.{value_at}
use Rattle.law_fiber.specs.Calls.Sights.{Sight}
use Rattle.law_fiber.specs.Calls.Alike.{Tables, AlikeLists, Ends, Goes, AlikeValue, Units, AlikeVariables}

at_front : {t : Tables} (keep : ℕ) (these those : List Value) (slot : ℕ) → length these ≡ length those
    → AlikeValue t (value_at these slot) (value_at those slot)
    → AlikeValue t (value_at (take keep these) slot) (value_at (take keep those) slot)
at_front zero these those slot long alike = Units
at_front (suc keep) [] [] slot long alike = Units
at_front (suc keep) [] (b ∷ those) slot long alike = absurd (omega (arith, long))
at_front (suc keep) (a ∷ these) [] slot long alike = absurd (omega (arith, long))
at_front (suc keep) (a ∷ these) (b ∷ those) zero long alike = alike
at_front (suc keep) (a ∷ these) (b ∷ those) (suc slot) long alike = at_front keep these those slot (omega (arith, long)) alike

pub variables_cut : {sight : Sight} {t : Tables} (keep : ℕ) {these those : List Value} → AlikeVariables sight t these those
    → AlikeVariables sight t (take keep these) (take keep those)
variables_cut keep {these} {those} alike = record {
  as_many = length-take keep these ∙ (ap (λ n. min keep n) alike.as_many ∙ sym (length-take keep those));
  in_scope = λ slot sees. at_front keep these those slot alike.as_many (alike.in_scope slot sees);
}

at_end : {t : Tables} (these those : List Value) (a b : Value) (slot : ℕ) → length these ≡ length those → AlikeValue t a b
    → AlikeValue t (value_at these slot) (value_at those slot)
    → AlikeValue t (value_at (these ++ a ∷ []) slot) (value_at (those ++ b ∷ []) slot)
at_end [] [] a b zero long last alike = last
at_end [] [] a b (suc slot) long last alike = Units
at_end [] (y ∷ those) a b slot long last alike = absurd (omega (arith, long))
at_end (x ∷ these) [] a b slot long last alike = absurd (omega (arith, long))
at_end (x ∷ these) (y ∷ those) a b zero long last alike = alike
at_end (x ∷ these) (y ∷ those) a b (suc slot) long last alike = at_end these those a b slot (omega (arith, long)) last alike

pub variables_with : {sight : Sight} {t : Tables} {these those : List Value} {a b : Value} → AlikeVariables sight t these those → AlikeValue t a b
    → AlikeVariables sight t (these ++ a ∷ []) (those ++ b ∷ [])
variables_with {these = these} {those = those} {a = a} {b = b} alike last = record {
  as_many = length-append these (a ∷ []) ∙ (ap (λ n. n + 1) alike.as_many ∙ sym (length-append those (b ∷ [])));
  in_scope = λ slot sees. at_end these those a b slot alike.as_many last (alike.in_scope slot sees);
}

-- of lists of values that are alike every variable is
pub variables_of : {t : Tables} {these those : List Value} → AlikeLists (AlikeValue t) these those → (slot : ℕ)
    → AlikeValue t (value_at these slot) (value_at those slot)
variables_of Ends slot = Units
variables_of (Goes first others) zero = first
variables_of (Goes first others) (suc slot) = variables_of others slot

pub as_long : {t : Tables} {these those : List Value} → AlikeLists (AlikeValue t) these those → length these ≡ length those
as_long Ends = refl
as_long (Goes first others) = ap suc (as_long others)
