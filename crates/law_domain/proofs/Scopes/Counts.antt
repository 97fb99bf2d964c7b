-- How often a number stands in a list.
use Rattle.std.proofs.Common.{◌≡◌, ℕ, ◌+◌, ◌==◌, Bool, true, false, cond, List, [], ◌∷◌, ◌++◌, refl, ap, ◌∙◌, arith, eq-eqb}
use Rattle.std.specs.Prelude.{not}
use Rattle.std.proofs.lemmas.Bool.{both_ways, eqb-true}
use Rattle.spec_parts.specs.Switches.{without}

pub one : ℕ → ℕ → ℕ
one x y = elim (x == y) [ true ↦ 1 | false ↦ 0 ]

abbrev pub times : ℕ → List ℕ → ℕ
times x [] = 0
times x (y ∷ ys) = one x y + times x ys

pub data Compared (x y : ℕ) : Type 0 where
  Same : x ≡ y → one x y ≡ 1 → Compared x y
  Other : (x ≡ y → ⊥) → one x y ≡ 0 → Compared x y

pub compared : (x y : ℕ) → Compared x y
unfolding one
compared x y = by (x == y) refl
  where
    by : (b : Bool) → (x == y) ≡ b → Compared x y
    by true is = Same (eqb-true x y is) (ap (λ (b : Bool). elim b as (λ _. ℕ) [ true ↦ 1 | false ↦ 0 ]) is)
    by false is = Other (λ same. both_ways (x == y) is (eq-eqb x y same)) (ap (λ (b : Bool). elim b as (λ _. ℕ) [ true ↦ 1 | false ↦ 0 ]) is)

pub times_append : (x : ℕ) (xs ys : List ℕ) → times x (xs ++ ys) ≡ times x xs + times x ys
times_append x [] ys = omega arith
times_append x (z ∷ xs) ys = let rest : times x (xs ++ ys) ≡ times x xs + times x ys = times_append x xs ys in omega arith

pub times_without : (g x : ℕ) (xs : List ℕ) → (x ≡ g → ⊥) → times x (without g xs) ≡ times x xs
times_without g x [] other = refl
times_without g x (y ∷ ys) other = by (y == g) refl (times_without g x ys other)
  where
    by : (b : Bool) → (y == g) ≡ b → times x (without g ys) ≡ times x ys → times x (cond (not b) (y ∷ without g ys) (without g ys)) ≡ one x y + times x ys
    by false is rest = ap (λ n. one x y + n) rest
    by true is rest = apart (compared x y)
      where
        apart : Compared x y → times x (without g ys) ≡ one x y + times x ys
        apart (Same same is_one) = absurd (other (same ∙ eqb-true y g is))
        apart (Other differs none) = omega arith

pub one_self : (x : ℕ) → one x x ≡ 1
one_self x = by (compared x x)
  where
    by : Compared x x → one x x ≡ 1
    by (Same same is_one) = is_one
    by (Other differs none) = absurd (differs refl)
