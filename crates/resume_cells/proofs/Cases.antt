-- Small facts on tests, and on what deeds are.
use Rattle.std.proofs.Common.{◌≡◌, ◌≢◌, ℕ, ◌⊎◌, Bool, true, false, zero, suc, eqb, List, [], ◌∷◌, ◌<◌, length, set, get_or, ◌&&◌, ◌||◌, ◌==◌, refl, sym, ap, ◌∙◌, subst, inl, inr, arith, eq-eqb, ne_eqb, Option, Some, None}
use mathlib.Core.Option.{some, some-ne-none}
use mathlib.Core.Logic.{dite}
use native.Mathlib.Decide.{ℕ_discrete}
use lib.ListN.{get_elem?}
use Rattle.resume_cells.specs.declared.view.Deed.{Deed}
use Rattle.resume_cells.specs.declared.view.Deed.TheVariants.{Arm, Wake, Cancel}
use Rattle.resume_cells.specs.Marks.{code_of}

pub or_false : (a b : Bool) → a ≡ false → b ≡ false → (a || b) ≡ false
or_false true b e f = e
or_false false b e f = f

pub or_true : (a b : Bool) → (a || b) ≡ true → (a ≡ true) ⊎ (b ≡ true)
or_true true b e = inl refl
or_true false b e = inr e

pub or_left : (a b : Bool) → a ≡ true → (a || b) ≡ true
or_left true b e = refl
or_left false b e = absurd (let x : false ≡ true = e in cc)

pub or_right : (a b : Bool) → b ≡ true → (a || b) ≡ true
or_right true b e = refl
or_right false b e = e

pub and_true : (a b : Bool) → (a && b) ≡ true → (a ≡ true) × (b ≡ true)
and_true true b e = (refl, e)
and_true false b e = absurd (let x : false ≡ true = e in cc)

pub both_true : (a b : Bool) → a ≡ true → b ≡ true → (a && b) ≡ true
both_true true b e f = f
both_true false b e f = e

pub and_right : (a b : Bool) → b ≡ false → (a && b) ≡ false
and_right true b f = f
and_right false b f = refl

pub and_left : (a b : Bool) → a ≡ false → (a && b) ≡ false
and_left true b e = let x : true ≡ false = e in cc
and_left false b e = refl

pub bool_cases : (P : Type 0) (b : Bool) → (b ≡ true → P) → (b ≡ false → P) → P
bool_cases P true t f = t refl
bool_cases P false t f = f refl

-- the cases of a test of two numbers
pub eqb_cases : (P : Bool → Type 0) (a b : ℕ) → (a ≡ b → P true) → (a ≢ b → P false) → P (eqb a b)
eqb_cases P a b hit miss = dite (ℕ_discrete a b) (λ e. subst P (sym (eq-eqb a b e)) (hit e)) (λ ne. subst P (sym (ne_eqb a b ne)) (miss ne))

pub equal_if : (a b : ℕ) → (a == b) ≡ true → a ≡ b
equal_if a b e = dite (ℕ_discrete a b) (λ h. h) (λ ne. absurd (let x : true ≡ false = sym e ∙ ne_eqb a b ne in cc))

pub at_below : {A : Type 0} (l : List A) (i : ℕ) (a : A) → get_elem? l i ≡ some a → i < length l
at_below [] i a e = absurd (some-ne-none a (sym e))
at_below (x ∷ xs) zero a e = omega arith
at_below (x ∷ xs) (suc i) a e = let h = at_below xs i a e in omega arith

pub set_same : (l : List ℕ) (i : ℕ) → set l i (get_or l i 0) ≡ l
set_same [] i = refl
set_same (x ∷ xs) zero = refl
set_same (x ∷ xs) (suc i) = ap (λ (ys : List ℕ). x ∷ ys) (set_same xs i)

-- what a deed is, beside its code
pub deed_cases : (d : Deed) → ((d ≡ Arm) × (code_of d ≡ 1)) ⊎ (((d ≡ Wake) × (code_of d ≡ 2)) ⊎ ((d ≡ Cancel) × (code_of d ≡ 3)))
deed_cases Arm = inl (refl, refl)
deed_cases Wake = inr (inl (refl, refl))
deed_cases Cancel = inr (inr (refl, refl))

pub some_is : {a b : ℕ} → Some a ≡ Some b → a ≡ b
some_is {a} {b} e = ap (λ (o : Option ℕ). elim o [ None ↦ a | Some x ↦ x ]) e

pub none-ne-some : {a : ℕ} → None ≡ Some a → ⊥
none-ne-some e = let x : true ≡ false = ap (λ (o : Option ℕ). elim o [ None ↦ true | Some x ↦ false ]) e in cc

pub nil-ne-cons : {A : Type 0} {x : A} {xs : List A} → [] ≡ x ∷ xs → ⊥
nil-ne-cons {A} e = let y : true ≡ false = ap (λ (l : List A). elim l [ [] ↦ true | z ∷ zs ↦ false ]) e in cc
