-- What it says that steps which may fail gave a result.
use Rattle.std.proofs.Common.{◌≡◌, ℕ, List, Bool, true, false, ◌||◌, Result, Ok, Err, refl}
use Rattle.spec_script.specs.Results.{◌>>=◌}
use Rattle.spec_script.specs.Faults.{TreeFault}
use Rattle.spec_script.specs.Reading.{Found}

pub same_Ok : {A E : Type 0} (x y : A) → ◌≡◌ {A = Result A E} (Ok x) (Ok y) → x ≡ y
same_Ok x y e = cc

pub err-ok : {A E : Type 0} (x : E) (y : A) → Err x ≡ Ok y → ⊥
err-ok x y e = cc

-- both steps gave one
pub both_gave : {A B E : Type 0} (r : Result A E) (f : A → Result B E) (y : B) → (r >>= f) ≡ Ok y → (x : A) × (r ≡ Ok x) × (f x ≡ Ok y)
both_gave (Ok x) f y e = (x, refl, e)
both_gave (Err x) f y e = absurd (err-ok _ _ e)

-- a test where one side is a fault
pub passed : {A E : Type 0} (test : Bool) (r : Result A E) (x : E) (y : A) → ◌≡◌ {A = Result A E} (elim test [ true ↦ r | false ↦ Err x ]) (Ok y) → (test ≡ true) × (r ≡ Ok y)
passed true r x y e = (refl, e)
passed false r x y e = absurd (err-ok _ _ e)

-- one of two tests passes
pub in_either : {P : Type 0} (x y : Bool) → (x || y) ≡ true → (x ≡ true → P) → (y ≡ true → P) → P
in_either true y e left right = left refl
in_either false y e left right = right e

-- reads what follows a `(` at a place
abbrev pub Reader : Type 0
Reader = ℕ → List ℕ → Result Found TreeFault
