-- Sums of numbers of 64 bits.
use Rattle.std.proofs.Common.{◌≡◌, ℕ, ◌<◌, ◌^◌, Some, None, Option, refl, ℤ, pos, negsuc, FitsSigned, w64, Bool, true, false}
use Rattle.std.specs.Prelude.{SomeIff, nat_lt}
use Rattle.std.proofs.lemmas.Bool.{lt-ltb, ltb-true}
use Rattle.spec_script.specs.Limits.{is_within}
use Rattle.spec_fiber.specs.Evaluation.{fitting}
use Rattle.fiber_step.specs.Evaluating.{fitted}

fits_within : (z : ℤ) → FitsSigned w64 z → is_within z ≡ true
fits_within (pos n) f = lt-ltb n (2 ^ 63) f.sfits
fits_within (negsuc n) f = lt-ltb n (2 ^ 63) f.sfits

false_where : (n m : ℕ) → ¬ (n < m) → nat_lt n m ≡ false
false_where n m over = by (nat_lt n m) refl
  where
    by : (t : Bool) → nat_lt n m ≡ t → nat_lt n m ≡ false
    by true e = absurd (over (ltb-true n m e))
    by false e = e

not_within : (z : ℤ) → ¬ (FitsSigned w64 z) → is_within z ≡ false
not_within (pos n) over = false_where n (2 ^ 63) (λ h. over (record { sfits = h }))
not_within (negsuc n) over = false_where n (2 ^ 63) (λ h. over (record { sfits = h }))

pub fitting_of : (z : ℤ) (sum : Option ℤ) → SomeIff sum (FitsSigned w64 z) z → fitted sum ≡ fitting z
fitting_of z None over = rw (not_within z over, fitting) refl
fitting_of z (Some x) is = rw (is.1, fits_within z is.0, fitting) refl
