-- How many fibers pass a test that who was never made doesn't pass: it is a matter of what stands under each number.
use Rattle.std.proofs.Common.{◌≡◌, ◌≢◌, ℕ, zero, suc, ◌+◌, ◌<◌, ◌≤◌, Bool, true, false, not, List, [], ◌∷◌, ◌++◌, length, slice_set, refl, ap, ap₂, ◌∙◌, sym, subst, cond, true≢false, arith}
use Rattle.std.specs.Prelude.{count_by}
use Rattle.std.specs.List.{Contains}
use Rattle.std.proofs.lemmas.List.Sums.{sum_by_push, sum_by-cons}
use Rattle.spec_machine.specs.Domain.{Fiber, never_made, fiber_at, has_ended, live_fibers}
use Rattle.law_domain.proofs.Sound.ByNumber as numbers
use Rattle.law_domain.proofs.Sound.ByNumber.{same_or_other}
use Rattle.law_domain.proofs.Sound.Lists.{AreDistinct, contains_behind, contains_first, distinct_behind, not_behind}

abbrev pub one_if : Bool → ℕ
one_if b = cond b 1 0

module _ (test : Fiber → Bool) (unmade : test never_made ≡ false) where
  pub count_cons : (fiber : Fiber) (fibers : List Fiber) → count_by test (fiber ∷ fibers) ≡ one_if (test fiber) + count_by test fibers
  count_cons fiber fibers = sum_by-cons (λ (x : Fiber). one_if (test x)) fiber fibers

  -- one more
  pub count_pushed : (fibers : List Fiber) (fiber : Fiber) → count_by test (fibers ++ fiber ∷ []) ≡ count_by test fibers + one_if (test fiber)
  count_pushed fibers fiber = sum_by_push (λ (x : Fiber). one_if (test x)) fibers fiber

  -- as many, where each passes or doesn't as before
  pub count_same : (xs ys : List Fiber) → ((g : ℕ) → test (fiber_at xs g) ≡ test (fiber_at ys g)) → count_by test xs ≡ count_by test ys
  count_same [] [] same = refl
  count_same [] (y ∷ ys) same = sym (count_cons y ys ∙ ap₂ (λ (b : Bool) (n : ℕ). one_if b + n) (sym (same 0) ∙ unmade) (sym (count_same [] ys (λ g. same (suc g)))))
  count_same (x ∷ xs) [] same = count_cons x xs ∙ ap₂ (λ (b : Bool) (n : ℕ). one_if b + n) (same 0 ∙ unmade) (count_same xs [] (λ g. same (suc g)))
  count_same (x ∷ xs) (y ∷ ys) same =
      count_cons x xs ∙ (ap₂ (λ (b : Bool) (n : ℕ). one_if b + n) (same 0) (count_same xs ys (λ g. same (suc g))) ∙ sym (count_cons y ys))

  -- one less, which passed
  pub count_without : (fibers : List Fiber) (g : ℕ) (changed : Fiber) → test (fiber_at fibers g) ≡ true → test changed ≡ false
      → count_by test (slice_set fibers g changed) + 1 ≡ count_by test fibers
  count_without [] g changed passes fails = absurd (true≢false (sym passes ∙ unmade))
  count_without (x ∷ fibers) zero changed passes fails = (
      let before = count_cons x fibers in
      let after = count_cons changed fibers in
      let here : one_if (test x) ≡ 1 = ap one_if passes in
      let there : one_if (test changed) ≡ 0 = ap one_if fails in
      omega (arith, before, after, here, there))
  count_without (x ∷ fibers) (suc g) changed passes fails = (
      let before = count_cons x fibers in
      let after = count_cons x (slice_set fibers g changed) in
      let rest = count_without fibers g changed passes fails in
      omega (arith, before, after, rest))

-- a fiber that lives was made
pub lives_below : (fibers : List Fiber) (g : ℕ) → has_ended (fiber_at fibers g) ≡ false → g < length fibers
lives_below [] g lives = absurd (true≢false lives)
lives_below (x ∷ fibers) zero lives = omega arith
lives_below (x ∷ fibers) (suc g) lives = (let below : g < length fibers = lives_below fibers g lives in omega (arith, below))

-- as many live
pub live_same : (xs ys : List Fiber) → ((g : ℕ) → has_ended (fiber_at xs g) ≡ has_ended (fiber_at ys g)) → live_fibers xs ≡ live_fibers ys
live_same xs ys same = count_same (λ (fiber : Fiber). not (has_ended fiber)) refl xs ys (λ g. ap not (same g))

-- numbers that stand once, of fibers that live, are no more than live
pub few_stand : (numbers : List ℕ) (fibers : List Fiber) → AreDistinct numbers
    → ((g : ℕ) → Contains numbers g → has_ended (fiber_at fibers g) ≡ false) → length numbers ≤ live_fibers fibers
few_stand [] fibers apart live = omega arith
few_stand (g ∷ others) fibers apart live = (
    let lives : has_ended (fiber_at fibers g) ≡ false = live g (contains_first g others) in
    let fewer = count_without (λ (fiber : Fiber). not (has_ended fiber)) refl fibers g never_made (ap not lives) refl in
    let rest : length others ≤ live_fibers (slice_set fibers g never_made) =
    few_stand others (slice_set fibers g never_made) (distinct_behind g others apart)
    (λ h there. (
    let other : h ≢ g = λ e. not_behind g others apart (subst (λ (m : ℕ). Contains others m) e there) in
    subst (λ (f : Fiber). has_ended f ≡ false) (sym (numbers.others_unchanged never_made fibers g h never_made other)) (live h (contains_behind g h others there)))) in
    omega (arith, fewer, rest))
