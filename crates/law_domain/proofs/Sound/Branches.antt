-- How many branches of a group there are, by what stands under each number.
use Rattle.std.proofs.Common.{◌≡◌, ℕ, zero, suc, ◌+◌, ◌<◌, ◌≤◌, Bool, true, false, not, ◌&&◌, List, [], ◌∷◌, length, slice_set, refl, ap, ap₂, ◌∙◌, sym, true≢false, eqb-true, eq-eqb, arith}
use Rattle.spec_machine.specs.Domain.{Role, OfBody, OfJob, OfSwitch, OfGroup, OfWriter, Fiber, never_made, fiber_at, has_ended}
use Rattle.law_domain.specs.Sound.SoundStates.{branches_of, is_of_group}
use Rattle.law_domain.proofs.Sound.ByNumber as numbers
use Rattle.law_domain.proofs.Sound.ByNumber.{same_or_other}
use Rattle.law_domain.proofs.Sound.Changes.{OnlyAt, of_only}
use Rattle.law_domain.proofs.Sound.Counting.{count_same, count_without}

abbrev pub is_branch : ℕ → Fiber → Bool
is_branch n f = not (has_ended f) && is_of_group n f.role

pub group_of_role : (n : ℕ) (role : Role) → is_of_group n role ≡ true → role ≡ OfGroup n
group_of_role n OfBody is = absurd (true≢false (sym is))
group_of_role n (OfJob executor number) is = absurd (true≢false (sym is))
group_of_role n (OfSwitch switch daemon) is = absurd (true≢false (sym is))
group_of_role n (OfGroup m) is = ap (λ (x : ℕ). OfGroup x) (eqb-true m n is)
group_of_role n (OfWriter writer) is = absurd (true≢false (sym is))

pub role_of_group : (n : ℕ) (role : Role) → role ≡ OfGroup n → is_of_group n role ≡ true
role_of_group n role is = ap (is_of_group n) is ∙ eq-eqb n n refl

pub is_one : (n : ℕ) (fiber : Fiber) → has_ended fiber ≡ false → fiber.role ≡ OfGroup n → is_branch n fiber ≡ true
is_one n fiber lives role = ap₂ (λ (b other : Bool). not b && other) lives (role_of_group n fiber.role role)

pub is_none : (n : ℕ) (fiber : Fiber) → (has_ended fiber ≡ false → fiber.role ≡ OfGroup n → ⊥) → is_branch n fiber ≡ false
is_none n fiber none = by_ended (has_ended fiber) (is_of_group n fiber.role) refl refl where
  by_ended : (over of : Bool) → has_ended fiber ≡ over → is_of_group n fiber.role ≡ of → (not over && of) ≡ false
  by_ended true of is same = refl
  by_ended false false is same = refl
  by_ended false true is same = absurd (none is (group_of_role n fiber.role same))

-- there are none where nobody is one
pub no_branches : (n : ℕ) (fibers : List Fiber) → ((h : ℕ) → has_ended (fiber_at fibers h) ≡ false → (fiber_at fibers h).role ≡ OfGroup n → ⊥) → branches_of n fibers ≡ 0
no_branches n fibers none = count_same (is_branch n) refl fibers [] (λ h. is_none n (fiber_at fibers h) (none h))

-- nobody is one where there are none
pub nobody_branches : (n : ℕ) (fibers : List Fiber) → branches_of n fibers ≡ 0 → (h : ℕ) → has_ended (fiber_at fibers h) ≡ false → (fiber_at fibers h).role ≡ OfGroup n → ⊥
nobody_branches n fibers none h lives role = (
    let less = count_without (is_branch n) refl fibers h never_made (is_one n (fiber_at fibers h) lives role) refl in
    omega (arith, none, less))

-- some are there where one is
pub some_branch : (n : ℕ) (fibers : List Fiber) (h : ℕ) → has_ended (fiber_at fibers h) ≡ false → (fiber_at fibers h).role ≡ OfGroup n → 1 ≤ branches_of n fibers
some_branch n fibers h lives role = (
    let less = count_without (is_branch n) refl fibers h never_made (is_one n (fiber_at fibers h) lives role) refl in
    omega (arith, less))

-- ## One fiber has changed

module _ (n g : ℕ) (old new : List Fiber) (fiber : Fiber) (only : OnlyAt g old new fiber) where
  below_by : (made : List Fiber) (m : ℕ) → is_branch n (fiber_at made m) ≡ true → m < length made
  below_by [] m is = absurd (true≢false (sym is))
  below_by (x ∷ made) zero is = omega arith
  below_by (x ∷ made) (suc m) is = (let less : m < length made = below_by made m is in omega (arith, less))

  -- it was a branch, and isn't one any more
  pub fewer_branches : is_branch n (fiber_at old g) ≡ true → is_branch n fiber ≡ false → branches_of n new + 1 ≡ branches_of n old
  fewer_branches was isnt = (
      let less : branches_of n (slice_set old g fiber) + 1 ≡ branches_of n old = count_without (is_branch n) refl old g fiber was isnt in
      let same : branches_of n new ≡ branches_of n (slice_set old g fiber) = count_same (is_branch n) refl new (slice_set old g fiber)
      (of_only g old new fiber only (λ h f. is_branch n f ≡ is_branch n (fiber_at (slice_set old g fiber) h))
      (ap (is_branch n) (sym (numbers.changed_itself never_made old g fiber (below_by old g was)))) (λ h other. ap (is_branch n) (sym (numbers.others_unchanged never_made old g h fiber other)))) in
      omega (arith, less, same))

  -- it was none, and is none
  pub same_branches_aside : is_branch n (fiber_at old g) ≡ false → is_branch n fiber ≡ false → branches_of n new ≡ branches_of n old
  same_branches_aside was isnt = count_same (is_branch n) refl new old (of_only g old new fiber only (λ h f. is_branch n f ≡ is_branch n (fiber_at old h)) (isnt ∙ sym was) (λ h other. refl))
