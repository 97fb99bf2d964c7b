-- Changes of one fiber.
use Rattle.std.proofs.Common.{◌≡◌, ◌≢◌, inl, inr, ℕ, ◌<◌, List, length, slice_set, ap, ◌∙◌, sym, subst, arith}
use Rattle.spec_machine.specs.Domain.{Fiber, never_made, fiber_at}
use Rattle.law_domain.proofs.Sound.ByNumber as numbers
use Rattle.law_domain.proofs.Sound.ByNumber.{same_or_other}

-- only this fiber is another one then
pub record OnlyAt (g : ℕ) (old new : List Fiber) (fiber : Fiber) : Type 0 where
  pub made : length new ≡ length old
  pub there : fiber_at new g ≡ fiber
  pub others : (h : ℕ) → h ≢ g → fiber_at new h ≡ fiber_at old h

pub set_once : (g : ℕ) (old : List Fiber) (fiber : Fiber) → g < length old → OnlyAt g old (slice_set old g fiber) fiber
set_once g old fiber below = record {
  made = numbers.set_keeps_length never_made old g fiber;
  there = numbers.changed_itself never_made old g fiber below;
  others = λ h other. numbers.others_unchanged never_made old g h fiber other;
}

-- it is changed again
pub set_again : (g : ℕ) (old new : List Fiber) (fiber : Fiber) (change : Fiber → Fiber) → g < length old
    → OnlyAt g old new fiber → OnlyAt g old (slice_set new g (change (fiber_at new g))) (change fiber)
set_again g old new fiber change below only = record {
  made = numbers.set_keeps_length never_made new g _ ∙ only.made;
  there = numbers.changed_itself never_made new g _ (omega (arith, only.made, below)) ∙ ap change only.there;
  others = λ h other. numbers.others_unchanged never_made new g h _ other ∙ only.others h other;
}

-- what holds of the changed one and of all others holds of all
pub of_only : (g : ℕ) (old new : List Fiber) (fiber : Fiber) → OnlyAt g old new fiber → (P : ℕ → Fiber → Type 0) → P g fiber
    → ((h : ℕ) → h ≢ g → P h (fiber_at old h)) → (h : ℕ) → P h (fiber_at new h)
of_only g old new fiber only P itself others h = elim (same_or_other h g) as (λ _. P h (fiber_at new h)) [
  | inl e ↦ subst (λ (m : ℕ). P m (fiber_at new m)) (sym e) (subst (λ (f : Fiber). P g f) (sym only.there) itself)
  | inr other ↦ subst (λ (f : Fiber). P h f) (sym (only.others h other)) (others h other)
]
