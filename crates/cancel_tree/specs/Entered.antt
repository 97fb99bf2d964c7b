-- The waiting fibers as the code keeps them, in order of their numbers.
use Rattle.std.specs.Prelude.{ℕ, ◌<◌, ◌≤◌, List, [], ◌∷◌, length}
use Rattle.spec_parts.specs.Contexts.{Waiting}
use Rattle.cancel_tree.specs.declared.waiters.Entered.{Entered}

-- the definition's waiting fiber
abbrev pub waiting_of : Entered → Waiting
waiting_of entered = record { fiber = entered.fiber; context = entered.context }

-- each has a number above this
abbrev pub AreAbove : ℕ → List Entered → Type 0
AreAbove fiber [] = Unit {0}
AreAbove fiber (first ∷ rest) = (fiber < first.fiber) × AreAbove fiber rest

-- the numbers rise
abbrev pub Rise : List Entered → Type 0
Rise [] = Unit {0}
Rise (first ∷ rest) = AreAbove first.fiber rest × Rise rest

-- the invariant of the waiting fibers, for which there is so much room
pub record AreInOrder (entered : List Entered) (capacity : ℕ) : Type 0 where
  pub rise : Rise entered
  pub few : length entered ≤ 1024
  pub room : 1024 ≤ capacity
