-- The strikes that a domain owes, as code keeps them.
use Rattle.std.specs.Prelude.{◌≡◌, ◌⊎◌, ℕ, List, [], drop, map}
use Rattle.spec_parts.specs.Contexts.{to_be_struck}
use Rattle.spec_parts.specs.ContextCalls.{Contexts}
use Rattle.spec_machine.specs.Domain.{Duty}
use Rattle.spec_machine.specs.Steps.{strike_by}

-- of these fibers so many were struck before; the others still have to be, all by one maker
abbrev pub owed_by : (maker : ℕ) → (fibers : List ℕ) → (struck : ℕ) → List Duty
owed_by maker fibers struck = map (strike_by maker) (drop struck fibers)

-- while strikes are owed, this cancellation strikes nobody: as where it is of a context that was cancelled before
abbrev pub StrikesAtOnce : List Duty → Contexts → (c : ℕ) → Type 0
StrikesAtOnce owed contexts c = (owed ≡ []) ⊎ (to_be_struck contexts.made contexts.waiting c ≡ [])
