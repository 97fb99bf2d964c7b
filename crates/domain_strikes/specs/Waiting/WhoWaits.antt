-- Which fibers of a domain wait so that a cancellation ends their waits. The definitions read it off each fiber's standing whenever something is cancelled; code keeps a list
-- of them, and changes it as fibers park and are woken.
use Rattle.std.specs.Prelude.{◌≡◌, ℕ, Bool, true, false, List}
use Rattle.spec_parts.specs.Contexts.{Waiting}
use Rattle.spec_parts.specs.ContextCalls.{Contexts}
use Rattle.spec_machine.specs.Domain.{Ready, Parked, Ended, Fiber, DomainState}
use Rattle.spec_machine.specs.Steps.{can_be_cancelled, waiting_from}

-- it is parked, in a wait that a cancellation ends
abbrev pub can_be_struck : Fiber → Bool
can_be_struck fiber = elim fiber.standing [ Parked wait ↦ can_be_cancelled wait | Ready next ↦ false | Ended it ↦ false ]

-- all who wait so, with the contexts that they run in, in order of number
abbrev pub waiting_in : DomainState → List Waiting
waiting_in l = waiting_from 0 l.fibers

-- as a waiting fiber of this number
abbrev pub waits_as : ℕ → Fiber → Waiting
waits_as g fiber = record { fiber = g; context = fiber.context }

-- a change of a fiber that its wait doesn't see: whether it waits so, and if it does, in which context
pub record WaitsAlike (before after : Fiber) : Type 0 where
  pub strikes : can_be_struck after ≡ can_be_struck before
  pub context : can_be_struck before ≡ true → after.context ≡ before.context

-- the contexts of a domain, and who waits in them
abbrev pub contexts_of : DomainState → Contexts
contexts_of l = record { made = l.contexts; waiting = waiting_in l }
