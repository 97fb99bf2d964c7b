-- What the variables of all fibers of a domain hold between two moves: a slot of a switch or of a context holds the number of one that was made. So it is of
-- the variables that a handler was registered with, too.
use Rattle.std.specs.Prelude.{ℕ, Bool, true, nat_lt, List, ◌++◌, All, length}
use Rattle.spec_parts.specs.Switches.{Switch, Handler, switch_at}
use Rattle.spec_script.specs.Kinds.{Kind, ContextKind, SwitchKind}
use Rattle.spec_script.specs.Scripts.{Script}
use Rattle.spec_fiber.specs.Asks.{Ask}
use Rattle.spec_fiber.specs.Numbered.{block_numbered}
use Rattle.spec_fiber.specs.Replies.{Position}
use Rattle.spec_machine.specs.Domain.{Fiber, DomainState, fiber_at}
use Rattle.law_fiber.specs.Kinded.Kinds.{Facts, facts_of, HasKinds, HasKindsAt, HasKindsOfCall, HasKindsOfWork, FitsBlock}

-- ## What is known

-- a number of a switch or of a context is known once so many were made
abbrev pub names_made : (switches contexts : ℕ) → Kind → ℕ → Bool
names_made switches contexts SwitchKind number = nat_lt number switches
names_made switches contexts ContextKind number = nat_lt number contexts
names_made switches contexts kind number = true

abbrev pub made_facts : Script → (switches contexts : ℕ) → Facts
made_facts script switches contexts = facts_of script (names_made switches contexts)

-- ## Fibers and handlers

abbrev pub position_of : Fiber → Position
position_of fiber = record { work = fiber.work; variables = fiber.variables }

-- the handlers of a switch that are still to run
abbrev pub handlers_of : Switch → List Handler
handlers_of switch = switch.batch ++ switch.fresh

-- its block fits the variables that it was registered with
pub record IsKindedHandler (script : Script) (facts : Facts) (handler : Handler) : Type 0 where
  pub slots : List Kind
  pub variables : HasKinds facts slots handler.values
  pub fits : FitsBlock facts slots (block_numbered script handler.block)

-- a fiber that makes this call, with what is left to it behind it
pub record CallsWithKinds (facts : Facts) (call : Ask) (position : Position) : Type 0 where
  pub slots : List Kind
  pub variables : HasKinds facts slots position.variables
  pub work : HasKindsOfWork facts slots position.work
  pub names : HasKindsOfCall facts slots call

-- ## The domain

pub record AreKinded (script : Script) (fibers : List Fiber) (switches : List Switch) (contexts : ℕ) : Type 0 where
  pub position : (g : ℕ) → HasKindsAt (made_facts script (length switches) contexts) (position_of (fiber_at fibers g))
  pub handlers : (n : ℕ) → All (IsKindedHandler script (made_facts script (length switches) contexts)) (handlers_of (switch_at switches n))

abbrev pub IsKinded : Script → DomainState → Type 0
IsKinded script l = AreKinded script l.fibers l.switches (length l.contexts)
