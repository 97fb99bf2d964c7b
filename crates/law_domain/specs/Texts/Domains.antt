-- The texts and exceptions that stand in a domain, where no shared object and no mocked outside takes part.
-- The table is the one with which the script starts. Each text that stands there is in it, and each exception is one of those whose bound texts it has from
-- the start. So no `try` puts a text behind it.
use Rattle.std.specs.Prelude.{◌≡◌, ℕ, List, Option, IfSome}
use Rattle.std.specs.List.{AllByRecursion as Each}
use Rattle.eio_value.specs.declared.plain.Plain.{Plain}
use Rattle.spec_parts.specs.Contexts.{Context, context_at}
use Rattle.spec_parts.specs.Groups.{Group, group_at}
use Rattle.spec_parts.specs.Switches.{Switch, Handler, switch_at}
use Rattle.spec_script.specs.Opening.{opening_texts}
use Rattle.spec_script.specs.Scripts.{Script}
use Rattle.spec_fiber.specs.Replies.{Position}
use Rattle.trace_lines.specs.declared.line.Did.{Did}
use Rattle.trace_lines.specs.declared.line.Did.TheVariants as did
use Rattle.trace_lines.specs.declared.line.Said2.{Said2}
use Rattle.trace_lines.specs.declared.line.Said2.TheVariants as said
use Rattle.trace_lines.specs.TraceTexts.{CanSay}
use Rattle.spec_machine.specs.Domain.{Next, GoesOn, LooksUp, FindsOff, CallsAgain, Wait, ForOthers, Standing, Ready, Parked, Ended, Fiber, DomainState, fiber_at}
use Rattle.spec_machine.specs.Preparing as doing
use Rattle.spec_machine.specs.Preparing.{Doing}
use Rattle.law_fiber.specs.Texts.Texts.{IsHeldValue, AreHeldValues, IsHeldRaised, IsHeldOutcome, IsTextedWork, IsTextedCall, written_in, known_in}

-- ## Fibers

abbrev pub IsTextedNext : Script → Next → Type 0
IsTextedNext script (GoesOn it) = IsHeldOutcome (known_in script) it
IsTextedNext script LooksUp = Unit {0}
IsTextedNext script FindsOff = Unit {0}
IsTextedNext script (CallsAgain call) = IsTextedCall (written_in script) (known_in script) call

abbrev pub IsTextedWait : Script → Wait → Type 0
IsTextedWait script (ForOthers call) = IsTextedCall (written_in script) (known_in script) call
IsTextedWait script wait = Unit {0}

abbrev pub IsTextedStanding : Script → Standing → Type 0
IsTextedStanding script (Ready next) = IsTextedNext script next
IsTextedStanding script (Parked wait) = IsTextedWait script wait
IsTextedStanding script (Ended it) = IsHeldOutcome (known_in script) it

-- where a fiber stands between two calls
pub record IsTextedPosition (script : Script) (position : Position) : Type 0 where
  pub behind : IsTextedWork (written_in script) (known_in script) position.work
  pub values : AreHeldValues (known_in script) position.variables

abbrev pub position_of : Fiber → Position
position_of fiber = record { work = fiber.work; variables = fiber.variables }

pub record IsTextedFiber (script : Script) (fiber : Fiber) : Type 0 where
  pub place : IsTextedPosition script (position_of fiber)
  pub stands : IsTextedStanding script fiber.standing

-- ## Switches, groups and contexts

-- a handler's block is kept by its number
abbrev pub IsTextedHandler : Script → Handler → Type 0
IsTextedHandler script handler = AreHeldValues (known_in script) handler.values

abbrev pub IsTextedSwitch : Script → Switch → Type 0
IsTextedSwitch script switch =
    IfSome switch.errors (IsHeldRaised (known_in script)) × Each (IsTextedHandler script) switch.batch × Each (IsTextedHandler script) switch.fresh

abbrev pub IsTextedGroup : Script → Group → Type 0
IsTextedGroup script group = IfSome group.errors (IsHeldRaised (known_in script)) × IfSome group.kept (IsHeldValue (known_in script))

-- a cancellation is raised from its reason
abbrev pub IsKnownReason : Script → Option Plain → Type 0
IsKnownReason script reason = IfSome reason (known_in script).exception

-- ## Domains

-- the table, and what stands in the parts of a domain
pub record AreTexted (script : Script) (texts : List (List ℕ)) (fibers : List Fiber) (switches : List Switch) (groups : List Group)
    (contexts : List Context) : Type 0 where
  pub table : texts ≡ opening_texts script
  pub each_fiber : (g : ℕ) → IsTextedFiber script (fiber_at fibers g)
  pub each_switch : (n : ℕ) → IsTextedSwitch script (switch_at switches n)
  pub each_group : (n : ℕ) → IsTextedGroup script (group_at groups n)
  pub each_context : (c : ℕ) → IsKnownReason script (context_at contexts c).reason

abbrev pub IsTexted : Script → DomainState → Type 0
IsTexted script l = AreTexted script l.texts l.fibers l.switches l.groups l.contexts

-- ## Lines

-- what a line shows of a call
abbrev pub IsTextedDid : Script → Did → Type 0
IsTextedDid script (did.Trace values) = AreHeldValues (known_in script) values
IsTextedDid script (did.Cancel context text) = (written_in script).failure text
IsTextedDid script (did.Fail switch text) = (written_in script).failure text
IsTextedDid script (did.Mock it) = CanSay (opening_texts script) script.names it
IsTextedDid script other = Unit {0}

-- and of its answer
abbrev pub IsTextedReply : Script → Said2 → Type 0
IsTextedReply script (said.Done it) = IsHeldValue (known_in script) it
IsTextedReply script (said.Raised raised) = IsHeldRaised (known_in script) raised
IsTextedReply script other = Unit {0}

-- ## What a domain does next

abbrev pub IsTextedDoing : Script → Doing → Type 0
IsTextedDoing script (doing.Calls g call) = IsTextedCall (written_in script) (known_in script) call
IsTextedDoing script other = Unit {0}
