-- Which exceptions stand in a state, and which a line tells: each is one raise, with its number.
-- They stand in how fibers go on, in calls that wait or are made again, in what fibers ended with, in the errors of switches and groups, in promises, and in
-- messages for other domains. The work of a fiber, the values of variables and who waits for an object hold none.
use Rattle.std.specs.Prelude.{ℕ, Option, Some, None}
use Rattle.std.specs.List.{Contains}
use Rattle.eio_value.specs.declared.message.Message.{Message}
use Rattle.eio_value.specs.declared.message.Message.TheVariants as message
use Rattle.eio_value.specs.declared.plain.Member.{Member}
use Rattle.eio_value.specs.declared.raised.Outcome.{Outcome}
use Rattle.eio_value.specs.declared.raised.Outcome.TheVariants as outcome
use Rattle.eio_value.specs.declared.raised.Raised.{Raised}
use Rattle.eio_value.specs.Joining.{members_of}
use Rattle.spec_parts.specs.Data.{Data, Promise}
use Rattle.spec_parts.specs.Groups.{Group}
use Rattle.spec_parts.specs.Row.{Row}
use Rattle.spec_parts.specs.Switches.{Switch}
use Rattle.spec_fiber.specs.Asks as ask
use Rattle.spec_fiber.specs.Asks.{Ask}
use Rattle.trace_lines.specs.declared.line.Did.{Did}
use Rattle.trace_lines.specs.declared.line.Did.TheVariants as did
use Rattle.trace_lines.specs.declared.line.Line.{Line}
use Rattle.trace_lines.specs.declared.line.Said2.{Said2}
use Rattle.trace_lines.specs.declared.line.Said2.TheVariants as said
use Rattle.spec_machine.specs.Domain.{Next, GoesOn, CallsAgain, Wait, ForOthers, Standing, Ready, Parked, Ended, Fiber}
use Rattle.spec_machine.specs.Mock.{Mock}

-- ## Its places

-- a single exception, the reason of a cancellation, or one of several
abbrev pub InRaised : Member → Raised → Type 0
InRaised x raised = Contains (members_of raised) x

abbrev pub InOutcome : Member → Outcome → Type 0
InOutcome x (outcome.Ok value) = ⊥
InOutcome x (outcome.Err raised) = InRaised x raised

abbrev pub InErrors : Member → Option Raised → Type 0
InErrors x None = ⊥
InErrors x (Some raised) = InRaised x raised

abbrev pub InResult : Member → Option Outcome → Type 0
InResult x None = ⊥
InResult x (Some result) = InOutcome x result

-- the ends of blocks have what came to them
abbrev pub InCall : Member → Ask → Type 0
InCall x (ask.Leave context late it) = InOutcome x it
InCall x (ask.Close switch came kept) = InErrors x came
InCall x (ask.Join group own) = InResult x own
InCall x (ask.ShutReader reader it) = InOutcome x it
InCall x (ask.ShutWriter writer it) = InOutcome x it
InCall x (ask.PoisonEnd mutex raised) = InRaised x raised
InCall x (ask.PutEnd pool resource it) = InOutcome x it
InCall x (ask.ResolveEnd promise it) = InOutcome x it
InCall x (ask.End it) = InOutcome x it
InCall x call = ⊥

abbrev pub InNext : Member → Next → Type 0
InNext x (GoesOn it) = InOutcome x it
InNext x (CallsAgain call) = InCall x call
InNext x next = ⊥

abbrev pub InWait : Member → Wait → Type 0
InWait x (ForOthers call) = InCall x call
InWait x wait = ⊥

abbrev pub InStanding : Member → Standing → Type 0
InStanding x (Ready next) = InNext x next
InStanding x (Parked wait) = InWait x wait
InStanding x (Ended it) = InOutcome x it

abbrev pub InData : Member → Data → Type 0
InData x (Promise kept) = InResult x kept
InData x values = ⊥

abbrev pub InMessage : Member → Message → Type 0
InMessage x (message.Resume who it stamp) = InOutcome x it
InMessage x (message.Start job number stamp) = ⊥

-- ## In a line

-- what a line tells of the call
abbrev pub InDid : Member → Did → Type 0
InDid x (did.Resolve promise it) = InOutcome x it
InDid x it = ⊥

abbrev pub InReply : Member → Said2 → Type 0
InReply x (said.Raised raised) = InRaised x raised
InReply x reply = ⊥

pub data IsTold (x : Member) (line : Line) : Type 0 where
  InItsCall : InDid x line.did → IsTold x line
  InItsReply : InReply x line.reply → IsTold x line

-- ## In a state

pub data IsIn (x : Member) (m : Mock) : Type 0 where
  InFiber : (fiber : Fiber) → Contains m.local.fibers fiber → InStanding x fiber.standing → IsIn x m
  InSwitch : (switch : Switch) → Contains m.local.switches switch → InErrors x switch.errors → IsIn x m
  InGroup : (group : Group) → Contains m.local.groups group → InErrors x group.errors → IsIn x m
  InObject : (row : Row) → Contains m.shared.rows row → InData x row.values → IsIn x m
  InPost : (receiver sender : ℕ) → (one : Message) → Contains (m.shared.posts receiver sender) one → InMessage x one → IsIn x m
