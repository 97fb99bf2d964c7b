-- A switch that has finished: its `close` has answered a value or an exception.
use Rattle.std.specs.Prelude.{◌≡◌, ℕ, ◌+◌, Bool, true, List, ◌∷◌, ◌++◌, Option, Some, None}
use Rattle.eio_value.specs.declared.message.Message.{Message}
use Rattle.eio_value.specs.declared.message.Message.TheVariants as message
use Rattle.eio_value.specs.declared.message.Waiter.{Waiter}
use Rattle.spec_script.specs.Scripts.{Script}
use Rattle.trace_lines.specs.declared.line.Did.TheVariants as did
use Rattle.trace_lines.specs.declared.line.Line.{Line}
use Rattle.trace_lines.specs.declared.line.Said2.{Said2}
use Rattle.trace_lines.specs.declared.line.Said2.TheVariants as said
use Rattle.spec_machine.specs.Domain.{OfSwitch, OnObject, Parked, Standing, DomainState, fiber_at, has_ended}
use Rattle.spec_machine.specs.Histories.{domain_at_first, IsLegalHistory}
use Rattle.spec_machine.specs.Labels.{Label, Inner, Called, Struck, Mocked, Took}
use Rattle.spec_machine.specs.Mock.{Moved, move}
use Rattle.spec_machine.specs.Runs.{Noted, domain_of, DomainMoves, LocalRun, State}
use Rattle.spec_machine.specs.Trace.{run}

-- ## What is said of a switch

-- a value or an exception
abbrev pub IsResult : Said2 → Type 0
IsResult (said.Done it) = Unit {0}
IsResult (said.Raised raised) = Unit {0}
IsResult reply = ⊥

-- the line tells that `close` of this switch answered a value or an exception
pub record Answers (switch : ℕ) (line : Line) : Type 0 where
  pub call : line.did ≡ did.Close switch
  pub result : IsResult line.reply

-- each fiber and each daemon that was ever forked onto this switch has ended
abbrev pub NoneIsLeft : (switch : ℕ) → DomainState → Type 0
NoneIsLeft n l = (g : ℕ) (daemon : Bool) → (fiber_at l.fibers g).role ≡ OfSwitch n daemon → has_ended (fiber_at l.fibers g) ≡ true

-- ## Runs of one domain

abbrev pub WaitsOnObject : Standing → Type 0
WaitsOnObject standing = (who : Waiter) × (standing ≡ Parked (OnObject who))

-- a message resumes only a fiber that waits in a call on a shared object
abbrev pub ResumesWaiting : DomainState → Option Message → Type 0
ResumesWaiting l None = Unit {0}
ResumesWaiting l (Some (message.Resume who result stamp)) = WaitsOnObject (fiber_at l.fibers who.fiber).standing
ResumesWaiting l (Some (message.Start job number stamp)) = Unit {0}

-- the message that comes with a move, if one does
abbrev pub message_in : Label → Option Message
message_in Inner = None
message_in (Called asked answer mine) = mine
message_in (Struck who won) = None
message_in (Mocked asked answer texts) = None
message_in (Took it) = Some it

-- a move of a domain, whatever comes to it from outside, as long as no message resumes a fiber that doesn't wait for one
pub record Moves (script : Script) (l : DomainState) (x : Noted) (k : DomainState) : Type 0 where
  pub moves : DomainMoves script l x k
  pub waited : ResumesWaiting l (message_in x.label)

-- once `close` of a switch has answered a value or an exception, nothing of the switch is left, in that state and in every later one
abbrev pub LeavesNothing : Type 0
LeavesNothing =
    (script : Script) (d n : ℕ) (before after : List Noted) (x : Noted) (l k m : DomainState)
    → LocalRun (Moves script) (domain_at_first script d) before l
    → Moves script l x k
    → Answers n x.line
    → LocalRun (Moves script) k after m
    → NoneIsLeft n m

-- ## Runs on one mocked domain

-- the same for every script and every number of moves, with no condition
abbrev pub LeavesNothingInRuns : Type 0
LeavesNothingInRuns =
    (script : Script) (n later switch : ℕ) (moved : Moved)
    → move script (run script n).last ≡ Some moved
    → Answers switch moved.line
    → NoneIsLeft switch (run script (n + 1 + later)).last.local

-- ## Histories of several domains

-- the same in every legal history of a script, also with no condition: what comes to a domain is then what the others have sent
abbrev pub LeavesNothingInHistories : Type 0
LeavesNothingInHistories =
    (script : Script) (before after : List Noted) (x : Noted) (n : ℕ) (s : State (DomainMoves script))
    → IsLegalHistory script (before ++ x ∷ after) s
    → Answers n x.line
    → NoneIsLeft n (s.locals (domain_of x))
