-- A group whose `join` has answered: no fiber of it is left.
use Rattle.std.specs.Prelude.{◌≡◌, ℕ, ◌+◌, true, List, Option, Some}
use Rattle.eio_value.specs.declared.raised.Outcome.{Outcome}
use Rattle.spec_script.specs.Scripts.{Script}
use Rattle.spec_fiber.specs.Asks as ask
use Rattle.trace_lines.specs.declared.line.Did.TheVariants as did
use Rattle.trace_lines.specs.declared.line.Line.{Line}
use Rattle.spec_machine.specs.Domain.{OfGroup, DomainState, fiber_at, has_ended}
use Rattle.spec_machine.specs.Histories.{domain_at_first, IsLegalHistory}
use Rattle.spec_machine.specs.Mock.{Moved, move}
use Rattle.spec_machine.specs.Preparing as doing
use Rattle.spec_machine.specs.Preparing.{prepared}
use Rattle.spec_machine.specs.Runs.{Noted, domain_of, key_of, DomainMoves, LocalRun, State, Legal}
use Rattle.spec_machine.specs.Runs.{Moves as MovesAll}
use Rattle.spec_machine.specs.Trace.{run}
use Rattle.law_domain.specs.Scopes.Finished.{IsResult, Moves}

-- ## What is said of a group

-- the next call of the domain, before this line, joins this group, and the line tells that `join` answered a value or an exception. The line has the number of the group's context alone
pub record JoinAnswers (group : ℕ) (before : DomainState) (line : Line) : Type 0 where
  pub own : Option Outcome
  pub call : (prepared before).doing ≡ doing.Calls line.fiber (ask.Join group own)
  pub context : ℕ
  pub told : line.did ≡ did.Join context
  pub result : IsResult line.reply

-- each fiber that was ever made for a branch of this group has ended
abbrev pub NoBranchIsLeft : (group : ℕ) → DomainState → Type 0
NoBranchIsLeft n l = (g : ℕ) → (fiber_at l.fibers g).role ≡ OfGroup n → has_ended (fiber_at l.fibers g) ≡ true

-- ## The laws

-- once `join` of a group has answered a value or an exception, no fiber of the group is left, in that state and in every later one, in every run of a domain in which messages resume
-- only fibers that wait for one
abbrev pub GroupsLeaveNothing : Type 0
GroupsLeaveNothing =
    (script : Script) (d n : ℕ) (before after : List Noted) (x : Noted) (l k m : DomainState)
    → LocalRun (Moves script) (domain_at_first script d) before l
    → Moves script l x k
    → JoinAnswers n l x.line
    → LocalRun (Moves script) k after m
    → NoBranchIsLeft n m

-- in the run of every script on one mocked domain
abbrev pub GroupsLeaveNothingInRuns : Type 0
GroupsLeaveNothingInRuns =
    (script : Script) (n later group : ℕ) (moved : Moved)
    → move script (run script n).last ≡ Some moved
    → JoinAnswers group (run script n).last.local moved.line
    → NoBranchIsLeft group (run script (n + 1 + later)).last.local

-- and in every legal history of a script, also with no condition
abbrev pub GroupsLeaveNothingInHistories : Type 0
GroupsLeaveNothingInHistories =
    (script : Script) (before after : List Noted) (x : Noted) (n : ℕ) (s t u : State (DomainMoves script))
    → IsLegalHistory script before s
    → MovesAll (DomainMoves script) s x t
    → JoinAnswers n (s.locals (domain_of x)) x.line
    → Legal (DomainMoves script) (key_of x) t after u
    → NoBranchIsLeft n (u.locals (domain_of x))
