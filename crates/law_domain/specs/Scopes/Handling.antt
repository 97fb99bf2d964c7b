-- Release handlers come to their end before their switch closes on.
use Rattle.std.specs.Prelude.{◌≡◌, ℕ, ◌+◌, ◌⊎◌, List, [], ◌∷◌, Some}
use Rattle.spec_script.specs.Scripts.{Script}
use Rattle.trace_lines.specs.declared.line.Did.TheVariants as did
use Rattle.trace_lines.specs.declared.line.Line.{Line}
use Rattle.trace_lines.specs.declared.line.Said2.TheVariants as said
use Rattle.spec_machine.specs.Domain.{DomainState, fiber_at}
use Rattle.spec_machine.specs.Histories.{domain_at_first, IsLegalHistory}
use Rattle.spec_machine.specs.Mock.{Moved, move, moves}
use Rattle.spec_machine.specs.Runs.{Noted, domain_of, key_of, DomainMoves, LocalRun, State, Legal}
use Rattle.spec_machine.specs.Runs.{Moves as MovesAll}
use Rattle.spec_machine.specs.Trace.{run}
use Rattle.law_domain.specs.Scopes.Finished.{Moves}

-- ## What is said of lines

-- some thing of a list is so
abbrev pub AnyOf : {A : Type 0} → (A → Type 0) → List A → Type 0
AnyOf P [] = ⊥
AnyOf P (it ∷ others) = P it ⊎ AnyOf P others

-- the line tells that `close` of this switch goes into a handler
pub record EntersHandler (switch : ℕ) (line : Line) : Type 0 where
  pub call : line.did ≡ did.Close switch
  pub handler : line.reply ≡ said.Handler

-- the line tells that this fiber closes this switch
pub record ClosesAgain (switch fiber : ℕ) (line : Line) : Type 0 where
  pub call : line.did ≡ did.Close switch
  pub caller : line.fiber ≡ fiber

-- the line tells that this fiber leaves this context: the block that ran in it has come to its end, by a value or an exception
pub record LeavesContext (fiber context : ℕ) (line : Line) : Type 0 where
  pub call : line.did ≡ did.Leave context
  pub caller : line.fiber ≡ fiber

-- the context in which the fiber of a line runs after it; behind a line that goes into a handler it is the handler's
abbrev pub context_after : Line → DomainState → ℕ
context_after line l = (fiber_at l.fibers line.fiber).context

-- ## The laws

-- between a line that goes into a handler of a switch and each later one by which the same fiber closes the switch stands one by which that fiber leaves the handler's context, in every run
-- of a domain in which messages resume only fibers that wait for one
abbrev pub HandlersEnd : Type 0
HandlersEnd =
    (script : Script) (d n : ℕ) (before between : List Noted) (x y : Noted) (l k m e : DomainState)
    → LocalRun (Moves script) (domain_at_first script d) before l
    → Moves script l x k
    → EntersHandler n x.line
    → LocalRun (Moves script) k between m
    → Moves script m y e
    → ClosesAgain n x.line.fiber y.line
    → AnyOf (λ z. LeavesContext x.line.fiber (context_after x.line k) z.line) between

-- in the run of every script on one mocked domain
abbrev pub HandlersEndInRuns : Type 0
HandlersEndInRuns =
    (script : Script) (n later switch : ℕ) (moved last : Moved)
    → move script (run script n).last ≡ Some moved
    → EntersHandler switch moved.line
    → move script (run script (n + 1 + later)).last ≡ Some last
    → ClosesAgain switch moved.line.fiber last.line
    → AnyOf (λ z. LeavesContext moved.line.fiber (context_after moved.line moved.next.local) z.line) (moves script later moved.next)

-- a line of this domain by which its fiber leaves the context
pub record LeavesIn (domain fiber context : ℕ) (x : Noted) : Type 0 where
  pub home : domain_of x ≡ domain
  pub left : LeavesContext fiber context x.line

-- and in every legal history of a script, also with no condition
abbrev pub HandlersEndInHistories : Type 0
HandlersEndInHistories =
    (script : Script) (before between : List Noted) (x y : Noted) (n : ℕ) (s t u w : State (DomainMoves script))
    → IsLegalHistory script before s
    → MovesAll (DomainMoves script) s x t
    → EntersHandler n x.line
    → Legal (DomainMoves script) (key_of x) t between u
    → MovesAll (DomainMoves script) u y w
    → domain_of y ≡ domain_of x
    → ClosesAgain n x.line.fiber y.line
    → AnyOf (LeavesIn (domain_of x) x.line.fiber (context_after x.line (t.locals (domain_of x)))) between
