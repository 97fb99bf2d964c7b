-- What a run on one mocked domain writes, and how it ends.
use Rattle.std.specs.Prelude.{ℕ, true, false, List, [], ◌∷◌, ◌++◌, codes, Option, Some, None}
use Rattle.std.specs.List.{flat_map}
use Rattle.eio_value.specs.declared.raised.Outcome.{Outcome}
use Rattle.eio_value.specs.declared.raised.Outcome.TheVariants as outcome
use Rattle.eio_value.specs.Exceptions.{raised_text}
use Rattle.spec_script.specs.Scripts.{Script}
use Rattle.trace_lines.specs.TraceTexts.{trace_text}
use Rattle.spec_machine.specs.declared.Ending.{Ending}
use Rattle.spec_machine.specs.declared.Ending.TheVariants as ending
use Rattle.spec_machine.specs.Domain.{Ready, Parked, Ended, DomainState, fiber_at}
use Rattle.spec_machine.specs.Mock.{Mock, Moved, opening, move, moves}

-- the moves of a run, and what is there at its end
pub record Run : Type 0 where
  pub moves : List Moved
  pub last : Mock

abbrev pub last_after : Mock → List Moved → Mock
last_after m [] = m
last_after m (moved ∷ others) = last_after moved.next others

abbrev pub run_of : Mock → List Moved → Run
run_of m made = record { moves = made; last = last_after m made }

-- of at most n moves
unfoldable pub run : Script → (n : ℕ) → Run
run script n = run_of (opening script) (moves script n (opening script))

-- ## The trace

-- the lines that a move writes
abbrev pub written_by : Script → Moved → List ℕ
written_by script moved = trace_text moved.next.local.texts script.names moved.line

abbrev pub trace : Script → List Moved → List ℕ
trace script made = flat_map (written_by script) made

-- ## The ending

-- what the domain's body came to, if it has ended
abbrev pub body_end : DomainState → Option Outcome
body_end l = elim (fiber_at l.fibers 0).standing [ Ended it ↦ Some it | Ready next ↦ None | Parked wait ↦ None ]

abbrev pub ending_by : Option Outcome → Ending
ending_by None = ending.Deadlock
ending_by (Some (outcome.Ok it)) = ending.Ok
ending_by (Some (outcome.Err raised)) = ending.Raised

-- the first of these that fits: a limit was met; one more move is possible; main hasn't ended; it has ended with an exception
abbrev pub ending_in : Script → Mock → Ending
ending_in script m = elim m.local.halted [
  | true ↦ ending.Limit
  | false ↦ elim (move script m) [ Some moved ↦ ending.OutOfSteps | None ↦ ending_by (body_end m.local) ]
]

-- the exception that main ended with
abbrev pub raised_line : List (List ℕ) → Option Outcome → List ℕ
raised_line texts (Some (outcome.Err raised)) = codes "!" ++ raised_text texts raised ++ codes "\n"
raised_line texts other = []

-- the line behind the trace, which only an ending other than Ok has; that of a refusal stands alone, and is made by the refusal. No run
-- is NotLegal
abbrev pub last_line : Ending → Mock → List ℕ
last_line ending.Ok m = []
last_line ending.Raised m = raised_line m.local.texts (body_end m.local)
last_line ending.Refused m = []
last_line ending.Deadlock m = codes "!Deadlock_detected\n"
last_line ending.OutOfSteps m = codes "!Out_of_steps\n"
last_line ending.Limit m = codes "!Limit\n"
last_line ending.NotLegal m = []
