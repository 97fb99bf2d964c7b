-- What a command answers to its input: the text that it writes, and how it ends. Of `domains` only a refusal is said here: what it writes of a script that it runs isn't
-- fixed, but one of its legal histories. Of `verify`, `expand`, `paths` and `migrate` nothing is said yet.
use Rattle.std.specs.Prelude.{ℕ, ◌==◌, true, false, List, [], ◌++◌, length, codes, count_by, Option, Some, None, Result, Ok, Err}
use Rattle.std.specs.Fmt.{decimal}
use Rattle.spec_script.specs.declared.Command.{Command}
use Rattle.spec_script.specs.declared.Command.TheVariants as command
use Rattle.spec_script.specs.Features.{Built}
use Rattle.spec_script.specs.Generator.{generated}
use Rattle.spec_script.specs.Inputs.{Checked, mocked_script, shared_script, checked, printed}
use Rattle.spec_script.specs.Limits.{most_steps}
use Rattle.spec_script.specs.Refusals.{Refusal, refusal_line}
use Rattle.spec_script.specs.Scripts.{Script, script_of}
use Rattle.spec_script.specs.Words.{meaning}
use Rattle.trace_lines.specs.declared.status.Status.{Status}
use Rattle.trace_lines.specs.declared.status.Status.TheVariants as status
use Rattle.trace_lines.specs.Exits.{exit_code}
use Rattle.spec_machine.specs.declared.Ending.{Ending}
use Rattle.spec_machine.specs.declared.Ending.TheVariants as ending
use Rattle.spec_machine.specs.Trace.{Run, run, trace, ending_in, last_line}

pub record Answer : Type 0 where
  pub text : List ℕ
  pub ending : Ending

-- the status of an ending
abbrev pub ended : Ending → Status
ended ending.Ok = status.Ok
ended ending.Raised = status.Raised
ended ending.Refused = status.Refused
ended ending.Deadlock = status.Deadlock
ended ending.OutOfSteps = status.OutOfSteps
ended ending.Limit = status.Limit
ended ending.NotLegal = status.NotLegal

abbrev pub refused_by : Refusal → Answer
refused_by refusal = record { text = refusal_line refusal; ending = ending.Refused }

-- ## `mock`

-- the trace and the last line of a run
abbrev pub told_by : Script → Run → Answer
told_by script it = (let end = ending_in script it.last in record { text = trace script it.moves ++ last_line end it.last; ending = end })

-- a script run in at most n moves
unfoldable pub ran : Script → (n : ℕ) → Answer
ran script n = told_by script (run script n)

abbrev pub ran_if : (n : ℕ) → Result Script Refusal → Answer
ran_if n (Ok script) = ran script n
ran_if n (Err refusal) = refused_by refusal

-- where these features are built
unfoldable pub mocked : Built → (n : ℕ) → (bytes : List ℕ) → Answer
mocked built n bytes = ran_if n (mocked_script built bytes)

-- ## `load`

abbrev pub line_feeds : List ℕ → ℕ
line_feeds bytes = count_by (λ b. b == 10) bytes

abbrev pub counted_line : (what : List ℕ) → ℕ → List ℕ
counted_line what n = what ++ decimal n ++ codes "\n"

-- four lines: how many fibers were made, how many moves, how many lines the trace has, and the number of the status
abbrev pub counts_of : Script → Run → Answer
counts_of script it = (let end = ending_in script it.last in record {
  text =
      counted_line (codes "fibers ") (length it.last.local.fibers)
      ++ counted_line (codes "moves ") (length it.moves)
      ++ counted_line (codes "lines ") (line_feeds (trace script it.moves))
      ++ counted_line (codes "status ") (exit_code (ended end));
  ending = end;
})

-- the generated script of so many forks, run in as many steps as may be. It is a script, so that the other case never comes
unfoldable pub loaded : (forks : ℕ) → Answer
loaded forks = elim (script_of (generated forks)) [
  | Ok script ↦ counts_of script (run script most_steps)
  | Err fault ↦ record { text = []; ending = ending.Refused }
]

-- ## `domains`

abbrev pub refused_if : Result Script Refusal → Option Answer
refused_if (Ok script) = None
refused_if (Err refusal) = Some (refused_by refusal)

-- the answer to an input that it refuses
unfoldable pub shared_refusal : Built → (bytes : List ℕ) → Option Answer
shared_refusal built bytes = refused_if (shared_script built bytes)

-- ## Commands

abbrev pub checked_as : Checked → Answer
checked_as it = record { text = it.text; ending = elim it.is_refused [ true ↦ ending.Refused | false ↦ ending.Ok ] }

abbrev pub answer_for : Built → Command → (bytes : List ℕ) → Option Answer
answer_for built (command.Mock steps) bytes = Some (mocked built steps bytes)
answer_for built (command.Domains lines) bytes = shared_refusal built bytes
answer_for built command.Check bytes = Some (checked_as (checked bytes))
answer_for built command.Print bytes = Some (checked_as (printed bytes))
answer_for built (command.Load forks) bytes = Some (loaded forks)
answer_for built (command.Verify lines) bytes = None
answer_for built command.Expand bytes = None
answer_for built command.Paths bytes = None
answer_for built command.Migrate bytes = None

-- the answer to words and an input, where the words have a meaning that an answer is said of, and `domains` refuses what it is asked to run
unfoldable pub answered : Built → (words : List (List ℕ)) → (bytes : List ℕ) → Option Answer
answered built words bytes = elim (meaning built words) [ None ↦ None | Some it ↦ answer_for built it bytes ]
