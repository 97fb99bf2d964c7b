-- What is due to an input under the words of a command line, and what is written of it.
use Rattle.std.specs.Prelude.{◌≢◌, ℕ, List, Option, Some, None}
use Rattle.std.specs.Io.KnownBytes.{Keeps}
use Rattle.trace_out.specs.Outcome.{CanCome, Due, WritesFor}
use Rattle.trace_lines.specs.declared.status.Status.{Status}
use Rattle.trace_lines.specs.declared.status.Status.TheVariants as status
use Rattle.spec_script.specs.declared.Command.{Command}
use Rattle.spec_script.specs.declared.Command.TheVariants as command
use Rattle.spec_script.specs.Features.{Built}
use Rattle.spec_script.specs.Inputs.{Checked, answered}
use Rattle.spec_script.specs.Words.{meaning}
use Rattle.script_input.specs.Inspections as inspections
use Rattle.spec_machine.specs.Answers.{mocked}
use Rattle.spec_machine.specs.Domain.{DomainState}
use Rattle.mock_backend.specs.Causes.{RunsTo}
use Rattle.mock_backend.specs.Due.{due}

-- of `mock` what the machine answers in so many steps
abbrev pub run_due : Built → Option Command → List ℕ → Option Due
run_due built (Some (command.Mock steps)) bytes = Some (due (mocked built steps bytes))
run_due built _ bytes = None

-- of `check` and `print` what they answer
abbrev pub due_by : Built → Option Checked → Option Command → List ℕ → Option Due
due_by built (Some it) command bytes = Some (inspections.due it)
due_by built None command bytes = run_due built command bytes

-- what is due to an input; nothing where the words have no meaning
unfoldable pub due_to : Built → (words : List (List ℕ)) → (bytes : List ℕ) → Option Due
due_to built words bytes = due_by built (answered built words bytes) (meaning built words) bytes

-- what was written at this answer: nothing where nothing is due
abbrev pub Writes : Status → Option Due → Option (List ℕ) → Option (List ℕ) → Type 0
Writes result None old new = Keeps old new
Writes result (Some due) old new = WritesFor result due old new

-- the statuses that can come: of `mock` any but that of a history that isn't legal; else those of a command that runs nothing
abbrev pub CanComeOf : Option Command → Status → Type 0
CanComeOf (Some (command.Mock steps)) result = result ≢ status.NotLegal
CanComeOf _ result = CanCome result

-- `mock` is asked for, and runs the bytes to such a state
abbrev pub MockRunsTo : (state : DomainState → Type 0) → Option Command → (bytes : List ℕ) → Type 0
MockRunsTo state (Some (command.Mock steps)) bytes = RunsTo state steps bytes
MockRunsTo state _ bytes = ⊥
