-- What `check` and `print` answer to an input, as code has it.
use Rattle.std.specs.Prelude.{ℕ, Bool, true, false, List}
use Rattle.trace_out.specs.Outcome.{Due}
use Rattle.trace_lines.specs.declared.status.Status.{Status}
use Rattle.trace_lines.specs.declared.status.Status.TheVariants as status
use Rattle.spec_script.specs.Inputs.{Checked, checked, printed}
use Rattle.script_input.specs.declared.inspection.Inspection.{Inspection}
use Rattle.script_input.specs.declared.inspection.Inspection.TheVariants as inspection
use Rattle.script_input.specs.declared.inspection.Answer.{Answer}

-- the definitions' answer
abbrev pub inspected : Inspection → List ℕ → Checked
inspected inspection.Check bytes = checked bytes
inspected inspection.Print bytes = printed bytes

-- the status of an answer: whether the input was refused
abbrev pub status_by : Bool → Status
status_by true = status.Refused
status_by false = status.Ok

-- the text and the status of an answer
abbrev pub due : Checked → Due
due it = record { text = it.text; status = status_by it.is_refused }

-- the code's answer
abbrev pub due_of : Answer → Due
due_of answer = record { text = answer.text.items; status = answer.status }
