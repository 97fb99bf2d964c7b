-- What is due to an input of the command `mock`.
use Rattle.std.specs.Prelude.{ℕ, List}
use Rattle.trace_out.specs.Outcome.{Due}
use Rattle.spec_machine.specs.Answers.{Answer, ended, mocked}
use Rattle.mock_backend.specs.Today.{built_today}

-- the text of an answer, and the status of its ending
abbrev pub due : Answer → Due
due answer = record { text = answer.text; status = ended answer.ending }

-- what is answered to these bytes in at most so many moves, where what is built today is built
abbrev pub answer_to : (steps : ℕ) → (bytes : List ℕ) → Answer
answer_to steps bytes = mocked built_today steps bytes
