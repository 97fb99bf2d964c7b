-- A reader over a flow: a call is made move by move until it ends, and ends as the bytes to come say, however the flow is cut into steps
-- and wherever it pauses.
use Rattle.std.specs.Prelude.{◌≡◌, ℕ, zero, suc, ◌≤◌, true, false, List, [], length, Option}
use Rattle.eio_value.specs.declared.flow_step.FlowStep.{FlowStep}
use Rattle.eio_value.specs.declared.value.TextId.{TextId}
use Rattle.spec_parts.specs.BytesToCome.{ReaderCall, Answer, Gives, Fails, answer}
use Rattle.spec_parts.specs.Readers.{Reader, still_to_come, Reading, Answers, ReadsOn, GivesWay, Raises, MeetsClosed, Read, read_move}

-- this move, unless the call goes on behind it
abbrev pub unless_goes_on : Reading → (again now : Read) → Read
unless_goes_on ReadsOn again now = again
unless_goes_on GivesWay again now = again
unless_goes_on (Answers item) again now = now
unless_goes_on (Raises text) again now = now
unless_goes_on MeetsClosed again now = now

-- the move with which a call ends, where it has at most so many moves before it
abbrev pub last_move : (moves : ℕ) → ReaderCall → Reader → List FlowStep → Read
last_move zero call reader steps = read_move call reader steps
last_move (suc moves) call reader steps =
    let now : Read = read_move call reader steps in
    unless_goes_on now.reading (last_move moves call now.reader now.steps) now

-- a reader that isn't shut, over the steps that are left of its flow: behind the end none are
pub record IsOpen (reader : Reader) (steps : List FlowStep) : Type 0 where
  pub open_still : reader.closed ≡ false
  pub last : reader.over ≡ true → steps ≡ []

-- a call ended with this answer: it gave the item, and what is to come is what the answer leaves, up to the same fault; or it raised the
-- fault, and the bytes that were read are still there
abbrev pub EndsAs : Answer → (fault : Option TextId) → Read → Type 0
EndsAs (Gives t) fault end = (end.reading ≡ Answers t.item) × (still_to_come end.reader end.steps ≡ record { bytes = t.left; fault = fault }) × IsOpen end.reader end.steps
EndsAs (Fails text left) fault end = (end.reading ≡ Raises text) × (end.reader.bytes ≡ left)

-- Each call ends as the bytes to come say, behind at most as many moves as there are steps.
abbrev pub CallsEndByBytesToCome : Type 0
CallsEndByBytesToCome = (moves : ℕ) (call : ReaderCall) (reader : Reader) (steps : List FlowStep) → length steps ≤ moves → IsOpen reader steps → EndsAs (answer reader.most call (still_to_come reader steps)) (still_to_come reader steps).fault (last_move moves call reader steps)
