-- Readers: what a reader holds, and what one move of its calls does.
-- A reader holds the bytes that it has read and not given. A call that they decide makes no read; any other makes one read a
-- move, and answers in the move whose read first decides it. A reader that was shut answers nothing more.
use Rattle.std.specs.Prelude.{ℕ, Bool, true, false, List, [], ◌++◌, Option, Some, None}
use Rattle.eio_value.specs.declared.flow_step.FlowStep.{FlowStep}
use Rattle.eio_value.specs.declared.flow_step.FlowStep.TheVariants.{Data, Fault, Pause}
use Rattle.eio_value.specs.declared.value.TextId.{TextId}
use Rattle.spec_parts.specs.Flows.{next_step, behind_next}
use Rattle.spec_parts.specs.BytesToCome.{ReaderCall, Item, NeedMore, Taken, taken, ToCome, with_front, bytes_to_come}

-- the most bytes that it may buffer, the bytes that were read and not given, whether the end was read, and whether it was shut
pub record Reader : Type 0 where
  pub most : ℕ
  pub bytes : List ℕ
  pub over : Bool
  pub closed : Bool

abbrev pub new_reader : (most : ℕ) → Reader
new_reader most = record { most = most; bytes = []; over = false; closed = false }

-- these bytes were read
abbrev pub feed : List ℕ → Reader → Reader
feed bytes reader = record reader { bytes = reader.bytes ++ bytes }

-- the end was read
abbrev pub finish : Reader → Reader
finish reader = record reader { over = true }

-- what a call takes of the bytes that were read; `NeedMore` where they don't decide it
abbrev pub tried : ReaderCall → Reader → Taken
tried call reader = taken reader.most reader.over call reader.bytes

-- what a call gives by the bytes that were read
abbrev pub item : ReaderCall → Reader → Item
item call reader = (tried call reader).item

-- the reader after a call
abbrev pub after_item : ReaderCall → Reader → Reader
after_item call reader = record reader { bytes = (tried call reader).left }

-- the bytes to come of a reader over a flow with these steps left: first those that were read
abbrev pub still_to_come : Reader → List FlowStep → ToCome
still_to_come reader steps = with_front reader.bytes (bytes_to_come steps)

-- the end of its block
abbrev pub shut_reader : Reader → Reader
shut_reader reader = record reader { closed = true }

-- how a move of a reader call ends
pub data Reading : Type 0 where
  -- the call answers; never `NeedMore`
  Answers : Item → Reading
  -- one read was made, and the call goes on with the fiber's next move
  ReadsOn : Reading
  -- a pause: the fiber goes to the back of the ready list, and the call goes on with its next move
  GivesWay : Reading
  Raises : (text : TextId) → Reading
  -- the reader was shut
  MeetsClosed : Reading

-- a move of a reader call: how it ends, the bytes that it read and that the trace shows, and what it leaves
pub record Read : Type 0 where
  pub reading : Reading
  pub shown : Option (List ℕ)
  pub reader : Reader
  pub steps : List FlowStep

-- the call by the bytes that are there now, with the ending where they don't decide it
abbrev pub answered_or : Reading → ReaderCall → Option (List ℕ) → Reader → List FlowStep → Read
answered_or undecided call shown reader steps = elim (item call reader) [
  | NeedMore ↦ record { reading = undecided; shown = shown; reader = reader; steps = steps }
  | given ↦ record { reading = Answers given; shown = shown; reader = after_item call reader; steps = steps }
]

-- the read of a call that the bytes before it don't decide
abbrev pub read_once : ReaderCall → Reader → Option FlowStep → List FlowStep → Read
read_once call reader None steps = answered_or ReadsOn call None (finish reader) steps
read_once call reader (Some (Data bytes)) steps = answered_or ReadsOn call (Some bytes) (feed bytes reader) steps
read_once call reader (Some (Fault text)) steps = record { reading = Raises text; shown = None; reader = reader; steps = steps }
read_once call reader (Some Pause) steps = record { reading = GivesWay; shown = None; reader = reader; steps = steps }

-- one move of a call of a reader that isn't shut
abbrev pub read_open : ReaderCall → Reader → List FlowStep → Read
read_open call reader steps = elim (item call reader) [
  | NeedMore ↦ read_once call reader (next_step steps) (behind_next steps)
  | given ↦ record { reading = Answers given; shown = None; reader = after_item call reader; steps = steps }
]

-- one move of a reader call
abbrev pub read_move : ReaderCall → Reader → List FlowStep → Read
read_move call reader steps = elim reader.closed [
  | true ↦ record { reading = MeetsClosed; shown = None; reader = reader; steps = steps }
  | false ↦ read_open call reader steps
]
