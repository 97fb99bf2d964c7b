-- What a reader's calls answer, by the bytes to come.
-- The bytes to come are the joined data up to the end of the flow or its next fault; how they are cut into steps, and where
-- pauses stand between, has no part in an answer. An answer takes what it gives from the front of the bytes; an exception takes
-- nothing. A fault that comes before the answer is raised.
use Rattle.std.specs.Prelude.{ℕ, ◌+◌, ℤ, pos, negsuc, Bool, true, false, ◌==◌, nat_lt, List, [], ◌∷◌, ◌++◌, length, take, drop, position, Option, Some, None}
use Rattle.eio_value.specs.declared.flow_step.FlowStep.{FlowStep}
use Rattle.eio_value.specs.declared.flow_step.FlowStep.TheVariants.{Data, Fault, Pause}
use Rattle.eio_value.specs.declared.value.TextId.{TextId}

-- the calls of a reader
pub data ReaderCall : Type 0 where
  Line : ReaderCall
  TakeBytes : (count : ℤ) → ReaderCall
  TakeAll : ReaderCall
  Char : ReaderCall
  AtEnd : ReaderCall

-- what a call gives by bytes that are there; `NeedMore` where they don't decide it
pub data Item : Type 0 where
  Bytes : List ℕ → Item
  Flag : Bool → Item
  EndOfFile : Item
  BufferLimit : Item
  NeedMore : Item

-- what a call gives, and the bytes behind it
pub record Taken : Type 0 where
  pub item : Item
  pub left : List ℕ

-- these bytes are given, and those are left
abbrev pub gives : (given left : List ℕ) → Taken
gives given left = record { item = Bytes given; left = left }

-- nothing is taken
abbrev pub leaves : Item → (bytes : List ℕ) → Taken
leaves item bytes = record { item = item; left = bytes }

-- more bytes are asked for than these: they may come, unless the end is behind these
abbrev pub too_few : (over : Bool) → (bytes : List ℕ) → Taken
too_few true bytes = leaves EndOfFile bytes
too_few false bytes = leaves NeedMore bytes

-- a line without the one CR that may stand at its end
abbrev pub without_cr : List ℕ → List ℕ
without_cr [] = []
without_cr (b ∷ []) = elim (b == 13) [ true ↦ [] | false ↦ b ∷ [] ]
without_cr (b ∷ c ∷ bytes) = b ∷ without_cr (c ∷ bytes)

-- the place of the first LF among the first `most + 1` bytes
abbrev pub line_end : (most : ℕ) → List ℕ → Option ℕ
line_end most bytes = position (λ b. b == 10) (take (most + 1) bytes)

-- a line without an end: at the end of the flow it is all that is left, where that is anything
abbrev pub last_line : (over : Bool) → List ℕ → Taken
last_line true [] = leaves EndOfFile []
last_line true (b ∷ bytes) = gives (b ∷ bytes) []
last_line false bytes = leaves NeedMore bytes

-- `line`: the bytes before the first LF, less one CR at their end; `most + 1` bytes without LF are too many
abbrev pub line : (most : ℕ) → (over : Bool) → List ℕ → Taken
line most over bytes = elim (line_end most bytes) [
  | Some place ↦ gives (without_cr (take place bytes)) (drop (place + 1) bytes)
  | None ↦ elim (nat_lt most (length bytes)) [ true ↦ leaves BufferLimit bytes | false ↦ last_line over bytes ]
]

-- the number of bytes that is asked for: below 0 it counts as 0
abbrev pub counted : ℤ → ℕ
counted (pos n) = n
counted (negsuc n) = 0

-- `take-bytes`: the first bytes, as many as are asked for, but not more than the limit
abbrev pub take_bytes : (most count : ℕ) → (over : Bool) → List ℕ → Taken
take_bytes most count over bytes = elim (nat_lt most count) [
  | true ↦ leaves BufferLimit bytes
  | false ↦ elim (nat_lt (length bytes) count) [ true ↦ too_few over bytes | false ↦ gives (take count bytes) (drop count bytes) ]
]

-- all bytes, where the end is behind them
abbrev pub whole : (over : Bool) → List ℕ → Taken
whole true bytes = gives bytes []
whole false bytes = leaves NeedMore bytes

-- `take-all`: all bytes up to the end, but not more than the limit
abbrev pub take_all : (most : ℕ) → (over : Bool) → List ℕ → Taken
take_all most over bytes = elim (nat_lt most (length bytes)) [ true ↦ leaves BufferLimit bytes | false ↦ whole over bytes ]

-- `char`: one byte
abbrev pub char : (over : Bool) → List ℕ → Taken
char over [] = too_few over []
char over (b ∷ bytes) = gives (b ∷ []) bytes

-- `at-end`: whether the end is all that comes
abbrev pub at_end : (over : Bool) → List ℕ → Taken
at_end true [] = leaves (Flag true) []
at_end false [] = leaves NeedMore []
at_end over (b ∷ bytes) = leaves (Flag false) (b ∷ bytes)

-- what a call takes of these bytes, by the limit and by whether the end is behind them
abbrev pub taken : (most : ℕ) → (over : Bool) → ReaderCall → List ℕ → Taken
taken most over Line bytes = line most over bytes
taken most over (TakeBytes count) bytes = take_bytes most (counted count) over bytes
taken most over TakeAll bytes = take_all most over bytes
taken most over Char bytes = char over bytes
taken most over AtEnd bytes = at_end over bytes

-- bytes to come, and the fault behind them; without one the end is
pub record ToCome : Type 0 where
  pub bytes : List ℕ
  pub fault : Option TextId

abbrev pub with_front : List ℕ → ToCome → ToCome
with_front bytes come = record come { bytes = bytes ++ come.bytes }

-- the bytes to come of the steps of a flow
unfoldable pub bytes_to_come : List FlowStep → ToCome
bytes_to_come [] = record { bytes = []; fault = None }
bytes_to_come (Data bytes ∷ steps) = with_front bytes (bytes_to_come steps)
bytes_to_come (Fault text ∷ steps) = record { bytes = []; fault = Some text }
bytes_to_come (Pause ∷ steps) = bytes_to_come steps

-- what a reader call ends with
pub data Answer : Type 0 where
  Gives : Taken → Answer
  Fails : (text : TextId) → (left : List ℕ) → Answer

-- what doesn't decide the call is followed by the fault
abbrev pub unless_undecided : (text : TextId) → Taken → Answer
unless_undecided text t = elim t.item [ NeedMore ↦ Fails text t.left | _ ↦ Gives t ]

-- the answer of a call by the bytes to come
abbrev pub answer : (most : ℕ) → ReaderCall → ToCome → Answer
answer most call come = elim come.fault [
  | None ↦ Gives (taken most true call come.bytes)
  | Some text ↦ unless_undecided text (taken most false call come.bytes)
]
