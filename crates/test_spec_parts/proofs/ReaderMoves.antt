-- The moves of a reader's calls over a scripted flow: one read a move, and none where the bytes are there.
use Rattle.std.proofs.Common.{◌≡◌, ℕ, List, [], ◌∷◌, true, false, Option, Some, None, refl}
use Rattle.std.specs.Prelude.{Bool, pos, codes}
use Rattle.eio_value.specs.declared.flow_step.FlowStep.{FlowStep}
use Rattle.eio_value.specs.declared.flow_step.FlowStep.TheVariants.{Data, Fault, Pause}
use Rattle.eio_value.specs.Table.{text_id}
use Rattle.spec_parts.specs.BytesToCome.{Line, TakeBytes, TakeAll, Char, AtEnd, Bytes, Flag, EndOfFile, BufferLimit}
use Rattle.spec_parts.specs.Flows.{Copies, CopyGivesWay, CopyFails, CopyDone, copying, next_step}
use Rattle.spec_parts.specs.Readers.{Reader, new_reader, shut_reader, Reading, Answers, ReadsOn, GivesWay, Raises, MeetsClosed, Read, read_move}

abbrev reader : ℕ → List ℕ → Bool → Reader
reader most bytes over = record { most = most; bytes = bytes; over = over; closed = false }

abbrev read : Reading → Option (List ℕ) → Reader → List FlowStep → Read
read reading shown left steps = record { reading = reading; shown = shown; reader = left; steps = steps }

-- `line` three times over "a\r" and "\nb": a, b, and then the end

first_read : read_move Line (new_reader 16) (Data (codes "a\r") ∷ Data (codes "\nb") ∷ []) ≡ read ReadsOn (Some (codes "a\r")) (reader 16 (codes "a\r") false) (Data (codes "\nb") ∷ [])
first_read = refl

second_read : read_move Line (reader 16 (codes "a\r") false) (Data (codes "\nb") ∷ []) ≡ read (Answers (Bytes (codes "a"))) (Some (codes "\nb")) (reader 16 (codes "b") false) []
second_read = refl

read_at_the_end : read_move Line (reader 16 (codes "b") false) [] ≡ read (Answers (Bytes (codes "b"))) None (reader 16 [] true) []
read_at_the_end = refl

no_read_behind_the_end : read_move Line (reader 16 [] true) [] ≡ read (Answers EndOfFile) None (reader 16 [] true) []
no_read_behind_the_end = refl

-- too many bytes for a line: they stay

limit_by_one_read : read_move Line (new_reader 3) (Data (codes "abcdef") ∷ []) ≡ read (Answers BufferLimit) (Some (codes "abcdef")) (reader 3 (codes "abcdef") false) []
limit_by_one_read = refl

-- what is there already answers without a read, also a refusal

no_read_for_a_byte : read_move Char (reader 3 (codes "ab") false) (Data (codes "c") ∷ []) ≡ read (Answers (Bytes (codes "a"))) None (reader 3 (codes "b") false) (Data (codes "c") ∷ [])
no_read_for_a_byte = refl

no_read_above_the_limit : read_move (TakeBytes (pos 4)) (new_reader 3) (Data (codes "abcd") ∷ []) ≡ read (Answers BufferLimit) None (new_reader 3) (Data (codes "abcd") ∷ [])
no_read_above_the_limit = refl

no_read_for_no_byte : read_move (TakeBytes (pos 0)) (new_reader 3) (Fault (text_id 2) ∷ []) ≡ read (Answers (Bytes [])) None (new_reader 3) (Fault (text_id 2) ∷ [])
no_read_for_no_byte = refl

-- a pause and a fault are spent, and the bytes before them stay

a_pause : read_move TakeAll (reader 3 (codes "a") false) (Pause ∷ Data (codes "b") ∷ []) ≡ read GivesWay None (reader 3 (codes "a") false) (Data (codes "b") ∷ [])
a_pause = refl

a_fault : read_move Line (reader 9 (codes "a") false) (Fault (text_id 2) ∷ Data (codes "b\n") ∷ []) ≡ read (Raises (text_id 2)) None (reader 9 (codes "a") false) (Data (codes "b\n") ∷ [])
a_fault = refl

behind_the_fault : read_move Line (reader 9 (codes "a") false) (Data (codes "b\n") ∷ []) ≡ read (Answers (Bytes (codes "ab"))) (Some (codes "b\n")) (reader 9 [] false) []
behind_the_fault = refl

at_end_by_a_read : read_move AtEnd (new_reader 9) [] ≡ read (Answers (Flag true)) None (reader 9 [] true) []
at_end_by_a_read = refl

-- a reader that was shut reads nothing, whatever it holds

shut : read_move Char (shut_reader (reader 9 (codes "a") false)) (Data (codes "b") ∷ []) ≡ read MeetsClosed None (shut_reader (reader 9 (codes "a") false)) (Data (codes "b") ∷ [])
shut = refl

-- the moves of `copy`

copies : copying (next_step (Data (codes "ab") ∷ Pause ∷ [])) ≡ Copies (codes "ab")
copies = refl

copy_gives_way : copying (next_step (Pause ∷ [])) ≡ CopyGivesWay
copy_gives_way = refl

copy_fails : copying (next_step (Fault (text_id 2) ∷ [])) ≡ CopyFails (text_id 2)
copy_fails = refl

copy_done : copying (next_step []) ≡ CopyDone
copy_done = refl
