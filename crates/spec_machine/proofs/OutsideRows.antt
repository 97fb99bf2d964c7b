-- Calls on a mocked world, one after the other: flow 0, a stream 1, directory 2 and flow 3 are declared, and what is opened has the numbers from 4 on.
use Rattle.std.proofs.Common.{◌≡◌, ℕ, List, [], ◌∷◌, true, false, refl}
use Rattle.std.specs.Prelude.{Bool, ℤ, pos, negsuc, codes}
use Rattle.eio_value.specs.Directory as scripted
use Rattle.eio_value.specs.Table.{text_id}
use Rattle.eio_value.specs.declared.flow_step.FlowStep.{FlowStep}
use Rattle.eio_value.specs.declared.flow_step.FlowStep.TheVariants.{Data, Fault, Pause}
use Rattle.eio_value.specs.declared.mock_call.Extra.{Extra}
use Rattle.eio_value.specs.declared.mock_call.Extra.TheVariants.{Done, More, Back, Waits, Raised}
use Rattle.eio_value.specs.declared.mock_call.MockCall.TheVariants as calls
use Rattle.eio_value.specs.declared.mock_call.Said.{Said}
use Rattle.eio_value.specs.declared.mock_call.Said.TheVariants.{Nothing, Read, Wrote, Copied}
use Rattle.eio_value.specs.declared.plain.Misuse.TheVariants.{Closed}
use Rattle.eio_value.specs.declared.plain.PathFault.TheVariants.{PermissionDenied, NotFound, AlreadyExists, NotDirectory, IsDirectory, NotEmpty}
use Rattle.eio_value.specs.declared.plain.Plain.{Plain}
use Rattle.eio_value.specs.declared.plain.Plain.TheVariants.{Failure, Invalid, EndOfFile, BufferLimit, Path}
use Rattle.eio_value.specs.declared.raised.Raised.TheVariants.{One}
use Rattle.eio_value.specs.declared.value.Value.TheVariants.{Unit, Int, Text}
use Rattle.spec_script.specs.Declarations as declarations
use Rattle.spec_parts.specs.Readers.{Reader}
use Rattle.spec_parts.specs.Writers.{Copier, Moves, Rests, Ended, Writer}
use Rattle.spec_parts.specs.Directories.{Tree, File, Link, Inner, entry, directory, gone, placed, placed_item}
use Rattle.spec_parts.specs.Walk.{along, walk}
use Rattle.spec_machine.specs.Outside.{Flow, Directory, ReaderOf, WriterOf, Capability, Elsewhere, World, opening_world, OutsideStep, outside}

-- ## Words of the rows

-- a call's number of raise is 7 in all rows
abbrev raised : Plain → Said → Extra
raised what told = Raised (One (record { serial = 7; what = what })) told

abbrev unit : Extra
unit = Done Unit Nothing

abbrev number : ℤ → Extra
number z = Done (Int z) Nothing

-- what a call answers and leaves
abbrev step : Extra → List (List ℕ) → World → OutsideStep
step answer texts world = record { answer = answer; texts = texts; world = world }

-- a reader with the limit 16, by what it has read and not given, and whether it has read the end
abbrev reader : (bytes : List ℕ) → (over closed : Bool) → Reader
reader bytes over closed = record { most = 16; bytes = bytes; over = over; closed = closed }

abbrev writer : (pending : List ℕ) → (closed : Bool) → Copier → Writer
writer pending closed copier = record { pending = pending; closed = closed; copier = copier }

-- ## The opening world

tree : Tree
tree = directory (entry (codes "d") (Inner 1) ∷ entry (codes "f") (File (codes "F")) ∷ []) ∷ directory (entry (codes "g") (File (codes "G")) ∷ []) ∷ []

-- the world of these steps of flow 0, this tree and what was opened
abbrev world : List FlowStep → Tree → World → World
world steps now rest = Flow steps ∷ Elsewhere ∷ Directory now ∷ Flow [] ∷ rest

opening : opening_world (
    declarations.Flow (Pause ∷ [])
    ∷ declarations.Stream 1
    ∷ declarations.Dir (scripted.And (scripted.File (codes "f") (codes "F")) (scripted.And (scripted.Sub (codes "d") (scripted.And (scripted.File (codes "g") (codes "G")) scripted.Empty)) scripted.Empty))
    ∷ declarations.Flow [] ∷ []
    ) ≡ world (Pause ∷ []) tree []
unfolding placed placed_item tree
opening = refl

-- ## A reader over "a\r" and "\nb": `line` three times

cr : List ℕ
cr = codes "a\r"

lf : List ℕ
lf = codes "\nb"

reader_opens : outside (world (Data cr ∷ Data lf ∷ []) [] []) [] 7 (calls.OpenReader 0 16)
    ≡ step (number (pos 4)) [] (world (Data cr ∷ Data lf ∷ []) [] (ReaderOf 0 (reader [] false false) ∷ []))
reader_opens = refl

-- the first read doesn't decide the line
first_read : outside (world (Data cr ∷ Data lf ∷ []) [] (ReaderOf 0 (reader [] false false) ∷ [])) [] 7 (calls.Line 4)
    ≡ step (More (Read 0 (text_id 0))) (cr ∷ []) (world (Data lf ∷ []) [] (ReaderOf 0 (reader cr false false) ∷ []))
unfolding cr lf
first_read = refl

-- the second does: what was read comes into the table before what is answered
first_line : outside (world (Data lf ∷ []) [] (ReaderOf 0 (reader cr false false) ∷ [])) (cr ∷ []) 7 (calls.Line 4)
    ≡ step (Done (Text (text_id 2)) (Read 0 (text_id 1))) (cr ∷ lf ∷ codes "a" ∷ []) (world [] [] (ReaderOf 0 (reader (codes "b") false false) ∷ []))
unfolding cr lf
first_line = refl

-- the end is no read in the trace
second_line : outside (world [] [] (ReaderOf 0 (reader (codes "b") false false) ∷ [])) [] 7 (calls.Line 4)
    ≡ step (Done (Text (text_id 0)) Nothing) (codes "b" ∷ []) (world [] [] (ReaderOf 0 (reader [] true false) ∷ []))
second_line = refl

third_line : outside (world [] [] (ReaderOf 0 (reader [] true false) ∷ [])) [] 7 (calls.Line 4)
    ≡ step (raised EndOfFile Nothing) [] (world [] [] (ReaderOf 0 (reader [] true false) ∷ []))
third_line = refl

-- ## Other calls of a reader

-- a text that stands in the table has its number there
text_stands_there : outside (world [] [] (ReaderOf 0 (reader (codes "ab") false false) ∷ [])) (codes "x" ∷ codes "a" ∷ []) 7 (calls.Char 4)
    ≡ step (Done (Text (text_id 1)) Nothing) (codes "x" ∷ codes "a" ∷ []) (world [] [] (ReaderOf 0 (reader (codes "b") false false) ∷ []))
text_stands_there = refl

two_bytes : outside (world [] [] (ReaderOf 0 (reader (codes "abc") false false) ∷ [])) [] 7 (calls.TakeBytes 4 (pos 2))
    ≡ step (Done (Text (text_id 0)) Nothing) (codes "ab" ∷ []) (world [] [] (ReaderOf 0 (reader (codes "c") false false) ∷ []))
two_bytes = refl

fewer_than_none : outside (world (Pause ∷ []) [] (ReaderOf 0 (reader [] false false) ∷ [])) [] 7 (calls.TakeBytes 4 (negsuc 0))
    ≡ step (Done (Text (text_id 0)) Nothing) ([] ∷ []) (world (Pause ∷ []) [] (ReaderOf 0 (reader [] false false) ∷ []))
fewer_than_none = refl

-- more than the limit is refused without a read
above_the_limit : outside (world (Pause ∷ []) [] (ReaderOf 0 (reader [] false false) ∷ [])) [] 7 (calls.TakeBytes 4 (pos 17))
    ≡ step (raised BufferLimit Nothing) [] (world (Pause ∷ []) [] (ReaderOf 0 (reader [] false false) ∷ []))
above_the_limit = refl

-- the read of an answer is told also where the answer is an exception
limit_by_a_read : outside (world (Data (codes "0123456789abcdefg") ∷ []) [] (ReaderOf 0 (reader [] false false) ∷ [])) [] 7 (calls.TakeAll 4)
    ≡ step (raised BufferLimit (Read 0 (text_id 0))) (codes "0123456789abcdefg" ∷ []) (world [] [] (ReaderOf 0 (reader (codes "0123456789abcdefg") false false) ∷ []))
limit_by_a_read = refl

all_at_the_end : outside (world [] [] (ReaderOf 0 (reader (codes "ab") false false) ∷ [])) [] 7 (calls.TakeAll 4)
    ≡ step (Done (Text (text_id 0)) Nothing) (codes "ab" ∷ []) (world [] [] (ReaderOf 0 (reader [] true false) ∷ []))
all_at_the_end = refl

at_the_end : outside (world [] [] (ReaderOf 0 (reader [] false false) ∷ [])) [] 7 (calls.AtEnd 4)
    ≡ step (number (pos 1)) [] (world [] [] (ReaderOf 0 (reader [] true false) ∷ []))
at_the_end = refl

not_at_the_end : outside (world (Data (codes "a") ∷ []) [] (ReaderOf 0 (reader [] false false) ∷ [])) [] 7 (calls.AtEnd 4)
    ≡ step (Done (Int (pos 0)) (Read 0 (text_id 0))) (codes "a" ∷ []) (world [] [] (ReaderOf 0 (reader (codes "a") false false) ∷ []))
not_at_the_end = refl

-- a pause and a fault are spent and tell nothing, and the bytes before them stay

pause : outside (world (Pause ∷ Data (codes "b") ∷ []) [] (ReaderOf 0 (reader (codes "a") false false) ∷ [])) [] 7 (calls.Line 4)
    ≡ step Back [] (world (Data (codes "b") ∷ []) [] (ReaderOf 0 (reader (codes "a") false false) ∷ []))
pause = refl

fault : outside (world (Fault (text_id 3) ∷ []) [] (ReaderOf 0 (reader (codes "a") false false) ∷ [])) [] 7 (calls.Line 4)
    ≡ step (raised (Failure (text_id 3)) Nothing) [] (world [] [] (ReaderOf 0 (reader (codes "a") false false) ∷ []))
fault = refl

-- two readers over one flow share its steps
second_reader : outside (world (Data cr ∷ []) [] (ReaderOf 0 (reader [] false false) ∷ ReaderOf 0 (reader lf false false) ∷ [])) [] 7 (calls.TakeBytes 5 (pos 3))
    ≡ step (Done (Text (text_id 1)) (Read 0 (text_id 0))) (cr ∷ codes "\nba" ∷ []) (world [] [] (ReaderOf 0 (reader [] false false) ∷ ReaderOf 0 (reader (codes "\r") false false) ∷ []))
unfolding cr lf
second_reader = refl

reader_shuts : outside (world [] [] (ReaderOf 0 (reader (codes "a") false false) ∷ [])) [] 7 (calls.Shut 4 true)
    ≡ step unit [] (world [] [] (ReaderOf 0 (reader (codes "a") false true) ∷ []))
reader_shuts = refl

reader_was_shut : outside (world [] [] (ReaderOf 0 (reader (codes "a") false true) ∷ [])) [] 7 (calls.Char 4)
    ≡ step (raised (Invalid Closed) Nothing) [] (world [] [] (ReaderOf 0 (reader (codes "a") false true) ∷ []))
reader_was_shut = refl

-- ## Copies of flow 0 to flow 3, of which each spends a step

copies_bytes : outside (world (Data cr ∷ Pause ∷ []) [] []) [] 7 (calls.Copy 0 3)
    ≡ step (More (Copied 0 3 (text_id 0))) (cr ∷ []) (world (Pause ∷ []) [] [])
unfolding cr
copies_bytes = refl

copy_at_a_pause : outside (world (Pause ∷ []) [] []) [] 7 (calls.Copy 0 3) ≡ step Back [] (world [] [] [])
copy_at_a_pause = refl

copy_at_a_fault : outside (world (Fault (text_id 3) ∷ Pause ∷ []) [] []) [] 7 (calls.Copy 0 3)
    ≡ step (raised (Failure (text_id 3)) Nothing) [] (world (Pause ∷ []) [] [])
copy_at_a_fault = refl

copy_at_the_end : outside (world [] [] []) [] 7 (calls.Copy 0 3) ≡ step unit [] (world [] [] [])
copy_at_the_end = refl

-- ## A writer over flow 3

writer_opens : outside (world [] [] []) [] 7 (calls.OpenWriter 3) ≡ step (number (pos 4)) [] (world [] [] (WriterOf 3 (writer [] false Moves) ∷ []))
writer_opens = refl

copier_waits : outside (world [] [] (WriterOf 3 (writer [] false Moves) ∷ [])) [] 7 (calls.Carry 4)
    ≡ step Waits [] (world [] [] (WriterOf 3 (writer [] false Rests) ∷ []))
copier_waits = refl

put_wakes : outside (world [] [] (WriterOf 3 (writer [] false Rests) ∷ [])) (codes "ab" ∷ []) 7 (calls.PutBytes 4 (text_id 0))
    ≡ step unit (codes "ab" ∷ []) (world [] [] (WriterOf 3 (writer (codes "ab") false Moves) ∷ []))
put_wakes = refl

empty_text_wakes_nobody : outside (world [] [] (WriterOf 3 (writer [] false Rests) ∷ [])) ([] ∷ []) 7 (calls.PutBytes 4 (text_id 0))
    ≡ step unit ([] ∷ []) (world [] [] (WriterOf 3 (writer [] false Rests) ∷ []))
empty_text_wakes_nobody = refl

put_is_behind : outside (world [] [] (WriterOf 3 (writer (codes "ab") false Moves) ∷ [])) (codes "c" ∷ []) 7 (calls.PutBytes 4 (text_id 0))
    ≡ step unit (codes "c" ∷ []) (world [] [] (WriterOf 3 (writer (codes "abc") false Moves) ∷ []))
put_is_behind = refl

writes_all : outside (world [] [] (WriterOf 3 (writer (codes "abc") false Moves) ∷ [])) [] 7 (calls.Carry 4)
    ≡ step (More (Wrote 3 (text_id 0))) (codes "abc" ∷ []) (world [] [] (WriterOf 3 (writer [] false Moves) ∷ []))
writes_all = refl

-- the end of the block wakes the copier and waits for it; the copier ends, and the end of the block, which is called again, is done

shut_waits : outside (world [] [] (WriterOf 3 (writer [] false Rests) ∷ [])) [] 7 (calls.Shut 4 false)
    ≡ step Waits [] (world [] [] (WriterOf 3 (writer [] true Moves) ∷ []))
shut_waits = refl

shut_keeps : outside (world [] [] (WriterOf 3 (writer (codes "c") false Moves) ∷ [])) [] 7 (calls.Shut 4 false)
    ≡ step Waits [] (world [] [] (WriterOf 3 (writer (codes "c") true Moves) ∷ []))
shut_keeps = refl

shut_drops : outside (world [] [] (WriterOf 3 (writer (codes "c") false Moves) ∷ [])) [] 7 (calls.Shut 4 true)
    ≡ step Waits [] (world [] [] (WriterOf 3 (writer [] true Moves) ∷ []))
shut_drops = refl

copier_ends : outside (world [] [] (WriterOf 3 (writer [] true Moves) ∷ [])) [] 7 (calls.Carry 4)
    ≡ step unit [] (world [] [] (WriterOf 3 (writer [] true Ended) ∷ []))
copier_ends = refl

shut_again : outside (world [] [] (WriterOf 3 (writer [] true Ended) ∷ [])) [] 7 (calls.Shut 4 false)
    ≡ step unit [] (world [] [] (WriterOf 3 (writer [] true Ended) ∷ []))
shut_again = refl

put_behind_the_end : outside (world [] [] (WriterOf 3 (writer [] true Ended) ∷ [])) [] 7 (calls.PutBytes 4 (text_id 0))
    ≡ step (raised (Invalid Closed) Nothing) [] (world [] [] (WriterOf 3 (writer [] true Ended) ∷ []))
put_behind_the_end = refl

-- ## Paths below directory 2, which has a file f and a directory d with a file g

directory_opens : outside (world [] tree []) (codes "d" ∷ []) 7 (calls.OpenDir 2 (text_id 0))
    ≡ step (number (pos 4)) (codes "d" ∷ []) (world [] tree (Capability 2 1 ∷ []))
unfolding along walk tree
directory_opens = refl

loads_through_it : outside (world [] tree (Capability 2 1 ∷ [])) (codes "g" ∷ []) 7 (calls.Load 4 (text_id 0))
    ≡ step (Done (Text (text_id 1)) Nothing) (codes "g" ∷ codes "G" ∷ []) (world [] tree (Capability 2 1 ∷ []))
unfolding along walk tree
loads_through_it = refl

-- nothing above a capability's directory is reached through it
above_it : outside (world [] tree (Capability 2 1 ∷ [])) (codes "../f" ∷ []) 7 (calls.Load 4 (text_id 0))
    ≡ step (raised (Path PermissionDenied (text_id 0)) Nothing) (codes "../f" ∷ []) (world [] tree (Capability 2 1 ∷ []))
unfolding along walk tree
above_it = refl

no_directory : outside (world [] tree []) (codes "f" ∷ []) 7 (calls.OpenDir 2 (text_id 0))
    ≡ step (raised (Path NotDirectory (text_id 0)) Nothing) (codes "f" ∷ []) (world [] tree [])
unfolding along walk tree
no_directory = refl

-- a path with a capability is opened in the tree of the same declared directory
directory_opens_below : outside (world [] tree (Capability 2 1 ∷ [])) ([] ∷ []) 7 (calls.OpenDir 4 (text_id 0))
    ≡ step (number (pos 5)) ([] ∷ []) (world [] tree (Capability 2 1 ∷ Capability 2 1 ∷ []))
unfolding along walk tree
directory_opens_below = refl

-- the tree in which this is the content of the file in directory d
abbrev with_g : List ℕ → Tree
with_g content =
    directory (entry (codes "d") (Inner 1) ∷ entry (codes "f") (File (codes "F")) ∷ []) ∷ directory (entry (codes "g") (File content) ∷ []) ∷ []

saves : outside (world [] tree (Capability 2 1 ∷ [])) (codes "g" ∷ codes "new" ∷ []) 7 (calls.Save 4 (text_id 0) (text_id 1))
    ≡ step unit (codes "g" ∷ codes "new" ∷ []) (world [] (with_g (codes "new")) (Capability 2 1 ∷ []))
unfolding along walk tree
saves = refl

saves_no_directory : outside (world [] tree []) (codes "d" ∷ []) 7 (calls.Save 2 (text_id 0) (text_id 0))
    ≡ step (raised (Path IsDirectory (text_id 0)) Nothing) (codes "d" ∷ []) (world [] tree [])
unfolding along walk tree
saves_no_directory = refl

saves_new : outside (world [] (directory [] ∷ []) []) (codes "x" ∷ codes "X" ∷ []) 7 (calls.SaveNew 2 (text_id 0) (text_id 1))
    ≡ step unit (codes "x" ∷ codes "X" ∷ []) (world [] (directory (entry (codes "x") (File (codes "X")) ∷ []) ∷ []) [])
unfolding along walk
saves_new = refl

saves_only_new : outside (world [] tree []) (codes "f" ∷ []) 7 (calls.SaveNew 2 (text_id 0) (text_id 0))
    ≡ step (raised (Path AlreadyExists (text_id 0)) Nothing) (codes "f" ∷ []) (world [] tree [])
unfolding along walk tree
saves_only_new = refl

makes_a_directory : outside (world [] (directory [] ∷ []) []) (codes "x" ∷ []) 7 (calls.Mkdir 2 (text_id 0))
    ≡ step unit (codes "x" ∷ []) (world [] (directory (entry (codes "x") (Inner 1) ∷ []) ∷ directory [] ∷ []) [])
unfolding along walk
makes_a_directory = refl

reads_names : outside (world [] tree []) ([] ∷ []) 7 (calls.ReadDir 2 (text_id 0))
    ≡ step (Done (Text (text_id 1)) Nothing) ([] ∷ codes "d f" ∷ []) (world [] tree [])
unfolding along walk tree
reads_names = refl

-- the names of an empty directory are the empty text, here the path's own
reads_no_names : outside (world [] (directory [] ∷ []) []) ([] ∷ []) 7 (calls.ReadDir 2 (text_id 0))
    ≡ step (Done (Text (text_id 0)) Nothing) ([] ∷ []) (world [] (directory [] ∷ []) [])
unfolding along walk
reads_no_names = refl

unlinks : outside (world [] (directory (entry (codes "x") (File []) ∷ []) ∷ []) []) (codes "x" ∷ []) 7 (calls.Unlink 2 (text_id 0))
    ≡ step unit (codes "x" ∷ []) (world [] (directory [] ∷ []) [])
unfolding along walk
unlinks = refl

unlinks_what_is_there : outside (world [] tree []) (codes "x" ∷ []) 7 (calls.Unlink 2 (text_id 0))
    ≡ step (raised (Path NotFound (text_id 0)) Nothing) (codes "x" ∷ []) (world [] tree [])
unfolding along walk tree
unlinks_what_is_there = refl

-- a directory's number isn't used again, and a capability of it finds nothing

removes_a_directory : outside (world [] (directory (entry (codes "x") (Inner 1) ∷ []) ∷ directory [] ∷ []) (Capability 2 1 ∷ [])) (codes "x" ∷ []) 7 (calls.Rmdir 2 (text_id 0))
    ≡ step unit (codes "x" ∷ []) (world [] (directory [] ∷ gone ∷ []) (Capability 2 1 ∷ []))
unfolding along walk
removes_a_directory = refl

it_was_removed : outside (world [] (directory [] ∷ gone ∷ []) (Capability 2 1 ∷ [])) ([] ∷ []) 7 (calls.ReadDir 4 (text_id 0))
    ≡ step (raised (Path NotFound (text_id 0)) Nothing) ([] ∷ []) (world [] (directory [] ∷ gone ∷ []) (Capability 2 1 ∷ []))
it_was_removed = refl

removes_no_files : outside (world [] tree []) (codes "d" ∷ []) 7 (calls.Rmdir 2 (text_id 0))
    ≡ step (raised (Path NotEmpty (text_id 0)) Nothing) (codes "d" ∷ []) (world [] tree [])
unfolding along walk tree
removes_no_files = refl

-- the directory of the capability itself isn't removed
own_directory : outside (world [] tree (Capability 2 1 ∷ [])) (codes "." ∷ []) 7 (calls.Rmdir 4 (text_id 0))
    ≡ step (raised (Path PermissionDenied (text_id 0)) Nothing) (codes "." ∷ []) (world [] tree (Capability 2 1 ∷ []))
unfolding along walk tree
own_directory = refl

kind_of_a_file : outside (world [] tree []) (codes "f" ∷ []) 7 (calls.Kind 2 (text_id 0))
    ≡ step (Done (Text (text_id 1)) Nothing) (codes "f" ∷ codes "file" ∷ []) (world [] tree [])
unfolding along walk tree
kind_of_a_file = refl

kind_of_a_directory : outside (world [] tree []) (codes "d" ∷ []) 7 (calls.Kind 2 (text_id 0))
    ≡ step (Done (Text (text_id 1)) Nothing) (codes "d" ∷ codes "dir" ∷ []) (world [] tree [])
unfolding along walk tree
kind_of_a_directory = refl

kind_of_a_link : outside (world [] (directory (entry (codes "l") (Link (codes "..")) ∷ []) ∷ []) []) (codes "l" ∷ codes "link" ∷ []) 7 (calls.Kind 2 (text_id 0))
    ≡ step (Done (Text (text_id 1)) Nothing) (codes "l" ∷ codes "link" ∷ []) (world [] (directory (entry (codes "l") (Link (codes "..")) ∷ []) ∷ []) [])
unfolding along walk
kind_of_a_link = refl

-- ## Numbers at which nothing of the right kind stands

reads_no_writer : outside (world [] [] (WriterOf 3 (writer [] false Rests) ∷ [])) [] 7 (calls.Line 4)
    ≡ step unit [] (world [] [] (WriterOf 3 (writer [] false Rests) ∷ []))
reads_no_writer = refl

shuts_no_flow : outside (world [] [] []) [] 7 (calls.Shut 0 true) ≡ step unit [] (world [] [] [])
shuts_no_flow = refl

copies_to_no_stream : outside (world (Pause ∷ []) [] []) [] 7 (calls.Copy 0 1) ≡ step unit [] (world (Pause ∷ []) [] [])
copies_to_no_stream = refl

opens_over_nothing : outside (world [] [] []) [] 7 (calls.OpenReader 9 16) ≡ step unit [] (world [] [] [])
opens_over_nothing = refl

loads_from_no_flow : outside (world [] [] []) [] 7 (calls.Load 0 (text_id 0)) ≡ step unit [] (world [] [] [])
loads_from_no_flow = refl
