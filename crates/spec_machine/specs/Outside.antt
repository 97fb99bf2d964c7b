-- The mocked world outside a domain: flows, readers, writers and directories, and what each call on them answers and leaves.
-- A world is a list of things, and a thing's number is its place. First stand the declarations in order, then what was opened: an opening
-- answers the number of the thing that it made. Nothing is taken out of the list. A call on a number at which no thing of the right kind
-- stands does nothing and answers `()`.
use Rattle.std.specs.Prelude.{ℕ, Bool, true, false, pos, List, [], ◌∷◌, ◌++◌, length, map, slice_get, slice_set, Option, Some, None, Result, Ok, Err}
use Rattle.std.specs.Option.{unwrap_or}
use Rattle.eio_value.specs.declared.flow_step.FlowStep.{FlowStep}
use Rattle.eio_value.specs.declared.value.TextId.{TextId}
use Rattle.eio_value.specs.declared.value.Value.{Value}
use Rattle.eio_value.specs.declared.value.Value.TheVariants.{Unit, Int, Text}
use Rattle.eio_value.specs.declared.plain.Misuse.TheVariants.{Closed}
use Rattle.eio_value.specs.declared.plain.PathFault.{PathFault}
use Rattle.eio_value.specs.declared.plain.Plain.{Plain}
use Rattle.eio_value.specs.declared.plain.Plain.TheVariants as plain
use Rattle.eio_value.specs.declared.raised.Raised.TheVariants.{One}
use Rattle.eio_value.specs.declared.mock_call.MockCall.{MockCall}
use Rattle.eio_value.specs.declared.mock_call.MockCall.TheVariants as calls
use Rattle.eio_value.specs.declared.mock_call.Said.{Said}
use Rattle.eio_value.specs.declared.mock_call.Said.TheVariants as said
use Rattle.eio_value.specs.declared.mock_call.Extra.{Extra}
use Rattle.eio_value.specs.declared.mock_call.Extra.TheVariants.{Done, More, Back, Waits, Raised}
use Rattle.eio_value.specs.Table.{text_at, intern}
use Rattle.spec_script.specs.Results.{◌>>=◌}
use Rattle.spec_script.specs.Declarations.{Declaration}
use Rattle.spec_script.specs.Declarations as declarations
use Rattle.spec_parts.specs.BytesToCome.{ReaderCall, Line, TakeBytes, TakeAll, Char, AtEnd, Item, Bytes, Flag, EndOfFile, BufferLimit, NeedMore}
use Rattle.spec_parts.specs.Flows.{next_step, behind_next, Copying, Copies, CopyGivesWay, CopyFails, CopyDone, copying}
use Rattle.spec_parts.specs.Readers.{Reader, new_reader, shut_reader, Reading, Answers, ReadsOn, GivesWay, Raises, MeetsClosed, Read, read_move}
use Rattle.spec_parts.specs.Writers.{Writer, new_writer, Pushed, put_bytes, Carried, carry, shut_writer, shut_waits}
use Rattle.spec_parts.specs.Directories.{Tree, declared_tree, joined_names}
use Rattle.spec_parts.specs.PathCalls.{open_dir, load, save, save_new, mkdir, read_dir, unlink, rmdir, kind, kind_text}

-- ## Things

pub data Thing : Type 0 where
  -- the steps that are still to come
  Flow : List FlowStep → Thing
  -- the tree of a declared directory
  Directory : Tree → Thing
  ReaderOf : (flow : ℕ) → Reader → Thing
  WriterOf : (flow : ℕ) → Writer → Thing
  -- an opened directory: the number of the declared one that it lies in, and its own number in the tree of that
  Capability : (declared directory : ℕ) → Thing
  -- a shared object, which is kept elsewhere
  Elsewhere : Thing

abbrev pub World : Type 0
World = List Thing

-- what a declaration is at first
abbrev pub declared_thing : Declaration → Thing
declared_thing (declarations.Flow steps) = Flow steps
declared_thing (declarations.Dir items) = Directory (declared_tree items)
declared_thing declaration = Elsewhere

-- the world in which only the declarations stand
abbrev pub opening_world : List Declaration → World
opening_world all = map declared_thing all

-- the thing of a number; one that was never given is no thing of a world
abbrev pub thing_at : World → (number : ℕ) → Thing
thing_at world number = unwrap_or (slice_get world number) Elsewhere

-- ## What a call finds and leaves

-- the world, the table of texts, and the number of the raise that the call may make
pub record Found : Type 0 where
  pub world : World
  pub texts : List (List ℕ)
  pub serial : ℕ

-- what a call answers, and the table and the world after it
pub record OutsideStep : Type 0 where
  pub answer : Extra
  pub texts : List (List ℕ)
  pub world : World

-- the world with another thing in the place of one
abbrev pub with_thing : (number : ℕ) → Thing → Found → Found
with_thing number thing found = record found { world = slice_set found.world number thing }

-- an answer behind which all is as it was found
abbrev pub answers : Extra → Found → OutsideStep
answers answer found = record { answer = answer; texts = found.texts; world = found.world }

-- the call is done and has no value
abbrev pub done : Found → OutsideStep
done found = answers (Done Unit said.Nothing) found

-- the call raises this, under its own number
abbrev pub raises : Plain → Said → Found → OutsideStep
raises what told found = answers (Raised (One (record { serial = found.serial; what = what })) told) found

-- a text is put into the table, where it isn't there, and the call goes on with its number
abbrev pub with_text : List ℕ → (TextId → Found → OutsideStep) → Found → OutsideStep
with_text text on found = on (intern found.texts text).id (record found { texts = (intern found.texts text).texts })

-- the call is done and answers a text
abbrev pub gives_text : List ℕ → Said → Found → OutsideStep
gives_text text told found = with_text text (λ id after. answers (Done (Text id) told) after) found

-- a new thing stands at the end of the world, and the call answers its number
abbrev pub opens : Thing → Found → OutsideStep
opens thing found = answers (Done (Int (pos (length found.world))) said.Nothing) (record found { world = found.world ++ thing ∷ [] })

-- ## Readers

-- how a flag is answered
abbrev pub flag_value : Bool → Value
flag_value true = Int (pos 1)
flag_value false = Int (pos 0)

-- what a call gives, as a value or an exception
abbrev pub gives : Item → Said → Found → OutsideStep
gives (Bytes bytes) told found = gives_text bytes told found
gives (Flag flag) told found = answers (Done (flag_value flag) told) found
gives EndOfFile told found = raises plain.EndOfFile told found
gives BufferLimit told found = raises plain.BufferLimit told found
-- no move of a call ends so
gives NeedMore told found = answers (More told) found

-- the answer of a move, by how it ends
abbrev pub reading_ends : Reading → Said → Found → OutsideStep
reading_ends (Answers item) told found = gives item told found
reading_ends ReadsOn told found = answers (More told) found
reading_ends GivesWay told found = answers Back found
reading_ends (Raises text) told found = raises (plain.Failure text) told found
reading_ends MeetsClosed told found = raises (plain.Invalid Closed) told found

-- what the trace says of a read: the bytes that it gave, if it gave any; they come into the table before the text of an answer
abbrev pub tells_read : (flow : ℕ) → (shown : Option (List ℕ)) → (Said → Found → OutsideStep) → Found → OutsideStep
tells_read flow None on found = on said.Nothing found
tells_read flow (Some bytes) on found = with_text bytes (λ id after. on (said.Read flow id) after) found

-- a move leaves its reader and the steps of its flow
abbrev pub leaves_reader : (number flow : ℕ) → Read → Found → OutsideStep
leaves_reader number flow read found =
    tells_read flow read.shown (reading_ends read.reading) (with_thing number (ReaderOf flow read.reader) (with_thing flow (Flow read.steps) found))

-- a reader over a flow that is none reads nothing
abbrev pub reads_flow : ReaderCall → (number flow : ℕ) → Reader → Thing → Found → OutsideStep
reads_flow call number flow reader (Flow steps) found = leaves_reader number flow (read_move call reader steps) found
reads_flow call number flow reader thing found = done found

-- what is no reader reads nothing
abbrev pub reads_by : ReaderCall → (number : ℕ) → Thing → Found → OutsideStep
reads_by call number (ReaderOf flow reader) found = reads_flow call number flow reader (thing_at found.world flow) found
reads_by call number thing found = done found

-- a move of the call of the reader with this number
abbrev pub reads : ReaderCall → (number : ℕ) → Found → OutsideStep
reads call number found = reads_by call number (thing_at found.world number) found

-- ## Copies, and what is opened over a flow

-- the answer of a move of `copy`, by what it does
abbrev pub copying_ends : (from to : ℕ) → Copying → Found → OutsideStep
copying_ends from to (Copies bytes) found = with_text bytes (λ id after. answers (More (said.Copied from to id)) after) found
copying_ends from to CopyGivesWay found = answers Back found
copying_ends from to (CopyFails text) found = raises (plain.Failure text) said.Nothing found
copying_ends from to CopyDone found = done found

-- a move of `copy` spends the next step of its first flow; the second is only written to, and keeps its steps
abbrev pub copies : (from to : ℕ) → Thing → Thing → Found → OutsideStep
copies from to (Flow steps) (Flow others) found = copying_ends from to (copying (next_step steps)) (with_thing from (Flow (behind_next steps)) found)
copies from to source target found = done found

-- a reader or a writer is opened over a flow alone
abbrev pub opens_over : Thing → Thing → Found → OutsideStep
opens_over (Flow steps) thing found = opens thing found
opens_over other thing found = done found

-- ## Writers

-- `put` into a writer: after the end of its block it is refused
abbrev pub puts : (number flow : ℕ) → Option Pushed → Found → OutsideStep
puts number flow None found = raises (plain.Invalid Closed) said.Nothing found
puts number flow (Some pushed) found = done (with_thing number (WriterOf flow pushed.writer) found)

-- a text is put into the writer with this number
abbrev pub puts_by : (number : ℕ) → (text : TextId) → Thing → Found → OutsideStep
puts_by number text (WriterOf flow writer) found = puts number flow (put_bytes (text_at found.texts text) writer) found
puts_by number text thing found = done found

-- the call is done where the copier has ended, else it waits
abbrev pub waits_for_copier : Writer → Found → OutsideStep
waits_for_copier writer found = elim (shut_waits writer) [ true ↦ answers Waits found | false ↦ done found ]

-- the answer of the copier's move: it has written, has ended, or waits
abbrev pub carries : (flow : ℕ) → Carried → Found → OutsideStep
carries flow carried found = elim carried.wrote [
  | Some bytes ↦ with_text bytes (λ id after. answers (More (said.Wrote flow id)) after) found
  | None ↦ waits_for_copier carried.writer found
]

-- the move of the copier of the writer with this number
abbrev pub carries_by : (number : ℕ) → Thing → Found → OutsideStep
carries_by number (WriterOf flow writer) found = carries flow (carry writer) (with_thing number (WriterOf flow (carry writer).writer) found)
carries_by number thing found = done found

-- ## The end of a block

-- the end of a reader's block is done at once; that of a writer's waits, and is called again, until the copier has ended
abbrev pub shuts : (number : ℕ) → (failed : Bool) → Thing → Found → OutsideStep
shuts number failed (ReaderOf flow reader) found = done (with_thing number (ReaderOf flow (shut_reader reader)) found)
shuts number failed (WriterOf flow writer) found =
    waits_for_copier (shut_writer failed writer).writer (with_thing number (WriterOf flow (shut_writer failed writer).writer) found)
shuts number failed thing found = done found

-- ## Paths

-- where a path begins: in a declared directory's tree, at the directory of this number
pub record Start : Type 0 where
  pub declared : ℕ
  pub tree : Tree
  pub directory : ℕ

-- a call that begins in this directory of a declared one
abbrev pub begins_in : (declared directory : ℕ) → Thing → (Start → Found → OutsideStep) → Found → OutsideStep
begins_in declared directory (Directory tree) on found = on (record { declared = declared; tree = tree; directory = directory }) found
begins_in declared directory thing on found = done found

-- an opened directory is found in the tree of its declared one; a declared one is the root of its own
abbrev pub begins_by : (number : ℕ) → Thing → (Start → Found → OutsideStep) → Found → OutsideStep
begins_by number (Capability declared directory) on found = begins_in declared directory (thing_at found.world declared) on found
begins_by number thing on found = begins_in number 0 thing on found

-- a call on a path that begins in the directory with this number
abbrev pub begins : (number : ℕ) → (Start → Found → OutsideStep) → Found → OutsideStep
begins number on found = begins_by number (thing_at found.world number) on found

-- a refusal is raised with the path as the call gave it
abbrev pub unless_refused : {A : Type 0} → (path : TextId) → Result A PathFault → (A → Found → OutsideStep) → Found → OutsideStep
unless_refused path (Ok result) on found = on result found
unless_refused path (Err fault) on found = raises (plain.Path fault path) said.Nothing found

-- `open-dir`: a directory is opened in the tree that its path began in
abbrev pub opens_directory : (path : TextId) → Start → Found → OutsideStep
opens_directory path start found =
    unless_refused path (open_dir start.tree start.directory (text_at found.texts path)) (λ directory. opens (Capability start.declared directory)) found

-- a call that answers a text, and leaves the tree
abbrev pub looks : (Tree → (capability : ℕ) → (path : List ℕ) → Result (List ℕ) PathFault) → (path : TextId) → Start → Found → OutsideStep
looks by path start found = unless_refused path (by start.tree start.directory (text_at found.texts path)) (λ text. gives_text text said.Nothing) found

-- a call that leaves another tree, and has no value
abbrev pub changes : (Tree → (capability : ℕ) → (path : List ℕ) → Result Tree PathFault) → (path : TextId) → Start → Found → OutsideStep
changes by path start found =
    unless_refused path (by start.tree start.directory (text_at found.texts path)) (λ tree after. done (with_thing start.declared (Directory tree) after)) found

-- the same of a call that has a content besides
abbrev pub writes : (Tree → (capability : ℕ) → (path content : List ℕ) → Result Tree PathFault) → (path content : TextId) → Start → Found → OutsideStep
writes by path content start found = changes (λ tree capability path. by tree capability path (text_at found.texts content)) path start found

-- what `read-dir` answers: the names with a space between
abbrev pub names_text : Tree → (capability : ℕ) → (path : List ℕ) → Result (List ℕ) PathFault
names_text tree capability path = read_dir tree capability path >>= λ names. Ok (joined_names names)

-- what `kind` answers: the word of what stands there
abbrev pub kind_at : Tree → (capability : ℕ) → (path : List ℕ) → Result (List ℕ) PathFault
kind_at tree capability path = kind tree capability path >>= λ it. Ok (kind_text it)

-- ## Calls

-- each call
abbrev pub called : MockCall → Found → OutsideStep
called (calls.Line reader) found = reads Line reader found
called (calls.TakeBytes reader count) found = reads (TakeBytes count) reader found
called (calls.TakeAll reader) found = reads TakeAll reader found
called (calls.Char reader) found = reads Char reader found
called (calls.AtEnd reader) found = reads AtEnd reader found
called (calls.Copy from to) found = copies from to (thing_at found.world from) (thing_at found.world to) found
called (calls.OpenReader flow limit) found = opens_over (thing_at found.world flow) (ReaderOf flow (new_reader limit)) found
called (calls.OpenWriter flow) found = opens_over (thing_at found.world flow) (WriterOf flow new_writer) found
called (calls.PutBytes writer text) found = puts_by writer text (thing_at found.world writer) found
called (calls.Carry writer) found = carries_by writer (thing_at found.world writer) found
called (calls.Shut number failed) found = shuts number failed (thing_at found.world number) found
called (calls.OpenDir number path) found = begins number (opens_directory path) found
called (calls.Load number path) found = begins number (looks load path) found
called (calls.Save number path content) found = begins number (writes save path content) found
called (calls.SaveNew number path content) found = begins number (writes save_new path content) found
called (calls.Mkdir number path) found = begins number (changes mkdir path) found
called (calls.ReadDir number path) found = begins number (looks names_text path) found
called (calls.Unlink number path) found = begins number (changes unlink path) found
called (calls.Rmdir number path) found = begins number (changes rmdir path) found
called (calls.Kind number path) found = begins number (looks kind_at path) found

-- what a call answers, and the table and the world after it
abbrev pub outside : World → (texts : List (List ℕ)) → (serial : ℕ) → MockCall → OutsideStep
outside world texts serial call = called call (record { world = world; texts = texts; serial = serial })
