-- What a call on the mocked outside raises has the number that the call was given.
use Rattle.std.proofs.Common.{◌≡◌, ℕ, Bool, true, false, List, Option, Some, None, refl}
use Rattle.std.specs.Prelude.{Result, Ok, Err}
use Rattle.eio_value.specs.declared.mock_call.MockCall.{MockCall}
use Rattle.eio_value.specs.declared.mock_call.MockCall.TheVariants as calls
use Rattle.eio_value.specs.declared.mock_call.Extra.{Extra}
use Rattle.eio_value.specs.declared.mock_call.Extra.TheVariants as extra
use Rattle.eio_value.specs.declared.mock_call.Said.{Said}
use Rattle.eio_value.specs.declared.mock_call.Said.TheVariants as said
use Rattle.eio_value.specs.declared.plain.PathFault.{PathFault}
use Rattle.eio_value.specs.declared.plain.Plain.{Plain}
use Rattle.eio_value.specs.declared.raised.Raised.{Raised}
use Rattle.eio_value.specs.declared.raised.Raised.TheVariants.{One}
use Rattle.eio_value.specs.declared.value.TextId.{TextId}
use Rattle.eio_value.specs.Table.{text_at}
use Rattle.spec_parts.specs.BytesToCome.{Line, TakeBytes, TakeAll, Char, AtEnd, Item, Bytes, Flag, EndOfFile, BufferLimit, NeedMore, ReaderCall}
use Rattle.spec_parts.specs.Flows.{Copying, Copies, CopyGivesWay, CopyFails, CopyDone, copying, next_step, behind_next}
use Rattle.spec_parts.specs.Readers.{Reader, Reading, Answers, ReadsOn, GivesWay, Raises, MeetsClosed, Read, read_move}
use Rattle.spec_parts.specs.Writers.{Writer, Pushed, put_bytes, carry, shut_waits, shut_writer}
use Rattle.spec_parts.specs.Directories.{Tree}
use Rattle.spec_parts.specs.PathCalls.{open_dir, load, save, save_new, mkdir, unlink, rmdir}
use Rattle.spec_machine.specs.Outside as outside
use Rattle.spec_machine.specs.Outside.{Thing, World, Flow, Directory, ReaderOf, WriterOf, Capability, Elsewhere, Found, OutsideStep, Start, thing_at, with_thing}

-- an exception that stands alone, of this number
pub record IsRaise (serial : ℕ) (raised : Raised) : Type 0 where
  pub what : Plain
  pub alone : raised ≡ One (record { serial = serial; what = what })

abbrev pub ExtraIs : ℕ → Extra → Type 0
ExtraIs serial (extra.Raised raised it) = IsRaise serial raised
ExtraIs serial other = Unit {0}

-- behind whatever is found with this number
abbrev RaisesBy : ℕ → (Found → OutsideStep) → Type 0
RaisesBy serial on = (found : Found) → found.serial ≡ serial → ExtraIs serial (on found).answer

module _ (serial : ℕ) where
  raises_is : (what : Plain) (told : Said) → RaisesBy serial (outside.raises what told)
  raises_is what told found same = record { what = what; alone = λ i. One (record { serial = same i; what = what }) }

  gives_is : (item : Item) (told : Said) → RaisesBy serial (outside.gives item told)
  gives_is (Bytes bytes) told found same = tt
  gives_is (Flag flag) told found same = tt
  gives_is EndOfFile told found same = raises_is _ told found same
  gives_is BufferLimit told found same = raises_is _ told found same
  gives_is NeedMore told found same = tt

  reading_is : (reading : Reading) (told : Said) → RaisesBy serial (outside.reading_ends reading told)
  reading_is (Answers item) told found same = gives_is item told found same
  reading_is ReadsOn told found same = tt
  reading_is GivesWay told found same = tt
  reading_is (Raises text) told found same = raises_is _ told found same
  reading_is MeetsClosed told found same = raises_is _ told found same

  tells_is : (flow : ℕ) (shown : Option (List ℕ)) (on : Said → Found → OutsideStep) → ((told : Said) → RaisesBy serial (on told)) → RaisesBy serial (outside.tells_read flow shown on)
  tells_is flow None on is found same = is _ found same
  tells_is flow (Some bytes) on is found same = is _ _ same

  reads_flow_is : (call : ReaderCall) (number flow : ℕ) (reader : Reader) (thing : Thing) → RaisesBy serial (outside.reads_flow call number flow reader thing)
  reads_flow_is call number flow reader (Flow steps) found same =
      let read : Read = read_move call reader steps in
      tells_is flow read.shown (outside.reading_ends read.reading) (λ told. reading_is read.reading told) (with_thing number (ReaderOf flow read.reader) (with_thing flow (Flow read.steps) found)) same
  reads_flow_is call number flow reader thing found same = tt

  reads_by_is : (call : ReaderCall) (number : ℕ) (thing : Thing) → RaisesBy serial (outside.reads_by call number thing)
  reads_by_is call number (ReaderOf flow reader) found same = reads_flow_is call number flow reader (thing_at found.world flow) found same
  reads_by_is call number thing found same = tt

  copying_is : (from to : ℕ) (what : Copying) → RaisesBy serial (outside.copying_ends from to what)
  copying_is from to (Copies bytes) found same = tt
  copying_is from to CopyGivesWay found same = tt
  copying_is from to (CopyFails text) found same = raises_is _ said.Nothing found same
  copying_is from to CopyDone found same = tt

  copies_is : (from to : ℕ) (source target : Thing) → RaisesBy serial (outside.copies from to source target)
  copies_is from to (Flow steps) (Flow others) found same = copying_is from to (copying (next_step steps)) (with_thing from (Flow (behind_next steps)) found) same
  copies_is from to source target found same = tt

  opens_is : (over thing : Thing) → RaisesBy serial (outside.opens_over over thing)
  opens_is (Flow steps) thing found same = tt
  opens_is other thing found same = tt

  puts_is : (number flow : ℕ) (pushed : Option Pushed) → RaisesBy serial (outside.puts number flow pushed)
  puts_is number flow None found same = raises_is _ said.Nothing found same
  puts_is number flow (Some pushed) found same = tt

  puts_by_is : (number : ℕ) (text : TextId) (thing : Thing) → RaisesBy serial (outside.puts_by number text thing)
  puts_by_is number text (WriterOf flow writer) found same = puts_is number flow (put_bytes (text_at found.texts text) writer) found same
  puts_by_is number text thing found same = tt

  waits_is : (b : Bool) (found : Found) → ExtraIs serial (elim b as (λ _. OutsideStep) [ true ↦ outside.answers extra.Waits found | false ↦ outside.done found ]).answer
  waits_is true found = tt
  waits_is false found = tt

  carries_is : (flow : ℕ) (wrote : Option (List ℕ)) (writer : Writer) → RaisesBy serial (outside.carries flow (record { wrote = wrote; writer = writer }))
  carries_is flow (Some bytes) writer found same = tt
  carries_is flow None writer found same = waits_is (shut_waits writer) found

  carries_by_is : (number : ℕ) (thing : Thing) → RaisesBy serial (outside.carries_by number thing)
  carries_by_is number (WriterOf flow writer) found same = carries_is flow (carry writer).wrote (carry writer).writer (with_thing number (WriterOf flow (carry writer).writer) found) same
  carries_by_is number thing found same = tt

  shuts_is : (number : ℕ) (failed : Bool) (thing : Thing) → RaisesBy serial (outside.shuts number failed thing)
  shuts_is number failed (ReaderOf flow reader) found same = tt
  shuts_is number failed (WriterOf flow writer) found same =
      waits_is (shut_waits (shut_writer failed writer).writer) (with_thing number (WriterOf flow (shut_writer failed writer).writer) found)
  shuts_is number failed thing found same = tt

  -- ## Paths

  begins_in_is : (declared directory : ℕ) (thing : Thing) (on : Start → Found → OutsideStep) → ((start : Start) → RaisesBy serial (on start)) → RaisesBy serial (outside.begins_in declared directory thing on)
  begins_in_is declared directory (Directory tree) on is found same = is _ found same
  begins_in_is declared directory thing on is found same = tt

  begins_by_is : (number : ℕ) (thing : Thing) (on : Start → Found → OutsideStep) → ((start : Start) → RaisesBy serial (on start)) → RaisesBy serial (outside.begins_by number thing on)
  begins_by_is number (Capability declared directory) on is found same = begins_in_is declared directory (thing_at found.world declared) on is found same
  begins_by_is number thing on is found same = begins_in_is number 0 thing on is found same

  begins_is : (number : ℕ) (on : Start → Found → OutsideStep) → ((start : Start) → RaisesBy serial (on start)) → RaisesBy serial (outside.begins number on)
  begins_is number on is found same = begins_by_is number (thing_at found.world number) on is found same

  refused_is : {A : Type 0} (path : TextId) (result : Result A PathFault) (on : A → Found → OutsideStep) → ((a : A) → RaisesBy serial (on a)) → RaisesBy serial (outside.unless_refused path result on)
  refused_is path (Ok result) on is found same = is result found same
  refused_is path (Err fault) on is found same = raises_is _ said.Nothing found same

  opens_directory_is : (path : TextId) (start : Start) → RaisesBy serial (outside.opens_directory path start)
  opens_directory_is path start found same = refused_is path (open_dir start.tree start.directory (text_at found.texts path)) _ (λ directory after still. tt) found same

  looks_is : (by : Tree → ℕ → List ℕ → Result (List ℕ) PathFault) (path : TextId) (start : Start) → RaisesBy serial (outside.looks by path start)
  looks_is by path start found same = refused_is path (by start.tree start.directory (text_at found.texts path)) _ (λ text after still. tt) found same

  changes_is : (by : Tree → ℕ → List ℕ → Result Tree PathFault) (path : TextId) (start : Start) → RaisesBy serial (outside.changes by path start)
  changes_is by path start found same = refused_is path (by start.tree start.directory (text_at found.texts path)) _ (λ tree after still. tt) found same

  writes_is : (by : Tree → ℕ → List ℕ → List ℕ → Result Tree PathFault) (path content : TextId) (start : Start) → RaisesBy serial (outside.writes by path content start)
  writes_is by path content start found same = changes_is (λ tree capability path. by tree capability path (text_at found.texts content)) path start found same

  -- ## Calls

  called_is : (call : MockCall) → RaisesBy serial (outside.called call)
  called_is (calls.Line reader) found same = reads_by_is Line reader (thing_at found.world reader) found same
  called_is (calls.TakeBytes reader count) found same = reads_by_is (TakeBytes count) reader (thing_at found.world reader) found same
  called_is (calls.TakeAll reader) found same = reads_by_is TakeAll reader (thing_at found.world reader) found same
  called_is (calls.Char reader) found same = reads_by_is Char reader (thing_at found.world reader) found same
  called_is (calls.AtEnd reader) found same = reads_by_is AtEnd reader (thing_at found.world reader) found same
  called_is (calls.Copy from to) found same = copies_is from to (thing_at found.world from) (thing_at found.world to) found same
  called_is (calls.OpenReader flow limit) found same = opens_is (thing_at found.world flow) _ found same
  called_is (calls.OpenWriter flow) found same = opens_is (thing_at found.world flow) _ found same
  called_is (calls.PutBytes writer text) found same = puts_by_is writer text (thing_at found.world writer) found same
  called_is (calls.Carry writer) found same = carries_by_is writer (thing_at found.world writer) found same
  called_is (calls.Shut number failed) found same = shuts_is number failed (thing_at found.world number) found same
  called_is (calls.OpenDir number path) found same = begins_is number _ (λ start. opens_directory_is path start) found same
  called_is (calls.Load number path) found same = begins_is number _ (λ start. looks_is load path start) found same
  called_is (calls.Save number path content) found same = begins_is number _ (λ start. writes_is save path content start) found same
  called_is (calls.SaveNew number path content) found same = begins_is number _ (λ start. writes_is save_new path content start) found same
  called_is (calls.Mkdir number path) found same = begins_is number _ (λ start. changes_is mkdir path start) found same
  called_is (calls.ReadDir number path) found same = begins_is number _ (λ start. looks_is outside.names_text path start) found same
  called_is (calls.Unlink number path) found same = begins_is number _ (λ start. changes_is unlink path start) found same
  called_is (calls.Rmdir number path) found same = begins_is number _ (λ start. changes_is rmdir path start) found same
  called_is (calls.Kind number path) found same = begins_is number _ (λ start. looks_is outside.kind_at path start) found same

pub outside_is : (world : World) (texts : List (List ℕ)) (serial : ℕ) (call : MockCall) → ExtraIs serial (outside.outside world texts serial call).answer
outside_is world texts serial call = called_is serial call (record { world = world; texts = texts; serial = serial }) refl
