-- What a mocked domain calls beside the shared objects: flows, directories, and the readers, writers and capabilities that it opened, by their numbers.
use Rattle.std.specs.Prelude.{◌≡◌, ℕ, ◌<◌, ◌≤◌, ◌^◌, Bool, true, false, IsTrue, ◌||◌, ◌==◌, List, [], ◌∷◌, ◌++◌, All, length, Option, Some, None, pos}
use Rattle.eio_value.specs.declared.mock_call.Extra.{Extra}
use Rattle.eio_value.specs.declared.mock_call.Extra.TheVariants as extra
use Rattle.eio_value.specs.declared.mock_call.MockCall.{MockCall}
use Rattle.eio_value.specs.declared.mock_call.MockCall.TheVariants as call
use Rattle.eio_value.specs.declared.mock_call.Said.{Said}
use Rattle.eio_value.specs.declared.mock_call.Said.TheVariants as said
use Rattle.eio_value.specs.declared.value.Value.{Value}
use Rattle.eio_value.specs.declared.value.Value.TheVariants as value
use Rattle.eio_value.specs.Fitting.{Bounds, IsText, FitsValue, FitsRaised}

-- a declared directory names a capability too
pub data ThingKind : Type 0 where
  Flows : ThingKind
  Directories : ThingKind
  Readers : ThingKind
  Writers : ThingKind
  Capabilities : ThingKind

-- what stands under each number
abbrev pub Things : Type 0
Things = (number : ℕ) → Option ThingKind

-- ## What a call names

-- a number, and the kind that its place wants
pub record Wanted : Type 0 where
  pub number : ℕ
  pub kind : ThingKind

abbrev pub wants : ℕ → ThingKind → List Wanted
wants number kind = record { number = number; kind = kind } ∷ []

abbrev pub wanted_by : MockCall → List Wanted
wanted_by (call.Line reader) = wants reader Readers
wanted_by (call.TakeBytes reader count) = wants reader Readers
wanted_by (call.TakeAll reader) = wants reader Readers
wanted_by (call.Char reader) = wants reader Readers
wanted_by (call.AtEnd reader) = wants reader Readers
wanted_by (call.Copy from to) = wants from Flows ++ wants to Flows
wanted_by (call.OpenReader flow limit) = wants flow Flows
wanted_by (call.OpenWriter flow) = wants flow Flows
wanted_by (call.PutBytes writer text) = wants writer Writers
wanted_by (call.Carry writer) = wants writer Writers
wanted_by (call.OpenDir directory path) = wants directory Capabilities
wanted_by (call.Load directory path) = wants directory Capabilities
wanted_by (call.Save directory path content) = wants directory Capabilities
wanted_by (call.SaveNew directory path content) = wants directory Capabilities
wanted_by (call.Mkdir directory path) = wants directory Capabilities
wanted_by (call.ReadDir directory path) = wants directory Capabilities
wanted_by (call.Unlink directory path) = wants directory Capabilities
wanted_by (call.Rmdir directory path) = wants directory Capabilities
wanted_by (call.Kind directory path) = wants directory Capabilities
-- of a reader or of a writer
wanted_by (call.Shut number raised) = []

-- what stands there serves as the kind that is wanted
abbrev pub serves : Option ThingKind → ThingKind → Bool
serves (Some Flows) Flows = true
serves (Some Readers) Readers = true
serves (Some Writers) Writers = true
serves (Some Capabilities) Capabilities = true
serves (Some Directories) Directories = true
serves (Some Directories) Capabilities = true
serves found wanted = false

abbrev pub Serves : Things → Wanted → Type 0
Serves things wanted = serves (things wanted.number) wanted.kind ≡ true

-- the end of a block is that of a reader or of a writer
abbrev pub is_shut : Option ThingKind → Bool
is_shut (Some Readers) = true
is_shut (Some Writers) = true
is_shut found = false

abbrev pub IsShut : Things → MockCall → Type 0
IsShut things (call.Shut number raised) = is_shut (things number) ≡ true
IsShut things other = Unit {0}

-- the texts of a call are in the table
abbrev pub HasTexts : Bounds → MockCall → Type 0
HasTexts bounds (call.PutBytes writer text) = IsText bounds text
HasTexts bounds (call.OpenDir directory path) = IsText bounds path
HasTexts bounds (call.Load directory path) = IsText bounds path
HasTexts bounds (call.Save directory path content) = IsText bounds path × IsText bounds content
HasTexts bounds (call.SaveNew directory path content) = IsText bounds path × IsText bounds content
HasTexts bounds (call.Mkdir directory path) = IsText bounds path
HasTexts bounds (call.ReadDir directory path) = IsText bounds path
HasTexts bounds (call.Unlink directory path) = IsText bounds path
HasTexts bounds (call.Rmdir directory path) = IsText bounds path
HasTexts bounds (call.Kind directory path) = IsText bounds path
HasTexts bounds other = Unit {0}

-- each number that the call names stands for what its place wants, and its texts are in the table
pub record FitsMock (bounds : Bounds) (things : Things) (call : MockCall) : Type 0 where
  pub wanted : All (Serves things) (wanted_by call)
  pub shut : IsShut things call
  pub texts : HasTexts bounds call

-- ## What a call opens

-- the kind that an opening makes
abbrev pub opened_by : MockCall → Option ThingKind
opened_by (call.OpenReader flow limit) = Some Readers
opened_by (call.OpenWriter flow) = Some Writers
opened_by (call.OpenDir directory path) = Some Capabilities
opened_by other = None

-- the number that an answer gives
abbrev pub number_of : Value → Option ℕ
number_of (value.Int (pos number)) = Some number
number_of other = None

abbrev pub with_thing : Option ThingKind → Option ℕ → Things → Things
with_thing (Some kind) (Some number) things = λ other. elim (number == other) [ true ↦ Some kind | false ↦ things other ]
with_thing kind number things = things

-- what stands under each number once a call was answered
abbrev pub things_behind : MockCall → Extra → Things → Things
things_behind call (extra.Done given said) things = with_thing (opened_by call) (number_of given) things
things_behind call other things = things

-- an opening answers a number below 2^32 under which nothing stood
abbrev pub IsNew : Option ThingKind → Value → Things → Type 0
IsNew None given things = Unit {0}
IsNew (Some kind) given things = (number : ℕ) × (number_of given ≡ Some number) × (number < 2 ^ 32) × (things number ≡ None)

abbrev pub OpensNew : MockCall → Extra → Things → Type 0
OpensNew call (extra.Done given said) things = IsNew (opened_by call) given things
OpensNew call other things = Unit {0}

-- ## Which answers may come

-- a call that reads or copies may go on with the next move, or give way first
abbrev pub reads_on : MockCall → Bool
reads_on (call.Line reader) = true
reads_on (call.TakeBytes reader count) = true
reads_on (call.TakeAll reader) = true
reads_on (call.Char reader) = true
reads_on (call.AtEnd reader) = true
reads_on (call.Copy from to) = true
reads_on other = false

abbrev pub is_carry : MockCall → Bool
is_carry (call.Carry writer) = true
is_carry other = false

abbrev pub is_end : MockCall → Bool
is_end (call.Shut number raised) = true
is_end other = false

-- what goes on with the next move is a read, a copy or the writing of what is pending; what gives way is a read or a copy; what waits is a copier that
-- has nothing to write, or the end of a block
abbrev pub MayCome : MockCall → Extra → Type 0
MayCome call (extra.Done given it) = Unit {0}
MayCome call (extra.More it) = IsTrue (reads_on call || is_carry call)
MayCome call extra.Back = IsTrue (reads_on call)
MayCome call extra.Waits = IsTrue (is_carry call || is_end call)
MayCome call (extra.Raised given it) = Unit {0}

-- ## What comes back

abbrev pub FitsSaid : Bounds → Said → Type 0
FitsSaid bounds said.Nothing = Unit {0}
FitsSaid bounds (said.Read flow text) = IsText bounds text
FitsSaid bounds (said.Wrote flow text) = IsText bounds text
FitsSaid bounds (said.Copied from to text) = IsText bounds text

abbrev pub FitsExtra : Bounds → Extra → Type 0
FitsExtra bounds (extra.Done given it) = FitsValue bounds given × FitsSaid bounds it
FitsExtra bounds (extra.More it) = FitsSaid bounds it
FitsExtra bounds extra.Back = Unit {0}
FitsExtra bounds extra.Waits = Unit {0}
FitsExtra bounds (extra.Raised given it) = FitsRaised bounds given × FitsSaid bounds it

-- ## The table of texts

-- the table keeps its texts and gets at most so many more
pub record Grows (most : ℕ) (old new : List (List ℕ)) : Type 0 where
  pub more : List (List ℕ)
  pub kept : new ≡ old ++ more
  pub few : length more ≤ most

-- ## What doesn't change

-- nothing was asked of the outside, and each number stands for what it stood for
pub record LeavesOutside (mocked_before : Bool) (asked_before : ℕ) (things_before : Things) (mocked : Bool) (asked : ℕ) (things : Things) : Type 0 where
  pub same : mocked ≡ mocked_before
  pub asks_nothing : asked ≡ asked_before
  pub stand : (number : ℕ) → things number ≡ things_before number
