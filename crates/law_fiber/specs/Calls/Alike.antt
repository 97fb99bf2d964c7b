-- When values and exceptions of two fibers are alike, each with its own table of texts: they are the same but for the numbers of texts and of raises.
use Rattle.std.specs.Prelude.{◌≡◌, ℕ, ◌≤◌, ℤ, List, [], ◌∷◌, length, take, Option, Some, None}
use Rattle.eio_value.specs.declared.value.TextId.{TextId}
use Rattle.eio_value.specs.declared.value.Value.{Value}
use Rattle.eio_value.specs.declared.value.Value.TheVariants as value
use Rattle.eio_value.specs.declared.plain.Misuse.{Misuse}
use Rattle.eio_value.specs.declared.plain.PathFault.{PathFault}
use Rattle.eio_value.specs.declared.plain.Plain.{Plain}
use Rattle.eio_value.specs.declared.plain.Plain.TheVariants as plain
use Rattle.eio_value.specs.declared.plain.Member.{Member}
use Rattle.eio_value.specs.declared.raised.Raised.{Raised}
use Rattle.eio_value.specs.declared.raised.Raised.TheVariants as raised
use Rattle.eio_value.specs.declared.raised.Outcome.{Outcome}
use Rattle.eio_value.specs.declared.raised.Outcome.TheVariants as outcome
use Rattle.eio_value.specs.Several.{Several}
use Rattle.eio_value.specs.Table.{AreDifferent, HasText, text_at}
use Rattle.spec_fiber.specs.Evaluation.{value_at}
use Rattle.law_fiber.specs.Calls.Sights.{Sight, IsInScope}

-- the tables of texts of two fibers
pub record Tables : Type 0 where
  pub one : List (List ℕ)
  pub other : List (List ℕ)

-- each text of a table still stands at its place: others may stand behind
pub record Keeps (old new : List (List ℕ)) : Type 0 where
  pub has : (id : TextId) → HasText old id → HasText new id
  pub same : (id : TextId) → HasText old id → text_at new id ≡ text_at old id

-- the tables of two fibers, and the same tables later
pub record IsLater (old new : Tables) : Type 0 where
  pub one : Keeps old.one new.one
  pub other : Keeps old.other new.other

-- ## Lists and options

-- as many items, and at each place two that are alike
pub data AlikeLists {X : Type 0} (Alike : X → X → Type 0) : List X → List X → Type 0 where
  Ends : AlikeLists Alike [] []
  Goes : {a b : X} {these those : List X} → Alike a b → AlikeLists Alike these those → AlikeLists Alike (a ∷ these) (b ∷ those)

pub data AlikeOptions {X : Type 0} (Alike : X → X → Type 0) : Option X → Option X → Type 0 where
  Nothing : AlikeOptions Alike None None
  Something : {a b : X} → Alike a b → AlikeOptions Alike (Some a) (Some b)

-- ## Values

-- both tables have a text with its number, and the two texts are the same
abbrev pub IsSameText : Tables → TextId → TextId → Type 0
IsSameText tables a b = HasText tables.one a × HasText tables.other b × (text_at tables.one a ≡ text_at tables.other b)

pub data AlikeValue (tables : Tables) : Value → Value → Type 0 where
  Units : AlikeValue tables value.Unit value.Unit
  Numbers : (z : ℤ) → AlikeValue tables (value.Int z) (value.Int z)
  Texts : {a b : TextId} → IsSameText tables a b → AlikeValue tables (value.Text a) (value.Text b)
  Contexts : (number : ℕ) → AlikeValue tables (value.Ctx number) (value.Ctx number)
  Switches : (number : ℕ) → AlikeValue tables (value.Switch number) (value.Switch number)

-- ## Exceptions

pub data AlikePlain (tables : Tables) : Plain → Plain → Type 0 where
  Failures : {a b : TextId} → IsSameText tables a b → AlikePlain tables (plain.Failure a) (plain.Failure b)
  Invalids : (why : Misuse) → AlikePlain tables (plain.Invalid why) (plain.Invalid why)
  EndsOfFile : AlikePlain tables plain.EndOfFile plain.EndOfFile
  BufferLimits : AlikePlain tables plain.BufferLimit plain.BufferLimit
  Poisonings : AlikePlain tables plain.Poisoned plain.Poisoned
  Exits : AlikePlain tables plain.Exit plain.Exit
  NotFirsts : AlikePlain tables plain.NotFirst plain.NotFirst
  Paths : (fault : PathFault) {a b : TextId} → IsSameText tables a b → AlikePlain tables (plain.Path fault a) (plain.Path fault b)

-- the numbers of the raises aside
abbrev pub AlikeMember : Tables → Member → Member → Type 0
AlikeMember tables a b = AlikePlain tables a.what b.what

pub data AlikeRaised (tables : Tables) : Raised → Raised → Type 0 where
  Ones : {a b : Member} → AlikeMember tables a b → AlikeRaised tables (raised.One a) (raised.One b)
  Cancellations : {a b : Member} → AlikeMember tables a b → AlikeRaised tables (raised.Cancelled a) (raised.Cancelled b)
  Multiples : {a b : Several} → AlikeLists (AlikeMember tables) a.members b.members → a.cut ≡ b.cut
      → AlikeRaised tables (raised.Many a) (raised.Many b)

pub data AlikeOutcome (tables : Tables) : Outcome → Outcome → Type 0 where
  Oks : {a b : Value} → AlikeValue tables a b → AlikeOutcome tables (outcome.Ok a) (outcome.Ok b)
  Errs : {a b : Raised} → AlikeRaised tables a b → AlikeOutcome tables (outcome.Err a) (outcome.Err b)

-- ## Variables and tables

-- as many variables, and those in scope are alike. A slot without a variable stands for unit
pub record AlikeVariables (sight : Sight) (tables : Tables) (these those : List Value) : Type 0 where
  pub as_many : length these ≡ length those
  pub in_scope : (slot : ℕ) → IsInScope sight slot → AlikeValue tables (value_at these slot) (value_at those slot)

-- both tables begin with the texts in sight, and neither has a text twice
pub record AlikeTables (sight : Sight) (tables : Tables) : Type 0 where
  pub one_has : sight.texts ≤ length tables.one
  pub other_has : sight.texts ≤ length tables.other
  pub same : take sight.texts tables.one ≡ take sight.texts tables.other
  pub one_differs : AreDifferent tables.one
  pub other_differs : AreDifferent tables.other
