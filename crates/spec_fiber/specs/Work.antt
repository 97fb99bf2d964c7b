-- What a fiber still has to do, and what its silent statements change.
-- The variables of a fiber are a list in which a slot is a place. A block's end cuts it to the length that it had where the block began: each mark
-- at the end of a block has the number of slots that are kept.
use Rattle.std.specs.Prelude.{ℕ, ◌+◌, Bool, List, [], ◌∷◌, ◌++◌, take}
use Rattle.eio_value.specs.declared.value.Value.{Value}
use Rattle.eio_value.specs.declared.value.Value.TheVariants.{Text}
use Rattle.eio_value.specs.declared.plain.Plain.{Plain}
use Rattle.eio_value.specs.declared.plain.Member.{Member}
use Rattle.eio_value.specs.declared.raised.Raised.{Raised}
use Rattle.eio_value.specs.Table.{intern}
use Rattle.eio_value.specs.Exceptions.{bound_text}
use Rattle.spec_script.specs.Syntax.{Block, Statements}

-- an item of work; the first of a list is done next
pub data Work : Type 0 where
  -- the statements of a block that are left
  Run : Statements → Work
  -- the end of a block that does nothing more
  Cut : (keep : ℕ) → Work
  -- the end of a handler, which ran with the variables that it was registered with: the fiber's own are back
  Restore : List Value → Work
  -- the end of the first block of a `try`, with the second one
  Try : (handler : Block) → (keep : ℕ) → Work
  -- a `let` whose form is under way, with the slot of its name
  Bind : (slot : ℕ) → Work
  -- the end of a turn: of a loop, and of a `repeat` with the number of the next turn and how many are left
  Loop : Block → (keep : ℕ) → Work
  Repeat : (turn left : ℕ) → Block → (keep : ℕ) → Work
  -- the end of a block of a context; `late` for a handler of a switch that had finished
  Leave : (context : ℕ) → (late : Bool) → (keep : ℕ) → Work
  -- the end of a switch's body
  Close : (switch : ℕ) → (keep : ℕ) → Work
  -- the end of a handler of a switch that closes, with the value of its body
  Closing : (switch : ℕ) → (kept : Value) → Work
  -- the end of the caller's branch
  Join : (group : ℕ) → (keep : ℕ) → Work
  ShutReader : (reader : ℕ) → (keep : ℕ) → Work
  ShutWriter : (writer : ℕ) → (keep : ℕ) → Work
  -- a block that begins once the mutex is had, and its end
  Locking : (mutex : ℕ) → Block → Work
  Unlock : (mutex : ℕ) → (keep : ℕ) → Work
  -- a block that begins once a resource is had, and its end
  Using : (pool : ℕ) → Block → Work
  Put : (pool resource : ℕ) → (keep : ℕ) → Work
  -- the end of a fiber that resolves a promise
  Resolve : (promise : ℕ) → Work

-- what silent statements change: the fiber's variables, the table of texts, the number that the next raise has, and the list of the raises so far
pub record Carry : Type 0 where
  pub variables : List Value
  pub texts : List (List ℕ)
  pub serial : ℕ
  pub raises : List Member

-- ## Variables

-- those of the first slots alone
abbrev pub cut : (keep : ℕ) → Carry → Carry
cut keep c = record c { variables = take keep c.variables }

abbrev pub restored : List Value → Carry → Carry
restored variables c = record c { variables = variables }

-- a name in this slot, which is the next one once what came after it is cut
abbrev pub bound : (slot : ℕ) → Value → Carry → Carry
bound slot value c = record c { variables = take slot c.variables ++ value ∷ [] }

-- ## Exceptions

abbrev pub member : Plain → Carry → Member
member what c = record { serial = c.serial; what = what }

abbrev pub counted : Plain → Carry → Carry
counted what c = record c { serial = c.serial + 1; raises = c.raises ++ member what c ∷ [] }

-- a new raise of this exception: it takes the next number, and is listed
abbrev pub new_raise : {A : Type 0} → Plain → Carry → (Member → Carry → A) → A
new_raise what c then = then (member what c) (counted what c)

-- the bound text of an exception in this slot; it stands in the table from then on
abbrev pub caught : (slot : ℕ) → Raised → Carry → Carry
caught slot raised c =
    let text = intern c.texts (bound_text c.texts raised) in
    bound slot (Text text.id) (record c { texts = text.texts })
