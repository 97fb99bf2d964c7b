-- What a read gave, beside what the definitions give.
use Rattle.std.specs.Prelude.{◌≡◌, ℕ, List, drop, Result, Ok, Err}
use Rattle.spec_script.specs.Faults as model
use Rattle.spec_script.specs.Reading.{Here, here, Items}
use Rattle.script_tree.specs.declared.fault.TreeFault.{TreeFault}
use Rattle.script_tree.specs.declared.fault.TreeFault.TheVariants as fault
use Rattle.script_tree.specs.declared.text.TextRead.{TextRead}
use Rattle.script_tree.specs.declared.run.Run.{Run}
use Rattle.script_tree.specs.declared.run.Run.TheVariants as run
use Rattle.spec_script.specs.Trees.{Tree, Word, Number}

-- from a place on
abbrev pub from : List ℕ → ℕ → Here
from bytes at = here at (drop at bytes)

-- the read failed so, with the same place; where memory ran out, nothing is said of it
abbrev pub Fails : {Y : Type 0} → TreeFault → Result Y model.TreeFault → Type 0
Fails fault.NoMemory read = Unit {0}
Fails (fault.Byte at) read = read ≡ Err (model.Byte at)
Fails (fault.Unclosed at) read = read ≡ Err (model.Unclosed at)
Fails (fault.Stray at) read = read ≡ Err (model.Stray at)
Fails (fault.Number at) read = read ≡ Err (model.Number at)
Fails (fault.LongText at) read = read ≡ Err (model.LongText at)
Fails (fault.Deep at) read = read ≡ Err (model.Deep at)

-- the definitions give the same as the code: what it gave, as they see it, or its fault
abbrev pub Gives : {X Y : Type 0} → (X → Y) → Result X TreeFault → Result Y model.TreeFault → Type 0
Gives view (Ok x) read = read ≡ Ok (view x)
Gives view (Err e) read = Fails e read

-- a text's items and the place behind it
abbrev pub items_of : List ℕ → TextRead → Items
items_of bytes text = record { items = text.items.items; next = from bytes text.next }

-- the tree that a run is, which begins at a place
abbrev pub run_of : ℕ → Run → Tree
run_of at (run.Word word) = Word at word.items
run_of at (run.Number number) = Number at number
