-- The order of the names in a directory.
use Rattle.std.specs.Prelude.{◌≡◌, ℕ, List, [], ◌∷◌}
use Rattle.std.specs.declared.cmp.Ordering.TheVariants.{Less}
use Rattle.std.specs.Ordering.{nat_cmp}
use Rattle.std.specs.Cmp.Lexicographic.{slice_cmp}
use Rattle.eio_value.specs.Directory as scripted
use Rattle.spec_parts.specs.Directories.{Tree, Entry, directory_at, declared_tree}
use Rattle.path_cap.specs.Changes.{Change, after}

-- a name comes before the names of these entries, in the order of bytes
abbrev pub ComesFirst : (name : List ℕ) → List Entry → Type 0
ComesFirst name [] = Unit {0}
ComesFirst name (entry ∷ entries) = (slice_cmp nat_cmp name entry.name ≡ Less) × ComesFirst name entries

-- entries stand in order: the name of each comes before all behind it, so that no name stands twice
abbrev pub IsInOrder : List Entry → Type 0
IsInOrder [] = Unit {0}
IsInOrder (entry ∷ entries) = ComesFirst entry.name entries × IsInOrder entries

-- and do so in each directory of a tree
abbrev pub AreInOrder : Tree → Type 0
AreInOrder tree = (directory : ℕ) → IsInOrder (directory_at tree directory).entries

-- in the tree of a declared directory, whatever the names and the order in which they are declared
abbrev pub DeclaredInOrder : Type 0
DeclaredInOrder = (items : scripted.Directory) → AreInOrder (declared_tree items)

-- and after each call on a tree in which they do
abbrev pub StayInOrder : Type 0
StayInOrder = (tree : Tree) (capability : ℕ) (change : Change) → AreInOrder tree → AreInOrder (after tree capability change)
