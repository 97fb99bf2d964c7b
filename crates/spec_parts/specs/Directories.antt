-- Trees of directories, in which each directory has a number.
-- A tree is the list of its directories; the number of one is its place, and the first is the root. A capability is the number of
-- a directory, so it stays with its directory wherever others are made or removed. Numbers aren't used again. The entries of a
-- directory have distinct names and stand in the order of their bytes. An entry holds a file's content, a link's target, or the
-- number of a directory that stands in no other entry.
use Rattle.std.specs.Prelude.{ℕ, Bool, true, false, not, List, [], ◌∷◌, ◌++◌, length, map, filter, find, bytes_eq, slice_get, slice_set, Option, Some, None}
use Rattle.std.specs.Option.{unwrap_or}
use Rattle.std.specs.declared.cmp.Ordering.TheVariants.{Less, Equal, Greater}
use Rattle.std.specs.Ordering.{nat_cmp}
use Rattle.std.specs.Cmp.Lexicographic.{slice_cmp}
use Rattle.std.specs.List.{join_by}
use Rattle.eio_value.specs.Directory as scripted

-- what a name stands for
pub data Held : Type 0 where
  File : (content : List ℕ) → Held
  Link : (target : List ℕ) → Held
  Inner : (directory : ℕ) → Held

pub record Entry : Type 0 where
  pub name : List ℕ
  pub held : Held

-- a directory's entries, and whether it was removed
pub record Directory : Type 0 where
  pub entries : List Entry
  pub removed : Bool

abbrev pub entry : (name : List ℕ) → Held → Entry
entry name held = record { name = name; held = held }

-- a directory that is there
abbrev pub directory : List Entry → Directory
directory entries = record { entries = entries; removed = false }

abbrev pub gone : Directory
gone = record { entries = []; removed = true }

-- a tree
abbrev pub Tree : Type 0
Tree = List Directory

-- a directory that was never made counts as removed
abbrev pub directory_at : Tree → ℕ → Directory
directory_at tree at = unwrap_or (slice_get tree at) gone

-- what a name stands for in a directory
abbrev pub held_by : List Entry → List ℕ → Option Held
held_by entries name = elim (find (λ e. bytes_eq e.name name) entries) [ Some found ↦ Some found.held | None ↦ None ]

-- the entries with this one, in place of one of its name where there is one
abbrev pub with_entry : Entry → List Entry → List Entry
with_entry new [] = new ∷ []
with_entry new (old ∷ others) = elim (slice_cmp nat_cmp new.name old.name) [
  | Less ↦ new ∷ old ∷ others
  | Equal ↦ new ∷ others
  | Greater ↦ old ∷ with_entry new others
]

-- the entries without the one of this name
abbrev pub without_entry : List ℕ → List Entry → List Entry
without_entry name entries = filter (λ e. not (bytes_eq e.name name)) entries

-- the tree with other entries in one directory
abbrev pub with_entries : (at : ℕ) → List Entry → Tree → Tree
with_entries at entries tree = slice_set tree at (record { entries = entries; removed = (directory_at tree at).removed })

-- the tree in which a name of this directory stands for this
abbrev pub put : (at : ℕ) → (name : List ℕ) → Held → Tree → Tree
put at name held tree = with_entries at (with_entry (entry name held) (directory_at tree at).entries) tree

-- the tree in which this directory hasn't this name
abbrev pub dropped : (at : ℕ) → (name : List ℕ) → Tree → Tree
dropped at name tree = with_entries at (without_entry name (directory_at tree at).entries) tree

-- the tree with a new directory, which has the next number, under this name
abbrev pub put_directory : (at : ℕ) → (name : List ℕ) → Tree → Tree
put_directory at name tree = put at name (Inner (length tree)) (tree ++ directory [] ∷ [])

-- the tree without the directory of this number, which stood under this name
abbrev pub removed_directory : (at : ℕ) → (name : List ℕ) → (inner : ℕ) → Tree → Tree
removed_directory at name inner tree = slice_set (dropped at name tree) inner gone

-- a scripted directory's entries put into directory `at`, in order; the entries of one within come before those behind it
unfoldable mutual
  pub placed : scripted.Directory → (at : ℕ) → Tree → Tree
  placed scripted.Empty at tree = tree
  placed (scripted.And item rest) at tree = placed rest at (placed_item item at tree)

  pub placed_item : scripted.Item → (at : ℕ) → Tree → Tree
  placed_item (scripted.File name content) at tree = put at name (File content) tree
  placed_item (scripted.Link name target) at tree = put at name (Link target) tree
  placed_item (scripted.Sub name inner) at tree = placed inner (length tree) (put_directory at name tree)

-- the tree of a declared directory; its root has number 0
abbrev pub declared_tree : scripted.Directory → Tree
declared_tree items = placed items 0 (directory [] ∷ [])

-- the names in a directory, in the order of their bytes
abbrev pub names : Directory → List (List ℕ)
names inner = map (λ e. e.name) inner.entries

-- names with one space between
abbrev pub joined_names : List (List ℕ) → List ℕ
joined_names all = join_by (λ name. name) (32 ∷ []) all
