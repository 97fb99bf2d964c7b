-- The entries of declared directories: `(file NAME CONTENT)`, `(link NAME TARGET)`, `(sub NAME ENTRY*)`. Names, contents and targets are
-- texts, which stand in the table too.
use Rattle.std.specs.Prelude.{ℕ, Bool, ◌&&◌, ◌==◌, nat_le, not, if◌then◌else◌, List, [], ◌∷◌, length, Option, Some, None, codes}
use Rattle.std.specs.List.{list_all, list_any}
use Rattle.std.specs.Str.{bytes_eq}
use Rattle.eio_value.specs.Directory as directory
use Rattle.eio_value.specs.Directory.{Item, File, Link, Sub, Directory, Empty}
use Rattle.spec_script.specs.Bytes.{slash}
use Rattle.spec_script.specs.Limits.{most_entry_name_bytes}
use Rattle.spec_script.specs.Trees.{Tree, Word, Text, Branch, Trees, Nil, And, place_of}
use Rattle.spec_script.specs.Faults.{Shape, Twice}
use Rattle.spec_script.specs.Reads.{Reads, ◌>>>◌, gives, refuses, requires_that, one_entry, interned}

abbrev pub name_of : Item → List ℕ
name_of (File name content) = name
name_of (Link name target) = name
name_of (Sub name inner) = name

pub data EntryHead : Type 0 where
  FileHead : EntryHead
  LinkHead : EntryHead
  SubHead : EntryHead

abbrev pub entry_head : List ℕ → Option EntryHead
entry_head word =
    if bytes_eq word (codes "file") then Some FileHead
    else
    (if bytes_eq word (codes "link") then Some LinkHead
    else (if bytes_eq word (codes "sub") then Some SubHead else None))

-- of a name of an entry: from `!` to `~`, but for `/`
abbrev pub is_name_byte : ℕ → Bool
is_name_byte b = nat_le 33 b && nat_le b 126 && not (b == slash)

-- a name of an entry has 1 to so many such bytes, and is neither `.` nor `..`
abbrev pub is_entry_name : List ℕ → Bool
is_entry_name name =
    nat_le 1 (length name) && nat_le (length name) most_entry_name_bytes && list_all is_name_byte name
    && not (bytes_eq name (codes ".")) && not (bytes_eq name (codes ".."))

-- the name of an entry, which differs from the names before it in the same directory
abbrev pub entry_name : (before : List (List ℕ)) → Tree → Reads (List ℕ)
entry_name before (Text at name) =
    requires_that (is_entry_name name) (Shape at) >>> λ _.
    requires_that (not (list_any (bytes_eq name) before)) (Twice at) >>> λ _.
    interned name >>> λ _. gives name
entry_name before tree = refuses (Shape (place_of tree))

abbrev pub content_of : Tree → Reads (List ℕ)
content_of (Text at text) = interned text >>> λ _. gives text
content_of tree = refuses (Shape (place_of tree))

unfoldable mutual
  -- the entries of one directory, behind those of these names
  pub entries : (before : List (List ℕ)) → Trees → Reads Directory
  entries before Nil = gives Empty
  entries before (And tree row) = entry before tree >>> λ first. entries (name_of first ∷ before) row >>> λ others. gives (directory.And first others)

  pub entry : (before : List (List ℕ)) → Tree → Reads Item
  entry before (Branch at (And (Word place word) items)) = entry_by before at (entry_head word) items
  entry before tree = refuses (Shape (place_of tree))

  -- an entry by its word; a `sub` is counted before its entries
  pub entry_by : (before : List (List ℕ)) → (at : ℕ) → Option EntryHead → Trees → Reads Item
  entry_by before at (Some FileHead) (And name (And content Nil)) =
      one_entry at >>> λ _. entry_name before name >>> λ own. content_of content >>> λ bytes. gives (File own bytes)
  entry_by before at (Some LinkHead) (And name (And target Nil)) =
      one_entry at >>> λ _. entry_name before name >>> λ own. content_of target >>> λ bytes. gives (Link own bytes)
  entry_by before at (Some SubHead) (And name items) =
      one_entry at >>> λ _. entry_name before name >>> λ own. entries [] items >>> λ inner. gives (Sub own inner)
  entry_by before at head items = refuses (Shape at)
