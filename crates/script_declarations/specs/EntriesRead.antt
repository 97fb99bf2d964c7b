-- The entries of directories in the code as those of the definitions.
use Rattle.std.specs.Prelude.{ℕ, ◌==◌, nat_le, Bool, List, [], ◌∷◌}
use Rattle.eio_value.specs.Directory as directory
use Rattle.eio_value.specs.Directory.{Directory, Item, File, Link, Sub}
use Rattle.eio_value.specs.EntriesInside.{item_of}
use Rattle.eio_value.specs.declared.entry.Entry.{Entry}
use Rattle.spec_script.specs.Entries as model
use Rattle.spec_script.specs.Faults.{Shape}
use Rattle.spec_script.specs.Reads.{Reads, ◌>>>◌, gives, refuses}
use Rattle.spec_script.specs.Trees.{Trees, Nil, And}
use Rattle.script_declarations.specs.declared.entries.EntryHead.{EntryHead}
use Rattle.script_declarations.specs.declared.entries.EntryHead.TheVariants as head

abbrev pub head_of : EntryHead → model.EntryHead
head_of head.File = model.FileHead
head_of head.Link = model.LinkHead
head_of head.Sub = model.SubHead

-- whether an entry has that many items behind its word
abbrev pub takes : EntryHead → (count : ℕ) → Bool
takes head.File count = count == 2
takes head.Link count = count == 2
takes head.Sub count = nat_le 1 count

abbrev pub own_name : Entry → List ℕ
own_name entry = model.name_of (item_of entry)

-- the names of entries, the last first, before these names
unfoldable pub names_onto : List (List ℕ) → List Entry → List (List ℕ)
names_onto names [] = names
names_onto names (entry ∷ entries) = names_onto (own_name entry ∷ names) entries

abbrev pub names_in : List Entry → List (List ℕ)
names_in entries = names_onto [] entries

-- a directory of these entries and then those of another
unfoldable pub listed : List Entry → Directory → Directory
listed [] others = others
listed (entry ∷ entries) others = directory.And (item_of entry) (listed entries others)

-- an entry that was counted, by what stands behind its word
abbrev pub named : (before : List (List ℕ)) → EntryHead → Trees → Reads Item
named before head.File (And name (And content Nil)) = model.entry_name before name >>> λ own. model.content_of content >>> λ bytes. gives (File own bytes)
named before head.Link (And name (And target Nil)) = model.entry_name before name >>> λ own. model.content_of target >>> λ bytes. gives (Link own bytes)
named before head.Sub (And name items) = model.entry_name before name >>> λ own. model.entries [] items >>> λ inner. gives (Sub own inner)
named before other items = refuses (Shape 0)
