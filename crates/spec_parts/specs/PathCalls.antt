-- The calls on paths.
-- Each is a function of the tree, the capability and its operands. A call that changes the tree gives the tree after it; one
-- that is refused gives none, and the tree stays. `open-dir`, `load`, `save` and `read-dir` follow a last link and so never end
-- at one; the cases for it are there to have an answer for each end of a walk.
use Rattle.std.specs.Prelude.{ℕ, true, false, List, [], ◌∷◌, Option, Some, None, Result, Ok, Err, codes}
use Rattle.eio_value.specs.declared.plain.PathFault.{PathFault}
use Rattle.eio_value.specs.declared.plain.PathFault.TheVariants.{PermissionDenied, NotFound, AlreadyExists, NotDirectory, IsDirectory, NotEmpty}
use Rattle.spec_parts.specs.declared.path_kind.PathKind.{PathKind}
use Rattle.spec_parts.specs.declared.path_kind.PathKind.TheVariants as kinds
use Rattle.spec_parts.specs.Directories.{Tree, File, Link, directory_at, held_by, put, dropped, put_directory, removed_directory, names}
use Rattle.spec_parts.specs.Walk.{Step, Leads, ToDirectory, ToFile, ToLink, ToNothing, Refused, resolve}

-- the number of a directory
abbrev pub opened : Leads → Result ℕ PathFault
opened (ToDirectory place) = Ok place.here
opened (ToFile _ _ _) = Err NotDirectory
opened (ToLink _ _ _) = Err NotDirectory
opened (ToNothing _ _) = Err NotFound
opened (Refused fault) = Err fault

-- `open-dir`: the capability of a directory
abbrev pub open_dir : Tree → (capability : ℕ) → (path : List ℕ) → Result ℕ PathFault
open_dir tree capability path = opened (resolve tree capability path true)

-- `read-dir`: the names in a directory, in the order of their bytes
abbrev pub read_dir : Tree → (capability : ℕ) → (path : List ℕ) → Result (List (List ℕ)) PathFault
read_dir tree capability path = elim (open_dir tree capability path) [
  | Ok directory ↦ Ok (names (directory_at tree directory))
  | Err fault ↦ Err fault
]

-- the content of a file
abbrev pub loaded : Leads → Result (List ℕ) PathFault
loaded (ToDirectory _) = Err IsDirectory
loaded (ToFile _ _ content) = Ok content
loaded (ToLink _ _ _) = Err NotFound
loaded (ToNothing _ _) = Err NotFound
loaded (Refused fault) = Err fault

-- `load`: the content of a file
abbrev pub load : Tree → (capability : ℕ) → (path : List ℕ) → Result (List ℕ) PathFault
load tree capability path = loaded (resolve tree capability path true)

-- a file with this content is there afterwards, whether new or old
abbrev pub saved : (content : List ℕ) → Tree → Leads → Result Tree PathFault
saved content tree (ToDirectory _) = Err IsDirectory
saved content tree (ToFile above name _) = Ok (put above name (File content) tree)
saved content tree (ToLink above name _) = Ok (put above name (File content) tree)
saved content tree (ToNothing above name) = Ok (put above name (File content) tree)
saved content tree (Refused fault) = Err fault

-- `save`: writes a file, new or old; a link that leads to nothing has its target made
abbrev pub save : Tree → (capability : ℕ) → (path content : List ℕ) → Result Tree PathFault
save tree capability path content = saved content tree (resolve tree capability path true)

-- where something is to be made, nothing may be
abbrev pub made : (ℕ → List ℕ → Tree) → Leads → Result Tree PathFault
made making (ToDirectory _) = Err AlreadyExists
made making (ToFile _ _ _) = Err AlreadyExists
made making (ToLink _ _ _) = Err AlreadyExists
made making (ToNothing above name) = Ok (making above name)
made making (Refused fault) = Err fault

-- `save-new`: writes a new file
abbrev pub save_new : Tree → (capability : ℕ) → (path content : List ℕ) → Result Tree PathFault
save_new tree capability path content = made (λ above name. put above name (File content) tree) (resolve tree capability path false)

-- `mkdir`: makes a directory
abbrev pub mkdir : Tree → (capability : ℕ) → (path : List ℕ) → Result Tree PathFault
mkdir tree capability path = made (λ above name. put_directory above name tree) (resolve tree capability path false)

abbrev pub unlinked : Tree → Leads → Result Tree PathFault
unlinked tree (ToDirectory _) = Err IsDirectory
unlinked tree (ToFile above name _) = Ok (dropped above name tree)
unlinked tree (ToLink above name _) = Ok (dropped above name tree)
unlinked tree (ToNothing _ _) = Err NotFound
unlinked tree (Refused fault) = Err fault

-- `unlink`: removes a file or a link
abbrev pub unlink : Tree → (capability : ℕ) → (path : List ℕ) → Result Tree PathFault
unlink tree capability path = unlinked tree (resolve tree capability path false)

-- an empty directory is removed from the one above it; the capability's own has none above it
abbrev pub emptied : Tree → (directory : ℕ) → List Step → Result Tree PathFault
emptied tree directory [] = Err PermissionDenied
emptied tree directory (step ∷ _) = elim (directory_at tree directory).entries [
  | [] ↦ Ok (removed_directory step.above step.name directory tree)
  | entry ∷ entries ↦ Err NotEmpty
]

abbrev pub directory_removed : Tree → Leads → Result Tree PathFault
directory_removed tree (ToDirectory place) = emptied tree place.here place.steps
directory_removed tree (ToFile _ _ _) = Err NotDirectory
directory_removed tree (ToLink _ _ _) = Err NotDirectory
directory_removed tree (ToNothing _ _) = Err NotFound
directory_removed tree (Refused fault) = Err fault

-- `rmdir`: removes an empty directory
abbrev pub rmdir : Tree → (capability : ℕ) → (path : List ℕ) → Result Tree PathFault
rmdir tree capability path = directory_removed tree (resolve tree capability path false)

abbrev pub kind_found : Leads → Result PathKind PathFault
kind_found (ToDirectory _) = Ok kinds.Dir
kind_found (ToFile _ _ _) = Ok kinds.File
kind_found (ToLink _ _ _) = Ok kinds.Link
kind_found (ToNothing _ _) = Err NotFound
kind_found (Refused fault) = Err fault

-- `kind`: what stands at a path
abbrev pub kind : Tree → (capability : ℕ) → (path : List ℕ) → Result PathKind PathFault
kind tree capability path = kind_found (resolve tree capability path false)

-- how a kind is written
abbrev pub kind_text : PathKind → List ℕ
kind_text kinds.File = codes "file"
kind_text kinds.Dir = codes "dir"
kind_text kinds.Link = codes "link"

-- the tree after a call that may change it: a refused one leaves it
abbrev pub tree_after : Tree → Result Tree PathFault → Tree
tree_after tree (Ok next) = next
tree_after tree (Err _) = tree

-- the target of the link that stands right in a directory under this name, where there is one
abbrev pub link_target : Tree → (directory : ℕ) → (name : List ℕ) → Option (List ℕ)
link_target tree directory name = elim (held_by (directory_at tree directory).entries name) [
  | Some (Link target) ↦ Some target
  | _ ↦ None
]
