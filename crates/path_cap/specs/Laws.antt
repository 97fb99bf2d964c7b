-- What holds of every path call through a capability, whatever the tree, its links and the path.
use Rattle.std.specs.Prelude.{◌≡◌, ℕ, Bool, List, Some, None, Ok, Err}
use Rattle.eio_value.specs.declared.plain.PathFault.{PathFault}
use Rattle.spec_parts.specs.Directories.{Tree, File, Link, directory_at, held_by}
use Rattle.spec_parts.specs.Walk.{Leads, ToDirectory, ToFile, ToLink, ToNothing, Refused, resolve}
use Rattle.spec_parts.specs.PathCalls.{open_dir}
use Rattle.path_cap.specs.Below.{IsBelow, IsWay, KeepsOutside}
use Rattle.path_cap.specs.Changes.{Change, answer, after}

-- where a path leads, a directory lies at or below the top: the one that it leads to, with the steps that lead there from the top,
-- or the one in which the file, the link or nothing stands under the name
abbrev pub LeadsBelow : Tree → (top : ℕ) → Leads → Type 0
LeadsBelow tree top (ToDirectory place) = IsBelow tree top place.here × IsWay tree top place.here place.steps
LeadsBelow tree top (ToFile above name content) = IsBelow tree top above × (held_by (directory_at tree above).entries name ≡ Some (File content))
LeadsBelow tree top (ToLink above name target) = IsBelow tree top above × (held_by (directory_at tree above).entries name ≡ Some (Link target))
LeadsBelow tree top (ToNothing above name) = IsBelow tree top above × (held_by (directory_at tree above).entries name ≡ None)
LeadsBelow tree top (Refused fault) = Unit {0}

-- a path leads nowhere but at or below the capability's directory
abbrev pub LeadsStayBelow : Type 0
LeadsStayBelow = (tree : Tree) (capability : ℕ) (path : List ℕ) (follow : Bool) → LeadsBelow tree capability (resolve tree capability path follow)

-- so a capability that was opened through another names a directory at or below that one's
abbrev pub OpensBelow : Type 0
OpensBelow = (tree : Tree) (capability : ℕ) (path : List ℕ) (directory : ℕ) → open_dir tree capability path ≡ Ok directory → IsBelow tree capability directory

-- a call changes no directory of the tree that lies neither at nor below the capability's
abbrev pub ChangesStayBelow : Type 0
ChangesStayBelow = (tree : Tree) (capability : ℕ) (change : Change) → KeepsOutside tree capability (after tree capability change)

-- a call that is refused leaves the tree as it was
abbrev pub RefusedChangesNothing : Type 0
RefusedChangesNothing = (tree : Tree) (capability : ℕ) (change : Change) (fault : PathFault) → answer tree capability change ≡ Err fault → after tree capability change ≡ tree
