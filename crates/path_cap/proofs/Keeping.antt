-- A call changes directories that lie at or below the capability's alone.
use Rattle.std.proofs.Common.{◌≡◌, ◌≢◌, ℕ, ◌<◌, true, false, List, [], ◌∷◌, ◌++◌, length, get_or, Ok, Err, refl, sym, ◌∙◌, subst, ap}
use Rattle.std.proofs.lemmas.List.{get_or-set_other, get_or_append_left}
use Rattle.std.proofs.lemmas.Option.{unwrap_or-slice_get}
use Rattle.std.specs.Prelude.{Result, slice_set, OnOk, OnErr}
use Rattle.eio_value.specs.declared.plain.PathFault.{PathFault}
use Rattle.eio_value.specs.declared.plain.PathFault.TheVariants.{NotEmpty}
use Rattle.spec_parts.specs.Directories.{Tree, File, Directory, directory, directory_at, gone, put, dropped, put_directory, removed_directory}
use Rattle.spec_parts.specs.Walk.{Step, Leads, ToDirectory, ToFile, ToLink, ToNothing, Refused, resolve}
use Rattle.spec_parts.specs.PathCalls.{saved, made, unlinked, emptied, directory_removed, tree_after}
use Rattle.path_cap.specs.Below.{IsBelow, IsWay, KeepsOutside}
use Rattle.path_cap.specs.Changes.{Change, Save, SaveNew, Mkdir, Unlink, Rmdir, after, answer}
use Rattle.path_cap.specs.Laws.{LeadsBelow}
use Rattle.path_cap.proofs.Ways.{way_is_below, resolve_below}

directory_at_is : (tree : Tree) (at : ℕ) → directory_at tree at ≡ get_or tree at gone
directory_at_is tree at = unwrap_or-slice_get tree at gone

pub other_kept : (tree : Tree) (at : ℕ) (new : Directory) (d : ℕ) → d ≢ at → directory_at (slice_set tree at new) d ≡ directory_at tree d
other_kept tree at new d ne = directory_at_is (slice_set tree at new) d ∙ (get_or-set_other tree at d new gone ne ∙ sym (directory_at_is tree d))

pub old_kept : (tree : Tree) (new : Directory) (d : ℕ) → d < length tree → directory_at (tree ++ new ∷ []) d ≡ directory_at tree d
old_kept tree new d old = directory_at_is (tree ++ new ∷ []) d ∙ (get_or_append_left tree (new ∷ []) gone d old ∙ sym (directory_at_is tree d))

-- a directory that lies outside is none that lies at or below
apart : (tree : Tree) (top d at : ℕ) → (IsBelow tree top d → ⊥) → IsBelow tree top at → d ≢ at
apart tree top d at outside below same = outside (subst (λ x. IsBelow tree top x) (sym same) below)

-- the directory is the same after this answer
abbrev Keeps : Tree → (d : ℕ) → Result Tree PathFault → Type 0
Keeps tree d answered = directory_at (tree_after tree answered) d ≡ directory_at tree d

saved_keeps : (tree : Tree) (top d : ℕ) (content : List ℕ) (leads : Leads) → (IsBelow tree top d → ⊥) → LeadsBelow tree top leads → Keeps tree d (saved content tree leads)
saved_keeps tree top d content (ToDirectory place) outside below = refl
saved_keeps tree top d content (ToFile above name old) outside below = other_kept tree above _ d (apart tree top d above outside below.0)
saved_keeps tree top d content (ToLink above name target) outside below = other_kept tree above _ d (apart tree top d above outside below.0)
saved_keeps tree top d content (ToNothing above name) outside below = other_kept tree above _ d (apart tree top d above outside below.0)
saved_keeps tree top d content (Refused fault) outside below = refl

made_keeps : (tree : Tree) (top d : ℕ) (making : ℕ → List ℕ → Tree) (leads : Leads) → ((above : ℕ) (name : List ℕ) → d ≢ above → directory_at (making above name) d ≡ directory_at tree d) → (IsBelow tree top d → ⊥) → LeadsBelow tree top leads → Keeps tree d (made making leads)
made_keeps tree top d making (ToDirectory place) kept outside below = refl
made_keeps tree top d making (ToFile above name old) kept outside below = refl
made_keeps tree top d making (ToLink above name target) kept outside below = refl
made_keeps tree top d making (ToNothing above name) kept outside below = kept above name (apart tree top d above outside below.0)
made_keeps tree top d making (Refused fault) kept outside below = refl

unlinked_keeps : (tree : Tree) (top d : ℕ) (leads : Leads) → (IsBelow tree top d → ⊥) → LeadsBelow tree top leads → Keeps tree d (unlinked tree leads)
unlinked_keeps tree top d (ToDirectory place) outside below = refl
unlinked_keeps tree top d (ToFile above name old) outside below = other_kept tree above _ d (apart tree top d above outside below.0)
unlinked_keeps tree top d (ToLink above name target) outside below = other_kept tree above _ d (apart tree top d above outside below.0)
unlinked_keeps tree top d (ToNothing above name) outside below = refl
unlinked_keeps tree top d (Refused fault) outside below = refl

removed_keeps : (tree : Tree) (above : ℕ) (name : List ℕ) (inner d : ℕ) → d ≢ above → d ≢ inner → directory_at (removed_directory above name inner tree) d ≡ directory_at tree d
removed_keeps tree above name inner d not_above not_inner = other_kept (dropped above name tree) inner gone d not_inner ∙ other_kept tree above _ d not_above

emptied_keeps : (tree : Tree) (top d inner : ℕ) (steps : List Step) → (IsBelow tree top d → ⊥) → IsBelow tree top inner → IsWay tree top inner steps → Keeps tree d (emptied tree inner steps)
emptied_keeps tree top d inner [] outside below way = refl
emptied_keeps tree top d inner (step ∷ steps) outside below way =
    elim (directory_at tree inner).entries as (λ entries. Keeps tree d (elim entries [ [] ↦ Ok (removed_directory step.above step.name inner tree) | entry ∷ entries ↦ Err NotEmpty ])) [
      | [] ↦ removed_keeps tree step.above step.name inner d (apart tree top d step.above outside (way_is_below tree top step.above steps way.1)) (apart tree top d inner outside below)
      | entry ∷ entries ↦ refl
    ]

directory_removed_keeps : (tree : Tree) (top d : ℕ) (leads : Leads) → (IsBelow tree top d → ⊥) → LeadsBelow tree top leads → Keeps tree d (directory_removed tree leads)
directory_removed_keeps tree top d (ToDirectory place) outside below = emptied_keeps tree top d place.here place.steps outside below.0 below.1
directory_removed_keeps tree top d (ToFile above name old) outside below = refl
directory_removed_keeps tree top d (ToLink above name target) outside below = refl
directory_removed_keeps tree top d (ToNothing above name) outside below = refl
directory_removed_keeps tree top d (Refused fault) outside below = refl

directory_made_keeps : (tree : Tree) (d : ℕ) → d < length tree → (above : ℕ) (name : List ℕ) → d ≢ above → directory_at (put_directory above name tree) d ≡ directory_at tree d
directory_made_keeps tree d old above name ne = other_kept (tree ++ directory [] ∷ []) above _ d ne ∙ old_kept tree (directory []) d old

change_keeps : (tree : Tree) (top : ℕ) (change : Change) (d : ℕ) → d < length tree → (IsBelow tree top d → ⊥) → directory_at (after tree top change) d ≡ directory_at tree d
change_keeps tree top (Save path content) d old outside = saved_keeps tree top d content (resolve tree top path true) outside (resolve_below tree top path true)
change_keeps tree top (SaveNew path content) d old outside =
    made_keeps tree top d (λ above name. put above name (File content) tree) (resolve tree top path false) (λ above name ne. other_kept tree above _ d ne) outside (resolve_below tree top path false)
change_keeps tree top (Mkdir path) d old outside =
    made_keeps tree top d (λ above name. put_directory above name tree) (resolve tree top path false) (directory_made_keeps tree d old) outside (resolve_below tree top path false)
change_keeps tree top (Unlink path) d old outside = unlinked_keeps tree top d (resolve tree top path false) outside (resolve_below tree top path false)
change_keeps tree top (Rmdir path) d old outside = directory_removed_keeps tree top d (resolve tree top path false) outside (resolve_below tree top path false)

pub changes_keep : (tree : Tree) (top : ℕ) (change : Change) → KeepsOutside tree top (after tree top change)
changes_keep tree top change = record { same = λ d old outside. change_keeps tree top change d old outside }

-- so does the tree that a call answers
pub answered_keeps : (tree new : Tree) (top : ℕ) (change : Change) → answer tree top change ≡ Ok new → KeepsOutside tree top new
answered_keeps tree new top change is = subst (λ answered. KeepsOutside tree top (tree_after tree answered)) is (changes_keep tree top change)

-- and a tree that is as it was
pub unchanged_keeps : (tree new : Tree) (top : ℕ) → new ≡ tree → KeepsOutside tree top new
unchanged_keeps tree new top is = record { same = λ d old outside. ap (λ (t : Tree). directory_at t d) is }

-- whichever of the two it is
pub either_keeps : {E : Type 0} (tree new : Tree) (top : ℕ) (change : Change) (r : Result (Unit {0}) E) → OnOk r (answer tree top change ≡ Ok new) → OnErr r (new ≡ tree) → KeepsOutside tree top new
either_keeps tree new top change (Ok done) ok err = answered_keeps tree new top change ok
either_keeps tree new top change (Err fault) ok err = unchanged_keeps tree new top err
