-- An entry is put where its name comes in the order of bytes, so names stand in order after each change.
use Rattle.std.proofs.Common.{◌≡◌, ℕ, zero, suc, Bool, true, false, cond, List, [], ◌∷◌, ◌++◌, length, Ok, Err, refl, ap, ◌∙◌}
use Rattle.std.specs.Prelude.{Result, slice_set, filter, not, bytes_eq}
use Rattle.std.specs.declared.cmp.Ordering.{Ordering}
use Rattle.std.specs.declared.cmp.Ordering.TheVariants.{Less, Equal, Greater}
use Rattle.std.specs.Ordering.{nat_cmp, ordering_reverse}
use Rattle.std.specs.Cmp.Lexicographic.{slice_cmp, nat_list_cmp_total}
use Rattle.eio_value.specs.Directory as scripted
use Rattle.eio_value.specs.declared.plain.PathFault.{PathFault}
use Rattle.eio_value.specs.declared.plain.PathFault.TheVariants.{NotEmpty}
use Rattle.spec_parts.specs.Directories.{Tree, Held, File, Link, Inner, Entry, Directory, entry, directory, directory_at, gone, with_entry, put, dropped, put_directory, removed_directory, placed, placed_item}
use Rattle.spec_parts.specs.Walk.{Step, Leads, ToDirectory, ToFile, ToLink, ToNothing, Refused, resolve}
use Rattle.spec_parts.specs.PathCalls.{saved, made, unlinked, emptied, directory_removed, tree_after}
use Rattle.path_cap.specs.Changes.{Change, Save, SaveNew, Mkdir, Unlink, Rmdir, after}
use Rattle.path_cap.specs.Order.{ComesFirst, IsInOrder, AreInOrder}

first_before : (a b : List ℕ) (entries : List Entry) → slice_cmp nat_cmp a b ≡ Less → ComesFirst b entries → ComesFirst a entries
first_before a b [] less first = tt
first_before a b (e ∷ entries) less first = (nat_list_cmp_total.trans a b e.name less first.0, first_before a b entries less first.1)

first_alike : (a b : List ℕ) (entries : List Entry) → slice_cmp nat_cmp a b ≡ Equal → ComesFirst b entries → ComesFirst a entries
first_alike a b [] same first = tt
first_alike a b (e ∷ entries) same first = (nat_list_cmp_total.congr a b e.name same ∙ first.0, first_alike a b entries same first.1)

-- an entry put before others, by how the first of them compares
abbrev put_before : (new old : Entry) (others : List Entry) → Ordering → List Entry
put_before new old others compared = elim compared [ Less ↦ new ∷ old ∷ others | Equal ↦ new ∷ others | Greater ↦ old ∷ with_entry new others ]

first_with : (name : List ℕ) (new : Entry) (entries : List Entry) → slice_cmp nat_cmp name new.name ≡ Less → ComesFirst name entries → ComesFirst name (with_entry new entries)
first_with name new [] less first = (less, tt)
first_with name new (old ∷ others) less first =
    elim (slice_cmp nat_cmp new.name old.name) as (λ compared. ComesFirst name (put_before new old others compared)) [
      | Less ↦ (less, first)
      | Equal ↦ (less, first.1)
      | Greater ↦ (first.0, first_with name new others less first.1)
    ]

with_in_order : (new : Entry) (entries : List Entry) → IsInOrder entries → IsInOrder (with_entry new entries)
with_in_order new [] order = (tt, tt)
with_in_order new (old ∷ others) order =
    (elim (slice_cmp nat_cmp new.name old.name) as (λ compared. slice_cmp nat_cmp new.name old.name ≡ compared → IsInOrder (put_before new old others compared)) [
      | Less ↦ λ is. ((is, first_before new.name old.name others is order.0), order)
      | Equal ↦ λ is. (first_alike new.name old.name others is order.0, order.1)
      | Greater ↦ λ is. (first_with old.name new others (nat_list_cmp_total.antisymm old.name new.name ∙ ap ordering_reverse is) order.0, with_in_order new others order.1)
    ]) refl

first_of_some : (name : List ℕ) (test : Entry → Bool) (entries : List Entry) → ComesFirst name entries → ComesFirst name (filter test entries)
first_of_some name test [] first = tt
first_of_some name test (e ∷ entries) first =
    elim (test e) as (λ kept. ComesFirst name (cond kept (e ∷ filter test entries) (filter test entries))) [
      | true ↦ (first.0, first_of_some name test entries first.1)
      | false ↦ first_of_some name test entries first.1
    ]

some_in_order : (test : Entry → Bool) (entries : List Entry) → IsInOrder entries → IsInOrder (filter test entries)
some_in_order test [] order = tt
some_in_order test (e ∷ entries) order =
    elim (test e) as (λ kept. IsInOrder (cond kept (e ∷ filter test entries) (filter test entries))) [
      | true ↦ (first_of_some e.name test entries order.0, some_in_order test entries order.1)
      | false ↦ some_in_order test entries order.1
    ]

-- ## Trees

set_in_order : (tree : Tree) (at : ℕ) (new : Directory) → IsInOrder new.entries → AreInOrder tree → (d : ℕ) → IsInOrder (directory_at (slice_set tree at new) d).entries
set_in_order [] at new own order d = order d
set_in_order (x ∷ xs) zero new own order zero = own
set_in_order (x ∷ xs) zero new own order (suc d) = order (suc d)
set_in_order (x ∷ xs) (suc at) new own order zero = order 0
set_in_order (x ∷ xs) (suc at) new own order (suc d) = set_in_order xs at new own (λ k. order (suc k)) d

more_in_order : (tree : Tree) (new : Directory) → IsInOrder new.entries → AreInOrder tree → (d : ℕ) → IsInOrder (directory_at (tree ++ new ∷ []) d).entries
more_in_order [] new own order zero = own
more_in_order [] new own order (suc d) = tt
more_in_order (x ∷ xs) new own order zero = order 0
more_in_order (x ∷ xs) new own order (suc d) = more_in_order xs new own (λ k. order (suc k)) d

put_in_order : (at : ℕ) (name : List ℕ) (held : Held) (tree : Tree) → AreInOrder tree → AreInOrder (put at name held tree)
put_in_order at name held tree order = set_in_order tree at _ (with_in_order (entry name held) (directory_at tree at).entries (order at)) order

dropped_in_order : (at : ℕ) (name : List ℕ) (tree : Tree) → AreInOrder tree → AreInOrder (dropped at name tree)
dropped_in_order at name tree order = set_in_order tree at _ (some_in_order (λ e. not (bytes_eq e.name name)) (directory_at tree at).entries (order at)) order

directory_in_order : (at : ℕ) (name : List ℕ) (tree : Tree) → AreInOrder tree → AreInOrder (put_directory at name tree)
directory_in_order at name tree order = put_in_order at name (Inner (length tree)) (tree ++ directory [] ∷ []) (more_in_order tree (directory []) tt order)

removed_in_order : (at : ℕ) (name : List ℕ) (inner : ℕ) (tree : Tree) → AreInOrder tree → AreInOrder (removed_directory at name inner tree)
removed_in_order at name inner tree order = set_in_order (dropped at name tree) inner gone tt (dropped_in_order at name tree order)

placed_in_order : (items : scripted.Directory) (at : ℕ) (tree : Tree) → AreInOrder tree → AreInOrder (placed items at tree)
unfolding placed placed_item
placed_in_order scripted.Empty at tree order = order
placed_in_order (scripted.And (scripted.File name content) rest) at tree order = placed_in_order rest at (put at name (File content) tree) (put_in_order at name (File content) tree order)
placed_in_order (scripted.And (scripted.Link name target) rest) at tree order = placed_in_order rest at (put at name (Link target) tree) (put_in_order at name (Link target) tree order)
placed_in_order (scripted.And (scripted.Sub name inner) rest) at tree order =
    placed_in_order rest at (placed inner (length tree) (put_directory at name tree)) (placed_in_order inner (length tree) (put_directory at name tree) (directory_in_order at name tree order))

no_names : AreInOrder (directory [] ∷ [])
no_names zero = tt
no_names (suc d) = tt

pub declared_in_order : (items : scripted.Directory) → AreInOrder (placed items 0 (directory [] ∷ []))
declared_in_order items = placed_in_order items 0 (directory [] ∷ []) no_names

-- ## Calls

abbrev IsAnsweredInOrder : Tree → Result Tree PathFault → Type 0
IsAnsweredInOrder tree answered = AreInOrder (tree_after tree answered)

saved_in_order : (content : List ℕ) (tree : Tree) (leads : Leads) → AreInOrder tree → IsAnsweredInOrder tree (saved content tree leads)
saved_in_order content tree (ToDirectory place) order = order
saved_in_order content tree (ToFile above name old) order = put_in_order above name (File content) tree order
saved_in_order content tree (ToLink above name target) order = put_in_order above name (File content) tree order
saved_in_order content tree (ToNothing above name) order = put_in_order above name (File content) tree order
saved_in_order content tree (Refused fault) order = order

made_in_order : (tree : Tree) (making : ℕ → List ℕ → Tree) (leads : Leads) → ((above : ℕ) (name : List ℕ) → AreInOrder (making above name)) → AreInOrder tree → IsAnsweredInOrder tree (made making leads)
made_in_order tree making (ToDirectory place) making_keeps order = order
made_in_order tree making (ToFile above name old) making_keeps order = order
made_in_order tree making (ToLink above name target) making_keeps order = order
made_in_order tree making (ToNothing above name) making_keeps order = making_keeps above name
made_in_order tree making (Refused fault) making_keeps order = order

unlinked_in_order : (tree : Tree) (leads : Leads) → AreInOrder tree → IsAnsweredInOrder tree (unlinked tree leads)
unlinked_in_order tree (ToDirectory place) order = order
unlinked_in_order tree (ToFile above name old) order = dropped_in_order above name tree order
unlinked_in_order tree (ToLink above name target) order = dropped_in_order above name tree order
unlinked_in_order tree (ToNothing above name) order = order
unlinked_in_order tree (Refused fault) order = order

emptied_in_order : (tree : Tree) (inner : ℕ) (steps : List Step) → AreInOrder tree → IsAnsweredInOrder tree (emptied tree inner steps)
emptied_in_order tree inner [] order = order
emptied_in_order tree inner (step ∷ steps) order =
    elim (directory_at tree inner).entries as (λ entries. IsAnsweredInOrder tree (elim entries [ [] ↦ Ok (removed_directory step.above step.name inner tree) | e ∷ es ↦ Err NotEmpty ])) [
      | [] ↦ removed_in_order step.above step.name inner tree order
      | e ∷ es ↦ order
    ]

directory_removed_in_order : (tree : Tree) (leads : Leads) → AreInOrder tree → IsAnsweredInOrder tree (directory_removed tree leads)
directory_removed_in_order tree (ToDirectory place) order = emptied_in_order tree place.here place.steps order
directory_removed_in_order tree (ToFile above name old) order = order
directory_removed_in_order tree (ToLink above name target) order = order
directory_removed_in_order tree (ToNothing above name) order = order
directory_removed_in_order tree (Refused fault) order = order

pub change_in_order : (tree : Tree) (top : ℕ) (change : Change) → AreInOrder tree → AreInOrder (after tree top change)
change_in_order tree top (Save path content) order = saved_in_order content tree (resolve tree top path true) order
change_in_order tree top (SaveNew path content) order =
    made_in_order tree (λ above name. put above name (File content) tree) (resolve tree top path false) (λ above name. put_in_order above name (File content) tree order) order
change_in_order tree top (Mkdir path) order =
    made_in_order tree (λ above name. put_directory above name tree) (resolve tree top path false) (λ above name. directory_in_order above name tree order) order
change_in_order tree top (Unlink path) order = unlinked_in_order tree (resolve tree top path false) order
change_in_order tree top (Rmdir path) order = directory_removed_in_order tree (resolve tree top path false) order
