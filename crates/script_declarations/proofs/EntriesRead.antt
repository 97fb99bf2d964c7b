-- The entries of a directory, one by one as the code reads them.
use Rattle.std.proofs.Common.{◌≡◌, ℕ, ◌+◌, ◌<◌, ◌≤◌, List, [], ◌∷◌, ◌++◌, length, map, drop, get_or, min, Bool, true, false, Some, None, Result, Ok, Err, refl, ap, sym, ◌∙◌, arith}
use Rattle.std.specs.Prelude.{◌||◌}
use Rattle.std.proofs.lemmas.Grind.{common_steps}
use Rattle.std.specs.List.{list_any}
use Rattle.std.specs.Str.{bytes_eq}
use Rattle.eio_value.specs.Directory as directory
use Rattle.eio_value.specs.Directory.{Directory, Empty}
use Rattle.eio_value.specs.EntriesInside.{item_of, directory_of}
use Rattle.eio_value.specs.declared.entry.Entry.{Entry}
use Rattle.spec_script.specs.Entries.{entry, entry_by, entry_head, entries}
use Rattle.spec_script.specs.Faults as model
use Rattle.spec_script.specs.Results.{◌>>=◌}
use Rattle.spec_script.specs.Reads.{Made, ◌>>>◌, gives, one_entry}
use Rattle.spec_script.specs.Trees.{Tree, Word, Number, Text, Branch, Trees, Nil, And, place_of}
use Rattle.script_tree.specs.Pieces.{Piece, first_tree}
use Rattle.script_draft.specs.Ahead.{ahead, rest_of, has_tree, tree_ahead, tree_count, form_at, IsPast, IsInForm}
use Rattle.script_draft.specs.Drafts.{Drafted, made_of}
use Rattle.script_declarations.specs.EntriesRead.{head_of, takes, own_name, names_onto, names_in, listed, named}
use Rattle.script_forms.specs.Faults.{Fails}
use Rattle.script_draft.specs.Readings.{Makes}
use Rattle.script_declarations.specs.declared.entries.EntryHead.{EntryHead}
use Rattle.script_declarations.specs.declared.entries.EntryHead.TheVariants as head
use Rattle.std.proofs.lemmas.Bool.{false≢true}
use Rattle.std.proofs.lemmas.Bool.Decides.{nat_tests}
use Rattle.script_declarations.proofs.DeclarationsRead.{makes_same}
use Rattle.script_forms.specs.declared.fault.ScriptFault.{ScriptFault}
use Rattle.script_draft.proofs.Steps.{fails_first}
use Rattle.script_draft.proofs.Counts.{next_here, next_passed, has_none}

-- ## Names

swapped : (x a b : Bool) → (a || (x || b)) ≡ ((x || a) || b)
swapped true true b = refl
swapped true false b = refl
swapped false true b = refl
swapped false false b = refl

any_onto : (p : List ℕ → Bool) (names : List (List ℕ)) (before : List Entry) → list_any p (names_onto names before) ≡ (list_any p (map own_name before) || list_any p names)
unfolding names_onto
any_onto p names [] = refl
any_onto p names (it ∷ before) = any_onto p (own_name it ∷ names) before ∙ swapped (p (own_name it)) (list_any p (map own_name before)) (list_any p names)

or_none : (b : Bool) → (b || false) ≡ b
or_none true = refl
or_none false = refl

-- the order of names is of no matter
pub any_in : (name : List ℕ) (before : List Entry) → list_any (bytes_eq name) (names_in before) ≡ list_any (bytes_eq name) (map own_name before)
any_in name before = any_onto (bytes_eq name) [] before ∙ or_none (list_any (bytes_eq name) (map own_name before))

names_more : (names : List (List ℕ)) (before : List Entry) (it : Entry) → names_onto names (before ++ it ∷ []) ≡ own_name it ∷ names_onto names before
unfolding names_onto
names_more names [] it = refl
names_more names (other ∷ before) it = names_more (own_name other ∷ names) before it

-- ## A name among these

at_front : (before : List Entry) (name : List ℕ) (i : ℕ) (it d : Entry) → i < length before → it ≡ get_or before i d → list_any (bytes_eq name) (map own_name (drop i before)) ≡ (bytes_eq name (own_name it) || list_any (bytes_eq name) (map own_name (drop (i + 1) before)))
at_front before name i it d less e =
    let split : drop i before ≡ get_or before i d ∷ drop (i + 1) before = grind (arith, common_steps) in
    rw (split, ← e) refl

pub name_stops : (before : List Entry) (name : List ℕ) (i : ℕ) (it d : Entry) (found : Bool) {own : List ℕ} → i < length before → it ≡ get_or before i d → own_name it ≡ own → bytes_eq name own ≡ true → list_any (bytes_eq name) (map own_name (drop i before)) ≡ found → true ≡ found
name_stops before name i it d found less e own same known = sym (at_front before name i it d less e ∙ rw (own, same) refl) ∙ known

pub name_goes : (before : List Entry) (name : List ℕ) (i : ℕ) (it d : Entry) (found : Bool) {own : List ℕ} → i < length before → it ≡ get_or before i d → own_name it ≡ own → bytes_eq name own ≡ false → list_any (bytes_eq name) (map own_name (drop i before)) ≡ found → list_any (bytes_eq name) (map own_name (drop (i + 1) before)) ≡ found
name_goes before name i it d found less e own other known = sym (at_front before name i it d less e ∙ rw (own, other) refl) ∙ known

pub name_nowhere : (before : List Entry) (name : List ℕ) (i : ℕ) (found : Bool) → length before ≤ i → list_any (bytes_eq name) (map own_name (drop i before)) ≡ found → false ≡ found
name_nowhere before name i found most known =
    let none : drop i before ≡ [] = grind (arith, common_steps) in
    sym (ap (λ (rest : List Entry). list_any (bytes_eq name) (map own_name rest)) none) ∙ known

-- ## The loop over entries

listed_more : (before : List Entry) (it : Entry) (others : Directory) → listed (before ++ it ∷ []) others ≡ listed before (directory.And (item_of it) others)
unfolding listed
listed_more [] it others = refl
listed_more (other ∷ before) it others = ap (λ rest. directory.And (item_of other) rest) (listed_more before it others)

listed_end : (before : List Entry) → listed before Empty ≡ directory_of before
unfolding listed
listed_end [] = refl
listed_end (other ∷ before) = ap (λ rest. directory.And (item_of other) rest) (listed_end before)

one_before : (before : List Entry) (it : Entry) (rest : Result (Directory × Made) model.ScriptFault) → ((rest >>= λ found. gives (directory.And (item_of it) found.0) found.1) >>= λ found. gives (listed before found.0) found.1) ≡ (rest >>= λ found. gives (listed (before ++ it ∷ []) found.0) found.1)
one_before before it (Ok found) = ap (λ all. gives all found.1) (sym (listed_more before it found.0))
one_before before it (Err f) = refl

pub nothing_before : (rest : Result (Directory × Made) model.ScriptFault) → rest ≡ (rest >>= λ found. gives (listed [] found.0) found.1)
unfolding listed
nothing_before (Ok found) = refl
nothing_before (Err f) = refl

refused_at : (before : List Entry) (tree : Tree) (row : Trees) (made : Made) (f : ScriptFault) → Fails f (entry (names_in before) tree made) → Fails f ((entries (names_in before) (And tree row) >>> λ others. gives (listed before others)) made)
unfolding entries
refused_at before tree row made f fails = fails_first f (entries (names_in before) (And tree row) made) _ (fails_first f (entry (names_in before) tree made) _ fails)

-- the entry that comes next was refused
pub entry_refused : (before : List Entry) (whole : Result (Directory × Made) model.ScriptFault) (ps : List Piece) (made : Made) (f : ScriptFault) → has_tree ps ≡ true → Fails f (entry (names_in before) (tree_ahead ps) made) → whole ≡ (entries (names_in before) (ahead ps) >>> λ others. gives (listed before others)) made → Fails f whole
entry_refused before whole ps made f some fails e = rw (e, next_here ps some) (refused_at before (tree_ahead ps) (rest_of (ahead ps)) made f fails)

taken_at : (before : List Entry) (tree : Tree) (row : Trees) (made then : Made) (it : Entry) → entry (names_in before) tree made ≡ Ok (item_of it, then) → (entries (names_in before) (And tree row) >>> λ others. gives (listed before others)) made ≡ (entries (own_name it ∷ names_in before) row >>> λ others. gives (listed (before ++ it ∷ []) others)) then
unfolding entries
taken_at before tree row made then it read = rw read (one_before before it (entries (own_name it ∷ names_in before) row then))

-- it was read
pub entry_taken : (before : List Entry) (whole : Result (Directory × Made) model.ScriptFault) (ps new : List Piece) (made then : Made) (it : Entry) → has_tree ps ≡ true → IsPast ps new → entry (names_in before) (tree_ahead ps) made ≡ Ok (item_of it, then) → whole ≡ (entries (names_in before) (ahead ps) >>> λ others. gives (listed before others)) made → whole ≡ (entries (names_in (before ++ it ∷ [])) (ahead new) >>> λ others. gives (listed (before ++ it ∷ []) others)) then
entry_taken before whole ps new made then it some past read e =
    e
    ∙ ap (λ row. (entries (names_in before) row >>> λ others. gives (listed before others)) made) (next_passed ps new some past)
    ∙ taken_at before (tree_ahead ps) (ahead new) made then it read
    ∙ ap (λ names. (entries names (ahead new) >>> λ others. gives (listed (before ++ it ∷ []) others)) then) (sym (names_more [] before it))

-- none comes
pub entries_end : (before : List Entry) (whole : Result (Directory × Made) model.ScriptFault) (ps : List Piece) (made : Made) → has_tree ps ≡ false → whole ≡ (entries (names_in before) (ahead ps) >>> λ others. gives (listed before others)) made → whole ≡ Ok (directory_of before, made)
unfolding entries
entries_end before whole ps made none e = e ∙ ap (λ row. (entries (names_in before) row >>> λ others. gives (listed before others)) made) (has_none ps none) ∙ ap (λ all. gives all made) (listed_end before)

-- ## One entry

tree_in : (at : ℕ) (word : List ℕ) (old new : List Piece) (inside : IsInForm at word old new) → tree_ahead old ≡ Branch at (And (Word inside.place word) (ahead new))
tree_in at word old new inside = ap first_tree inside.tree

-- no form fits
pub entry_shapeless : (names : List (List ℕ)) (tree : Tree) (made : Made) (at : ℕ) → form_at tree ≡ None → at ≡ place_of tree → entry names tree made ≡ Err (model.Shape at)
unfolding entry
entry_shapeless names (Word a w) made at e p = rw p refl
entry_shapeless names (Number a z) made at e p = rw p refl
entry_shapeless names (Text a w) made at e p = rw p refl
entry_shapeless names (Branch a Nil) made at e p = rw p refl
entry_shapeless names (Branch a (And (Word place w) row)) made at e p = cc
entry_shapeless names (Branch a (And (Number place z) row)) made at e p = rw p refl
entry_shapeless names (Branch a (And (Text place w) row)) made at e p = rw p refl
entry_shapeless names (Branch a (And (Branch place inner) row)) made at e p = rw p refl

by_word : (names : List (List ℕ)) (at : ℕ) (word : List ℕ) (old new : List Piece) (made : Made) → IsInForm at word old new → entry names (tree_ahead old) made ≡ entry_by names at (entry_head word) (ahead new) made
unfolding entry
by_word names at word old new made inside = rw (tree_in at word old new inside) refl

same_place : (at place : ℕ) (word : List ℕ) (old new : List Piece) → place ≡ place_of (tree_ahead old) → IsInForm at word old new → at ≡ place
same_place at place word old new p inside = sym (p ∙ ap place_of (tree_in at word old new inside))

unknown_by : (names : List (List ℕ)) (at : ℕ) (items : Trees) (made : Made) → entry_by names at None items made ≡ Err (model.Shape at)
unfolding entry_by
unknown_by names at items made = refl

-- no such word
pub entry_unknown : (names : List (List ℕ)) (at place : ℕ) (word : List ℕ) (old new : List Piece) (made : Made) → IsInForm at word old new → place ≡ place_of (tree_ahead old) → None ≡ entry_head word → entry names (tree_ahead old) made ≡ Err (model.Shape place)
entry_unknown names at place word old new made inside p e =
    by_word names at word old new made inside
    ∙ ap (λ head. entry_by names at head (ahead new) made) (sym e)
    ∙ unknown_by names at (ahead new) made
    ∙ ap (λ n. Err (model.Shape n)) (same_place at place word old new p inside)

taken_whole : (it : EntryHead) (n : ℕ) → takes it (min 3 n) ≡ takes it n
taken_whole head.File n = grind (arith, nat_tests)
taken_whole head.Link n = grind (arith, nat_tests)
taken_whole head.Sub n = grind (arith, nat_tests)

misfit_by : (names : List (List ℕ)) (at : ℕ) (it : EntryHead) (items : Trees) (made : Made) → takes it (tree_count items) ≡ false → entry_by names at (Some (head_of it)) items made ≡ Err (model.Shape at)
unfolding entry_by
misfit_by names at head.File Nil made e = refl
misfit_by names at head.File (And a Nil) made e = refl
misfit_by names at head.File (And a (And b Nil)) made e = absurd (false≢true (sym e))
misfit_by names at head.File (And a (And b (And c row))) made e = refl
misfit_by names at head.Link Nil made e = refl
misfit_by names at head.Link (And a Nil) made e = refl
misfit_by names at head.Link (And a (And b Nil)) made e = absurd (false≢true (sym e))
misfit_by names at head.Link (And a (And b (And c row))) made e = refl
misfit_by names at head.Sub Nil made e = refl
misfit_by names at head.Sub (And a row) made e = absurd (grind (arith, nat_tests, e))

-- another number of items
pub entry_misfit : (names : List (List ℕ)) (at place : ℕ) (word : List ℕ) (it : EntryHead) (count : ℕ) (old new : List Piece) (made : Made) → IsInForm at word old new → place ≡ place_of (tree_ahead old) → Some (head_of it) ≡ entry_head word → count ≡ min 3 (tree_count (ahead new)) → takes it count ≡ false → entry names (tree_ahead old) made ≡ Err (model.Shape place)
entry_misfit names at place word it count old new made inside p e counted misfit =
    by_word names at word old new made inside
    ∙ ap (λ head. entry_by names at head (ahead new) made) (sym e)
    ∙ misfit_by names at it (ahead new) made (sym (taken_whole it (tree_count (ahead new))) ∙ ap (takes it) (sym counted) ∙ misfit)
    ∙ ap (λ n. Err (model.Shape n)) (same_place at place word old new p inside)

counted_by : (names : List (List ℕ)) (at : ℕ) (it : EntryHead) (items : Trees) (made : Made) → takes it (tree_count items) ≡ true → entry_by names at (Some (head_of it)) items made ≡ (one_entry at >>> λ _. named names it items) made
unfolding entry_by
counted_by names at head.File Nil made e = absurd (false≢true e)
counted_by names at head.File (And a Nil) made e = absurd (false≢true e)
counted_by names at head.File (And a (And b Nil)) made e = refl
counted_by names at head.File (And a (And b (And c row))) made e = absurd (grind (arith, nat_tests, e))
counted_by names at head.Link Nil made e = absurd (false≢true e)
counted_by names at head.Link (And a Nil) made e = absurd (false≢true e)
counted_by names at head.Link (And a (And b Nil)) made e = refl
counted_by names at head.Link (And a (And b (And c row))) made e = absurd (grind (arith, nat_tests, e))
counted_by names at head.Sub Nil made e = absurd (false≢true e)
counted_by names at head.Sub (And a row) made e = refl

counted_then : (names : List (List ℕ)) (at place : ℕ) (word : List ℕ) (it : EntryHead) (count : ℕ) (old new : List Piece) (made : Made) → IsInForm at word old new → place ≡ place_of (tree_ahead old) → Some (head_of it) ≡ entry_head word → count ≡ min 3 (tree_count (ahead new)) → takes it count ≡ true → entry names (tree_ahead old) made ≡ (one_entry place >>> λ _. named names it (ahead new)) made
counted_then names at place word it count old new made inside p e counted fit =
    by_word names at word old new made inside
    ∙ ap (λ head. entry_by names at head (ahead new) made) (sym e)
    ∙ counted_by names at it (ahead new) made (sym (taken_whole it (tree_count (ahead new))) ∙ ap (takes it) (sym counted) ∙ fit)
    ∙ ap (λ n. (one_entry n >>> λ _. named names it (ahead new)) made) (same_place at place word old new p inside)

-- one too many
pub entry_full : (names : List (List ℕ)) (at place : ℕ) (word : List ℕ) (it : EntryHead) (count : ℕ) (old new : List Piece) (made : Made) (f : ScriptFault) → IsInForm at word old new → place ≡ place_of (tree_ahead old) → Some (head_of it) ≡ entry_head word → count ≡ min 3 (tree_count (ahead new)) → takes it count ≡ true → Fails f (one_entry place made) → Fails f (entry names (tree_ahead old) made)
entry_full names at place word it count old new made f inside p e counted fit fails =
    rw (counted_then names at place word it count old new made inside p e counted fit) (fails_first f (one_entry place made) _ fails)

-- what stands behind its word was read
pub entry_read : {X : Type 0} (view : X → directory.Item) (r : Result X ScriptFault) (names : List (List ℕ)) (at place : ℕ) (word : List ℕ) (it : EntryHead) (count : ℕ) (here new : List Piece) (old mid then : Drafted) (unit : Unit {0}) → IsInForm at word here new → place ≡ place_of (tree_ahead here) → Some (head_of it) ≡ entry_head word → count ≡ min 3 (tree_count (ahead new)) → takes it count ≡ true → one_entry place (made_of old) ≡ Ok (unit, made_of mid) → mid.nodes ≡ old.nodes → Makes view r (named names it (ahead new)) mid then → Makes view r (entry names (tree_ahead here)) old then
entry_read view r names at place word it count here new old mid then unit inside p e counted fit one nodes read =
    let same : entry names (tree_ahead here) (made_of old) ≡ named names it (ahead new) (made_of mid) = counted_then names at place word it count here new (made_of old) inside p e counted fit ∙ ap (λ (found : Result (Unit {0} × Made) model.ScriptFault). found >>= λ more. named names it (ahead new) more.1) one in
    makes_same view r (entry names (tree_ahead here)) (named names it (ahead new)) old mid then same nodes read
