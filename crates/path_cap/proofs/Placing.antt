-- Declared entries, put into a directory one after another.
use Rattle.std.proofs.Common.{◌≡◌, ℕ, suc, ◌+◌, ◌<◌, List, [], ◌∷◌, ◌++◌, length, get_or, drop, length-append, refl, ap, sym, ◌∙◌, drop-cons, add-one}
use Rattle.std.proofs.lemmas.List.{length-set}
use Rattle.eio_value.specs.Directory.{entry_count, item_count}
use Rattle.eio_value.specs.EntriesInside.{directory_of, item_of}
use Rattle.eio_value.specs.declared.entry.Entry.{Entry}
use Rattle.eio_value.specs.Directory.{Directory}
use Rattle.eio_value.specs.declared.entry.Entry.TheVariants as code
use Rattle.spec_parts.specs.Directories.{Tree, File, Link, directory, put, put_directory, placed, placed_item}

-- the entries from a place on are the one there and those behind it
cut : (entries : List Entry) (i : ℕ) (entry : Entry) → i < length entries → entry ≡ get_or entries i entry → drop i entries ≡ entry ∷ drop (i + 1) entries
cut entries i entry within is = drop-cons entries i entry within ∙ (ap (λ e. e ∷ drop (suc i) entries) (sym is) ∙ ap (λ k. entry ∷ drop k entries) (sym (add-one i)))

placed_first : (entry : Entry) (rest : List Entry) (at : ℕ) (tree : Tree) → placed (directory_of (entry ∷ rest)) at tree ≡ placed (directory_of rest) at (placed_item (item_of entry) at tree)
unfolding placed
placed_first entry rest at tree = refl

pub placed_none : (entries : List Entry) (i : ℕ) (at : ℕ) (tree : Tree) → drop i entries ≡ [] → placed (directory_of (drop i entries)) at tree ≡ tree
unfolding placed
placed_none entries i at tree none = ap (λ es. placed (directory_of es) at tree) none

pub placed_more : (entries : List Entry) (i : ℕ) (entry : Entry) (at : ℕ) (tree : Tree) → i < length entries → entry ≡ get_or entries i entry → placed (directory_of (drop i entries)) at tree ≡ placed (directory_of (drop (i + 1) entries)) at (placed_item (item_of entry) at tree)
placed_more entries i entry at tree within is = ap (λ es. placed (directory_of es) at tree) (cut entries i entry within is) ∙ placed_first entry (drop (i + 1) entries) at tree

count_first : (entry : Entry) (rest : List Entry) → entry_count (directory_of (entry ∷ rest)) ≡ item_count (item_of entry) + entry_count (directory_of rest)
unfolding entry_count
count_first entry rest = refl

pub count_more : (entries : List Entry) (i : ℕ) (entry : Entry) → i < length entries → entry ≡ get_or entries i entry → entry_count (directory_of (drop i entries)) ≡ item_count (item_of entry) + entry_count (directory_of (drop (i + 1) entries))
count_more entries i entry within is = ap (λ es. entry_count (directory_of es)) (cut entries i entry within is) ∙ count_first entry (drop (i + 1) entries)

-- ## One entry

pub placed_file : (entry : Entry) (name content copy of_content : List ℕ) (at : ℕ) (tree : Tree) → entry ≡ code.File name content → copy ≡ name → of_content ≡ content → put at copy (File of_content) tree ≡ placed_item (item_of entry) at tree
unfolding placed_item
placed_file entry name content copy of_content at tree is same_name same_content =
    ap (λ n. put at n (File of_content) tree) same_name ∙ (ap (λ c. put at name (File c) tree) same_content ∙ sym (ap (λ e. placed_item (item_of e) at tree) is))

pub placed_link : (entry : Entry) (name target copy of_target : List ℕ) (at : ℕ) (tree : Tree) → entry ≡ code.Link name target → copy ≡ name → of_target ≡ target → put at copy (Link of_target) tree ≡ placed_item (item_of entry) at tree
unfolding placed_item
placed_link entry name target copy of_target at tree is same_name same_target =
    ap (λ n. put at n (Link of_target) tree) same_name ∙ (ap (λ c. put at name (Link c) tree) same_target ∙ sym (ap (λ e. placed_item (item_of e) at tree) is))

pub placed_sub : (entry : Entry) (name copy : List ℕ) (inner within : Directory) (at number : ℕ) (tree made : Tree) → entry ≡ code.Sub name inner → copy ≡ name → within ≡ inner → number ≡ length tree → made ≡ put_directory at copy tree → placed within number made ≡ placed_item (item_of entry) at tree
unfolding placed_item
placed_sub entry name copy inner within at number tree made is same_name same_inner same_number same_made =
    ap (λ d. placed d number made) same_inner
    ∙ (ap (λ n. placed inner n made) same_number
    ∙ (ap (λ t. placed inner (length tree) t) (same_made ∙ ap (λ n. put_directory at n tree) same_name) ∙ sym (ap (λ e. placed_item (item_of e) at tree) is)))

pub count_sub : (entry : Entry) (name : List ℕ) (inner : Directory) → entry ≡ code.Sub name inner → item_count (item_of entry) ≡ entry_count inner + 1
unfolding item_count
count_sub entry name inner is = ap (λ e. item_count (item_of e)) is

pub length-put_directory : (at : ℕ) (name : List ℕ) (tree : Tree) → length (put_directory at name tree) ≡ length tree + 1
length-put_directory at name tree = length-set (tree ++ directory [] ∷ []) at _ ∙ length-append tree (directory [] ∷ [])
