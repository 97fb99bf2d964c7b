-- What is read is spelled there (`read_is_spelled`). By induction on the lists that may be open, and in a list on its fuel.
use Rattle.std.proofs.Common.{◌≡◌, ℕ, zero, suc, ◌+◌, Bool, true, false, cond, ◌&&◌, ◌==◌, List, [], ◌∷◌, ◌++◌, length, Result, Ok, Err, refl, sym, ap, ◌∙◌, subst, append_assoc, length-append, arith}
use Rattle.std.specs.List.{flat_map}
use Rattle.std.proofs.lemmas.Bool.{and_parts, and_from, eqb-true, false≢true, le-leb}
use Rattle.std.proofs.lemmas.List.{append-nil}
use Rattle.spec_script.specs.Results.{◌>>=◌}
use Rattle.spec_script.specs.Bytes.{quote, open_paren, close_paren, is_run_byte}
use Rattle.spec_script.specs.Limits.{most_open_lists}
use Rattle.spec_script.specs.Trees.{Tree, Text, Branch, Nil, is_run}
use Rattle.spec_script.specs.Spelling.{IsGap, IsLastGap, item_spelling, text_spelling, Spells, SpellsRow, IsDocument}
use Rattle.spec_script.specs.Faults as fault
use Rattle.spec_script.specs.Faults.{TreeFault}
use Rattle.spec_script.specs.Reading.{Here, here, past_gap, Items, Found, found, Row, with_tree, Start, Opens, Closes, Quotes, Runs, Strange, start_of, text_at, text_items, run_at, tree_by, InputEnds, ListEnds, TreeComes, trees_by, list_by, tree_at, alone, reading}
use Rattle.law_script.proofs.Trees.Steps.{same_Ok, err-ok, both_gave, Reader}
use Rattle.law_script.proofs.Trees.Gaps.{IsSkipped, gap_sound}
use Rattle.law_script.proofs.Trees.Texts.{IsTextRead, text_sound}
use Rattle.law_script.proofs.Trees.Runs.{begins_run, IsRead, run_sound}

-- ## Texts

text_place : (at next : ℕ) (bytes own rest : List ℕ) → quote ∷ bytes ≡ own ++ rest → next + length rest ≡ at + 1 + length bytes → next ≡ at + length own
text_place at next bytes own rest e h =
    let sizes : suc (length bytes) ≡ length own + length rest = ap (λ (bs : List ℕ). length bs) e ∙ length-append own rest in
    omega arith

text_read : (lists at : ℕ) (bytes : List ℕ) (text : Items) → IsTextRead false 0 (at + 1) bytes text → IsRead lists at (quote ∷ bytes) (found (Text at text.items) text.next)
text_read lists at bytes text it =
    let own = text_spelling text.items in
    let spelling : quote ∷ bytes ≡ own ++ text.next.bytes =
    ap (λ (bs : List ℕ). quote ∷ bs) (it.spelling ∙ sym (append_assoc (flat_map item_spelling text.items) (quote ∷ []) text.next.bytes)) in
    record {
      own = own;
      spelling = spelling;
      place = text_place at text.next.at bytes own text.next.bytes spelling it.place;
      spells = (refl, refl, and_from _ _ it.stand (le-leb (length text.items) 1024 (let few = it.few in omega arith)));
      begins = λ h. absurd (false≢true h);
      ends = λ h. absurd (false≢true h);
    }

text_is : (lists at : ℕ) (bytes : List ℕ) (it : Found) → text_at at bytes ≡ Ok it → IsRead lists at (quote ∷ bytes) it
text_is lists at bytes it e =
    let both = both_gave (text_items at false 0 (at + 1) bytes) (λ text. Ok (found (Text at text.items) text.next)) it e in
    subst (λ (f : Found). IsRead lists at (quote ∷ bytes) f) (same_Ok _ _ both.2) (text_read lists at bytes both.0 (text_sound at (at + 1) bytes false 0 both.0 (omega arith) both.1))

-- ## Trees

-- what a start says of its byte
abbrev StartsWith : (b : ℕ) → Start → Type 0
StartsWith b Opens = b ≡ open_paren
StartsWith b Closes = b ≡ close_paren
StartsWith b Quotes = b ≡ quote
StartsWith b Runs = is_run_byte b ≡ true
StartsWith b Strange = Unit {0}

start_by : (b : ℕ) (o c q r : Bool) → (b == open_paren) ≡ o → (b == close_paren) ≡ c → (b == quote) ≡ q → is_run_byte b ≡ r →
    StartsWith b (cond o Opens (cond c Closes (cond q Quotes (cond r Runs Strange))))
start_by b true c q r o-is c-is q-is r-is = eqb-true b open_paren o-is
start_by b false true q r o-is c-is q-is r-is = eqb-true b close_paren c-is
start_by b false false true r o-is c-is q-is r-is = eqb-true b quote q-is
start_by b false false false true o-is c-is q-is r-is = r-is
start_by b false false false false o-is c-is q-is r-is = tt

start_is : (b : ℕ) → StartsWith b (start_of b)
start_is b = start_by b _ _ _ _ refl refl refl refl

-- what it says that a reader of trees, and one of what follows a `(`, finds what is spelled
abbrev TreesSound : (lists : ℕ) → (Here → Result Found TreeFault) → Type 0
TreesSound lists tree_here = (at : ℕ) (bytes : List ℕ) (it : Found) → tree_here (here at bytes) ≡ Ok it → IsRead lists at bytes it

abbrev ListsSound : (lists : ℕ) → Reader → Type 0
ListsSound lists list_at = (at : ℕ) (bytes : List ℕ) (it : Found) → list_at at bytes ≡ Ok it → IsRead lists at (open_paren ∷ bytes) it

begun_by : (lists : ℕ) (list_at : Reader) → ListsSound lists list_at → (at b : ℕ) (bytes : List ℕ) (it : Found) (start : Start) → StartsWith b start →
    ◌≡◌ {A = Result Found TreeFault} (elim start [
      | Opens ↦ list_at at bytes
      | Closes ↦ Err (fault.Stray at)
      | Quotes ↦ text_at at bytes
      | Runs ↦ run_at at (b ∷ bytes)
      | Strange ↦ Err (fault.Byte at)
    ]) (Ok it) → IsRead lists at (b ∷ bytes) it
begun_by lists list_at sound at b bytes it Opens is e = subst (λ (c : ℕ). IsRead lists at (c ∷ bytes) it) (sym is) (sound at bytes it e)
begun_by lists list_at sound at b bytes it Closes is e = absurd (err-ok _ _ e)
begun_by lists list_at sound at b bytes it Quotes is e = subst (λ (c : ℕ). IsRead lists at (c ∷ bytes) it) (sym is) (text_is lists at bytes it e)
begun_by lists list_at sound at b bytes it Runs is e = run_sound lists at (b ∷ bytes) it is e
begun_by lists list_at sound at b bytes it Strange is e = absurd (err-ok _ _ e)

tree_sound : (lists : ℕ) (list_at : Reader) → ListsSound lists list_at → TreesSound lists (tree_by list_at)
tree_sound lists list_at sound at [] it e = absurd (err-ok _ _ e)
tree_sound lists list_at sound at (b ∷ bytes) it e = begun_by lists list_at sound at b bytes it _ (start_is b) e

-- ## Lists

-- the rest of a list is spelled by the bytes up to its `)`
record IsRowRead (lists at : ℕ) (bytes : List ℕ) (behind_run : Bool) (it : Row) : Type 0 where
  inner : List ℕ
  spelling : bytes ≡ inner ++ close_paren ∷ it.next.bytes
  place : it.next.at ≡ at + length inner + 1
  spells : SpellsRow lists at inner it.row behind_run

row_ends : (lists at p b : ℕ) (bytes behind : List ℕ) (behind_run : Bool) → IsSkipped false at bytes (here p (b ∷ behind)) → b ≡ close_paren →
    IsRowRead lists at bytes behind_run (record { row = Nil; next = here (p + 1) behind })
row_ends lists at p b bytes behind behind_run skip closes = record {
  inner = skip.gap;
  spelling = skip.spelling ∙ ap (λ (c : ℕ). skip.gap ++ c ∷ behind) closes;
  place = ap (λ (n : ℕ). n + 1) skip.place;
  spells = skip.whole b behind refl;
}

-- two runs have a gap between them, as the first is a longest one
runs_apart : (behind_run run : Bool) (bytes gap rest : List ℕ) → (behind_run ≡ true → begins_run bytes ≡ false) → bytes ≡ gap ++ rest → (run ≡ true → begins_run rest ≡ true) →
    (behind_run && run) ≡ true → gap ≡ [] → ⊥
runs_apart behind_run run bytes gap rest ends spelling begins both none =
    let parts = and_parts behind_run run both in
    let same : bytes ≡ rest = spelling ∙ ap (λ (g : List ℕ). g ++ rest) none in
    false≢true (sym (ends parts.0) ∙ (ap begins_run same ∙ begins parts.1))

row_more : (lists at p : ℕ) (bytes rest : List ℕ) (behind_run : Bool) (first : Found) (others : Row) → (behind_run ≡ true → begins_run bytes ≡ false) →
    (skip : IsSkipped false at bytes (here p rest)) → IsGap false skip.gap → IsRead lists p rest first → IsRowRead lists first.next.at first.next.bytes (is_run first.tree) others →
    IsRowRead lists at bytes behind_run (with_tree first.tree others)
row_more lists at p bytes rest behind_run first others ends skip whole it row =
    let gap = skip.gap in
    let inner = gap ++ (it.own ++ row.inner) in
    let sizes = length-append gap (it.own ++ row.inner) in
    let sizes_behind = length-append it.own row.inner in
    let place : p ≡ at + length gap = skip.place in
    let behind : first.next.at ≡ at + length gap + length it.own = it.place ∙ ap (λ (n : ℕ). n + length it.own) place in
    let tail = close_paren ∷ others.next.bytes in
    record {
      inner = inner;
      spelling = skip.spelling
          ∙ (ap (λ (bs : List ℕ). gap ++ bs) (it.spelling ∙ (ap (λ (bs : List ℕ). it.own ++ bs) row.spelling ∙ sym (append_assoc it.own row.inner tail)))
          ∙ sym (append_assoc gap (it.own ++ row.inner) tail));
      place = let last = row.place in omega arith;
      spells = (
        gap,
        it.own,
        row.inner,
        sym (append_assoc gap it.own row.inner),
        whole,
        runs_apart behind_run (is_run first.tree) bytes gap rest ends skip.spelling it.begins,
        subst (λ (n : ℕ). Spells lists n it.own first.tree) place it.spells,
        subst (λ (n : ℕ). SpellsRow lists n row.inner others.row (is_run first.tree)) behind row.spells,
      );
    }

-- the same of each place, with so much fuel
abbrev RowsSound : (lists : ℕ) → (Here → Result Found TreeFault) → (most paren : ℕ) → Type 0
RowsSound lists tree_here most paren = (at : ℕ) (bytes : List ℕ) (behind_run : Bool) (it : Row) → (behind_run ≡ true → begins_run bytes ≡ false) →
    trees_by tree_here most paren (past_gap false at bytes) ≡ Ok it → IsRowRead lists at bytes behind_run it

tree_and_more : (lists : ℕ) (tree_here : Here → Result Found TreeFault) → TreesSound lists tree_here → (most paren : ℕ) → RowsSound lists tree_here most paren →
    (at p b : ℕ) (bytes rest : List ℕ) (behind_run : Bool) (it : Row) → (behind_run ≡ true → begins_run bytes ≡ false) → IsSkipped false at bytes (here p (b ∷ rest)) →
    (tree_here (here p (b ∷ rest)) >>= λ first. trees_by tree_here most paren (past_gap false first.next.at first.next.bytes) >>= λ others. Ok (with_tree first.tree others)) ≡ Ok it →
    IsRowRead lists at bytes behind_run it
tree_and_more lists tree_here sound most paren rows at p b bytes rest behind_run it ends skip e =
    let head = both_gave (tree_here (here p (b ∷ rest))) (λ first. trees_by tree_here most paren (past_gap false first.next.at first.next.bytes) >>= λ others. Ok (with_tree first.tree others)) it e in
    let first = head.0 in
    let tail = both_gave (trees_by tree_here most paren (past_gap false first.next.at first.next.bytes)) (λ others. Ok (with_tree first.tree others)) it head.2 in
    let read = sound p (b ∷ rest) first head.1 in
    subst (λ (r : Row). IsRowRead lists at bytes behind_run r) (same_Ok _ _ tail.2)
    (row_more lists at p bytes (b ∷ rest) behind_run first tail.0 ends skip (skip.whole b rest refl) read (rows first.next.at first.next.bytes (is_run first.tree) tail.0 read.ends tail.1))

going_by : (lists : ℕ) (tree_here : Here → Result Found TreeFault) → TreesSound lists tree_here → (most paren : ℕ) → RowsSound lists tree_here most paren →
    (at p b : ℕ) (bytes rest : List ℕ) (behind_run : Bool) (it : Row) → (behind_run ≡ true → begins_run bytes ≡ false) → IsSkipped false at bytes (here p (b ∷ rest)) →
    (closes : Bool) → (b == close_paren) ≡ closes →
    ◌≡◌ {A = Result Row TreeFault} (elim (cond closes (ListEnds rest) TreeComes) [
      | InputEnds ↦ Err (fault.Unclosed paren)
      | ListEnds behind ↦ Ok (record { row = Nil; next = here (p + 1) behind })
      | TreeComes ↦ (tree_here (here p (b ∷ rest)) >>= λ first. trees_by tree_here most paren (past_gap false first.next.at first.next.bytes) >>= λ others. Ok (with_tree first.tree others))
    ]) (Ok it) → IsRowRead lists at bytes behind_run it
going_by lists tree_here sound most paren rows at p b bytes rest behind_run it ends skip true is e =
    subst (λ (r : Row). IsRowRead lists at bytes behind_run r) (same_Ok _ _ e) (row_ends lists at p b bytes rest behind_run skip (eqb-true b close_paren is))
going_by lists tree_here sound most paren rows at p b bytes rest behind_run it ends skip false is e =
    tree_and_more lists tree_here sound most paren rows at p b bytes rest behind_run it ends skip e

row_step : (lists : ℕ) (tree_here : Here → Result Found TreeFault) → TreesSound lists tree_here → (most paren : ℕ) → RowsSound lists tree_here most paren →
    (at p : ℕ) (bytes rest : List ℕ) (behind_run : Bool) (it : Row) → (behind_run ≡ true → begins_run bytes ≡ false) → IsSkipped false at bytes (here p rest) →
    trees_by tree_here (suc most) paren (here p rest) ≡ Ok it → IsRowRead lists at bytes behind_run it
unfolding trees_by
row_step lists tree_here sound most paren rows at p bytes [] behind_run it ends skip e = absurd (err-ok _ _ e)
row_step lists tree_here sound most paren rows at p bytes (b ∷ rest) behind_run it ends skip e = going_by lists tree_here sound most paren rows at p b bytes rest behind_run it ends skip _ refl e

rows_sound : (lists : ℕ) (tree_here : Here → Result Found TreeFault) → TreesSound lists tree_here → (most paren : ℕ) → RowsSound lists tree_here most paren
unfolding trees_by
rows_sound lists tree_here sound zero paren at bytes behind_run it ends e = absurd (err-ok _ _ e)
rows_sound lists tree_here sound (suc most) paren at bytes behind_run it ends e =
    let past = past_gap false at bytes in
    row_step lists tree_here sound most paren (rows_sound lists tree_here sound most paren) at past.at bytes past.bytes behind_run it ends (gap_sound false at bytes) e

branch_read : (lists paren : ℕ) (bytes : List ℕ) (row : Row) → IsRowRead lists (paren + 1) bytes false row → IsRead (suc lists) paren (open_paren ∷ bytes) (found (Branch paren row.row) row.next)
branch_read lists paren bytes row it =
    let own = open_paren ∷ (it.inner ++ close_paren ∷ []) in
    let sizes = length-append it.inner (close_paren ∷ []) in
    record {
      own = own;
      spelling = ap (λ (bs : List ℕ). open_paren ∷ bs) (it.spelling ∙ sym (append_assoc it.inner (close_paren ∷ []) row.next.bytes));
      place = let last = it.place in omega arith;
      spells = (refl, it.inner, refl, it.spells);
      begins = λ h. absurd (false≢true h);
      ends = λ h. absurd (false≢true h);
    }

lists_sound : (lists : ℕ) (tree_here : Here → Result Found TreeFault) → TreesSound lists tree_here → ListsSound (suc lists) (list_by tree_here)
lists_sound lists tree_here sound paren bytes it e =
    let both = both_gave (trees_by tree_here (length bytes + 1) paren (past_gap false (paren + 1) bytes)) (λ list. Ok (found (Branch paren list.row) list.next)) it e in
    subst (λ (f : Found). IsRead (suc lists) paren (open_paren ∷ bytes) f) (same_Ok _ _ both.2)
    (branch_read lists paren bytes both.0 (rows_sound lists tree_here sound (length bytes + 1) paren (paren + 1) bytes false both.0 (λ h. absurd (false≢true h)) both.1))

trees_sound : (lists : ℕ) → TreesSound lists (tree_at lists)
unfolding tree_at
trees_sound zero at bytes it e = tree_sound zero (λ paren bytes. Err (fault.Deep paren)) (λ at bytes it e. absurd (err-ok _ _ e)) at bytes it e
trees_sound (suc lists) at bytes it e = tree_sound (suc lists) (λ paren bytes. list_by (tree_at lists) paren bytes) (lists_sound lists (tree_at lists) (trees_sound lists)) at bytes it e

-- ## Inputs

no_tree : (lists at : ℕ) (it : Found) → tree_at lists (here at []) ≡ Ok it → ⊥
unfolding tree_at
no_tree zero at it e = err-ok _ _ e
no_tree (suc lists) at it e = err-ok _ _ e

-- a tree that stands alone
record IsAlone (it : Found) (tree : Tree) : Type 0 where
  same : it.tree ≡ tree
  last : IsLastGap false it.next.bytes

alone_by : (it : Found) (tree : Tree) (p : ℕ) (rest : List ℕ) → IsSkipped false it.next.at it.next.bytes (here p rest) →
    ◌≡◌ {A = Result Tree TreeFault} (elim rest [ [] ↦ Ok it.tree | b ∷ bytes ↦ Err (fault.Stray p) ]) (Ok tree) → IsAlone it tree
alone_by it tree p [] skip e = record { same = same_Ok _ _ e; last = subst (λ (bs : List ℕ). IsLastGap false bs) (sym (skip.spelling ∙ append-nil skip.gap)) skip.last }
alone_by it tree p (b ∷ rest) skip e = absurd (err-ok _ _ e)

alone_is : (it : Found) (tree : Tree) → alone it ≡ Ok tree → IsAlone it tree
alone_is it tree e = let past = past_gap false it.next.at it.next.bytes in alone_by it tree past.at past.bytes (gap_sound false it.next.at it.next.bytes) e

-- an input spells a tree in which at most `lists` lists are open in one another
abbrev IsDocumentWithin : (lists : ℕ) → List ℕ → Tree → Type 0
IsDocumentWithin lists bytes tree =
    (before own behind : List ℕ) × (bytes ≡ before ++ own ++ behind)
    × IsGap false before × Spells lists (length before) own tree × IsLastGap false behind

document_by : (lists at : ℕ) (bytes rest : List ℕ) (it : Found) (tree : Tree) → IsSkipped false 0 bytes (here at rest) → tree_at lists (here at rest) ≡ Ok it → IsAlone it tree →
    IsDocumentWithin lists bytes tree
document_by lists at bytes [] it tree skip e whole = absurd (no_tree lists at it e)
document_by lists at bytes (b ∷ rest) it tree skip e whole =
    let read = trees_sound lists at (b ∷ rest) it e in
    let place : at ≡ length skip.gap = let p = skip.place in omega arith in (
      skip.gap,
      read.own,
      it.next.bytes,
      skip.spelling ∙ (ap (λ (bs : List ℕ). skip.gap ++ bs) read.spelling ∙ sym (append_assoc skip.gap read.own it.next.bytes)),
      skip.whole b rest refl,
      subst (λ (n : ℕ). Spells lists n read.own tree) place (subst (λ (t : Tree). Spells lists at read.own t) whole.same read.spells),
      whole.last,
    )

read_by : (lists : ℕ) (bytes : List ℕ) (tree : Tree) → (tree_at lists (past_gap false 0 bytes) >>= alone) ≡ Ok tree →
    IsDocumentWithin lists bytes tree
read_by lists bytes tree e =
    let past = past_gap false 0 bytes in
    let both = both_gave (tree_at lists past) alone tree e in
    document_by lists past.at bytes past.bytes both.0 tree (gap_sound false 0 bytes) both.1 (alone_is both.0 tree both.2)

pub read_is_spelled : (bytes : List ℕ) (tree : Tree) → reading bytes ≡ Ok tree → IsDocument bytes tree
unfolding reading
read_is_spelled bytes tree e = read_by most_open_lists bytes tree e
