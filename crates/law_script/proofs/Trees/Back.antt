-- What is spelled is read (`spelled_is_read`). By induction on the lists that may be open, and in a list on the fuel: each of
-- its trees takes a byte, so the fuel lasts.
use Rattle.std.proofs.Common.{◌≡◌, ◌≤◌, ◌<◌, inl, inr, ℕ, zero, suc, ◌+◌, Bool, true, false, ◌==◌, nat_le, List, [], ◌∷◌, ◌++◌, length, None, Result, Ok, Err, refl, sym, ap, ◌∙◌, subst, append_assoc, length-append, arith}
use Rattle.std.specs.List.{list_all, flat_map}
use Rattle.std.specs.Fmt.{signed_decimal}
use Rattle.std.proofs.lemmas.Bool.{and_parts, leb-true, false_from_ne_true}
use Rattle.std.proofs.lemmas.Bool.Decides.{nat_tests}
use Rattle.spec_script.specs.Results.{◌>>=◌}
use Rattle.spec_script.specs.Bytes.{quote, open_paren, close_paren, semicolon, is_gap_byte, is_run_byte}
use Rattle.spec_script.specs.Limits.{most_open_lists}
use Rattle.spec_script.specs.Trees.{Tree, Word, Number, Text, Branch, Trees, Nil, And, is_run}
use Rattle.spec_script.specs.Spelling.{IsGap, IsLastGap, item_spelling, is_word, is_text, text_spelling, Spells, SpellsRow, IsDocument}
use Rattle.spec_script.specs.Faults as fault
use Rattle.spec_script.specs.Faults.{TreeFault}
use Rattle.spec_script.specs.Reading.{Here, here, gap_step, past_gap, Items, text_items, run_tree, Found, found, Row, with_tree, Runs, start_of, tree_by, trees_by, list_by, tree_at, alone, reading}
use Rattle.law_script.proofs.Trees.Steps.{Reader}
use Rattle.law_script.proofs.Trees.Gaps.{Stops, stops_at, gap_back, last_gap_back}
use Rattle.law_script.proofs.Trees.Texts.{may_stand, text_back}
use Rattle.law_script.proofs.Trees.Numbers.{number_back}
use Rattle.law_script.proofs.Trees.Runs.{begins_run, run_back, word_runs, word_back, number_tree_back}

-- ## How a tree begins

run_gap : (b : ℕ) → is_run_byte b ≡ true → gap_step false b ≡ None
run_gap b e = grind (arith, nat_tests)

run_open : (b : ℕ) → is_run_byte b ≡ true → (b == close_paren) ≡ false
run_open b e = grind (arith, nat_tests)

run_start : (b : ℕ) → is_run_byte b ≡ true → start_of b ≡ Runs
run_start b e = grind (arith, nat_tests)

-- a spelling begins with a byte that is no gap and no `)`, and is of a run where the tree is one
record Begins (own : List ℕ) (tree : Tree) : Type 0 where
  first : ℕ
  more : List ℕ
  is : own ≡ first ∷ more
  no_gap : gap_step false first ≡ None
  no_end : (first == close_paren) ≡ false
  run : is_run_byte first ≡ is_run tree

run_begins : (run : List ℕ) (tree : Tree) → 0 < length run → list_all is_run_byte run ≡ true → is_run tree ≡ true → Begins run tree
run_begins [] tree some all one = absurd (omega arith)
run_begins (b ∷ run) tree some all one =
    let here_runs : is_run_byte b ≡ true = (and_parts (is_run_byte b) (list_all is_run_byte run) all).0 in
    record { first = b; more = run; is = refl; no_gap = run_gap b here_runs; no_end = run_open b here_runs; run = here_runs ∙ sym one }

word_some : (word : List ℕ) → is_word word ≡ true → 0 < length word
word_some [] e = cc
word_some (b ∷ word) e = omega arith

own_begins : (lists at : ℕ) (own : List ℕ) (tree : Tree) → Spells lists at own tree → Begins own tree
own_begins lists at own (Word place word) h =
    subst (λ (bs : List ℕ). Begins bs (Word place word)) (sym h.1) (run_begins word (Word place word) (word_some word h.2) (word_runs word h.2) refl)
own_begins lists at own (Number place z) h =
    let it = number_back z h.2 in
    let some : 0 < length (signed_decimal z) = let size = ap (λ (bs : List ℕ). length bs) it.is in omega arith in
    subst (λ (bs : List ℕ). Begins bs (Number place z)) (sym h.1) (run_begins (signed_decimal z) (Number place z) some it.runs refl)
own_begins lists at own (Text place text) h = record { first = quote; more = flat_map item_spelling text ++ quote ∷ []; is = h.1; no_gap = refl; no_end = refl; run = refl }
own_begins zero at own (Branch place row) h = absurd h
own_begins (suc lists) at own (Branch place row) h = record { first = open_paren; more = h.1 ++ close_paren ∷ []; is = h.2; no_gap = refl; no_end = refl; run = refl }

own_stops : (own rest : List ℕ) (tree : Tree) → Begins own tree → Stops (own ++ rest)
own_stops own rest tree it = subst (λ (bs : List ℕ). Stops (bs ++ rest)) (sym it.is) (stops_at it.first (it.more ++ rest) it.no_gap)

own_first : (own rest : List ℕ) (tree : Tree) → Begins own tree → begins_run (own ++ rest) ≡ is_run tree
own_first own rest tree it = ap (λ (bs : List ℕ). begins_run (bs ++ rest)) it.is ∙ it.run

-- ## What stands behind a run

gap_byte_runs : (b : ℕ) → is_gap_byte b ≡ true → is_run_byte b ≡ false
gap_byte_runs b e = grind (arith, nat_tests)

semicolon_runs : (b : ℕ) → b ≡ semicolon → is_run_byte b ≡ false
semicolon_runs b e = rw e refl

gap_then : (gap rest : List ℕ) → IsGap false gap → (gap ≡ [] → begins_run rest ≡ false) → begins_run (gap ++ rest) ≡ false
gap_then [] rest h none = none refl
gap_then (b ∷ gap) rest (inl h) none = gap_byte_runs b h.0
gap_then (b ∷ gap) rest (inr h) none = semicolon_runs b h.0

last_gap_then : (gap : List ℕ) → IsLastGap false gap → begins_run gap ≡ false
last_gap_then [] h = refl
last_gap_then (b ∷ gap) (inl h) = gap_byte_runs b h.0
last_gap_then (b ∷ gap) (inr h) = semicolon_runs b h.0

regrouped : (bytes gap own others rest : List ℕ) → bytes ≡ gap ++ own ++ others → bytes ++ rest ≡ gap ++ (own ++ (others ++ rest))
regrouped bytes gap own others rest e = rw e (simp append_assoc)

row_after_run : (lists at : ℕ) (bytes rest : List ℕ) (row : Trees) → SpellsRow lists at bytes row true → begins_run (bytes ++ close_paren ∷ rest) ≡ false
row_after_run lists at bytes rest Nil h = gap_then bytes (close_paren ∷ rest) h (λ none. refl)
row_after_run lists at bytes rest (And tree row) h =
    let tail = h.2 ++ close_paren ∷ rest in
    ap begins_run (regrouped bytes h.0 h.1 h.2 (close_paren ∷ rest) h.3)
    ∙ gap_then h.0 (h.1 ++ tail) h.4 (λ none. own_first h.1 tail tree (own_begins lists (at + length h.0) h.1 tree h.6) ∙ false_from_ne_true (is_run tree) (λ one. h.5 one none))

-- ## Trees

-- a tree is read from its spelling, where a run is a whole one
abbrev IsBack : (Here → Result Found TreeFault) → (at : ℕ) (own rest : List ℕ) → Tree → Type 0
IsBack tree_here at own rest tree = tree_here (here at (own ++ rest)) ≡ Ok (found tree (here (at + length own) rest))

abbrev TreesBack : (lists : ℕ) → (Here → Result Found TreeFault) → Type 0
TreesBack lists tree_here = (at : ℕ) (own rest : List ℕ) (tree : Tree) → Spells lists at own tree → (is_run tree ≡ true → begins_run rest ≡ false) → IsBack tree_here at own rest tree

abbrev ListsBack : (lists : ℕ) → Reader → Type 0
ListsBack lists list_at = (at : ℕ) (own rest : List ℕ) (place : ℕ) (row : Trees) → Spells lists at own (Branch place row) → IsBack (tree_by list_at) at own rest (Branch place row)

run_read : (list_at : Reader) (at : ℕ) (run rest : List ℕ) (tree : Tree) → 0 < length run → list_all is_run_byte run ≡ true → begins_run rest ≡ false → run_tree at run ≡ Ok tree → IsBack (tree_by list_at) at run rest tree
run_read list_at at [] rest tree some all stop e = absurd (omega arith)
run_read list_at at (b ∷ run) rest tree some all stop e =
    let here_runs : is_run_byte b ≡ true = (and_parts (is_run_byte b) (list_all is_run_byte run) all).0 in
    rw (tree_by, run_start b here_runs) (run_back at (b ∷ run) rest tree all stop e)

text_read : (list_at : Reader) (at : ℕ) (text rest : List ℕ) → is_text text ≡ true → IsBack (tree_by list_at) at (text_spelling text) rest (Text at text)
text_read list_at at text rest e =
    let both = and_parts (list_all may_stand text) (nat_le (length text) 1024) e in
    let few : length text ≤ 1024 = leb-true _ _ both.1 in
    let spelling = flat_map item_spelling text in
    let sizes = length-append spelling (quote ∷ []) in
    let items : text_items at false 0 (at + 1) (spelling ++ quote ∷ rest) ≡ Ok (record { items = text; next = here (at + length (text_spelling text)) rest }) =
    text_back at 0 (at + 1) (at + length (text_spelling text)) text rest both.0 (omega arith) (omega arith) in
    ap (λ (r : Result Items TreeFault). r >>= λ it. Ok (found (Text at it.items) it.next))
    (ap (λ (bs : List ℕ). text_items at false 0 (at + 1) bs) (append_assoc spelling (quote ∷ []) rest) ∙ items)

tree_back : (lists : ℕ) (list_at : Reader) → ListsBack lists list_at → TreesBack lists (tree_by list_at)
tree_back lists list_at back at own rest (Word place word) h ends =
    subst (λ (bs : List ℕ). IsBack (tree_by list_at) at bs rest (Word place word)) (sym h.1)
    (subst (λ (p : ℕ). IsBack (tree_by list_at) at word rest (Word p word)) (sym h.0)
    (run_read list_at at word rest (Word at word) (word_some word h.2) (word_runs word h.2) (ends refl) (word_back at word h.2)))
tree_back lists list_at back at own rest (Number place z) h ends =
    let it = number_back z h.2 in
    let some : 0 < length (signed_decimal z) = let size = ap (λ (bs : List ℕ). length bs) it.is in omega arith in
    subst (λ (bs : List ℕ). IsBack (tree_by list_at) at bs rest (Number place z)) (sym h.1)
    (subst (λ (p : ℕ). IsBack (tree_by list_at) at (signed_decimal z) rest (Number p z)) (sym h.0)
    (run_read list_at at (signed_decimal z) rest (Number at z) some it.runs (ends refl) (number_tree_back at z h.2)))
tree_back lists list_at back at own rest (Text place text) h ends =
    subst (λ (bs : List ℕ). IsBack (tree_by list_at) at bs rest (Text place text)) (sym h.1)
    (subst (λ (p : ℕ). IsBack (tree_by list_at) at (text_spelling text) rest (Text p text)) (sym h.0) (text_read list_at at text rest h.2))
tree_back lists list_at back at own rest (Branch place row) h ends = back at own rest place row h

-- ## Lists

-- the rest of a list is read from its spelling, with fuel enough
abbrev RowsBack : (lists : ℕ) → (Here → Result Found TreeFault) → (most paren : ℕ) → Type 0
RowsBack lists tree_here most paren = (at next : ℕ) (inner rest : List ℕ) (row : Trees) (behind_run : Bool) → SpellsRow lists at inner row behind_run → length inner < most → next ≡ at + length inner + 1 →
    trees_by tree_here most paren (past_gap false at (inner ++ close_paren ∷ rest)) ≡ Ok (record { row = row; next = here next rest })

ends_here : (tree_here : Here → Result Found TreeFault) (most paren p next : ℕ) (rest : List ℕ) → next ≡ p + 1 →
    trees_by tree_here (suc most) paren (here p (close_paren ∷ rest)) ≡ Ok (record { row = Nil; next = here next rest })
unfolding trees_by
ends_here tree_here most paren p next rest e = rw e refl

-- a tree, and what is behind it in the list
abbrev tree_then : (Here → Result Found TreeFault) → (most paren : ℕ) → Here → Result Row TreeFault
tree_then tree_here most paren from = tree_here from >>= λ first. trees_by tree_here most paren (past_gap false first.next.at first.next.bytes) >>= λ others. Ok (with_tree first.tree others)

tree_comes : (tree_here : Here → Result Found TreeFault) (most paren p b : ℕ) (bytes : List ℕ) → (b == close_paren) ≡ false →
    trees_by tree_here (suc most) paren (here p (b ∷ bytes)) ≡ tree_then tree_here most paren (here p (b ∷ bytes))
unfolding trees_by
tree_comes tree_here most paren p b bytes e = rw (trees_by, e) refl

own_comes : (tree_here : Here → Result Found TreeFault) (most paren p : ℕ) (own rest : List ℕ) (tree : Tree) → Begins own tree →
    trees_by tree_here (suc most) paren (here p (own ++ rest)) ≡ tree_then tree_here most paren (here p (own ++ rest))
own_comes tree_here most paren p own rest tree it =
    subst (λ (bs : List ℕ). trees_by tree_here (suc most) paren (here p (bs ++ rest)) ≡ tree_then tree_here most paren (here p (bs ++ rest))) (sym it.is)
    (tree_comes tree_here most paren p it.first (it.more ++ rest) it.no_end)

row_sizes : (inner gap own others : List ℕ) (tree : Tree) → inner ≡ gap ++ own ++ others → Begins own tree → (length inner ≡ length gap + length own + length others) × (0 < length own)
row_sizes inner gap own others tree e it =
    let whole : length inner ≡ length (gap ++ own ++ others) = ap (λ (bs : List ℕ). length bs) e in
    let front = length-append (gap ++ own) others in
    let back = length-append gap own in
    let some : length own ≡ suc (length it.more) = ap (λ (bs : List ℕ). length bs) it.is in
    (omega arith, omega arith)

rows_back : (lists : ℕ) (tree_here : Here → Result Found TreeFault) → TreesBack lists tree_here → (most paren : ℕ) → RowsBack lists tree_here most paren
rows_back lists tree_here back zero paren at next inner rest row behind_run h small e = absurd (omega arith)
rows_back lists tree_here back (suc most) paren at next inner rest Nil behind_run h small e =
    ap (λ (from : Here). trees_by tree_here (suc most) paren from) (gap_back false at inner (close_paren ∷ rest) h (stops_at close_paren rest refl))
    ∙ ends_here tree_here most paren (at + length inner) next rest e
rows_back lists tree_here back (suc most) paren at next inner rest (And tree row) behind_run h small e =
    let gap = h.0 in
    let own = h.1 in
    let others = h.2 in
    let tail = others ++ close_paren ∷ rest in
    let p = at + length gap in
    let begins = own_begins lists p own tree h.6 in
    let sizes = row_sizes inner gap own others tree h.3 begins in
    let whole : length inner ≡ length gap + length own + length others = sizes.0 in
    let some : 0 < length own = sizes.1 in
    let past : past_gap false at (inner ++ close_paren ∷ rest) ≡ here p (own ++ tail) =
    ap (past_gap false at) (regrouped inner gap own others (close_paren ∷ rest) h.3) ∙ gap_back false at gap (own ++ tail) h.4 (own_stops own tail tree begins) in
    let ends = λ (one : is_run tree ≡ true). row_after_run lists (p + length own) others rest row (subst (λ (r : Bool). SpellsRow lists (p + length own) others row r) one h.7) in
    ap (λ (from : Here). trees_by tree_here (suc most) paren from) past
    ∙ (own_comes tree_here most paren p own tail tree begins
    ∙ (ap (λ (r : Result Found TreeFault). r >>= λ first. trees_by tree_here most paren (past_gap false first.next.at first.next.bytes) >>= λ others. Ok (with_tree first.tree others)) (back p own tail tree h.6 ends)
    ∙ ap (λ (r : Result Row TreeFault). r >>= λ others. Ok (with_tree tree others))
    (rows_back lists tree_here back most paren (p + length own) next others rest row (is_run tree) h.7 (omega arith) (omega arith))))

branch_back : (lists : ℕ) (tree_here : Here → Result Found TreeFault) → TreesBack lists tree_here → (at : ℕ) (inner rest : List ℕ) (row : Trees) → SpellsRow lists (at + 1) inner row false →
    IsBack (tree_by (list_by tree_here)) at (open_paren ∷ (inner ++ close_paren ∷ [])) rest (Branch at row)
branch_back lists tree_here back at inner rest row h =
    let bytes = (inner ++ close_paren ∷ []) ++ rest in
    let next = at + length (open_paren ∷ (inner ++ close_paren ∷ [])) in
    let sizes = length-append inner (close_paren ∷ []) in
    let all_sizes = length-append (inner ++ close_paren ∷ []) rest in
    let read : trees_by tree_here (length bytes + 1) at (past_gap false (at + 1) (inner ++ close_paren ∷ rest)) ≡ Ok (record { row = row; next = here next rest }) =
    rows_back lists tree_here back (length bytes + 1) at (at + 1) next inner rest row false h (omega arith) (omega arith) in
    ap (λ (r : Result Row TreeFault). r >>= λ list. Ok (found (Branch at list.row) list.next))
    (ap (λ (bs : List ℕ). trees_by tree_here (length bytes + 1) at (past_gap false (at + 1) bs)) (append_assoc inner (close_paren ∷ []) rest) ∙ read)

lists_back : (lists : ℕ) (tree_here : Here → Result Found TreeFault) → TreesBack lists tree_here → ListsBack (suc lists) (list_by tree_here)
lists_back lists tree_here back at own rest place row h =
    subst (λ (bs : List ℕ). IsBack (tree_by (list_by tree_here)) at bs rest (Branch place row)) (sym h.2)
    (subst (λ (p : ℕ). IsBack (tree_by (list_by tree_here)) at (open_paren ∷ (h.1 ++ close_paren ∷ [])) rest (Branch p row)) (sym h.0)
    (branch_back lists tree_here back at h.1 rest row h.3))

trees_back : (lists : ℕ) → TreesBack lists (tree_at lists)
unfolding tree_at
trees_back zero = tree_back zero (λ paren bytes. Err (fault.Deep paren)) (λ at own rest place row h. absurd h)
trees_back (suc lists) = tree_back (suc lists) (list_by (tree_at lists)) (lists_back lists (tree_at lists) (trees_back lists))

-- ## Inputs

alone_back : (it : Found) → IsLastGap false it.next.bytes → alone it ≡ Ok it.tree
alone_back it h = rw (alone, last_gap_back false it.next.at it.next.bytes h) refl

back_by : (lists : ℕ) (before own behind : List ℕ) (tree : Tree) → IsGap false before → Spells lists (length before) own tree → IsLastGap false behind →
    (tree_at lists (past_gap false 0 (before ++ (own ++ behind))) >>= alone) ≡ Ok tree
back_by lists before own behind tree gap h last =
    let n = length before in
    let past : past_gap false 0 (before ++ (own ++ behind)) ≡ here n (own ++ behind) =
    gap_back false 0 before (own ++ behind) gap (own_stops own behind tree (own_begins lists n own tree h)) ∙ ap (λ (p : ℕ). here p (own ++ behind)) (omega arith) in
    ap (λ (from : Here). tree_at lists from >>= alone) past
    ∙ (ap (λ (r : Result Found TreeFault). r >>= alone) (trees_back lists n own behind tree h (λ one. last_gap_then behind last))
    ∙ alone_back (found tree (here (n + length own) behind)) last)

pub spelled_is_read : (bytes : List ℕ) (tree : Tree) → IsDocument bytes tree → reading bytes ≡ Ok tree
unfolding reading
spelled_is_read bytes tree h =
    ap (λ (bs : List ℕ). tree_at most_open_lists (past_gap false 0 bs) >>= alone) (h.3 ∙ append_assoc h.0 h.1 h.2)
    ∙ back_by most_open_lists h.0 h.1 h.2 tree h.4 h.5 h.6
