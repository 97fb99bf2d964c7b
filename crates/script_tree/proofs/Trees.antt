-- The reading of a tree, by its first byte.
use Rattle.std.proofs.Common.{◌≡◌, ◌≢◌, ℕ, zero, suc, ◌+◌, ◌<◌, ◌≤◌, List, [], ◌∷◌, ◌++◌, length, get_or, drop, take, Bool, true, false, Result, Ok, Err, refl, arith, ap, sym, ◌∙◌}
use Rattle.std.proofs.lemmas.Grind.{common_steps}
use Rattle.std.specs.Prelude.{◌==◌, if◌then◌else◌}
use Rattle.std.specs.List.{take_while, prefix_len}
use Rattle.std.proofs.lemmas.List.{take_min, length-take, drop-drop}
use Rattle.spec_script.specs.Faults as model
use Rattle.spec_script.specs.Faults.{TreeFault}
use Rattle.spec_script.specs.Bytes.{open_paren, close_paren, quote, is_run_byte}
use Rattle.spec_script.specs.Results.{◌>>=◌}
use Rattle.spec_script.specs.Trees.{Tree, Text}
use Rattle.spec_script.specs.Reading.{Here, here, Found, found, Items, Start, Opens, Closes, Quotes, Runs, Strange, start_of, tree_at, list_by, text_at, run_at, run_tree}
use Rattle.script_tree.specs.Pieces.{Piece, leaf_of, pieces}
use Rattle.script_tree.specs.Pieces as piece
use Rattle.script_tree.specs.declared.run.Run.{Run}
use Rattle.script_tree.specs.declared.run.Run.TheVariants as run
use Rattle.script_tree.specs.Views.{from, run_of}
use Rattle.script_tree.specs.Growing.{Grown, grown, grows}
use Rattle.script_tree.proofs.Gaps.{split_at}

abbrev Read : Type 0
Read = Result Found TreeFault

-- what follows a paren
list_at : ℕ → ℕ → List ℕ → Read
list_at zero paren bytes = Err (model.Deep paren)
list_at (suc lists) paren bytes = list_by (tree_at lists) paren bytes

abbrev by_start : (ℕ → List ℕ → Read) → ℕ → (b : ℕ) → List ℕ → Start → Read
by_start lists at b bytes s = elim s [
  | Opens ↦ lists at bytes
  | Closes ↦ Err (model.Stray at)
  | Quotes ↦ text_at at bytes
  | Runs ↦ run_at at (b ∷ bytes)
  | Strange ↦ Err (model.Byte at)
]

front : (lists at b : ℕ) (bytes : List ℕ) → tree_at lists (here at (b ∷ bytes)) ≡ by_start (list_at lists) at b bytes (start_of b)
unfolding tree_at list_at
front zero at b bytes = refl
front (suc lists) at b bytes = refl

started : (lists at : ℕ) (bytes : List ℕ) (s : Start) → at < length bytes → start_of (get_or bytes at 0) ≡ s → tree_at lists (from bytes at) ≡ by_start (list_at lists) at (get_or bytes at 0) (drop (at + 1) bytes) s
started lists at bytes s less e =
    ap (λ bs. tree_at lists (here at bs)) (split_at bytes at less) ∙ (front lists at _ _ ∙ ap (by_start (list_at lists) at (get_or bytes at 0) (drop (at + 1) bytes)) e)

pub tree_ends : (lists at : ℕ) (bytes : List ℕ) → length bytes ≤ at → tree_at lists (from bytes at) ≡ Err (model.Unclosed at)
unfolding tree_at
tree_ends zero at bytes least = let none : drop at bytes ≡ [] = grind (arith, common_steps) in ap (λ bs. tree_at zero (here at bs)) none
tree_ends (suc lists) at bytes least = let none : drop at bytes ≡ [] = grind (arith, common_steps) in ap (λ bs. tree_at (suc lists) (here at bs)) none

starts : (b : ℕ) (o c q r : Bool) → (b == open_paren) ≡ o → (b == close_paren) ≡ c → (b == quote) ≡ q → is_run_byte b ≡ r → start_of b ≡ (if o then Opens else (if c then Closes else (if q then Quotes else (if r then Runs else Strange))))
starts b o c q r ho hc hq hr = rw (ho, hc, hq, hr) refl

opens : (b : ℕ) → b ≡ 40 → start_of b ≡ Opens
opens b e = ap start_of e

pub tree_deep : (lists at : ℕ) (bytes : List ℕ) → at < length bytes → get_or bytes at 0 ≡ 40 → lists ≡ 0 → tree_at lists (from bytes at) ≡ Err (model.Deep at)
unfolding list_at
tree_deep lists at bytes less b none = started lists at bytes Opens less (opens _ b) ∙ ap (λ k. list_at k at (drop (at + 1) bytes)) none

pub tree_opens : (lists below at : ℕ) (bytes : List ℕ) → at < length bytes → get_or bytes at 0 ≡ 40 → lists ≡ suc below → tree_at lists (from bytes at) ≡ list_by (tree_at below) at (drop (at + 1) bytes)
unfolding list_at
tree_opens lists below at bytes less b some = started lists at bytes Opens less (opens _ b) ∙ ap (λ k. list_at k at (drop (at + 1) bytes)) some

pub tree_strays : (lists at : ℕ) (bytes : List ℕ) → at < length bytes → get_or bytes at 0 ≡ 41 → tree_at lists (from bytes at) ≡ Err (model.Stray at)
tree_strays lists at bytes less b = started lists at bytes Closes less (ap start_of b)

pub tree_quotes : (lists at : ℕ) (bytes : List ℕ) → at < length bytes → get_or bytes at 0 ≡ 34 → tree_at lists (from bytes at) ≡ text_at at (drop (at + 1) bytes)
tree_quotes lists at bytes less b = started lists at bytes Quotes less (ap start_of b)

start_by_run : (b : ℕ) (r : Bool) → b ≢ 40 → b ≢ 41 → b ≢ 34 → is_run_byte b ≡ r → start_of b ≡ (if r then Runs else Strange)
start_by_run b r no_open no_close no_quote e =
    let o : (b == open_paren) ≡ false = grind (arith, common_steps) in
    let c : (b == close_paren) ≡ false = grind (arith, common_steps) in
    let q : (b == quote) ≡ false = grind (arith, common_steps) in
    starts b false false false r o c q e

pub tree_runs : (lists at : ℕ) (bytes : List ℕ) → at < length bytes → get_or bytes at 0 ≢ 40 → get_or bytes at 0 ≢ 41 → get_or bytes at 0 ≢ 34 → is_run_byte (get_or bytes at 0) ≡ true → tree_at lists (from bytes at) ≡ run_at at (drop at bytes)
tree_runs lists at bytes less no_open no_close no_quote e =
    started lists at bytes Runs less (start_by_run _ true no_open no_close no_quote e) ∙ ap (run_at at) (sym (split_at bytes at less))

pub tree_strange : (lists at : ℕ) (bytes : List ℕ) → at < length bytes → get_or bytes at 0 ≢ 40 → get_or bytes at 0 ≢ 41 → get_or bytes at 0 ≢ 34 → is_run_byte (get_or bytes at 0) ≡ false → tree_at lists (from bytes at) ≡ Err (model.Byte at)
tree_strange lists at bytes less no_open no_close no_quote e = started lists at bytes Strange less (start_by_run _ false no_open no_close no_quote e)

-- a text and a run, as one more piece
pub text_grows : (so_far new : List Piece) (at : ℕ) (text : List ℕ) (next : Here) (r : Result Items TreeFault) → r ≡ Ok (record { items = text; next = next }) → new ≡ so_far ++ piece.Texts at text ∷ [] → grows so_far (r >>= λ text. Ok (found (Text at text.items) text.next)) ≡ Ok (record { so_far = new; next = next })
unfolding pieces
text_grows so_far new at text next r e is = ap (λ (x : Result Items TreeFault). grows so_far (x >>= λ text. Ok (found (Text at text.items) text.next))) e ∙ ap (λ (ps : List Piece). let g : Result Grown TreeFault = Ok (record { so_far = ps; next = next }) in g) (sym is)

pub text_fails : (so_far : List Piece) (at : ℕ) (r : Result Items TreeFault) (f : TreeFault) → r ≡ Err f → grows so_far (r >>= λ text. Ok (found (Text at text.items) text.next)) ≡ Err f
text_fails so_far at r f e = ap (λ (x : Result Items TreeFault). grows so_far (x >>= λ text. Ok (found (Text at text.items) text.next))) e

run_leaf : (at : ℕ) (run : Run) → pieces (run_of at run) ≡ leaf_of (run_of at run) ∷ []
unfolding pieces
run_leaf at (run.Word word) = refl
run_leaf at (run.Number number) = refl

take_length : (n : ℕ) (bytes : List ℕ) → take (length (take n bytes)) bytes ≡ take n bytes
take_length n bytes = rw length-take (take_min n bytes)

-- the longest run, as it is cut off
cut_run : (bytes run : List ℕ) (len : ℕ) → len ≡ length (take_while is_run_byte bytes) → run ≡ take len bytes → run ≡ take_while is_run_byte bytes
cut_run bytes run len e h = h ∙ (ap (λ k. take k bytes) e ∙ take_length (prefix_len is_run_byte bytes) bytes)

abbrev run_from : ℕ → List ℕ → (len : ℕ) → Result Tree TreeFault → Read
run_from at bytes len r = r >>= λ tree. Ok (found tree (here (at + len) (drop len bytes)))

pub run_grows : (so_far new : List Piece) (at len : ℕ) (bytes rest run : List ℕ) (word : Run) (p : Piece) → rest ≡ drop at bytes → len ≡ length (take_while is_run_byte rest) → run ≡ take len rest → run_tree at run ≡ Ok (run_of at word) → p ≡ leaf_of (run_of at word) → new ≡ so_far ++ p ∷ [] → grows so_far (run_at at (drop at bytes)) ≡ Ok (grown bytes new (at + len))
run_grows so_far new at len bytes rest run word p is_rest is_len is_run read is_p is_new =
    let whole_run = cut_run rest run len is_len is_run in
    let back : drop len rest ≡ drop (at + len) bytes = ap (drop len) is_rest ∙ drop-drop len at bytes in
    let grew : so_far ++ pieces (run_of at word) ≡ new = ap (λ ps. so_far ++ ps) (run_leaf at word) ∙ (ap (λ q. so_far ++ q ∷ []) (sym is_p) ∙ sym is_new) in
    ap (λ bs. grows so_far (run_at at bs)) (sym is_rest) ∙ (ap (λ k. grows so_far (run_from at rest k (run_tree at (take_while is_run_byte rest)))) (sym is_len)
    ∙ (ap (λ w. grows so_far (run_from at rest len (run_tree at w))) (sym whole_run) ∙ (ap (λ r. grows so_far (run_from at rest len r)) read
    ∙ (ap (λ (ps : List Piece). let g : Result Grown TreeFault = Ok (record { so_far = ps; next = here (at + len) (drop len rest) }) in g) grew ∙ ap (λ (bs : List ℕ). let g : Result Grown TreeFault = Ok (record { so_far = new; next = here (at + len) bs }) in g) back))))
