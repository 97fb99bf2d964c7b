-- The reading of a list, tree by tree: what is read already stands in front of the rest.
use Rattle.std.proofs.Common.{◌≡◌, ◌≢◌, ℕ, zero, suc, ◌+◌, ◌<◌, ◌≤◌, List, [], ◌∷◌, ◌++◌, length, get_or, drop, Bool, true, false, Result, Ok, Err, refl, arith, ap, sym, subst, ◌∙◌, append_assoc, length-drop}
use Rattle.std.proofs.lemmas.Grind.{common_steps}
use Rattle.std.proofs.lemmas.Bool.{false≢true}
use Rattle.std.specs.Prelude.{◌==◌}
use Rattle.spec_script.specs.Faults as model
use Rattle.spec_script.specs.Faults.{TreeFault}
use Rattle.spec_script.specs.Bytes.{close_paren}
use Rattle.spec_script.specs.Results.{◌>>=◌}
use Rattle.spec_script.specs.Trees.{Tree, Branch, Nil}
use Rattle.spec_script.specs.Reading.{Here, here, Found, found, Row, with_tree, past_gap, Going, InputEnds, ListEnds, TreeComes, going_of, trees_by, list_by}
use Rattle.script_tree.specs.declared.fault.TreeFault as code
use Rattle.script_tree.specs.declared.fault.TreeFault.TheVariants as fault
use Rattle.script_tree.specs.Pieces.{Piece, Opens, Closes, pieces, row_pieces}
use Rattle.script_tree.specs.Views.{from, Fails, Gives}
use Rattle.script_tree.specs.Growing.{Grown, grown, grows, grows_row}
use Rattle.script_tree.proofs.Gaps.{split_at}

-- a fault that one read passes on to the other
pub fails_on : {A B : Type 0} (e : code.TreeFault) (r : Result A TreeFault) (s : Result B TreeFault) → ((f : TreeFault) → r ≡ Err f → s ≡ Err f) → Fails e r → Fails e s
fails_on (fault.Byte at) r s on h = on _ h
fails_on (fault.Unclosed at) r s on h = on _ h
fails_on (fault.Stray at) r s on h = on _ h
fails_on (fault.Number at) r s on h = on _ h
fails_on (fault.LongText at) r s on h = on _ h
fails_on (fault.Deep at) r s on h = on _ h
fails_on fault.NoMemory r s on h = tt

-- and a fault that a call hands on
pub fault_given : (bytes : List ℕ) (so_far : List Piece) (whole : Result Grown TreeFault) (r : Result ℕ code.TreeFault) (x e : code.TreeFault) → r ≡ Err x → x ≡ e → Fails e whole → Gives (grown bytes so_far) r whole
fault_given bytes so_far whole r x e given same h = subst (λ (r : Result ℕ code.TreeFault). Gives (grown bytes so_far) r whole) (sym given) (subst (λ (e : code.TreeFault). Fails e whole) (sym same) h)

abbrev Read : Type 0
Read = Result Found TreeFault

abbrev RowRead : Type 0
RowRead = Result Row TreeFault

-- the rest of a list, by how it goes on
by_going : (Here → Read) → (most paren : ℕ) → Here → Going → RowRead
by_going read most paren place going =
    elim going [
      | InputEnds ↦ Err (model.Unclosed paren)
      | ListEnds behind ↦ Ok (record { row = Nil; next = here (place.at + 1) behind })
      | TreeComes ↦ (read place >>= λ first. trees_by read most paren (past_gap false first.next.at first.next.bytes) >>= λ others. Ok (with_tree first.tree others))
    ]

goes : (read : Here → Read) (most paren : ℕ) (place : Here) (going : Going) → going_of place.bytes ≡ going → trees_by read (suc most) paren place ≡ by_going read most paren place going
unfolding trees_by by_going
goes read most paren place going e = ap (λ g. by_going read most paren place g) e

pub going_closes : (bytes : List ℕ) (at : ℕ) → at < length bytes → get_or bytes at 0 ≡ 41 → going_of (drop at bytes) ≡ ListEnds (drop (at + 1) bytes)
going_closes bytes at less closes =
    let test : (get_or bytes at 0 == close_paren) ≡ true = grind (arith, common_steps) in
    ap going_of (split_at bytes at less) ∙ rw test refl

pub going_on : (bytes : List ℕ) (at : ℕ) → at < length bytes → get_or bytes at 0 ≢ 41 → going_of (drop at bytes) ≡ TreeComes
going_on bytes at less on =
    let test : (get_or bytes at 0 == close_paren) ≡ false = grind (arith, common_steps) in
    ap going_of (split_at bytes at less) ∙ rw test refl

going_none : (bytes : List ℕ) (at : ℕ) → length bytes ≤ at → going_of (drop at bytes) ≡ InputEnds
going_none bytes at least =
    let none : drop at bytes ≡ [] = grind (arith, common_steps) in
    ap going_of none

-- in the list that began at `paren`, the pieces so far and those of its rest from `at` are the whole that is to be read
pub record IsListRead (read : Here → Read) (bytes : List ℕ) (paren at : ℕ) (so_far : List Piece) (whole : Result Grown TreeFault) : Type 0 where
  pub most : ℕ
  pub room : length bytes < at + most
  pub same : grows_row so_far (trees_by read most paren (from bytes at)) ≡ whole

opened : (front new : List Piece) (paren : ℕ) (r : RowRead) → new ≡ front ++ Opens paren ∷ [] → grows_row new r ≡ grows front (r >>= λ list. Ok (found (Branch paren list.row) list.next))
unfolding pieces
opened front new paren (Ok x) e = ap (λ (ps : List Piece). let g : Result Grown TreeFault = Ok (record { so_far = ps; next = x.next }) in g) (ap (λ ps. ps ++ (row_pieces x.row ++ Closes ∷ [])) e ∙ append_assoc front (Opens paren ∷ []) (row_pieces x.row ++ Closes ∷ []))
opened front new paren (Err e) h = refl

pub list_begins : (read : Here → Read) (bytes : List ℕ) (paren at : ℕ) (front new : List Piece) → paren < length bytes → paren + 1 ≤ at → new ≡ front ++ Opens paren ∷ [] → past_gap false (paren + 1) (drop (paren + 1) bytes) ≡ from bytes at
    → IsListRead read bytes paren at new (grows front (list_by read paren (drop (paren + 1) bytes)))
list_begins read bytes paren at front new within behind e gap = record {
  most = length (drop (paren + 1) bytes) + 1;
  room = omega (arith, length-drop (paren + 1) bytes);
  same = ap (λ h. grows_row new (trees_by read (length (drop (paren + 1) bytes) + 1) paren h)) (sym gap) ∙ opened front new paren (trees_by read (length (drop (paren + 1) bytes) + 1) paren (past_gap false (paren + 1) (drop (paren + 1) bytes))) e;
}

ends_by : (read : Here → Read) (bytes : List ℕ) (paren at most : ℕ) → length bytes ≤ at → trees_by read most paren (from bytes at) ≡ Err (model.Unclosed paren)
unfolding trees_by by_going
ends_by read bytes paren at zero least = refl
ends_by read bytes paren at (suc most) least = goes read most paren (from bytes at) InputEnds (going_none bytes at least)

pub list_unclosed : (read : Here → Read) (bytes : List ℕ) (paren at : ℕ) (so_far : List Piece) (whole : Result Grown TreeFault) → IsListRead read bytes paren at so_far whole → length bytes ≤ at → whole ≡ Err (model.Unclosed paren)
list_unclosed read bytes paren at so_far whole l least = sym l.same ∙ ap (grows_row so_far) (ends_by read bytes paren at l.most least)

-- some more tree may come
more : (P : ℕ → Type 0) (most : ℕ) → 0 < most → ((k : ℕ) → most ≡ suc k → P (suc k)) → P most
more P zero some step = absurd (omega (arith, some))
more P (suc k) some step = step k refl

closes_by : (read : Here → Read) (bytes : List ℕ) (paren at most : ℕ) (so_far new : List Piece) → at < length bytes → get_or bytes at 0 ≡ 41 → new ≡ so_far ++ Closes ∷ [] → 0 < most → grows_row so_far (trees_by read most paren (from bytes at)) ≡ Ok (grown bytes new (at + 1))
unfolding by_going row_pieces
closes_by read bytes paren at zero so_far new less closes e some = absurd (omega (arith, some))
closes_by read bytes paren at (suc most) so_far new less closes e some =
    ap (grows_row so_far) (goes read most paren (from bytes at) (ListEnds (drop (at + 1) bytes)) (going_closes bytes at less closes)) ∙ ap (λ (ps : List Piece). let g : Result Grown TreeFault = Ok (grown bytes ps (at + 1)) in g) (sym e)

pub list_closes : (read : Here → Read) (bytes : List ℕ) (paren at : ℕ) (so_far new : List Piece) (whole : Result Grown TreeFault) → IsListRead read bytes paren at so_far whole → at < length bytes → get_or bytes at 0 ≡ 41 → new ≡ so_far ++ Closes ∷ [] → whole ≡ Ok (grown bytes new (at + 1))
list_closes read bytes paren at so_far new whole l less closes e =
    let room = l.room in
    sym l.same ∙ closes_by read bytes paren at l.most so_far new less closes e (omega arith)

-- one more tree in front of the rest
tree_first : (so_far : List Piece) (tree : Tree) (r : RowRead) → grows_row so_far (r >>= λ others. Ok (with_tree tree others)) ≡ grows_row (so_far ++ pieces tree) r
unfolding row_pieces
tree_first so_far tree (Ok x) = ap (λ (ps : List Piece). let g : Result Grown TreeFault = Ok (record { so_far = ps; next = x.next }) in g) (ap (λ ps. so_far ++ ps) (append_assoc (pieces tree) (row_pieces x.row) (Closes ∷ [])) ∙ sym (append_assoc so_far (pieces tree) (row_pieces x.row ++ Closes ∷ [])))
tree_first so_far tree (Err e) = refl

abbrev then_rest : (Here → Read) → (most paren : ℕ) → Read → RowRead
then_rest read most paren r = r >>= λ first. trees_by read most paren (past_gap false first.next.at first.next.bytes) >>= λ others. Ok (with_tree first.tree others)

abbrev pub so_far_of : Result Grown TreeFault → List Piece
so_far_of (Ok x) = x.so_far
so_far_of (Err e) = []

abbrev pub next_of : Result Grown TreeFault → Here
next_of (Ok x) = x.next
next_of (Err e) = here 0 []

abbrev pub is_ok : Result Grown TreeFault → Bool
is_ok (Ok x) = true
is_ok (Err e) = false

first_read : (read : Here → Read) (bytes : List ℕ) (paren next most : ℕ) (so_far new : List Piece) (r : Read) → grows so_far r ≡ Ok (grown bytes new next) → grows_row so_far (then_rest read most paren r) ≡ grows_row new (trees_by read most paren (past_gap false next (drop next bytes)))
first_read read bytes paren next most so_far new (Ok x) e =
    tree_first so_far x.tree (trees_by read most paren (past_gap false x.next.at x.next.bytes)) ∙ (ap (λ (ps : List Piece). grows_row ps (trees_by read most paren (past_gap false x.next.at x.next.bytes))) (ap so_far_of e) ∙ ap (λ (h : Here). grows_row new (trees_by read most paren (past_gap false h.at h.bytes))) (ap next_of e))
first_read read bytes paren next most so_far new (Err f) e = absurd (false≢true (ap is_ok e))

goes_by : (read : Here → Read) (bytes : List ℕ) (paren at next to most : ℕ) (so_far new : List Piece) → at < length bytes → get_or bytes at 0 ≢ 41 → grows so_far (read (from bytes at)) ≡ Ok (grown bytes new next) → past_gap false next (drop next bytes) ≡ from bytes to
    → grows_row so_far (trees_by read (suc most) paren (from bytes at)) ≡ grows_row new (trees_by read most paren (from bytes to))
unfolding by_going
goes_by read bytes paren at next to most so_far new less on e gap =
    ap (grows_row so_far) (goes read most paren (from bytes at) TreeComes (going_on bytes at less on)) ∙ (first_read read bytes paren next most so_far new (read (from bytes at)) e ∙ ap (λ h. grows_row new (trees_by read most paren h)) gap)

goes_on_by : (read : Here → Read) (bytes : List ℕ) (paren at next to most : ℕ) (so_far new : List Piece) (whole : Result Grown TreeFault) → length bytes < at + most → grows_row so_far (trees_by read most paren (from bytes at)) ≡ whole → at < length bytes → get_or bytes at 0 ≢ 41 → at < to → grows so_far (read (from bytes at)) ≡ Ok (grown bytes new next) → past_gap false next (drop next bytes) ≡ from bytes to → IsListRead read bytes paren to new whole
goes_on_by read bytes paren at next to zero so_far new whole room same less on behind e gap = absurd (omega (arith, room, less))
goes_on_by read bytes paren at next to (suc most) so_far new whole room same less on behind e gap = record {
  most = most;
  room = omega arith;
  same = sym (goes_by read bytes paren at next to most so_far new less on e gap) ∙ same;
}

pub list_goes_on : (read : Here → Read) (bytes : List ℕ) (paren at next to : ℕ) (so_far new : List Piece) (whole : Result Grown TreeFault) → IsListRead read bytes paren at so_far whole → at < length bytes → get_or bytes at 0 ≢ 41 → at < to → grows so_far (read (from bytes at)) ≡ Ok (grown bytes new next) → past_gap false next (drop next bytes) ≡ from bytes to → IsListRead read bytes paren to new whole
list_goes_on read bytes paren at next to so_far new whole l less on behind e gap = goes_on_by read bytes paren at next to l.most so_far new whole l.room l.same less on behind e gap

first_fails : (read : Here → Read) (paren most : ℕ) (so_far : List Piece) (r : Read) (f : TreeFault) → grows so_far r ≡ Err f → grows_row so_far (then_rest read most paren r) ≡ Err f
first_fails read paren most so_far (Ok x) f e = absurd (false≢true (sym (ap is_ok e)))
first_fails read paren most so_far (Err g) f e = e

fails_by : (read : Here → Read) (bytes : List ℕ) (paren at most : ℕ) (so_far : List Piece) (f : TreeFault) → at < length bytes → get_or bytes at 0 ≢ 41 → 0 < most → grows so_far (read (from bytes at)) ≡ Err f → grows_row so_far (trees_by read most paren (from bytes at)) ≡ Err f
unfolding by_going
fails_by read bytes paren at zero so_far f less on some e = absurd (omega (arith, some))
fails_by read bytes paren at (suc most) so_far f less on some e =
    ap (grows_row so_far) (goes read most paren (from bytes at) TreeComes (going_on bytes at less on)) ∙ first_fails read paren most so_far (read (from bytes at)) f e

pub list_fails : (read : Here → Read) (bytes : List ℕ) (paren at : ℕ) (so_far : List Piece) (whole : Result Grown TreeFault) (e : code.TreeFault) → IsListRead read bytes paren at so_far whole → at < length bytes → get_or bytes at 0 ≢ 41 → Fails e (grows so_far (read (from bytes at))) → Fails e whole
list_fails read bytes paren at so_far whole e l less on h =
    let room = l.room in
    fails_on e (grows so_far (read (from bytes at))) whole (λ f failed. sym l.same ∙ fails_by read bytes paren at l.most so_far f less on (omega arith) failed) h
