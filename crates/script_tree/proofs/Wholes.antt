-- The whole input: a gap, a tree, and nothing but gap behind it.
use Rattle.std.proofs.Common.{◌≡◌, ℕ, ◌<◌, ◌≤◌, List, [], ◌∷◌, length, drop, false, Result, Ok, Err, arith, ap, sym, subst, ◌∙◌}
use Rattle.std.proofs.lemmas.Grind.{common_steps}
use Rattle.std.proofs.lemmas.Bool.{false≢true}
use Rattle.std.specs.Prelude.{IfErr}
use Rattle.spec_script.specs.Faults as model
use Rattle.spec_script.specs.Faults.{TreeFault}
use Rattle.spec_script.specs.Results.{◌>>=◌}
use Rattle.spec_script.specs.Trees.{Tree}
use Rattle.spec_script.specs.Reading.{Here, here, Found, past_gap, tree_at, alone, reading}
use Rattle.script_tree.specs.declared.fault.TreeFault as code
use Rattle.script_tree.specs.Pieces.{IsWhole, Piece, pieces, tree_of}
use Rattle.script_tree.specs.TreeCode.{tree_of-pieces}
use Rattle.script_tree.specs.Views.{from, Fails}
use Rattle.script_tree.specs.Growing.{Grown, grown, grows}
use Rattle.script_tree.proofs.Gaps.{split_at}
use Rattle.script_tree.proofs.Lists.{fails_on, so_far_of, next_of, is_ok}

abbrev Read : Type 0
Read = Result Found TreeFault

abbrev by_place : Tree → Here → Result Tree TreeFault
by_place tree behind = elim behind.bytes [ [] ↦ Ok tree | b ∷ bytes ↦ Err (model.Stray behind.at) ]

alone_by : (bytes : List ℕ) (next end : ℕ) (new : List Piece) (r : Read) → grows [] r ≡ Ok (grown bytes new next) → past_gap false next (drop next bytes) ≡ from bytes end → (r >>= alone) ≡ by_place (tree_of new) (from bytes end)
alone_by bytes next end new (Ok x) e gap =
    ap (λ (h : Here). by_place x.tree (past_gap false h.at h.bytes)) (ap next_of e) ∙ (ap (by_place x.tree) gap ∙ ap (λ t. by_place t (from bytes end)) (sym (tree_of-pieces x.tree) ∙ ap tree_of (ap so_far_of e)))
alone_by bytes next end new (Err f) e gap = absurd (false≢true (ap is_ok e))

pieces_by : (bytes : List ℕ) (next : ℕ) (new : List Piece) (r : Read) → grows [] r ≡ Ok (grown bytes new next) → IsWhole new
pieces_by bytes next new (Ok x) e =
    let same : pieces x.tree ≡ new = ap so_far_of e in
    sym same ∙ ap pieces (sym (tree_of-pieces x.tree) ∙ ap tree_of same)
pieces_by bytes next new (Err f) e = absurd (false≢true (ap is_ok e))

-- what was read is a whole tree's pieces and no more
pub whole_pieces : (bytes : List ℕ) (begin next : ℕ) (new : List Piece) → grows [] (tree_at 64 (from bytes begin)) ≡ Ok (grown bytes new next) → IsWhole new
whole_pieces bytes begin next new e = pieces_by bytes next new (tree_at 64 (from bytes begin)) e

begun : (bytes : List ℕ) (begin : ℕ) → past_gap false 0 (drop 0 bytes) ≡ from bytes begin → reading bytes ≡ (tree_at 64 (from bytes begin) >>= alone)
unfolding reading
begun bytes begin gap = ap (λ h. tree_at 64 h >>= alone) gap

pub whole_reads : (bytes : List ℕ) (begin next end : ℕ) (new : List Piece) → past_gap false 0 (drop 0 bytes) ≡ from bytes begin → grows [] (tree_at 64 (from bytes begin)) ≡ Ok (grown bytes new next) → past_gap false next (drop next bytes) ≡ from bytes end → length bytes ≤ end → reading bytes ≡ Ok (tree_of new)
whole_reads bytes begin next end new gap e behind least =
    let none : drop end bytes ≡ [] = grind (arith, common_steps) in
    begun bytes begin gap ∙ (alone_by bytes next end new _ e behind ∙ ap (λ (bs : List ℕ). by_place (tree_of new) (here end bs)) none)

pub whole_strays : (bytes : List ℕ) (begin next end : ℕ) (new : List Piece) → past_gap false 0 (drop 0 bytes) ≡ from bytes begin → grows [] (tree_at 64 (from bytes begin)) ≡ Ok (grown bytes new next) → past_gap false next (drop next bytes) ≡ from bytes end → end < length bytes → reading bytes ≡ Err (model.Stray end)
whole_strays bytes begin next end new gap e behind less =
    begun bytes begin gap ∙ (alone_by bytes next end new _ e behind ∙ ap (λ (bs : List ℕ). by_place (tree_of new) (here end bs)) (split_at bytes end less))

abbrev to_tree : Result Grown TreeFault → Result Tree TreeFault
to_tree (Ok x) = Ok (tree_of x.so_far)
to_tree (Err e) = Err e

fails_by : (r : Read) (f : TreeFault) → grows [] r ≡ Err f → (r >>= alone) ≡ Err f
fails_by (Ok x) f e = absurd (false≢true (sym (ap is_ok e)))
fails_by (Err g) f e = ap to_tree e

whole_fault : (bytes : List ℕ) (begin : ℕ) (e : code.TreeFault) → past_gap false 0 (drop 0 bytes) ≡ from bytes begin → Fails e (grows [] (tree_at 64 (from bytes begin))) → Fails e (reading bytes)
whole_fault bytes begin e gap h = fails_on e (grows [] (tree_at 64 (from bytes begin))) (reading bytes) (λ f failed. begun bytes begin gap ∙ fails_by (tree_at 64 (from bytes begin)) f failed) h

pub whole_fails : {X : Type 0} (bytes : List ℕ) (begin : ℕ) (r : Result X code.TreeFault) (x e : code.TreeFault) → r ≡ Err x → x ≡ e → past_gap false 0 (drop 0 bytes) ≡ from bytes begin → Fails e (grows [] (tree_at 64 (from bytes begin))) → IfErr r (λ fault. Fails fault (reading bytes))
whole_fails {X} bytes begin r x e given same gap h = subst (λ (r : Result X code.TreeFault). IfErr r (λ fault. Fails fault (reading bytes))) (sym given) (subst (λ (e : code.TreeFault). Fails e (reading bytes)) (sym same) (whole_fault bytes begin e gap h))
