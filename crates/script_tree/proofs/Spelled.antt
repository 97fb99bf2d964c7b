-- The pieces of a tree, one after another, are its canonical spelling (`spelled_tree`); a loop over them (`spelled_step`,
-- `spelled_none`).
use Rattle.std.proofs.Common.{◌≡◌, ℕ, ◌+◌, ◌<◌, ◌≤◌, Bool, true, false, List, [], ◌∷◌, ◌++◌, length, map, take, drop, get_or, Result, Ok, Err, refl, arith, ap, sym, ◌∙◌, append_assoc, append-nil, add-one, drop-cons, length-append}
use Rattle.std.specs.Prelude.{OnOk}
use Rattle.std.proofs.lemmas.Grind.{common_steps}
use Rattle.std.specs.List.{flat_map}
use Rattle.std.proofs.lemmas.List.Folds.{length-flat_map-take}
use Rattle.spec_script.specs.Bytes.{line_feed, space, quote, open_paren, close_paren}
use Rattle.spec_script.specs.Spelling.{item_spelling, text_spelling}
use Rattle.spec_script.specs.Trees.{Tree, Word, Number, Text, Branch, Trees, Nil, And}
use Rattle.spec_script.specs.Canonical.{canonical, canonical_row, canonical_rest, document}
use Rattle.script_tree.specs.declared.tree.TreeNode.{TreeNode}
use Rattle.script_tree.specs.Pieces.{Piece, Closes, piece_of, pieces, row_pieces}
use Rattle.script_tree.specs.Spelled.{piece_spelling, ends_tree, is_space_due, gap_if, spelled}

mutual
  unfolding spelled pieces row_pieces canonical canonical_row canonical_rest

  -- a tree's pieces, before others
  spelled_tree : (behind : Bool) (tree : Tree) (rest : List Piece) → spelled behind (pieces tree ++ rest) ≡ gap_if behind ++ (canonical tree ++ spelled true rest)
  spelled_tree behind (Word at word) rest = refl
  spelled_tree behind (Number at z) rest = refl
  spelled_tree behind (Text at text) rest = refl
  spelled_tree behind (Branch at row) rest =
      ap (λ ps. gap_if behind ++ (open_paren ∷ spelled false ps)) (append_assoc (row_pieces row) (Closes ∷ []) rest)
      ∙ ap (λ bs. gap_if behind ++ (open_paren ∷ bs)) (spelled_row row rest ∙ sym (append_assoc (canonical_row row) (close_paren ∷ []) (spelled true rest)))

  -- those of a list's trees, before its end
  spelled_row : (row : Trees) (rest : List Piece) → spelled false (row_pieces row ++ Closes ∷ rest) ≡ canonical_row row ++ close_paren ∷ spelled true rest
  spelled_row Nil rest = refl
  spelled_row (And tree others) rest =
      ap (spelled false) (append_assoc (pieces tree) (row_pieces others) (Closes ∷ rest))
      ∙ (spelled_tree false tree (row_pieces others ++ Closes ∷ rest)
      ∙ (ap (λ bs. canonical tree ++ bs) (spelled_rest others rest) ∙ sym (append_assoc (canonical tree) (canonical_rest others) (close_paren ∷ spelled true rest))))

  -- and those behind the first
  spelled_rest : (row : Trees) (rest : List Piece) → spelled true (row_pieces row ++ Closes ∷ rest) ≡ canonical_rest row ++ close_paren ∷ spelled true rest
  spelled_rest Nil rest = refl
  spelled_rest (And tree others) rest =
      ap (spelled true) (append_assoc (pieces tree) (row_pieces others) (Closes ∷ rest))
      ∙ (spelled_tree true tree (row_pieces others ++ Closes ∷ rest)
      ∙ ap (λ bs. space ∷ bs) (ap (λ bs. canonical tree ++ bs) (spelled_rest others rest) ∙ sym (append_assoc (canonical tree) (canonical_rest others) (close_paren ∷ spelled true rest))))

spelled_document : (tree : Tree) → spelled false (pieces tree) ++ line_feed ∷ [] ≡ document tree
unfolding spelled document
spelled_document tree = ap (λ bs. bs ++ line_feed ∷ []) (ap (spelled false) (sym (append-nil (pieces tree))) ∙ (spelled_tree false tree [] ∙ append-nil (canonical tree)))

-- a whole document, by the pieces of its tree
pub document_is : (tree : Tree) (ps : List Piece) → ps ≡ pieces tree → spelled false ps ++ line_feed ∷ [] ≡ document tree
document_is tree ps is = ap (λ qs. spelled false qs ++ line_feed ∷ []) is ∙ spelled_document tree

pub document_pushed : {A E : Type 0} (r : Result A E) (old new : List ℕ) (tree : Tree) (ps : List Piece) → ps ≡ pieces tree → OnOk r (new ≡ old ++ (spelled false ps ++ line_feed ∷ [])) → OnOk r (new ≡ old ++ document tree)
document_pushed (Ok x) old new tree ps is pushed = pushed ∙ ap (λ bs. old ++ bs) (document_is tree ps is)
document_pushed (Err e) old new tree ps is pushed = tt

-- the node at a place, and those behind it
node_first : (nodes : List TreeNode) (i : ℕ) (node : TreeNode) → i < length nodes → node ≡ get_or nodes i node → map piece_of (drop i nodes) ≡ piece_of node ∷ map piece_of (drop (i + 1) nodes)
node_first nodes i node less is =
    let front : drop i nodes ≡ get_or nodes i node ∷ drop (i + 1) nodes = rw (add-one, drop-cons nodes i node) refl in
    ap (map piece_of) front ∙ ap (λ n. piece_of n ∷ map piece_of (drop (i + 1) nodes)) (sym is)

one_more : (out gap piece rest : List ℕ) → ((out ++ gap) ++ piece) ++ rest ≡ out ++ (gap ++ (piece ++ rest))
one_more out gap piece rest = simp append_assoc

pub spelled_step : (out gapped next whole : List ℕ) (behind due behind_next : Bool) (nodes : List TreeNode) (i : ℕ) (node : TreeNode) → i < length nodes → node ≡ get_or nodes i node → due ≡ is_space_due behind (piece_of node) → gapped ≡ out ++ gap_if due → next ≡ gapped ++ piece_spelling (piece_of node) → behind_next ≡ ends_tree (piece_of node)
    → out ++ spelled behind (map piece_of (drop i nodes)) ≡ whole → next ++ spelled behind_next (map piece_of (drop (i + 1) nodes)) ≡ whole
unfolding spelled
spelled_step out gapped next whole behind due behind_next nodes i node less is due_is gapped_is next_is behind_is so_far =
    let rest = spelled (ends_tree (piece_of node)) (map piece_of (drop (i + 1) nodes)) in
    ap (λ b. next ++ spelled b (map piece_of (drop (i + 1) nodes))) behind_is
    ∙ (ap (λ bs. bs ++ rest) (next_is ∙ ap (λ bs. bs ++ piece_spelling (piece_of node)) (gapped_is ∙ ap (λ b. out ++ gap_if b) due_is))
    ∙ (one_more out (gap_if (is_space_due behind (piece_of node))) (piece_spelling (piece_of node)) rest
    ∙ (ap (λ ps. out ++ spelled behind ps) (sym (node_first nodes i node less is)) ∙ so_far)))

pub spelled_none : (out whole : List ℕ) (behind : Bool) (nodes : List TreeNode) (i : ℕ) → length nodes ≤ i → out ++ spelled behind (map piece_of (drop i nodes)) ≡ whole → out ≡ whole
unfolding spelled
spelled_none out whole behind nodes i least so_far =
    let none : drop i nodes ≡ [] = grind (arith, common_steps) in
    sym (append-nil out) ∙ (ap (λ ns. out ++ spelled behind (map piece_of ns)) (sym none) ∙ so_far)

-- what is still to be written is no longer than all of it
pub rest_within : (old out all : List ℕ) (behind due : Bool) (nodes : List TreeNode) (i : ℕ) (node : TreeNode) → i < length nodes → node ≡ get_or nodes i node → due ≡ is_space_due behind (piece_of node)
    → out ++ spelled behind (map piece_of (drop i nodes)) ≡ old ++ all → length out + (length (gap_if due) + length (piece_spelling (piece_of node))) ≤ length old + length all
unfolding spelled
rest_within old out all behind due nodes i node less is due_is so_far =
    let piece = piece_of node in
    let rest = spelled (ends_tree piece) (map piece_of (drop (i + 1) nodes)) in
    let split : out ++ (gap_if (is_space_due behind piece) ++ (piece_spelling piece ++ rest)) ≡ old ++ all = ap (λ ps. out ++ spelled behind ps) (sym (node_first nodes i node less is)) ∙ so_far in
    let gap : length (gap_if due) ≡ length (gap_if (is_space_due behind piece)) = ap (λ b. length (gap_if b)) due_is in
    omega (arith, gap, simp length-append at (ap length split))

-- the next item of a text is within the whole
pub item_within : (old out text : List ℕ) (i : ℕ) → i < length text → out ≡ old ++ quote ∷ flat_map item_spelling (take i text) → length out + length (item_spelling (get_or text i 0)) ≤ length old + length (text_spelling text)
item_within old out text i less so_far =
    omega (arith, simp length-append at (ap length so_far), length-append (flat_map item_spelling text) (quote ∷ []), length-flat_map-take item_spelling text i 0 less)
