-- Whether the trees that are left of a list are texts, piece by piece.
use Rattle.std.proofs.Common.{◌≡◌, ℕ, ◌+◌, ◌<◌, ◌≤◌, List, [], length, map, drop, get_or, Bool, true, false, Option, Some, None, is_some, not, refl, arith, ap, sym, ◌∙◌}
use Rattle.std.proofs.lemmas.Grind.{common_steps}
use Rattle.std.proofs.lemmas.Bool.{false≢true}
use Rattle.std.specs.Prelude.{option_map}
use Rattle.spec_script.specs.Trees.{Trees}
use Rattle.spec_script.specs.Forms.{are_texts}
use Rattle.script_tree.specs.Pieces.{Piece, Words, Numbers, Texts, Opens, Closes, piece_of, first, onto_rows, rows}
use Rattle.script_tree.specs.declared.tree.TreeNode.{TreeNode}
use Rattle.script_draft.specs.Ahead.{ahead, begins_tree, text_in}
use Rattle.script_draft.specs.Taken.{text_of}
use Rattle.script_draft.specs.declared.cursor.Text.{Text as TextRead}
use Rattle.script_draft.proofs.Counting.{rows_at}

at_end : (p : Piece) (rs : List Trees) → begins_tree p ≡ false → are_texts (first (onto_rows p rs)) ≡ true
at_end (Words at w) rs e = absurd (false≢true (sym e))
at_end (Numbers at w) rs e = absurd (false≢true (sym e))
at_end (Texts at w) rs e = absurd (false≢true (sym e))
at_end (Opens at) rs e = absurd (false≢true (sym e))
at_end Closes rs e = refl

at_other : (p : Piece) (rs : List Trees) → begins_tree p ≡ true → text_in p ≡ None → are_texts (first (onto_rows p rs)) ≡ false
at_other (Words at w) rs b e = refl
at_other (Numbers at w) rs b e = refl
at_other (Texts at w) rs b e = cc
at_other (Opens at) rs b e = refl
at_other Closes rs b e = absurd (false≢true b)

at_text : (p : Piece) (rs : List Trees) (x : ℕ × List ℕ) → text_in p ≡ Some x → are_texts (first (onto_rows p rs)) ≡ are_texts (first rs)
at_text (Words at w) rs x e = cc
at_text (Numbers at w) rs x e = cc
at_text (Texts at w) rs x e = refl
at_text (Opens at) rs x e = cc
at_text Closes rs x e = cc

here : (nodes : List TreeNode) (i : ℕ) (n d : TreeNode) → i < length nodes → n ≡ get_or nodes i d → are_texts (ahead (map piece_of (drop i nodes))) ≡ are_texts (first (onto_rows (piece_of n) (rows (map piece_of (drop (i + 1) nodes)))))
unfolding ahead
here nodes i n d less e = ap (λ rs. are_texts (first rs)) (rows_at nodes i n d less e)

pub texts_end : (nodes : List TreeNode) (i : ℕ) (n d : TreeNode) (b all : Bool) → i < length nodes → n ≡ get_or nodes i d → b ≡ begins_tree (piece_of n) → b ≡ false → are_texts (ahead (map piece_of (drop i nodes))) ≡ all → true ≡ all
texts_end nodes i n d b all less e is none before = sym (at_end (piece_of n) _ (sym is ∙ none)) ∙ (sym (here nodes i n d less e) ∙ before)

pub texts_other : (nodes : List TreeNode) (i : ℕ) (n d : TreeNode) (b all : Bool) (r : Option TextRead) → i < length nodes → n ≡ get_or nodes i d → b ≡ begins_tree (piece_of n) → b ≡ true → option_map text_of r ≡ text_in (piece_of n) → is_some r ≡ false → are_texts (ahead (map piece_of (drop i nodes))) ≡ all → false ≡ all
texts_other nodes i n d b all None less e is some t none before = sym (at_other (piece_of n) _ (sym is ∙ some) (sym t)) ∙ (sym (here nodes i n d less e) ∙ before)
texts_other nodes i n d b all (Some x) less e is some t none before = absurd (false≢true (sym none))

pub texts_on : (nodes : List TreeNode) (i : ℕ) (n d : TreeNode) (all : Bool) (r : Option TextRead) → i < length nodes → n ≡ get_or nodes i d → option_map text_of r ≡ text_in (piece_of n) → is_some r ≡ true → are_texts (ahead (map piece_of (drop i nodes))) ≡ all → are_texts (ahead (map piece_of (drop (i + 1) nodes))) ≡ all
unfolding ahead
texts_on nodes i n d all None less e t none before = absurd (false≢true none)
texts_on nodes i n d all (Some x) less e t none before = sym (at_text (piece_of n) _ (text_of x) (sym t)) ∙ (sym (here nodes i n d less e) ∙ before)

pub texts_done : (nodes : List TreeNode) (i : ℕ) (all : Bool) → length nodes ≤ i → are_texts (ahead (map piece_of (drop i nodes))) ≡ all → true ≡ all
unfolding ahead
texts_done nodes i all most before =
    let none : drop i nodes ≡ [] = grind (arith, common_steps) in
    ap (λ (ns : List TreeNode). are_texts (first (rows (map piece_of ns)))) (sym none) ∙ before

pub not_none : (b : Bool) (r : Option TextRead) → is_some r ≡ not b → b ≡ true → is_some r ≡ false
not_none b r e met = e ∙ ap not met

pub not_some : (b : Bool) (r : Option TextRead) → is_some r ≡ not b → b ≡ false → is_some r ≡ true
not_some b r e met = e ∙ ap not met
