-- The count of the trees that are left of a list, piece by piece.
use Rattle.std.proofs.Common.{◌≡◌, ℕ, zero, suc, ◌+◌, ◌-◌, ◌<◌, ◌≤◌, List, [], ◌∷◌, length, map, drop, get_or, true, refl, arith, ap, sym, ◌∙◌, add-one}
use Rattle.std.proofs.lemmas.Grind.{common_steps}
use Rattle.std.proofs.lemmas.Bool.{false≢true}
use Rattle.spec_script.specs.Trees.{Trees, Nil}
use Rattle.script_tree.specs.Pieces.{Piece, Words, Numbers, Texts, Opens, Closes, piece_of, others, onto_rows, rows}
use Rattle.script_tree.specs.declared.tree.TreeNode.{TreeNode}
use Rattle.script_draft.specs.Ahead.{tree_count, begins_tree}
use Rattle.script_draft.specs.Levels.{level, lists_behind}

pub level_of_none : (lists : ℕ) → level lists [] ≡ Nil
level_of_none zero = refl
level_of_none (suc lists) = level_of_none lists

level_opened : (lists : ℕ) (rs : List Trees) → level (lists + 1) rs ≡ level lists (others rs)
level_opened lists rs = rw (add-one lists) refl

-- a tree that begins in the list itself
pub counted_here : (p : Piece) (rs : List Trees) → begins_tree p ≡ true → tree_count (level 0 (onto_rows p rs)) ≡ tree_count (level (lists_behind 0 p) rs) + 1
counted_here (Words at w) rs e = refl
counted_here (Numbers at w) rs e = refl
counted_here (Texts at w) rs e = refl
counted_here (Opens at) rs e = refl
counted_here Closes rs e = absurd (false≢true e)

-- and no tree of the list, which is further out
further : (lists : ℕ) (p : Piece) (rs : List Trees) → level (suc lists) (onto_rows p rs) ≡ level (lists_behind (suc lists) p) rs
further lists (Words at w) rs = refl
further lists (Numbers at w) rs = refl
further lists (Texts at w) rs = refl
further lists (Opens at) rs = sym (level_opened (suc lists) rs)
further lists Closes rs = let e : suc lists - 1 ≡ lists = omega arith in rw e refl

pub counted_further : (lists : ℕ) (p : Piece) (rs : List Trees) → 0 < lists → level lists (onto_rows p rs) ≡ level (lists_behind lists p) rs
counted_further zero p rs some = absurd (omega (arith, some))
counted_further (suc lists) p rs some = further lists p rs

pub rows_at : (nodes : List TreeNode) (i : ℕ) (n d : TreeNode) → i < length nodes → n ≡ get_or nodes i d → rows (map piece_of (drop i nodes)) ≡ onto_rows (piece_of n) (rows (map piece_of (drop (i + 1) nodes)))
rows_at nodes i n d less e =
    let split : drop i nodes ≡ get_or nodes i d ∷ drop (i + 1) nodes = grind (arith, common_steps) in
    rw (split, e) refl

-- the count goes on over a tree of the list
pub count_goes : (nodes : List TreeNode) (i count total : ℕ) (n d : TreeNode) → i < length nodes → n ≡ get_or nodes i d → begins_tree (piece_of n) ≡ true → count + tree_count (level 0 (rows (map piece_of (drop i nodes)))) ≡ total → count + 1 + tree_count (level (lists_behind 0 (piece_of n)) (rows (map piece_of (drop (i + 1) nodes)))) ≡ total
count_goes nodes i count total n d less e begins before =
    let here = ap (λ rs. tree_count (level 0 rs)) (rows_at nodes i n d less e) in
    let one = counted_here (piece_of n) (rows (map piece_of (drop (i + 1) nodes))) begins in
    omega (arith, before, here, one)

pub count_stays : (nodes : List TreeNode) (i lists count total : ℕ) (n d : TreeNode) → i < length nodes → n ≡ get_or nodes i d → 0 < lists → count + tree_count (level lists (rows (map piece_of (drop i nodes)))) ≡ total → count + tree_count (level (lists_behind lists (piece_of n)) (rows (map piece_of (drop (i + 1) nodes)))) ≡ total
count_stays nodes i lists count total n d less e some before =
    let here = ap (λ rs. tree_count (level lists rs)) (rows_at nodes i n d less e) in
    let same = ap tree_count (counted_further lists (piece_of n) (rows (map piece_of (drop (i + 1) nodes))) some) in
    omega (arith, before, here, same)

pub count_ends : (nodes : List TreeNode) (i lists count total : ℕ) → length nodes ≤ i → count + tree_count (level lists (rows (map piece_of (drop i nodes)))) ≡ total → count ≡ total
count_ends nodes i lists count total most before =
    let none : drop i nodes ≡ [] = grind (arith, common_steps) in
    let empty = ap (λ (ns : List TreeNode). tree_count (level lists (rows (map piece_of ns)))) none ∙ ap tree_count (level_of_none lists) in
    omega (arith, before, empty)

pub lists_rise : (lists : ℕ) (p : Piece) → lists_behind lists p ≤ lists + 1
lists_rise lists (Words at w) = omega arith
lists_rise lists (Numbers at w) = omega arith
lists_rise lists (Texts at w) = omega arith
lists_rise lists (Opens at) = omega arith
lists_rise lists Closes = omega arith

pub step_here : (nodes : List TreeNode) (i lists lists' count count' total : ℕ) (n d : TreeNode) → i < length nodes → n ≡ get_or nodes i d → lists ≡ 0 → begins_tree (piece_of n) ≡ true → count' ≡ count + 1 → lists' ≡ lists_behind lists (piece_of n) → count + tree_count (level lists (rows (map piece_of (drop i nodes)))) ≡ total → count' + tree_count (level lists' (rows (map piece_of (drop (i + 1) nodes)))) ≡ total
step_here nodes i lists lists' count count' total n d less e none begins more deep before =
    rw (more, deep, none) (count_goes nodes i count total n d less e begins (rw none at before))

pub step_further : (nodes : List TreeNode) (i lists lists' count count' total : ℕ) (n d : TreeNode) → i < length nodes → n ≡ get_or nodes i d → 0 < lists → count' ≡ count → lists' ≡ lists_behind lists (piece_of n) → count + tree_count (level lists (rows (map piece_of (drop i nodes)))) ≡ total → count' + tree_count (level lists' (rows (map piece_of (drop (i + 1) nodes)))) ≡ total
step_further nodes i lists lists' count count' total n d less e some same deep before =
    rw (same, deep) (count_stays nodes i lists count total n d less e some before)
