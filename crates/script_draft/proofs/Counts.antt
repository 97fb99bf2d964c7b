-- Lists of a known number of trees.
use Rattle.std.proofs.Common.{◌≡◌, ◌-◌, ◌<◌, List, [], ◌∷◌, true, false, refl, arith, ap, sym, ◌∙◌}
use Rattle.std.proofs.lemmas.Bool.{false≢true}
use Rattle.spec_script.specs.Trees.{Trees, Nil, And}
use Rattle.script_tree.specs.Pieces.{Piece, Words, Numbers, Texts, Opens, Closes, first_tree}
use Rattle.script_draft.specs.Ahead.{ahead, rest_of, tree_count, has_tree, tree_ahead, IsPast}

pub some_ahead : (ps : List Piece) → 0 < tree_count (ahead ps) → has_tree ps ≡ true
unfolding ahead
some_ahead [] some = absurd (omega (arith, some))
some_ahead (Words at w ∷ ps) some = refl
some_ahead (Numbers at w ∷ ps) some = refl
some_ahead (Texts at w ∷ ps) some = refl
some_ahead (Opens at ∷ ps) some = refl
some_ahead (Closes ∷ ps) some = absurd (omega (arith, some))

pub none_ahead : (ps : List Piece) → tree_count (ahead ps) ≡ 0 → has_tree ps ≡ false
unfolding ahead
none_ahead [] none = refl
none_ahead (Words at w ∷ ps) none = absurd (omega (arith, none))
none_ahead (Numbers at w ∷ ps) none = absurd (omega (arith, none))
none_ahead (Texts at w ∷ ps) none = absurd (omega (arith, none))
none_ahead (Opens at ∷ ps) none = absurd (omega (arith, none))
none_ahead (Closes ∷ ps) none = refl

one_less : (ts : Trees) → tree_count (rest_of ts) ≡ tree_count ts - 1
one_less Nil = refl
one_less (And t ts) = omega arith

-- past a tree there is one less
pub count_past : (old new : List Piece) → IsPast old new → tree_count (ahead new) ≡ tree_count (ahead old) - 1
count_past old new past = ap tree_count past.trees ∙ one_less (ahead old)

no_trees : (ts : Trees) → tree_count ts ≡ 0 → ts ≡ Nil
no_trees Nil e = refl
no_trees (And t ts) e = absurd (omega (arith, e))

pub is_empty : (ps : List Piece) → tree_count (ahead ps) ≡ 0 → ahead ps ≡ Nil
is_empty ps e = no_trees (ahead ps) e

split : (ts : Trees) → 0 < tree_count ts → ts ≡ And (first_tree ts) (rest_of ts)
split Nil some = absurd (omega (arith, some))
split (And t ts) some = refl

-- a list with one tree more
pub one_more : (old new : List Piece) → 0 < tree_count (ahead old) → IsPast old new → ahead old ≡ And (tree_ahead old) (ahead new)
one_more old new some past = split (ahead old) some ∙ ap (λ ts. And (tree_ahead old) ts) (sym past.trees)

-- ## Lists of one, two and three trees, by the places between them

pub one_tree : (c0 c1 : List Piece) → tree_count (ahead c0) ≡ 1 → IsPast c0 c1 → ahead c0 ≡ And (tree_ahead c0) Nil
one_tree c0 c1 one past =
    let n1 = count_past c0 c1 past in
    one_more c0 c1 (omega (arith, one)) past ∙ ap (λ ts. And (tree_ahead c0) ts) (is_empty c1 (omega (arith, n1, one)))

pub two_trees : (c0 c1 c2 : List Piece) → tree_count (ahead c0) ≡ 2 → IsPast c0 c1 → IsPast c1 c2 → ahead c0 ≡ And (tree_ahead c0) (And (tree_ahead c1) Nil)
two_trees c0 c1 c2 two past again =
    let n1 = count_past c0 c1 past in
    one_more c0 c1 (omega (arith, two)) past ∙ ap (λ ts. And (tree_ahead c0) ts) (one_tree c1 c2 (omega (arith, n1, two)) again)

pub three_trees : (c0 c1 c2 c3 : List Piece) → tree_count (ahead c0) ≡ 3 → IsPast c0 c1 → IsPast c1 c2 → IsPast c2 c3 → ahead c0 ≡ And (tree_ahead c0) (And (tree_ahead c1) (And (tree_ahead c2) Nil))
three_trees c0 c1 c2 c3 three past again then =
    let n1 = count_past c0 c1 past in
    one_more c0 c1 (omega (arith, three)) past ∙ ap (λ ts. And (tree_ahead c0) ts) (two_trees c1 c2 c3 (omega (arith, n1, three)) again then)

second_by : (ts : Trees) → tree_count ts ≡ 2 → ts ≡ And (first_tree ts) (And (first_tree (rest_of ts)) Nil)
second_by Nil e = absurd (omega (arith, e))
second_by (And a Nil) e = absurd (omega (arith, e))
second_by (And a (And b Nil)) e = refl
second_by (And a (And b (And c row))) e = absurd (omega (arith, e))

-- the same before all were passed
pub two_ahead : (c0 : List Piece) → tree_count (ahead c0) ≡ 2 → ahead c0 ≡ And (tree_ahead c0) (And (first_tree (rest_of (ahead c0))) Nil)
two_ahead c0 two = second_by (ahead c0) two

first_by : (ts : Trees) → tree_count ts ≡ 1 → ts ≡ And (first_tree ts) Nil
first_by Nil e = absurd (omega (arith, e))
first_by (And a Nil) e = refl
first_by (And a (And b row)) e = absurd (omega (arith, e))

pub one_ahead : (c0 : List Piece) → tree_count (ahead c0) ≡ 1 → ahead c0 ≡ And (tree_ahead c0) Nil
one_ahead c0 one = first_by (ahead c0) one

-- and after the first was
pub one_passed : (c0 c1 : List Piece) → tree_count (ahead c0) ≡ 2 → IsPast c0 c1 → ahead c0 ≡ And (tree_ahead c0) (And (tree_ahead c1) Nil)
one_passed c0 c1 two past =
    let n1 = count_past c0 c1 past in
    one_more c0 c1 (omega (arith, two)) past ∙ ap (λ ts. And (tree_ahead c0) ts) (one_ahead c1 (omega (arith, n1, two)))

-- ## By what comes next

pub has_some : (ps : List Piece) → has_tree ps ≡ true → 0 < tree_count (ahead ps)
unfolding ahead
has_some [] h = absurd (false≢true h)
has_some (Words at w ∷ ps) h = omega arith
has_some (Numbers at w ∷ ps) h = omega arith
has_some (Texts at w ∷ ps) h = omega arith
has_some (Opens at ∷ ps) h = omega arith
has_some (Closes ∷ ps) h = absurd (false≢true h)

pub has_none : (ps : List Piece) → has_tree ps ≡ false → ahead ps ≡ Nil
unfolding ahead
has_none [] h = refl
has_none (Words at w ∷ ps) h = absurd (false≢true (sym h))
has_none (Numbers at w ∷ ps) h = absurd (false≢true (sym h))
has_none (Texts at w ∷ ps) h = absurd (false≢true (sym h))
has_none (Opens at ∷ ps) h = absurd (false≢true (sym h))
has_none (Closes ∷ ps) h = refl

-- a tree that comes next was passed
pub next_passed : (old new : List Piece) → has_tree old ≡ true → IsPast old new → ahead old ≡ And (tree_ahead old) (ahead new)
next_passed old new h past = one_more old new (has_some old h) past

-- and before it is
pub next_here : (ps : List Piece) → has_tree ps ≡ true → ahead ps ≡ And (tree_ahead ps) (rest_of (ahead ps))
next_here ps h = split (ahead ps) (has_some ps h)

-- ## Lists of three trees, before all were passed

third_by : (ts : Trees) → tree_count ts ≡ 3 → ts ≡ And (first_tree ts) (And (first_tree (rest_of ts)) (And (first_tree (rest_of (rest_of ts))) Nil))
third_by Nil e = absurd (omega (arith, e))
third_by (And a Nil) e = absurd (omega (arith, e))
third_by (And a (And b Nil)) e = absurd (omega (arith, e))
third_by (And a (And b (And c Nil))) e = refl
third_by (And a (And b (And c (And d row)))) e = absurd (omega (arith, e))

pub three_ahead : (c0 : List Piece) → tree_count (ahead c0) ≡ 3 → ahead c0 ≡ And (tree_ahead c0) (And (first_tree (rest_of (ahead c0))) (And (first_tree (rest_of (rest_of (ahead c0)))) Nil))
three_ahead c0 three = third_by (ahead c0) three

-- the first was passed
pub two_passed : (c0 c1 : List Piece) → tree_count (ahead c0) ≡ 3 → IsPast c0 c1 → ahead c0 ≡ And (tree_ahead c0) (And (tree_ahead c1) (And (first_tree (rest_of (ahead c1))) Nil))
two_passed c0 c1 three past =
    let n1 = count_past c0 c1 past in
    one_more c0 c1 (omega (arith, three)) past ∙ ap (λ ts. And (tree_ahead c0) ts) (two_ahead c1 (omega (arith, n1, three)))

-- and the second
pub one_left : (c0 c1 c2 : List Piece) → tree_count (ahead c0) ≡ 3 → IsPast c0 c1 → IsPast c1 c2 → ahead c0 ≡ And (tree_ahead c0) (And (tree_ahead c1) (And (tree_ahead c2) Nil))
one_left c0 c1 c2 three past again =
    let n1 = count_past c0 c1 past in
    one_more c0 c1 (omega (arith, three)) past ∙ ap (λ ts. And (tree_ahead c0) ts) (one_passed c1 c2 (omega (arith, n1, three)) again)
