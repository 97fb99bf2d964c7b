-- An input that spells a tree by the grammar, gap by gap, and gaps that are none.
use Rattle.std.proofs.Common.{◌≡◌, ◌≢◌, ℕ, true, false, List, [], ◌∷◌, refl, inl, inr}
use Rattle.std.specs.Prelude.{codes, pos}
use Rattle.std.specs.Fmt.{digits}
use Rattle.spec_script.specs.Trees.{Word, Number, Branch, Nil, And}
use Rattle.spec_script.specs.Spelling.{IsGap, IsLastGap, SpellsRow, IsDocument}

a_gap_is_not_empty : (b : ℕ) (bytes : List ℕ) → b ∷ bytes ≢ []
a_gap_is_not_empty b bytes e = cc

-- `;c`, LF and a space
a_comment_and_a_space : IsGap false (codes ";c\n ")
a_comment_and_a_space = inr (refl, inl (refl, tt))

an_open_comment_is_no_gap : IsGap false (codes ";c") → ⊥
an_open_comment_is_no_gap (inl h) = let e : false ≡ true = h.0 in cc
an_open_comment_is_no_gap (inr h) = h.1

an_open_comment_is_a_last_gap : IsLastGap false (codes " ;c")
an_open_comment_is_a_last_gap = inl (refl, inr (refl, tt))

the_number : SpellsRow 63 3 (codes ";c\n 1") (And (Number 7 (pos 1)) Nil) true
unfolding digits
the_number = (codes ";c\n ", codes "1", [], refl, a_comment_and_a_space, λ both. a_gap_is_not_empty 59 (codes "c\n "), (refl, refl, refl), tt)

the_row : SpellsRow 63 2 (codes "a;c\n 1") (And (Word 2 (codes "a")) (And (Number 7 (pos 1)) Nil)) false
the_row = ([], codes "a", codes ";c\n 1", refl, tt, λ both. absurd (let e : false ≡ true = both in cc), (refl, refl, refl), the_number)

the_document : IsDocument (codes " (a;c\n 1);c") (Branch 1 (And (Word 2 (codes "a")) (And (Number 7 (pos 1)) Nil)))
the_document = (codes " ", codes "(a;c\n 1)", codes ";c", refl, inl (refl, tt), (refl, codes "a;c\n 1", refl, the_row), inr (refl, tt))
