-- What the next pieces say of the trees that are left.
use Rattle.std.proofs.Common.{◌≡◌, ℕ, ℤ, List, [], ◌∷◌, true, false, Option, Some, None, refl, arith, ap, sym, ◌∙◌}
use Rattle.std.proofs.lemmas.Bool.{false≢true}
use Rattle.spec_script.specs.Trees.{Tree, Word, Number, Text, Branch, place_of}
use Rattle.script_tree.specs.Pieces.{Piece, Words, Numbers, Texts, Opens, Closes}
use Rattle.script_draft.specs.Ahead.{ahead, around, behind, front, has_tree, tree_ahead, IsPast, IsInside, IsBehind, IsInForm, word_at, number_at, text_at, list_at, form_at, place_in, word_in, text_in, number_in, open_in}

-- ## By the next piece

pub place : (ps : List Piece) (p : Piece) → Some p ≡ front ps → place_in p ≡ place_of (tree_ahead ps)
unfolding ahead
place [] p e = cc
place (Words at w ∷ ps) p e = let q : p ≡ Words at w = cc in rw q refl
place (Numbers at w ∷ ps) p e = let q : p ≡ Numbers at w = cc in rw q refl
place (Texts at w ∷ ps) p e = let q : p ≡ Texts at w = cc in rw q refl
place (Opens at ∷ ps) p e = let q : p ≡ Opens at = cc in rw q refl
place (Closes ∷ ps) p e = let q : p ≡ Closes = cc in rw q refl

pub no_place : (ps : List Piece) → None ≡ front ps → 0 ≡ place_of (tree_ahead ps)
unfolding ahead
no_place [] e = refl
no_place (p ∷ ps) e = cc

pub word_ahead : (ps : List Piece) (p : Piece) → has_tree ps ≡ true → Some p ≡ front ps → word_in p ≡ word_at (tree_ahead ps)
unfolding ahead
word_ahead [] p h e = cc
word_ahead (Words at w ∷ ps) p h e = let q : p ≡ Words at w = cc in rw q refl
word_ahead (Numbers at w ∷ ps) p h e = let q : p ≡ Numbers at w = cc in rw q refl
word_ahead (Texts at w ∷ ps) p h e = let q : p ≡ Texts at w = cc in rw q refl
word_ahead (Opens at ∷ ps) p h e = let q : p ≡ Opens at = cc in rw q refl
word_ahead (Closes ∷ ps) p h e = absurd (false≢true h)

pub no_word_ahead : (ps : List Piece) → has_tree ps ≡ true → None ≡ front ps → None ≡ word_at (tree_ahead ps)
no_word_ahead [] h e = absurd (false≢true h)
no_word_ahead (p ∷ ps) h e = cc

pub text_ahead : (ps : List Piece) (p : Piece) → Some p ≡ front ps → text_in p ≡ text_at (tree_ahead ps)
unfolding ahead
text_ahead [] p e = cc
text_ahead (Words at w ∷ ps) p e = let q : p ≡ Words at w = cc in rw q refl
text_ahead (Numbers at w ∷ ps) p e = let q : p ≡ Numbers at w = cc in rw q refl
text_ahead (Texts at w ∷ ps) p e = let q : p ≡ Texts at w = cc in rw q refl
text_ahead (Opens at ∷ ps) p e = let q : p ≡ Opens at = cc in rw q refl
text_ahead (Closes ∷ ps) p e = let q : p ≡ Closes = cc in rw q refl

pub no_text_ahead : (ps : List Piece) → None ≡ front ps → None ≡ text_at (tree_ahead ps)
unfolding ahead
no_text_ahead [] e = refl
no_text_ahead (p ∷ ps) e = cc

pub number_ahead : (ps : List Piece) (p : Piece) → Some p ≡ front ps → number_in p ≡ number_at (tree_ahead ps)
unfolding ahead
number_ahead [] p e = cc
number_ahead (Words at w ∷ ps) p e = let q : p ≡ Words at w = cc in rw q refl
number_ahead (Numbers at w ∷ ps) p e = let q : p ≡ Numbers at w = cc in rw q refl
number_ahead (Texts at w ∷ ps) p e = let q : p ≡ Texts at w = cc in rw q refl
number_ahead (Opens at ∷ ps) p e = let q : p ≡ Opens at = cc in rw q refl
number_ahead (Closes ∷ ps) p e = let q : p ≡ Closes = cc in rw q refl

pub no_number_ahead : (ps : List Piece) → None ≡ front ps → None ≡ number_at (tree_ahead ps)
unfolding ahead
no_number_ahead [] e = refl
no_number_ahead (p ∷ ps) e = cc

pub list_ahead : (ps : List Piece) (p : Piece) → Some p ≡ front ps → open_in p ≡ list_at (tree_ahead ps)
unfolding ahead
list_ahead [] p e = cc
list_ahead (Words at w ∷ ps) p e = let q : p ≡ Words at w = cc in rw q refl
list_ahead (Numbers at w ∷ ps) p e = let q : p ≡ Numbers at w = cc in rw q refl
list_ahead (Texts at w ∷ ps) p e = let q : p ≡ Texts at w = cc in rw q refl
list_ahead (Opens at ∷ ps) p e = let q : p ≡ Opens at = cc in rw q refl
list_ahead (Closes ∷ ps) p e = let q : p ≡ Closes = cc in rw q refl

pub no_list_ahead : (ps : List Piece) → None ≡ front ps → None ≡ list_at (tree_ahead ps)
unfolding ahead
no_list_ahead [] e = refl
no_list_ahead (p ∷ ps) e = cc

at_in : Option (ℕ × List ℕ) → ℕ
at_in (Some it) = it.0
at_in None = 0

bytes_in : Option (ℕ × List ℕ) → List ℕ
bytes_in (Some it) = it.1
bytes_in None = []

with_place : ℕ → Option (ℕ × List ℕ) → Option (ℕ × List ℕ)
with_place at (Some it) = Some (at, it.1)
with_place at None = None

-- a list with a word at its front
pub form_ahead : (ps : List Piece) (at c : ℕ) (word : List ℕ) (q : Piece) → Some at ≡ list_at (tree_ahead ps) → Some q ≡ front (behind ps) → Some (c, word) ≡ word_in q → Some (at, word) ≡ form_at (tree_ahead ps)
unfolding ahead with_place
form_ahead [] at c word q l e w = cc
form_ahead (Words a v ∷ ps) at c word q l e w = cc
form_ahead (Numbers a v ∷ ps) at c word q l e w = cc
form_ahead (Texts a v ∷ ps) at c word q l e w = cc
form_ahead (Closes ∷ ps) at c word q l e w = cc
form_ahead (Opens a ∷ []) at c word q l e w = cc
form_ahead (Opens a ∷ Words b v ∷ ps) at c word q l e w =
    let s : at ≡ a = cc in let r : q ≡ Words b v = cc in ap (λ (it : Option (ℕ × List ℕ)). with_place at it) (w ∙ ap word_in r) ∙ ap (λ n. with_place n (Some (a, v))) s
form_ahead (Opens a ∷ Numbers b v ∷ ps) at c word q l e w = let s : q ≡ Numbers b v = cc in let t : Some (c, word) ≡ None = w ∙ ap word_in s in cc
form_ahead (Opens a ∷ Texts b v ∷ ps) at c word q l e w = let s : q ≡ Texts b v = cc in let t : Some (c, word) ≡ None = w ∙ ap word_in s in cc
form_ahead (Opens a ∷ Opens b ∷ ps) at c word q l e w = let s : q ≡ Opens b = cc in let t : Some (c, word) ≡ None = w ∙ ap word_in s in cc
form_ahead (Opens a ∷ Closes ∷ ps) at c word q l e w = let s : q ≡ Closes = cc in let t : Some (c, word) ≡ None = w ∙ ap word_in s in cc

-- and none
pub no_form_ahead : (ps : List Piece) → None ≡ list_at (tree_ahead ps) → None ≡ form_at (tree_ahead ps)
unfolding ahead
no_form_ahead [] l = refl
no_form_ahead (Words a v ∷ ps) l = refl
no_form_ahead (Numbers a v ∷ ps) l = refl
no_form_ahead (Texts a v ∷ ps) l = refl
no_form_ahead (Closes ∷ ps) l = refl
no_form_ahead (Opens a ∷ ps) l = cc

pub no_form_ahead_alone : (ps : List Piece) (at : ℕ) → Some at ≡ list_at (tree_ahead ps) → None ≡ front (behind ps) → None ≡ form_at (tree_ahead ps)
unfolding ahead
no_form_ahead_alone [] at l e = refl
no_form_ahead_alone (Words a v ∷ ps) at l e = refl
no_form_ahead_alone (Numbers a v ∷ ps) at l e = refl
no_form_ahead_alone (Texts a v ∷ ps) at l e = refl
no_form_ahead_alone (Closes ∷ ps) at l e = refl
no_form_ahead_alone (Opens a ∷ []) at l e = refl
no_form_ahead_alone (Opens a ∷ p ∷ ps) at l e = cc

pub no_form_ahead_other : (ps : List Piece) (q : Piece) (at : ℕ) → Some at ≡ list_at (tree_ahead ps) → Some q ≡ front (behind ps) → None ≡ word_in q → None ≡ form_at (tree_ahead ps)
unfolding ahead
no_form_ahead_other [] q at l e w = refl
no_form_ahead_other (Words a v ∷ ps) q at l e w = refl
no_form_ahead_other (Numbers a v ∷ ps) q at l e w = refl
no_form_ahead_other (Texts a v ∷ ps) q at l e w = refl
no_form_ahead_other (Closes ∷ ps) q at l e w = refl
no_form_ahead_other (Opens a ∷ []) q at l e w = refl
no_form_ahead_other (Opens a ∷ Words b v ∷ ps) q at l e w = let s : q ≡ Words b v = cc in let t : None ≡ Some (b, v) = w ∙ ap word_in s in cc
no_form_ahead_other (Opens a ∷ Numbers b v ∷ ps) q at l e w = refl
no_form_ahead_other (Opens a ∷ Texts b v ∷ ps) q at l e w = refl
no_form_ahead_other (Opens a ∷ Opens b ∷ ps) q at l e w = refl
no_form_ahead_other (Opens a ∷ Closes ∷ ps) q at l e w = refl

-- ## What was passed

pub end_passed : (old new : List Piece) → has_tree old ≡ false → new ≡ behind old → IsBehind old new
unfolding ahead around
end_passed [] new e n = rw n (record { trees = refl; around = refl; fewer = omega arith })
end_passed (Words at word ∷ ps) new e n = absurd (false≢true (sym e))
end_passed (Numbers at word ∷ ps) new e n = absurd (false≢true (sym e))
end_passed (Texts at word ∷ ps) new e n = absurd (false≢true (sym e))
end_passed (Opens at ∷ ps) new e n = absurd (false≢true (sym e))
end_passed (Closes ∷ ps) new e n = rw n (record { trees = refl; around = refl; fewer = omega arith })

pub leaf_passed : (old new : List Piece) → has_tree old ≡ true → list_at (tree_ahead old) ≡ None → new ≡ behind old → IsPast old new
unfolding ahead around
leaf_passed [] new e l n = absurd (false≢true e)
leaf_passed (Words at word ∷ ps) new e l n = rw n (record { trees = refl; around = refl; fewer = omega arith })
leaf_passed (Numbers at word ∷ ps) new e l n = rw n (record { trees = refl; around = refl; fewer = omega arith })
leaf_passed (Texts at word ∷ ps) new e l n = rw n (record { trees = refl; around = refl; fewer = omega arith })
leaf_passed (Opens at ∷ ps) new e l n = cc
leaf_passed (Closes ∷ ps) new e l n = absurd (false≢true e)

word_is_no_list : (tree : Tree) (it : ℕ × List ℕ) → Some it ≡ word_at tree → list_at tree ≡ None
word_is_no_list (Word a w) it e = refl
word_is_no_list (Number a z) it e = refl
word_is_no_list (Text a w) it e = refl
word_is_no_list (Branch a row) it e = cc

text_is_no_list : (tree : Tree) (it : ℕ × List ℕ) → Some it ≡ text_at tree → list_at tree ≡ None
text_is_no_list (Word a w) it e = refl
text_is_no_list (Number a z) it e = refl
text_is_no_list (Text a w) it e = refl
text_is_no_list (Branch a row) it e = cc

number_is_no_list : (tree : Tree) (it : ℕ × ℤ) → Some it ≡ number_at tree → list_at tree ≡ None
number_is_no_list (Word a w) it e = refl
number_is_no_list (Number a z) it e = refl
number_is_no_list (Text a w) it e = refl
number_is_no_list (Branch a row) it e = cc

pub word_passed : (old new : List Piece) (it : ℕ × List ℕ) → has_tree old ≡ true → Some it ≡ word_at (tree_ahead old) → new ≡ behind old → IsPast old new
word_passed old new it h e n = leaf_passed old new h (word_is_no_list (tree_ahead old) it e) n

pub text_passed : (old new : List Piece) (it : ℕ × List ℕ) → has_tree old ≡ true → Some it ≡ text_at (tree_ahead old) → new ≡ behind old → IsPast old new
text_passed old new it h e n = leaf_passed old new h (text_is_no_list (tree_ahead old) it e) n

pub number_passed : (old new : List Piece) (it : ℕ × ℤ) → has_tree old ≡ true → Some it ≡ number_at (tree_ahead old) → new ≡ behind old → IsPast old new
number_passed old new it h e n = leaf_passed old new h (number_is_no_list (tree_ahead old) it e) n

pub open_passed : (old new : List Piece) (at : ℕ) → Some at ≡ list_at (tree_ahead old) → new ≡ behind old → IsInside at old new
unfolding ahead around
open_passed [] new at e n = cc
open_passed (Words a w ∷ ps) new at e n = cc
open_passed (Numbers a w ∷ ps) new at e n = cc
open_passed (Texts a w ∷ ps) new at e n = cc
open_passed (Closes ∷ ps) new at e n = cc
open_passed (Opens a ∷ ps) new at e n = let s : at ≡ a = cc in rw (n, s) (record { tree = refl; around = refl; fewer = omega arith })

pub enter_passed : (old mid new : List Piece) (at : ℕ) (word : List ℕ) → Some (at, word) ≡ form_at (tree_ahead old) → mid ≡ behind old → new ≡ behind mid → IsInForm at word old new
unfolding ahead around at_in bytes_in
enter_passed [] mid new at word e m n = cc
enter_passed (Words a w ∷ ps) mid new at word e m n = cc
enter_passed (Numbers a w ∷ ps) mid new at word e m n = cc
enter_passed (Texts a w ∷ ps) mid new at word e m n = cc
enter_passed (Closes ∷ ps) mid new at word e m n = cc
enter_passed (Opens a ∷ []) mid new at word e m n = cc
enter_passed (Opens a ∷ Numbers b w ∷ ps) mid new at word e m n = cc
enter_passed (Opens a ∷ Texts b w ∷ ps) mid new at word e m n = cc
enter_passed (Opens a ∷ Opens b ∷ ps) mid new at word e m n = cc
enter_passed (Opens a ∷ Closes ∷ ps) mid new at word e m n = cc
enter_passed (Opens a ∷ Words b w ∷ ps) mid new at word e m n =
    let s : at ≡ a = ap at_in e in let t : word ≡ w = ap bytes_in e in rw (n, m, s, t) (record { place = b; tree = refl; around = refl; fewer = omega arith })
