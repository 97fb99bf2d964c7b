-- What a test that stays the same keeps is what passes it.
use Rattle.std.proofs.Common.{◌≡◌, Bool, true, false, cond, List, [], ◌∷◌, length, refl, ap, ◌∙◌, subst, arith}
use Rattle.std.specs.Prelude.{filter}
use Rattle.std.specs.List.Retain.{ReturnsInTurn, IsFiltered}
use Rattle.std.specs.List.{items_where_true}

first_by : {X : Type 0} (x : X) (xs ys : List X) (bs : List Bool) (b t : Bool) → b ≡ t → items_where_true bs xs ≡ ys → items_where_true (b ∷ bs) (x ∷ xs) ≡ cond t (x ∷ ys) ys
first_by x xs ys bs true t e rest = ap (λ l. x ∷ l) rest ∙ ap (λ a. cond a (x ∷ ys) ys) e
first_by x xs ys bs false t e rest = rest ∙ ap (λ a. cond a (x ∷ ys) ys) e

passed : {X P : Type 0} (R : P → X → Bool → P → Type 0) (test : X → Bool) (same : P) → ((x : X) (b : Bool) (q : P) → R same x b q → (q ≡ same) × (b ≡ test x)) → (p q : P) (bs : List Bool) (xs : List X) → p ≡ same → length bs ≡ length xs → ReturnsInTurn R p bs xs q → items_where_true bs xs ≡ filter test xs
passed R test same says p q [] [] is e h = refl
passed R test same says p q [] (x ∷ xs) is e h = absurd (omega arith)
passed R test same says p q (b ∷ bs) [] is e h = absurd h
passed R test same says p q (b ∷ bs) (x ∷ xs) is e h =
    let turn = says x b h.0 (subst (λ u. R u x b h.0) is h.1) in
    first_by x xs (filter test xs) bs b (test x) turn.1 (passed R test same says h.0 q bs xs turn.0 (omega arith) h.2)

pub retained : {X P : Type 0} (R : P → X → Bool → P → Type 0) (test : X → Bool) (same : P) → ((x : X) (b : Bool) (q : P) → R same x b q → (q ≡ same) × (b ≡ test x)) → (xs ys : List X) → IsFiltered R same xs ys → ys ≡ filter test xs
retained R test same says xs ys h = h.4 ∙ passed R test same says same h.1 h.0 xs refl h.2 h.3
