-- Lists in which each cell stands at most once: they stay so, and have no more fibers than there are cells.
use Rattle.std.proofs.Common.{◌≡◌, ℕ, zero, suc, ◌+◌, ◌<◌, ◌≤◌, ◌==◌, ◌||◌, Bool, true, false, List, [], ◌∷◌, ◌++◌, length, refl, ap, ◌∙◌, arith, eqb-true, length-append}
use Rattle.std.specs.Prelude.{filter}
use Rattle.std.proofs.lemmas.List.Elements.{All-nil, All-cons, All-head, All-tail, All-push, All-filter, filter-append}
use Rattle.std.proofs.lemmas.List.Filters.{length-filter_both}
use Rattle.std.proofs.lemmas.List.Folds.{list_any-append}
use Rattle.law_parts.specs.Waits.{has_cell}
use Rattle.spec_parts.specs.Row.{Queued, has_other_cell}
use Rattle.wait_list.specs.Waits.{stands, count, others, EachCellOnce, AreBelow}

eqb-refl-of : (a b : ℕ) → a ≡ b → (a == b) ≡ true
eqb-refl-of a b e = grind arith

-- a fiber more

tail_go : (cell : ℕ) (x : Queued) (xs : List Queued) (b : Bool) → has_cell cell x.who ≡ b → count cell xs ≤ count cell (x ∷ xs)
tail_go cell x xs true has = rw has (omega arith)
tail_go cell x xs false has = rw has (omega arith)

pub once_tail : (x : Queued) (xs : List Queued) → EachCellOnce (x ∷ xs) → EachCellOnce xs
once_tail x xs once cell = omega (arith, once cell, tail_go cell x xs (has_cell cell x.who) refl)

none_stands_go : (cell : ℕ) (x : Queued) (xs : List Queued) (b : Bool) → has_cell cell x.who ≡ b → (count cell xs ≡ 0 → stands cell xs ≡ false) → count cell (x ∷ xs) ≡ 0 → stands cell (x ∷ xs) ≡ false
none_stands_go cell x xs true has rest none = absurd (let h : suc (count cell xs) ≡ 0 = rw has at none in omega arith)
none_stands_go cell x xs false has rest none = rw has (rest (rw has at none))

pub none_stands : (cell : ℕ) (xs : List Queued) → count cell xs ≡ 0 → stands cell xs ≡ false
none_stands cell [] none = refl
none_stands cell (x ∷ xs) none = none_stands_go cell x xs (has_cell cell x.who) refl (none_stands cell xs) none

-- the cell of the first stands nowhere behind it
pub first_is_gone : (x : Queued) (xs : List Queued) → EachCellOnce (x ∷ xs) → stands x.who.cell xs ≡ false
first_is_gone x xs once =
    let is : has_cell x.who.cell x.who ≡ true = eqb-refl-of x.who.cell x.who.cell refl in
    let h : suc (count x.who.cell xs) ≤ 1 = rw is at (once x.who.cell) in
    none_stands x.who.cell xs (omega arith)

-- without a cell

all_go : (cell : ℕ) (x : Queued) (xs : List Queued) (b : Bool) → has_cell cell x.who ≡ b → (stands cell xs ≡ false → others cell xs ≡ xs) → stands cell (x ∷ xs) ≡ false → others cell (x ∷ xs) ≡ x ∷ xs
all_go cell x xs true has rest none = absurd (let h : true ≡ false = rw has at none in cc)
all_go cell x xs false has rest none = rw has (ap (λ (l : List Queued). x ∷ l) (rest (rw has at none)))

pub all_are_others : (cell : ℕ) (xs : List Queued) → stands cell xs ≡ false → others cell xs ≡ xs
all_are_others cell [] none = refl
all_are_others cell (x ∷ xs) none = all_go cell x xs (has_cell cell x.who) refl (all_are_others cell xs) none

none_left_go : (cell : ℕ) (x : Queued) (xs : List Queued) (b : Bool) → has_cell cell x.who ≡ b → count cell (others cell xs) ≡ 0 → count cell (others cell (x ∷ xs)) ≡ 0
none_left_go cell x xs true has rest = rw has rest
none_left_go cell x xs false has rest = rw (has, has) rest

none_left : (cell : ℕ) (xs : List Queued) → count cell (others cell xs) ≡ 0
none_left cell [] = refl
none_left cell (x ∷ xs) = none_left_go cell x xs (has_cell cell x.who) refl (none_left cell xs)

fewer_in : (cell : ℕ) (x : Queued) (xs ys : List Queued) (b : Bool) → has_cell cell x.who ≡ b → count cell xs ≤ count cell ys → count cell (x ∷ xs) ≤ count cell (x ∷ ys)
fewer_in cell x xs ys true has fewer = rw has (omega (arith, fewer))
fewer_in cell x xs ys false has fewer = rw has fewer

fewer_go : (cell gone : ℕ) (x : Queued) (xs : List Queued) (b : Bool) → has_cell gone x.who ≡ b → count cell (others gone xs) ≤ count cell xs → count cell (others gone (x ∷ xs)) ≤ count cell (x ∷ xs)
fewer_go cell gone x xs true has rest = rw has (omega (arith, rest, tail_go cell x xs (has_cell cell x.who) refl))
fewer_go cell gone x xs false has rest = rw has (fewer_in cell x (others gone xs) xs (has_cell cell x.who) refl rest)

-- no more of any cell
fewer : (cell gone : ℕ) (xs : List Queued) → count cell (others gone xs) ≤ count cell xs
fewer cell gone [] = omega arith
fewer cell gone (x ∷ xs) = fewer_go cell gone x xs (has_cell gone x.who) refl (fewer cell gone xs)

pub once_others : (gone : ℕ) (xs : List Queued) → EachCellOnce xs → EachCellOnce (others gone xs)
once_others gone xs once cell = omega (arith, fewer cell gone xs, once cell)

-- a fiber that is entered

count-push : (cell : ℕ) (xs : List Queued) (q : Queued) → count cell (xs ++ q ∷ []) ≡ count cell xs + count cell (q ∷ [])
count-push cell xs q =
    ap length (filter-append (λ (x : Queued). has_cell cell x.who) xs (q ∷ []))
    ∙ length-append (filter (λ (x : Queued). has_cell cell x.who) xs) (filter (λ (x : Queued). has_cell cell x.who) (q ∷ []))

one_at_most : (cell : ℕ) (q : Queued) (b : Bool) → has_cell cell q.who ≡ b → count cell (q ∷ []) ≤ 1
one_at_most cell q true has = rw has (omega arith)
one_at_most cell q false has = rw has (omega arith)

entered_go : (cell : ℕ) (q : Queued) (xs : List Queued) (b : Bool) → has_cell cell q.who ≡ b → count cell xs ≤ 1 → count cell (others q.who.cell xs ++ q ∷ []) ≤ 1
entered_go cell q xs true has once =
    let same : q.who.cell ≡ cell = eqb-true q.who.cell cell has in
    let none : count cell (others q.who.cell xs) ≡ 0 = rw same (none_left cell xs) in
    omega (arith, count-push cell (others q.who.cell xs) q, none, one_at_most cell q true has)
entered_go cell q xs false has once =
    let none : count cell (q ∷ []) ≡ 0 = rw has refl in
    omega (arith, count-push cell (others q.who.cell xs) q, none, fewer cell q.who.cell xs, once)

pub once_entered : (q : Queued) (xs : List Queued) → EachCellOnce xs → EachCellOnce (others q.who.cell xs ++ q ∷ [])
once_entered q xs once cell = entered_go cell q xs (has_cell cell q.who) refl (once cell)

pub below_entered : (cells : ℕ) (q : Queued) (xs : List Queued) → q.who.cell < cells → AreBelow cells xs → AreBelow cells (others q.who.cell xs ++ q ∷ [])
below_entered cells q xs first below =
    All-push (λ (x : Queued). x.who.cell < cells) (others q.who.cell xs) q (All-filter (λ (x : Queued). has_other_cell q.who.cell x.who) (λ (x : Queued). x.who.cell < cells) xs below) first

-- who stands after a fiber was entered

stands_go : (cell gone : ℕ) (x : Queued) (xs : List Queued) (b : Bool) → has_cell gone x.who ≡ b → (gone == cell) ≡ false → stands cell (others gone xs) ≡ stands cell xs → stands cell (others gone (x ∷ xs)) ≡ stands cell (x ∷ xs)
stands_go cell gone x xs true has other rest =
    let same : x.who.cell ≡ gone = eqb-true x.who.cell gone has in
    let not : has_cell cell x.who ≡ false = rw same other in
    rw has (rw not rest)
stands_go cell gone x xs false has other rest = rw has (ap (λ (b : Bool). has_cell cell x.who || b) rest)

stands_others : (cell gone : ℕ) (xs : List Queued) → (gone == cell) ≡ false → stands cell (others gone xs) ≡ stands cell xs
stands_others cell gone [] other = refl
stands_others cell gone (x ∷ xs) other = stands_go cell gone x xs (has_cell gone x.who) refl other (stands_others cell gone xs other)

or_true : (a : Bool) → (a || (true || false)) ≡ true
or_true true = refl
or_true false = refl

or_false : (a : Bool) → (a || (false || false)) ≡ a
or_false true = refl
or_false false = refl

pub stands_entered : (cell : ℕ) (q : Queued) (xs : List Queued) → has_cell cell q.who ≡ true → stands cell (others q.who.cell xs ++ q ∷ []) ≡ true
stands_entered cell q xs has = list_any-append (λ (x : Queued). has_cell cell x.who) (others q.who.cell xs) (q ∷ []) ∙ rw has (or_true (stands cell (others q.who.cell xs)))

pub stands_besides : (cell : ℕ) (q : Queued) (xs : List Queued) → has_cell cell q.who ≡ false → stands cell (others q.who.cell xs ++ q ∷ []) ≡ stands cell xs
stands_besides cell q xs has =
    list_any-append (λ (x : Queued). has_cell cell x.who) (others q.who.cell xs) (q ∷ [])
    ∙ rw has (or_false (stands cell (others q.who.cell xs)))
    ∙ stands_others cell q.who.cell xs has

-- No more stand than there are cells

below_go : (n : ℕ) (x : Queued) (xs : List Queued) (b : Bool) → has_cell n x.who ≡ b → x.who.cell < suc n → AreBelow n (others n xs) → AreBelow n (others n (x ∷ xs))
below_go n x xs true has first rest = rw has rest
below_go n x xs false has first rest = rw has (All-cons (λ (q : Queued). q.who.cell < n) x (others n xs) (less x.who.cell n has first) rest)
  where
    less : (a b : ℕ) → (a == b) ≡ false → a < suc b → a < b
    less a b other below = grind arith

below_others : (n : ℕ) (xs : List Queued) → AreBelow (suc n) xs → AreBelow n (others n xs)
below_others n [] below = All-nil (λ (q : Queued). q.who.cell < n)
below_others n (x ∷ xs) below =
    below_go n x xs (has_cell n x.who) refl (All-head (λ (q : Queued). q.who.cell < suc n) x xs below) (below_others n xs (All-tail (λ (q : Queued). q.who.cell < suc n) x xs below))

pub no_more_than_cells : (cells : ℕ) (xs : List Queued) → EachCellOnce xs → AreBelow cells xs → length xs ≤ cells
no_more_than_cells zero [] once below = omega arith
no_more_than_cells zero (x ∷ xs) once below = absurd (let h : x.who.cell < 0 = All-head (λ (q : Queued). q.who.cell < 0) x xs below in omega arith)
no_more_than_cells (suc n) xs once below =
    let rest : length (others n xs) ≤ n = no_more_than_cells n (others n xs) (once_others n xs once) (below_others n xs below) in
    let both : count n xs + length (others n xs) ≡ length xs = length-filter_both (λ (q : Queued). has_cell n q.who) (λ (q : Queued). has_other_cell n q.who) (λ q. refl) xs in
    omega (arith, once n)
