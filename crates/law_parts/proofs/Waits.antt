-- A call enters a cell after all older entries of it are gone; all else makes the lists of a row shorter.
use Rattle.std.proofs.Common.{◌≡◌, ℕ, ◌+◌, ◌≤◌, ◌==◌, ◌||◌, Bool, true, false, not, List, [], ◌∷◌, ◌++◌, length, Option, Some, None, refl, ap, arith, eqb-true, true≢false}
use Rattle.std.specs.Prelude.{find}
use Rattle.std.specs.List.{list_any}
use Rattle.eio_value.specs.declared.message.Waiter.{Waiter}
use Rattle.spec_parts.specs.Data.{Data}
use Rattle.spec_parts.specs.Objects.{does}
use Rattle.spec_parts.specs.Row.{Row, Queued, Side, Takers, Adders, Alone, Keeps, Waits, Handed, Does, Ignores, Looks, Stepped, but_first, entered, found, has_other_cell, otherwise, queue, stepped}
use Rattle.spec_parts.specs.Strikes.{same_wait}
use Rattle.law_parts.specs.Waits.{has_cell, HasEachCellOnce, CallsKeepCells, StrikesKeepCells, LateStrikesDoNothing}
use Rattle.law_parts.proofs.Alike.{only, only-only}

-- how many of a list have a cell
abbrev count : ℕ → List Queued → ℕ
count cell list = length (only (has_cell cell) list)

-- Lists

shorter_go : (p : Waiter → Bool) (x : Queued) (xs : List Queued) (b : Bool) → p x.who ≡ b → length (only p xs) ≤ length xs → length (only p (x ∷ xs)) ≤ length (x ∷ xs)
shorter_go p x xs true passes rest = rw passes (omega (arith, rest))
shorter_go p x xs false passes rest = rw passes (omega (arith, rest))

only_shorter : (p : Waiter → Bool) (list : List Queued) → length (only p list) ≤ length list
only_shorter p [] = omega arith
only_shorter p (x ∷ xs) = shorter_go p x xs (p x.who) refl (only_shorter p xs)

-- a filter leaves no more of a cell
only_fewer : (p : Waiter → Bool) (cell : ℕ) (list : List Queued) → count cell (only p list) ≤ count cell list
only_fewer p cell list = rw (only-only (has_cell cell) p list) (only_shorter p (only (has_cell cell) list))

cons_go : (cell : ℕ) (x : Queued) (xs ys : List Queued) (b : Bool) → has_cell cell x.who ≡ b → count cell xs ≤ count cell ys → count cell (x ∷ xs) ≤ count cell (x ∷ ys)
cons_go cell x xs ys true has fewer = rw has (omega (arith, fewer))
cons_go cell x xs ys false has fewer = rw has fewer

tail_go : (cell : ℕ) (x : Queued) (xs : List Queued) (b : Bool) → has_cell cell x.who ≡ b → count cell xs ≤ count cell (x ∷ xs)
tail_go cell x xs true has = rw has (omega arith)
tail_go cell x xs false has = rw has (omega arith)

but_first_go : (pick : Queued → Bool) (cell : ℕ) (x : Queued) (xs : List Queued) (b : Bool) → pick x ≡ b → count cell (but_first pick xs) ≤ count cell xs → count cell (but_first pick (x ∷ xs)) ≤ count cell (x ∷ xs)
but_first_go pick cell x xs true picks fewer = rw (picks, but_first) (tail_go cell x xs (has_cell cell x.who) refl)
but_first_go pick cell x xs false picks fewer = rw (picks, but_first) (cons_go cell x (but_first pick xs) xs (has_cell cell x.who) refl fewer)

-- nor does taking out the first of some kind
but_first_fewer : (pick : Queued → Bool) (cell : ℕ) (list : List Queued) → count cell (but_first pick list) ≤ count cell list
but_first_fewer pick cell [] = omega arith
but_first_fewer pick cell (x ∷ xs) = but_first_go pick cell x xs (pick x) refl (but_first_fewer pick cell xs)

push_go : (cell : ℕ) (x q : Queued) (xs : List Queued) (b : Bool) → has_cell cell x.who ≡ b → count cell (xs ++ q ∷ []) ≡ count cell xs + count cell (q ∷ []) → count cell (x ∷ xs ++ q ∷ []) ≡ count cell (x ∷ xs) + count cell (q ∷ [])
push_go cell x q xs true has rest = rw has (omega (arith, rest))
push_go cell x q xs false has rest = rw has rest

count-push : (cell : ℕ) (list : List Queued) (q : Queued) → count cell (list ++ q ∷ []) ≡ count cell list + count cell (q ∷ [])
count-push cell [] q = omega arith
count-push cell (x ∷ xs) q = push_go cell x q xs (has_cell cell x.who) refl (count-push cell xs q)

none_go : (cell : ℕ) (x : Queued) (xs : List Queued) (b : Bool) → has_cell cell x.who ≡ b → count cell (only (has_other_cell cell) xs) ≡ 0 → count cell (only (has_other_cell cell) (x ∷ xs)) ≡ 0
none_go cell x xs true has rest = rw has rest
none_go cell x xs false has rest = rw (has, has) rest

-- where all of a cell are taken out none is left
none_left : (cell : ℕ) (list : List Queued) → count cell (only (has_other_cell cell) list) ≡ 0
none_left cell [] = refl
none_left cell (x ∷ xs) = none_go cell x xs (has_cell cell x.who) refl (none_left cell xs)

-- Rows

-- what stands in both lists after a fiber is entered in one
entered_once : (q : Queued) (cell : ℕ) (mine others : List Queued) (b : Bool) → (q.who.cell == cell) ≡ b → count cell mine + count cell others ≤ 1
    → count cell (only (has_other_cell q.who.cell) mine ++ q ∷ []) + count cell (only (has_other_cell q.who.cell) others) ≤ 1
entered_once q cell mine others true is once =
    let same : q.who.cell ≡ cell = eqb-true q.who.cell cell is in
    let mine_left : count cell (only (has_other_cell q.who.cell) mine) ≡ 0 = rw same (none_left cell mine) in
    let others_left : count cell (only (has_other_cell q.who.cell) others) ≡ 0 = rw same (none_left cell others) in
    omega (arith, count-push cell (only (has_other_cell q.who.cell) mine) q, mine_left, others_left, only_shorter (has_cell cell) (q ∷ []))
entered_once q cell mine others false is once =
    let none : count cell (q ∷ []) ≡ 0 = rw is refl in
    omega (arith, count-push cell (only (has_other_cell q.who.cell) mine) q, none, only_fewer (has_other_cell q.who.cell) cell mine, only_fewer (has_other_cell q.who.cell) cell others, once)

entered_keeps : (row : Row) (values : Data) (side : Side) (q : Queued) → HasEachCellOnce row → HasEachCellOnce (entered row values side q)
entered_keeps row values Takers q once cell = entered_once q cell row.takers row.adders (q.who.cell == cell) refl (once cell)
entered_keeps row values Adders q once cell =
    let adders : count cell row.adders + count cell row.takers ≤ 1 = omega (arith, once cell) in
    omega (arith, entered_once q cell row.adders row.takers (q.who.cell == cell) refl adders)

otherwise_keeps : (row : Row) (who : Waiter) (off : Bool) (alone : Alone) → HasEachCellOnce row → HasEachCellOnce (otherwise row who off alone).row
otherwise_keeps row who off (Keeps values answer start) once = once
otherwise_keeps row who true (Waits values side item number) once = once
otherwise_keeps row who false (Waits values side item number) once = entered_keeps row values side (record { who = who; item = item; number = number }) once

found_keeps : (row : Row) (side : Side) (pick : Queued → Bool) (hand : Queued → Handed) (other : Stepped) (first : Option Queued) → HasEachCellOnce row → HasEachCellOnce other.row → HasEachCellOnce (found row side pick hand other first).row
found_keeps row side pick hand other None once rest cell = rest cell
found_keeps row Takers pick hand other (Some q) once rest cell = omega (arith, but_first_fewer pick cell row.takers, once cell)
found_keeps row Adders pick hand other (Some q) once rest cell = omega (arith, but_first_fewer pick cell row.adders, once cell)

stepped_keeps : (row : Row) (who : Waiter) (off : Bool) (what : Does) → HasEachCellOnce row → HasEachCellOnce (stepped row who off what).row
stepped_keeps row who off (Ignores alone) once = otherwise_keeps row who off alone once
stepped_keeps row who off (Looks side pick hand alone) once = found_keeps row side pick hand (otherwise row who off alone) (find pick (queue side row)) once (otherwise_keeps row who off alone once)

pub calls_keep_cells : CallsKeepCells
calls_keep_cells row who off serial call once = stepped_keeps row who off (does row.values serial call) once

pub strikes_keep_cells : StrikesKeepCells
strikes_keep_cells row who once cell =
    omega (arith, only_fewer (λ other. not (same_wait who other)) cell row.takers, only_fewer (λ other. not (same_wait who other)) cell row.adders, once cell)

-- Late strikes

late_go : (who : Waiter) (x : Queued) (xs : List Queued) (b : Bool) → same_wait who x.who ≡ b → (b || list_any (λ queued. same_wait who queued.who) xs) ≡ false
    → (list_any (λ queued. same_wait who queued.who) xs ≡ false → only (λ other. not (same_wait who other)) xs ≡ xs) → only (λ other. not (same_wait who other)) (x ∷ xs) ≡ x ∷ xs
late_go who x xs true same missing rest = absurd (true≢false missing)
late_go who x xs false same missing rest = rw same (ap (λ (l : List Queued). x ∷ l) (rest missing))

all_stay : (who : Waiter) (list : List Queued) → list_any (λ queued. same_wait who queued.who) list ≡ false → only (λ other. not (same_wait who other)) list ≡ list
all_stay who [] missing = refl
all_stay who (x ∷ xs) missing = late_go who x xs (same_wait who x.who) refl missing (λ m. all_stay who xs m)

left_false : (a b : Bool) → (a || b) ≡ false → a ≡ false
left_false true b e = e
left_false false b e = refl

right_false : (a b : Bool) → (a || b) ≡ false → b ≡ false
right_false true b e = absurd (true≢false e)
right_false false b e = e

pub late_strikes_do_nothing : LateStrikesDoNothing
late_strikes_do_nothing row who missing =
    let takers : only (λ other. not (same_wait who other)) row.takers ≡ row.takers =
    all_stay who row.takers (left_false (list_any (λ queued. same_wait who queued.who) row.takers) (list_any (λ queued. same_wait who queued.who) row.adders) missing)
    in
    let adders : only (λ other. not (same_wait who other)) row.adders ≡ row.adders =
    all_stay who row.adders (right_false (list_any (λ queued. same_wait who queued.who) row.takers) (list_any (λ queued. same_wait who queued.who) row.adders) missing)
    in
    λ i. record { values = row.values; takers = takers i; adders = adders i }
