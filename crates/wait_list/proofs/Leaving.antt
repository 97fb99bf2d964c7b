-- A list and its marks when the first fiber that passes a test leaves.
use Rattle.std.proofs.Common.{◌≡◌, ℕ, ◌+◌, ◌<◌, ◌==◌, ◌||◌, if◌then◌else◌, Bool, true, false, List, [], ◌∷◌, length, Some, None, refl, sym, ap, ◌∙◌, arith, slice_set, length-set}
use Rattle.std.specs.Prelude.{find}
use Rattle.std.proofs.lemmas.List.Elements.{All-cons, All-head, All-tail}
use Rattle.law_parts.specs.Waits.{has_cell}
use Rattle.spec_parts.specs.Row.{Queued, but_first}
use Rattle.wait_list.specs.Standing.{Holds}
use Rattle.wait_list.specs.Waits.{stands, count, EachCellOnce, AreBelow}
use Rattle.wait_list.proofs.Cells.{none_stands}
use Rattle.wait_list.proofs.Marks.{set_go}

module _ (p : Queued → Bool) where
  -- how many have a cell

  abbrev one : ℕ → Queued → ℕ
  one cell q = if has_cell cell q.who then 1 else 0

  count-cons : (cell : ℕ) (x : Queued) (xs : List Queued) (b : Bool) → has_cell cell x.who ≡ b → count cell (x ∷ xs) ≡ one cell x + count cell xs
  count-cons cell x xs true has = rw has (omega arith)
  count-cons cell x xs false has = rw has (omega arith)

  count_go : (cell : ℕ) (x q : Queued) (xs : List Queued) (b : Bool) → p x ≡ b → find p (x ∷ xs) ≡ Some q → (find p xs ≡ Some q → count cell (but_first p xs) + one cell q ≡ count cell xs)
      → count cell (but_first p (x ∷ xs)) + one cell q ≡ count cell (x ∷ xs)
  count_go cell x q xs true e is rest =
      let same : x ≡ q = cc (rw e at is) in
      let ones : one cell x ≡ one cell q = ap (one cell) same in
      rw (e, but_first) (omega (arith, count-cons cell x xs (has_cell cell x.who) refl, ones))
  count_go cell x q xs false e is rest =
      let more = rest (rw e at is) in
      rw (e, but_first) (omega (arith, more, count-cons cell x xs (has_cell cell x.who) refl, count-cons cell x (but_first p xs) (has_cell cell x.who) refl))

  count_left : (cell : ℕ) (xs : List Queued) (q : Queued) → find p xs ≡ Some q → count cell (but_first p xs) + one cell q ≡ count cell xs
  count_left cell [] q is = let none : None ≡ Some q = is in cc
  count_left cell (x ∷ xs) q is = count_go cell x q xs (p x) refl is (λ e. count_left cell xs q e)

  -- who stands

  stands_go : (cell : ℕ) (x q : Queued) (xs : List Queued) (b : Bool) → p x ≡ b → find p (x ∷ xs) ≡ Some q → has_cell cell q.who ≡ false
      → (find p xs ≡ Some q → stands cell (but_first p xs) ≡ stands cell xs) → stands cell (but_first p (x ∷ xs)) ≡ stands cell (x ∷ xs)
  stands_go cell x q xs true e is other rest =
      let same : x ≡ q = cc (rw e at is) in
      let not : has_cell cell x.who ≡ false = ap (λ (y : Queued). has_cell cell y.who) same ∙ other in
      rw (e, but_first) (rw not refl)
  stands_go cell x q xs false e is other rest = rw (e, but_first) (ap (λ b. has_cell cell x.who || b) (rest (rw e at is)))

  stands_left : (cell : ℕ) (xs : List Queued) (q : Queued) → find p xs ≡ Some q → has_cell cell q.who ≡ false → stands cell (but_first p xs) ≡ stands cell xs
  stands_left cell [] q is other = refl
  stands_left cell (x ∷ xs) q is other = stands_go cell x q xs (p x) refl is other (λ e. stands_left cell xs q e other)

  -- all cells are below a number

  below_go : (n : ℕ) (x q : Queued) (xs : List Queued) (b : Bool) → p x ≡ b → find p (x ∷ xs) ≡ Some q → AreBelow n (x ∷ xs) → (find p xs ≡ Some q → AreBelow n (but_first p xs) × (q.who.cell < n))
      → AreBelow n (but_first p (x ∷ xs)) × (q.who.cell < n)
  below_go n x q xs true e is below rest =
      let same : x ≡ q = cc (rw e at is) in
      let first : x.who.cell < n = All-head (λ (y : Queued). y.who.cell < n) x xs below in
      let cells : x.who.cell ≡ q.who.cell = ap (λ (y : Queued). y.who.cell) same in
      (rw (e, but_first) (All-tail (λ (y : Queued). y.who.cell < n) x xs below), omega arith)
  below_go n x q xs false e is below rest =
      let more = rest (rw e at is) in
      (rw (e, but_first) (All-cons (λ (y : Queued). y.who.cell < n) x (but_first p xs) (All-head (λ (y : Queued). y.who.cell < n) x xs below) more.0), more.1)

  below_left : (n : ℕ) (xs : List Queued) (q : Queued) → find p xs ≡ Some q → AreBelow n xs → AreBelow n (but_first p xs) × (q.who.cell < n)
  below_left n [] q is below = let none : None ≡ Some q = is in cc
  below_left n (x ∷ xs) q is below = below_go n x q xs (p x) refl is below (λ e. below_left n xs q e (All-tail (λ (y : Queued). y.who.cell < n) x xs below))

  eqb-refl-of : (a b : ℕ) → a ≡ b → (a == b) ≡ true
  eqb-refl-of a b e = grind arith

  gone : (xs : List Queued) (q : Queued) (cell : ℕ) → find p xs ≡ Some q → EachCellOnce xs → (q.who.cell == cell) ≡ true → stands cell (but_first p xs) ≡ false
  gone xs q cell is once same =
      let here : one cell q ≡ 1 = rw same refl in
      none_stands cell (but_first p xs) (omega (arith, count_left cell xs q is, once cell, here))

  pub holds_left : (xs : List Queued) (q : Queued) (marks : List Bool) (room : ℕ) → find p xs ≡ Some q → Holds xs marks room → Holds (but_first p xs) (slice_set marks q.who.cell false) room × (q.who.cell < length marks)
  holds_left xs q marks room is holds =
      let below = below_left (length marks) xs q is holds.below in (
        record {
          once = λ cell. omega (arith, count_left cell xs q is, holds.once cell);
          below = rw (length-set marks q.who.cell false) below.0;
          marked = λ cell d less.
              set_go marks q.who.cell cell false d (stands cell (but_first p xs)) below.1
              (λ same. gone xs q cell is holds.once same)
              (λ other. stands_left cell xs q is other ∙ sym (holds.marked cell d (rw (length-set marks q.who.cell false) at less)))
              (q.who.cell == cell) refl;
          fits = rw (length-set marks q.who.cell false) holds.fits;
        },
        below.1,
      )
