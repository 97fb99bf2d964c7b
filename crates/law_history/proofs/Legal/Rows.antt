-- What stands under a number of a list after one was changed, and rows of which some waiters are taken out.
use Rattle.std.proofs.Common.{◌≡◌, ℕ, zero, suc, ◌<◌, ◌==◌, Bool, true, false, ◌&&◌, List, [], ◌∷◌, length, map, slice_get, slice_set, refl, sym, ap, ◌∙◌, subst, true≢false, arith, eqb-true, eq-eqb, ne_eqb}
use Rattle.std.specs.Option.{unwrap_or}
use Rattle.std.proofs.lemmas.List.Elements.{filter_agree}
use Rattle.eio_value.specs.declared.message.Waiter.{Waiter}
use Rattle.spec_parts.specs.Row.{Row, Queued, only_row}
use Rattle.spec_machine.specs.Shared.{row_at}
use Rattle.law_parts.proofs.Alike.{only}

-- what holds in both cases of a test, each with what the test gave, holds of the test
pub by_test : (P : Bool → Type 0) (test : Bool) → (test ≡ true → P true) → (test ≡ false → P false) → P test
by_test P true hit miss = hit refl
by_test P false hit miss = miss refl

pub both_true : (a b : Bool) → (a && b) ≡ true → (a ≡ true) × (b ≡ true)
both_true true b e = (refl, e)
both_true false b e = absurd (true≢false (sym e))

-- ## Under a number

module _ {A : Type 0} (none : A) where
  abbrev under : List A → ℕ → A
  under xs n = unwrap_or (slice_get xs n) none

  set_here : (xs : List A) (n : ℕ) (x : A) → n < length xs → under (slice_set xs n x) n ≡ x
  set_here [] n x h = absurd (omega arith)
  set_here (y ∷ ys) zero x h = refl
  set_here (y ∷ ys) (suc n) x h = set_here ys n x (omega arith)

  set_other : (xs : List A) (n m : ℕ) (x : A) → (n == m) ≡ false → under (slice_set xs n x) m ≡ under xs m
  set_other [] n m x other = refl
  set_other (y ∷ ys) zero zero x other = absurd (true≢false other)
  set_other (y ∷ ys) zero (suc m) x other = refl
  set_other (y ∷ ys) (suc n) zero x other = refl
  set_other (y ∷ ys) (suc n) (suc m) x other = set_other ys n m x (ne_eqb n m (λ e. true≢false (sym (eq-eqb (suc n) (suc m) (ap suc e)) ∙ other)))

  -- after one was changed, that one stands under its number, and under all others what stood there
  pub under_set : (xs : List A) (n m : ℕ) (x : A) → n < length xs → under (slice_set xs n x) m ≡ elim (n == m) [ true ↦ x | false ↦ under xs m ]
  under_set xs n m x h = by_test (λ b. under (slice_set xs n x) m ≡ elim b [ true ↦ x | false ↦ under xs m ]) (n == m)
      (λ e. subst (λ (k : ℕ). under (slice_set xs n x) k ≡ x) (eqb-true n m e) (set_here xs n x h))
      (λ e. set_other xs n m x e)

  pub under_same : {B : Type 0} (xs : List B) (n : ℕ) → under (map (λ x. none) xs) n ≡ none
  under_same [] n = refl
  under_same (x ∷ xs) zero = refl
  under_same (x ∷ xs) (suc n) = under_same xs n

pub length_mapped : {A B : Type 0} (f : A → B) (xs : List A) → length (map f xs) ≡ length xs
length_mapped f [] = refl
length_mapped f (x ∷ xs) = ap suc (length_mapped f xs)

-- an object whose waiters are filtered, among all objects whose waiters are
pub row_only : (p : Waiter → Bool) (rows : List Row) (object : ℕ) → row_at (map (only_row p) rows) object ≡ only_row p (row_at rows object)
row_only p [] object = refl
row_only p (row ∷ rows) zero = refl
row_only p (row ∷ rows) (suc object) = row_only p rows object

-- ## Filters

twice_go : (p q : Waiter → Bool) (x : Queued) (xs : List Queued) (b c : Bool) → q x.who ≡ b → p x.who ≡ c → (p x.who ≡ true → q x.who ≡ true)
    → only p (only q xs) ≡ only p xs → only p (only q (x ∷ xs)) ≡ only p (x ∷ xs)
twice_go p q x xs true true eb ec passes ih = rw (eb, ec) (ap (λ (l : List Queued). x ∷ l) ih)
twice_go p q x xs true false eb ec passes ih = rw (eb, ec) ih
twice_go p q x xs false true eb ec passes ih = absurd (true≢false (sym (passes ec) ∙ eb))
twice_go p q x xs false false eb ec passes ih = rw (eb, ec) ih

only_twice : (p q : Waiter → Bool) → ((who : Waiter) → p who ≡ true → q who ≡ true) → (list : List Queued) → only p (only q list) ≡ only p list
only_twice p q passes [] = refl
only_twice p q passes (x ∷ xs) = twice_go p q x xs (q x.who) (p x.who) refl refl (passes x.who) (only_twice p q passes xs)

-- a filter before a stricter one changes nothing
pub row_twice : (p q : Waiter → Bool) → ((who : Waiter) → p who ≡ true → q who ≡ true) → (row : Row) → only_row p (only_row q row) ≡ only_row p row
row_twice p q passes row = λ i. record { values = row.values; takers = only_twice p q passes row.takers i; adders = only_twice p q passes row.adders i }

-- tests that agree filter alike
pub row_agree : (p q : Waiter → Bool) → ((who : Waiter) → p who ≡ q who) → (row : Row) → only_row p row ≡ only_row q row
row_agree p q agree row =
    λ i. record {
      values = row.values;
      takers = filter_agree (λ queued. p queued.who) (λ queued. q queued.who) (λ queued. agree queued.who) row.takers i;
      adders = filter_agree (λ queued. p queued.who) (λ queued. q queued.who) (λ queued. agree queued.who) row.adders i;
    }

joined_go : (p q r : Waiter → Bool) (x : Queued) (xs : List Queued) (b c : Bool) → p x.who ≡ b → q x.who ≡ c → r x.who ≡ (q x.who && p x.who)
    → only q (only p xs) ≡ only r xs → only q (only p (x ∷ xs)) ≡ only r (x ∷ xs)
joined_go p q r x xs true true eb ec e ih = rw (e, ec, eb, ec) (ap (λ (l : List Queued). x ∷ l) ih)
joined_go p q r x xs true false eb ec e ih = rw (e, ec, eb, ec) ih
joined_go p q r x xs false true eb ec e ih = rw (e, ec, eb) ih
joined_go p q r x xs false false eb ec e ih = rw (e, ec, eb) ih

only_joined : (p q r : Waiter → Bool) → ((who : Waiter) → r who ≡ (q who && p who)) → (list : List Queued) → only q (only p list) ≡ only r list
only_joined p q r joins [] = refl
only_joined p q r joins (x ∷ xs) = joined_go p q r x xs (p x.who) (q x.who) refl refl (joins x.who) (only_joined p q r joins xs)

-- two filters are one by both tests
pub row_joined : (p q r : Waiter → Bool) → ((who : Waiter) → r who ≡ (q who && p who)) → (row : Row) → only_row q (only_row p row) ≡ only_row r row
row_joined p q r joins row = λ i. record { values = row.values; takers = only_joined p q r joins row.takers i; adders = only_joined p q r joins row.adders i }

only_all : (p : Waiter → Bool) → ((who : Waiter) → p who ≡ true) → (list : List Queued) → list ≡ only p list
only_all p all [] = refl
only_all p all (x ∷ xs) = rw (all x.who) (ap (λ (l : List Queued). x ∷ l) (only_all p all xs))

-- where all pass nothing is taken out
pub row_all : (p : Waiter → Bool) → ((who : Waiter) → p who ≡ true) → (row : Row) → row ≡ only_row p row
row_all p all row = λ i. record { values = row.values; takers = only_all p all row.takers i; adders = only_all p all row.adders i }
