-- Whom a cancellation strikes: of those that wait, in order of number, those whose contexts it reaches.
use Rattle.std.proofs.Common.{◌≡◌, ◌⊎◌, inl, inr, ℕ, zero, suc, ◌+◌, ◌<◌, ◌≤◌, Bool, true, false, List, [], ◌∷◌, length, map, filter, refl, ap, ◌∙◌, sym, subst, cond, arith, true≢false}
use Rattle.std.specs.Prelude.{All, slice_index_or}
use Rattle.std.specs.List.{AllPairs, Contains}
use Rattle.std.proofs.lemmas.List.Kept.{AllPairs-cons}
use Rattle.spec_parts.specs.Contexts.{Context, Waiting, goes_up_to, takes_effect, to_be_struck}
use Rattle.spec_machine.specs.Domain.{Fiber, fiber_at, live_fibers}
use Rattle.spec_machine.specs.Steps.{waiting_from}
use Rattle.domain_strikes.specs.Waiting.Laws.{StruckByNumber}
use Rattle.domain_strikes.specs.Waiting.WhoWaits.{can_be_struck, waits_as}
use Rattle.domain_strikes.proofs.Waiting.Listed.{by_standing, listed-cons, listed_none}
use Rattle.domain_strikes.proofs.Waiting.Standing.{listed_by}

-- ## Lists of numbers

contains_behind : (y x : ℕ) (xs : List ℕ) → Contains xs x → Contains (y ∷ xs) x
contains_behind y x xs there = (let below : there.0 < length xs = there.1 in (suc there.0, omega arith, there.2))

contains_first : (x : ℕ) (xs : List ℕ) → Contains (x ∷ xs) x
contains_first x xs = (0, omega arith, refl)

contains_cases : (y x : ℕ) (xs : List ℕ) → Contains (y ∷ xs) x → (y ≡ x) ⊎ Contains xs x
contains_cases y x xs there = cases there.0 there.1 there.2 where
  cases : (i : ℕ) → i < length (y ∷ xs) → slice_index_or (y ∷ xs) i x ≡ x → (y ≡ x) ⊎ Contains xs x
  cases zero below is = inl is
  cases (suc i) below is = inr (i, omega arith, is)

none_contained : (x : ℕ) → Contains [] x → ⊥
none_contained x there = (let below : there.0 < 0 = there.1 in omega arith)

all_first : (P : ℕ → Type 0) (x : ℕ) (xs : List ℕ) → P x → All P xs → All P (x ∷ xs)
all_first P x xs is all zero d below = is
all_first P x xs is all (suc i) d below = all i d (omega arith)

-- with a number before the others, or without
abbrev numbered_by : Bool → ℕ → List ℕ → List ℕ
numbered_by true n others = n ∷ others
numbered_by false n others = others

-- ## By a test on contexts

module _ (test : ℕ → Bool) where
  abbrev numbers_of : List Waiting → List ℕ
  numbers_of ws = map (λ w. w.fiber) (filter (λ w. test w.context) ws)

  abbrev passes : Fiber → Bool
  passes fiber = elim (can_be_struck fiber) [ true ↦ test fiber.context | false ↦ false ]

  numbers-cons : (k : ℕ) (fiber : Fiber) (fibers : List Fiber) → numbers_of (waiting_from k (fiber ∷ fibers)) ≡ numbered_by (passes fiber) k (numbers_of (waiting_from (k + 1) fibers))
  numbers-cons k fiber fibers = ap numbers_of (listed-cons k fiber fibers) ∙ by (can_be_struck fiber) where
    tested : (b : Bool) → map (λ (w : Waiting). w.fiber) (cond b (waits_as k fiber ∷ filter (λ w. test w.context) (waiting_from (k + 1) fibers)) (filter (λ w. test w.context) (waiting_from (k + 1) fibers)))
        ≡ numbered_by b k (numbers_of (waiting_from (k + 1) fibers))
    tested true = refl
    tested false = refl

    by : (can : Bool) → numbers_of (listed_by can (waits_as k fiber) (waiting_from (k + 1) fibers))
        ≡ numbered_by (elim can [ true ↦ test fiber.context | false ↦ false ]) k (numbers_of (waiting_from (k + 1) fibers))
    by true = tested (test fiber.context)
    by false = refl

  numbers_none : (k : ℕ) → numbers_of (waiting_from k []) ≡ []
  numbers_none k = ap numbers_of (listed_none k)

  -- no number is below the first's, and they rise
  at_least : (n k : ℕ) (fibers : List Fiber) → n ≤ k → All (λ m. n ≤ m) (numbers_of (waiting_from k fibers))
  at_least n k [] low = subst (All (λ m. n ≤ m)) (sym (numbers_none k)) (λ i d below. absurd (omega arith))
  at_least n k (fiber ∷ fibers) low = subst (All (λ m. n ≤ m)) (sym (numbers-cons k fiber fibers)) (by (passes fiber) (at_least n (k + 1) fibers (omega arith))) where
    by : (b : Bool) → All (λ m. n ≤ m) (numbers_of (waiting_from (k + 1) fibers)) → All (λ m. n ≤ m) (numbered_by b k (numbers_of (waiting_from (k + 1) fibers)))
    by true rest = all_first (λ m. n ≤ m) k (numbers_of (waiting_from (k + 1) fibers)) low rest
    by false rest = rest

  rising : (k : ℕ) (fibers : List Fiber) → AllPairs (λ g h. g < h) (numbers_of (waiting_from k fibers))
  rising k [] = subst (AllPairs (λ g h. g < h)) (sym (numbers_none k)) (λ i j d less below. absurd (omega arith))
  rising k (fiber ∷ fibers) = subst (AllPairs (λ g h. g < h)) (sym (numbers-cons k fiber fibers)) (by (passes fiber) (rising (k + 1) fibers)) where
    by : (b : Bool) → AllPairs (λ g h. g < h) (numbers_of (waiting_from (k + 1) fibers)) → AllPairs (λ g h. g < h) (numbered_by b k (numbers_of (waiting_from (k + 1) fibers)))
    by true rest =
        AllPairs-cons (λ g h. g < h) k (numbers_of (waiting_from (k + 1) fibers))
        (λ i d below. (let more : k + 1 ≤ slice_index_or (numbers_of (waiting_from (k + 1) fibers)) i d = at_least (k + 1) (k + 1) fibers (omega arith) i d below in omega arith))
        rest
    by false rest = rest

  -- whose number it is
  passed : (k : ℕ) (fibers : List Fiber) (n : ℕ) → Contains (numbers_of (waiting_from k fibers)) n → (g : ℕ) × (n ≡ k + g) × (passes (fiber_at fibers g) ≡ true)
  passed k [] n there = absurd (none_contained n (subst (λ ns. Contains ns n) (numbers_none k) there))
  passed k (fiber ∷ fibers) n there = by (passes fiber) refl (passed (k + 1) fibers n) (subst (λ ns. Contains ns n) (numbers-cons k fiber fibers) there) where
    behind : (g : ℕ) × (n ≡ k + 1 + g) × (passes (fiber_at fibers g) ≡ true) → (g : ℕ) × (n ≡ k + g) × (passes (fiber_at (fiber ∷ fibers) g) ≡ true)
    behind it = (suc it.0, (let place : n ≡ k + 1 + it.0 = it.1 in omega arith), it.2)

    by : (b : Bool) → passes fiber ≡ b → (Contains (numbers_of (waiting_from (k + 1) fibers)) n → (g : ℕ) × (n ≡ k + 1 + g) × (passes (fiber_at fibers g) ≡ true))
        → Contains (numbered_by b k (numbers_of (waiting_from (k + 1) fibers))) n → (g : ℕ) × (n ≡ k + g) × (passes (fiber_at (fiber ∷ fibers) g) ≡ true)
    by true is rest there = elim (contains_cases k n (numbers_of (waiting_from (k + 1) fibers)) there) [ inl here ↦ (0, omega arith, is) | inr later ↦ behind (rest later) ]
    by false is rest there = behind (rest there)

  numbered : (k : ℕ) (fibers : List Fiber) (g n : ℕ) → n ≡ k + g → passes (fiber_at fibers g) ≡ true → Contains (numbers_of (waiting_from k fibers)) n
  numbered k [] g n place is = absurd (true≢false (sym is))
  numbered k (fiber ∷ fibers) zero n place is = (
      let rest : List ℕ = numbers_of (waiting_from (k + 1) fibers) in
      let number : k ≡ n = omega arith in
      subst (λ ns. Contains ns n) (sym (numbers-cons k fiber fibers ∙ (ap (λ b. numbered_by b k rest) is ∙ ap (λ m. m ∷ rest) number))) (contains_first n rest))
  numbered k (fiber ∷ fibers) (suc g) n place is =
      subst (λ ns. Contains ns n) (sym (numbers-cons k fiber fibers)) (by (passes fiber) (numbered (k + 1) fibers g n (omega arith) is)) where
        by : (b : Bool) → Contains (numbers_of (waiting_from (k + 1) fibers)) n → Contains (numbered_by b k (numbers_of (waiting_from (k + 1) fibers))) n
        by true rest = contains_behind k n (numbers_of (waiting_from (k + 1) fibers)) rest
        by false rest = rest

  passes_both : (fiber : Fiber) → passes fiber ≡ true → (can_be_struck fiber ≡ true) × (test fiber.context ≡ true)
  passes_both fiber = by (can_be_struck fiber) where
    by : (can : Bool) → elim can as (λ _. Bool) [ true ↦ test fiber.context | false ↦ false ] ≡ true → (can ≡ true) × (test fiber.context ≡ true)
    by true is = (refl, is)
    by false is = absurd (true≢false (sym is))

  fewer : (ws : List Waiting) → length (numbers_of ws) ≤ length ws
  fewer [] = omega arith
  fewer (w ∷ ws) = by (test w.context) (fewer ws) where
    by : (b : Bool) → length (numbers_of ws) ≤ length ws
        → length (map (λ (v : Waiting). v.fiber) (cond b (w ∷ filter (λ v. test v.context) ws) (filter (λ v. test v.context) ws))) ≤ length (w ∷ ws)
    by true rest = omega arith
    by false rest = omega arith

-- ## The law

struck_some : (contexts : List Context) (fibers : List Fiber) (c : ℕ) → takes_effect contexts c ≡ true
    → to_be_struck contexts (waiting_from 0 fibers) c ≡ numbers_of (λ d. goes_up_to contexts d c) (waiting_from 0 fibers)
struck_some contexts fibers c effect = ap (λ b. elim b as (λ _. List ℕ) [ true ↦ numbers_of (λ d. goes_up_to contexts d c) (waiting_from 0 fibers) | false ↦ [] ]) effect

struck_none : (contexts : List Context) (fibers : List Fiber) (c : ℕ) → takes_effect contexts c ≡ false → to_be_struck contexts (waiting_from 0 fibers) c ≡ []
struck_none contexts fibers c effect = ap (λ b. elim b as (λ _. List ℕ) [ true ↦ numbers_of (λ d. goes_up_to contexts d c) (waiting_from 0 fibers) | false ↦ [] ]) effect

-- no more are struck than live
pub few_struck : (contexts : List Context) (fibers : List Fiber) (c : ℕ) → length (to_be_struck contexts (waiting_from 0 fibers) c) ≤ live_fibers fibers
few_struck contexts fibers c = by (takes_effect contexts c) refl where
  by : (b : Bool) → takes_effect contexts c ≡ b → length (to_be_struck contexts (waiting_from 0 fibers) c) ≤ live_fibers fibers
  by true effect = (
      let count : length (to_be_struck contexts (waiting_from 0 fibers) c) ≡ length (numbers_of (λ d. goes_up_to contexts d c) (waiting_from 0 fibers)) =
      ap length (struck_some contexts fibers c effect) in
      omega (arith, count, fewer (λ d. goes_up_to contexts d c) (waiting_from 0 fibers), by_standing.few fibers))
  by false effect = (let none : length (to_be_struck contexts (waiting_from 0 fibers) c) ≡ 0 = ap length (struck_none contexts fibers c effect) in omega arith)

pub by_number : StruckByNumber
by_number = record {
  in_order = λ contexts fibers c. order contexts fibers c (takes_effect contexts c) refl;
  struck = λ contexts fibers c g there. whose contexts fibers c g (takes_effect contexts c) refl there;
  strikes = λ contexts fibers c g effect can up.
      subst (λ ns. Contains ns g) (sym (struck_some contexts fibers c effect))
      (numbered (λ d. goes_up_to contexts d c) 0 fibers g g (omega arith)
      (ap (λ b. elim b as (λ _. Bool) [ true ↦ goes_up_to contexts (fiber_at fibers g).context c | false ↦ false ]) can ∙ up));
} where
  order : (contexts : List Context) (fibers : List Fiber) (c : ℕ) (b : Bool) → takes_effect contexts c ≡ b → AllPairs (λ g h. g < h) (to_be_struck contexts (waiting_from 0 fibers) c)
  order contexts fibers c true effect = subst (AllPairs (λ g h. g < h)) (sym (struck_some contexts fibers c effect)) (rising (λ d. goes_up_to contexts d c) 0 fibers)
  order contexts fibers c false effect = subst (AllPairs (λ g h. g < h)) (sym (struck_none contexts fibers c effect)) (λ i j d less below. absurd (omega arith))

  whose : (contexts : List Context) (fibers : List Fiber) (c g : ℕ) (b : Bool) → takes_effect contexts c ≡ b → Contains (to_be_struck contexts (waiting_from 0 fibers) c) g
      → (takes_effect contexts c ≡ true) × (can_be_struck (fiber_at fibers g) ≡ true) × (goes_up_to contexts (fiber_at fibers g).context c ≡ true)
  whose contexts fibers c g true effect there = (
      let it = passed (λ d. goes_up_to contexts d c) 0 fibers g (subst (λ ns. Contains ns g) (struck_some contexts fibers c effect) there) in
      let same : it.0 ≡ g = (let place : g ≡ 0 + it.0 = it.1 in omega arith) in
      let both = passes_both (λ d. goes_up_to contexts d c) (fiber_at fibers g) (subst (λ h. passes (λ d. goes_up_to contexts d c) (fiber_at fibers h) ≡ true) same it.2) in
      (effect, both.0, both.1))
  whose contexts fibers c g false effect there = absurd (none_contained g (subst (λ ns. Contains ns g) (struck_none contexts fibers c effect) there))
