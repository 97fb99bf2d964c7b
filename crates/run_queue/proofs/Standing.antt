-- Timers in order: where a new one goes, and what is left when some go.
use Rattle.std.proofs.Common.{◌≡◌, ℕ, zero, suc, ◌<◌, ◌≤◌, ℤ, ◌≤ℤ◌, Bool, true, false, not, ◌==◌, ◌||◌, nat_lt, get_or, List, [], ◌∷◌, ◌++◌, length, map, filter, take, drop, arith, refl, ap, ◌∙◌, cond}
use Rattle.std.specs.Prelude.{int_le, int_lt}
use Rattle.std.specs.List.{list_any, AllWithin}
use Rattle.std.specs.List.Sorted.{IsPartitionedBy}
use Rattle.std.proofs.lemmas.Int.{ints}
use Rattle.std.proofs.lemmas.Grind.{common_steps}
use Rattle.spec_parts.specs.Timers.{put_in}
use Rattle.run_queue.specs.declared.timers.Timer.{Timer}
use Rattle.run_queue.specs.Order.{timer_of, AreDueFrom, IsInOrder}

later : (a b : ℤ) → int_le a b ≡ false → int_lt b a ≡ true
later a b h = grind (arith, ints)

no_later : (a b : ℤ) → int_le a b ≡ true → int_lt b a ≡ false
no_later a b h = grind (arith, ints)

at_most : (a b : ℤ) → int_le a b ≡ true → a ≤ℤ b
at_most a b h = grind (arith, ints)

at_least : (a b : ℤ) → int_le a b ≡ false → b ≤ℤ a
at_least a b h = grind (arith, ints)

tests_at_most : (a b : ℤ) → a ≤ℤ b → int_le a b ≡ true
tests_at_most a b h = grind (arith, ints)

trans_le : (a b c : ℤ) → a ≤ℤ b → b ≤ℤ c → a ≤ℤ c
trans_le a b c h k = omega (arith, ints)

-- what is due from a time on is due from any earlier one
AreDueFrom-earlier : (a b : ℤ) (xs : List Timer) → a ≤ℤ b → AreDueFrom b xs → AreDueFrom a xs
AreDueFrom-earlier a b [] h all = tt
AreDueFrom-earlier a b (x ∷ xs) h all = (trans_le a b x.due h all.0, AreDueFrom-earlier a b xs h all.1)

AreDueFrom-at : (a : ℤ) (xs : List Timer) (j : ℕ) (d : Timer) → AreDueFrom a xs → j < length xs → a ≤ℤ (get_or xs j d).due
AreDueFrom-at a [] j d all h = absurd (omega arith)
AreDueFrom-at a (x ∷ xs) zero d all h = all.0
AreDueFrom-at a (x ∷ xs) (suc j) d all h = AreDueFrom-at a xs j d all.1 (omega arith)

-- no timer that is due by a time stands behind one that is not
pub first_are_due : (due : ℤ) (xs : List Timer) → IsInOrder xs → IsPartitionedBy (λ timer. int_le timer.due due) xs
first_are_due due [] order i j d le h t = absurd (omega arith)
first_are_due due (x ∷ xs) order zero zero d le h t = t
first_are_due due (x ∷ xs) order zero (suc j) d le h t =
    tests_at_most x.due due (trans_le x.due _ due (AreDueFrom-at x.due xs j d order.0 (omega arith)) (at_most _ due t))
first_are_due due (x ∷ xs) order (suc i) zero d le h t = absurd (omega arith)
first_are_due due (x ∷ xs) order (suc i) (suc j) d le h t = first_are_due due xs order.1 i j d (omega arith) (omega arith) t

-- the new timer stands behind those that are due no later
pub record IsPlace (due : ℤ) (xs : List Timer) (i : ℕ) : Type 0 where
  pub within : i ≤ length xs
  pub before : AllWithin (λ timer. int_le timer.due due ≡ true) xs 0 i
  pub behind : AllWithin (λ timer. int_le timer.due due ≡ false) xs i (length xs)

IsPlace-rest : (due : ℤ) (x : Timer) (xs : List Timer) (i : ℕ) → IsPlace due (x ∷ xs) (suc i) → IsPlace due xs i
IsPlace-rest due x xs i place = record {
  within = (let h : suc i ≤ suc (length xs) = place.within in omega arith);
  before = λ k d low high. place.before (suc k) d (omega arith) (omega arith);
  behind = λ k d low high. place.behind (suc k) d (omega arith) (let h : suc k < suc (length xs) = omega arith in h);
}

-- it stands where the definition puts it
pub put_in-map : (t : Timer) (xs : List Timer) (i : ℕ) → IsPlace t.due xs i → put_in (timer_of t) (map timer_of xs) ≡ map timer_of (take i xs ++ t ∷ drop i xs)
put_in-map t [] zero place = refl
put_in-map t [] (suc i) place = absurd (omega (arith, place.within))
put_in-map t (x ∷ xs) zero place = rw (later x.due t.due (place.behind 0 x (omega arith) (omega arith)), put_in) refl
put_in-map t (x ∷ xs) (suc i) place =
    rw (no_later x.due t.due (place.before 0 x (omega arith) (omega arith)), put_in) (ap (λ ys. timer_of x ∷ ys) (put_in-map t xs i (IsPlace-rest t.due x xs i place)))

AreDueFrom-put : (due : ℤ) (t : Timer) (xs : List Timer) (i : ℕ) → due ≤ℤ t.due → AreDueFrom due xs → AreDueFrom due (take i xs ++ t ∷ drop i xs)
AreDueFrom-put due t [] zero h all = (h, tt)
AreDueFrom-put due t [] (suc i) h all = (h, tt)
AreDueFrom-put due t (x ∷ xs) zero h all = (h, all)
AreDueFrom-put due t (x ∷ xs) (suc i) h all = (all.0, AreDueFrom-put due t xs i h all.1)

-- and all are in order again
pub IsInOrder-put : (t : Timer) (xs : List Timer) (i : ℕ) → IsPlace t.due xs i → IsInOrder xs → IsInOrder (take i xs ++ t ∷ drop i xs)
IsInOrder-put t [] zero place order = (tt, tt)
IsInOrder-put t [] (suc i) place order = (tt, tt)
IsInOrder-put t (x ∷ xs) zero place order =
    let h : t.due ≤ℤ x.due = at_least x.due t.due (place.behind 0 x (omega arith) (omega arith)) in
    ((h, AreDueFrom-earlier t.due x.due xs h order.0), order)
IsInOrder-put t (x ∷ xs) (suc i) place order =
    let h : x.due ≤ℤ t.due = at_most x.due t.due (place.before 0 x (omega arith) (omega arith)) in
    (AreDueFrom-put x.due t xs i h order.0, IsInOrder-put t xs i (IsPlace-rest t.due x xs i place) order.1)

-- some timers go
AreDueFrom-filter : (p : Timer → Bool) (due : ℤ) (xs : List Timer) → AreDueFrom due xs → AreDueFrom due (filter p xs)
AreDueFrom-filter p due [] all = tt
AreDueFrom-filter p due (x ∷ xs) all =
    elim (p x) as (λ b. AreDueFrom due (cond b (x ∷ filter p xs) (filter p xs))) [
      | true ↦ (all.0, AreDueFrom-filter p due xs all.1)
      | false ↦ AreDueFrom-filter p due xs all.1
    ]

pub IsInOrder-filter : (p : Timer → Bool) (xs : List Timer) → IsInOrder xs → IsInOrder (filter p xs)
IsInOrder-filter p [] order = tt
IsInOrder-filter p (x ∷ xs) order =
    elim (p x) as (λ b. IsInOrder (cond b (x ∷ filter p xs) (filter p xs))) [
      | true ↦ (AreDueFrom-filter p x.due xs order.0, IsInOrder-filter p xs order.1)
      | false ↦ IsInOrder-filter p xs order.1
    ]

-- those of other fibers
abbrev pub others : ℕ → List Timer → List Timer
others fiber xs = filter (λ timer. not (timer.fiber == fiber)) xs

pub filter-map : (fiber : ℕ) (xs : List Timer) → filter (λ timer. not (timer.fiber == fiber)) (map timer_of xs) ≡ map timer_of (others fiber xs)
filter-map fiber [] = refl
filter-map fiber (x ∷ xs) =
    elim (not (x.fiber == fiber)) as (λ b. cond b (timer_of x ∷ filter (λ timer. not (timer.fiber == fiber)) (map timer_of xs)) (filter (λ timer. not (timer.fiber == fiber)) (map timer_of xs)) ≡ map timer_of (cond b (x ∷ others fiber xs) (others fiber xs))) [
      | true ↦ ap (λ ys. timer_of x ∷ ys) (filter-map fiber xs)
      | false ↦ filter-map fiber xs
    ]

length-others : (fiber : ℕ) (xs : List Timer) → length (others fiber xs) ≤ length xs
length-others fiber [] = omega arith
length-others fiber (x ∷ xs) =
    let h : length (others fiber xs) ≤ length xs = length-others fiber xs in
    elim (not (x.fiber == fiber)) as (λ b. length (cond b (x ∷ others fiber xs) (others fiber xs)) ≤ suc (length xs)) [ true ↦ omega arith | false ↦ omega arith ]

below_suc : (a b : ℕ) → a ≤ b → nat_lt a (suc b) ≡ true
below_suc a b h = grind (arith, common_steps)

suc_alike : (a b : ℕ) → nat_lt (suc a) (suc b) ≡ nat_lt a b
suc_alike a b = grind (arith, common_steps)

-- fewer are left exactly where the fiber had one
pub fewer : (fiber : ℕ) (xs : List Timer) → nat_lt (length (others fiber xs)) (length xs) ≡ list_any (λ timer. timer.fiber == fiber) (map timer_of xs)
fewer fiber [] = refl
fewer fiber (x ∷ xs) =
    elim (x.fiber == fiber) as (λ b. nat_lt (length (cond (not b) (x ∷ others fiber xs) (others fiber xs))) (suc (length xs)) ≡ (b || list_any (λ timer. timer.fiber == fiber) (map timer_of xs))) [
      | true ↦ below_suc _ _ (length-others fiber xs)
      | false ↦ suc_alike _ _ ∙ fewer fiber xs
    ]
