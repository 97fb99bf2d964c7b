-- The fibers that wait for a job, no two with one number: when one is entered, and when one leaves.
use Rattle.std.proofs.Common.{◌≡◌, ℕ, ◌+◌, ◌<◌, ◌==◌, ◌||◌, Bool, true, false, List, [], ◌∷◌, ◌++◌, Option, Some, None, arith, refl, sym, ap, ◌∙◌, eqb-true}
use Rattle.std.specs.Prelude.{filter, find}
use Rattle.std.specs.List.{list_any}
use Rattle.std.proofs.lemmas.Grind.{common_steps}
use Rattle.std.proofs.lemmas.List.Folds.{list_any-append}
use Rattle.spec_parts.specs.Data.{Submitted}
use Rattle.spec_parts.specs.Row.{Queued, but_first, has_other_cell}
use Rattle.wait_list.specs.Waits.{has_number, others}
use Rattle.executor_pool.specs.Submitting.{AreHeavy, AreNumbered}

pub heavy-push : (jobs : List Submitted) (job : Submitted) → AreHeavy jobs → 0 < job.job.weight → AreHeavy (jobs ++ job ∷ [])
heavy-push [] job are heavy = (heavy, tt)
heavy-push (j ∷ jobs) job are heavy = (are.0, heavy-push jobs job are.1 heavy)

abbrev numbers : ℕ → List Queued → Bool
numbers n xs = list_any (has_number n) xs

or_none : (a b : Bool) → a ≡ false → b ≡ false → (a || b) ≡ false
or_none a b e f = grind (arith, common_steps)

or_first : (a b : Bool) → (a || b) ≡ false → a ≡ false
or_first a b e = grind (arith, common_steps)

or_second : (a b : Bool) → (a || b) ≡ false → b ≡ false
or_second a b e = grind (arith, common_steps)

-- Some leave

fewer_go : (n : ℕ) (p : Queued → Bool) (x : Queued) (xs : List Queued) (b : Bool) → p x ≡ b → numbers n (x ∷ xs) ≡ false → (numbers n xs ≡ false → numbers n (filter p xs) ≡ false) → numbers n (filter p (x ∷ xs)) ≡ false
fewer_go n p x xs true e none rest = rw e (or_none _ _ (or_first _ _ none) (rest (or_second _ _ none)))
fewer_go n p x xs false e none rest = rw e (rest (or_second _ _ none))

fewer : (n : ℕ) (p : Queued → Bool) (xs : List Queued) → numbers n xs ≡ false → numbers n (filter p xs) ≡ false
fewer n p [] none = refl
fewer n p (x ∷ xs) none = fewer_go n p x xs (p x) refl none (λ h. fewer n p xs h)

numbered-filter_go : (submitted : ℕ) (p : Queued → Bool) (x : Queued) (xs : List Queued) (b : Bool) → p x ≡ b → AreNumbered submitted (x ∷ xs) → AreNumbered submitted (filter p xs) → AreNumbered submitted (filter p (x ∷ xs))
numbered-filter_go submitted p x xs true e are rest = rw e (are.0, fewer x.number p xs are.1, rest)
numbered-filter_go submitted p x xs false e are rest = rw e rest

numbered-filter : (submitted : ℕ) (p : Queued → Bool) (xs : List Queued) → AreNumbered submitted xs → AreNumbered submitted (filter p xs)
numbered-filter submitted p [] are = tt
numbered-filter submitted p (x ∷ xs) are = numbered-filter_go submitted p x xs (p x) refl are (numbered-filter submitted p xs are.2)

-- One is entered

apart : (a b : ℕ) → a < b → (b == a) ≡ false
apart a b h = grind (arith, common_steps)

numbered-push : (submitted : ℕ) (xs : List Queued) (q : Queued) → q.number ≡ submitted → AreNumbered submitted xs → AreNumbered (submitted + 1) (xs ++ q ∷ [])
numbered-push submitted [] q is are = (omega arith, refl, tt)
numbered-push submitted (x ∷ xs) q is are =
    let less : x.number < q.number = omega (arith, is, are.0) in (
      omega (arith, are.0),
      list_any-append (has_number x.number) xs (q ∷ []) ∙ or_none _ _ are.1 (or_none _ _ (apart x.number q.number less) refl),
      numbered-push submitted xs q is are.2,
    )

pub entered : (submitted cell : ℕ) (xs : List Queued) (q : Queued) → q.number ≡ submitted → AreNumbered submitted xs → AreNumbered (submitted + 1) (others cell xs ++ q ∷ [])
entered submitted cell xs q is are = numbered-push submitted (others cell xs) q is (numbered-filter submitted (λ queued. has_other_cell cell queued.who) xs are)

-- The one with a number leaves

numbered-fewer_go : (submitted n : ℕ) (x : Queued) (xs : List Queued) (b : Bool) → has_number n x ≡ b → AreNumbered submitted (x ∷ xs) → AreNumbered submitted (but_first (has_number n) xs)
    → ((m : ℕ) → numbers m xs ≡ false → numbers m (but_first (has_number n) xs) ≡ false) → AreNumbered submitted (but_first (has_number n) (x ∷ xs))
numbered-fewer_go submitted n x xs true e are rest none = rw (e, but_first) are.2
numbered-fewer_go submitted n x xs false e are rest none = rw (e, but_first) (are.0, none x.number are.1, rest)

left_go : (n m : ℕ) (x : Queued) (xs : List Queued) (b : Bool) → has_number n x ≡ b → numbers m (x ∷ xs) ≡ false → (numbers m xs ≡ false → numbers m (but_first (has_number n) xs) ≡ false) → numbers m (but_first (has_number n) (x ∷ xs)) ≡ false
left_go n m x xs true e none rest = rw (e, but_first) (or_second _ _ none)
left_go n m x xs false e none rest = rw (e, but_first) (or_none _ _ (or_first _ _ none) (rest (or_second _ _ none)))

left : (n m : ℕ) (xs : List Queued) → numbers m xs ≡ false → numbers m (but_first (has_number n) xs) ≡ false
left n m [] none = refl
left n m (x ∷ xs) none = left_go n m x xs (has_number n x) refl none (λ h. left n m xs h)

pub numbered-fewer : (submitted n : ℕ) (xs : List Queued) → AreNumbered submitted xs → AreNumbered submitted (but_first (has_number n) xs)
numbered-fewer submitted n [] are = tt
numbered-fewer submitted n (x ∷ xs) are = numbered-fewer_go submitted n x xs (has_number n x) refl are (numbered-fewer submitted n xs are.2) (λ m none. left n m xs none)

none_go : (n : ℕ) (x : Queued) (xs : List Queued) (b : Bool) → has_number n x ≡ b → numbers n (x ∷ xs) ≡ false → (numbers n xs ≡ false → filter (has_number n) xs ≡ []) → filter (has_number n) (x ∷ xs) ≡ []
none_go n x xs true e none rest = let h : true ≡ false = sym e ∙ or_first _ _ none in absurd (cc)
none_go n x xs false e none rest = rw e (rest (or_second _ _ none))

none_waits : (n : ℕ) (xs : List Queued) → numbers n xs ≡ false → filter (has_number n) xs ≡ []
none_waits n [] none = refl
none_waits n (x ∷ xs) none = none_go n x xs (has_number n x) refl none (λ h. none_waits n xs h)

-- then none waits with it
gone_go : (submitted n : ℕ) (x : Queued) (xs : List Queued) (b : Bool) → has_number n x ≡ b → AreNumbered submitted (x ∷ xs) → filter (has_number n) (but_first (has_number n) xs) ≡ [] → filter (has_number n) (but_first (has_number n) (x ∷ xs)) ≡ []
gone_go submitted n x xs true e are rest = let same : x.number ≡ n = eqb-true x.number n e in rw (e, but_first) (none_waits n xs (ap (λ (m : ℕ). numbers m xs) (sym same) ∙ are.1))
gone_go submitted n x xs false e are rest = rw (e, but_first) (rw e rest)

pub gone : (submitted n : ℕ) (xs : List Queued) → AreNumbered submitted xs → filter (has_number n) (but_first (has_number n) xs) ≡ []
gone submitted n [] are = refl
gone submitted n (x ∷ xs) are = gone_go submitted n x xs (has_number n x) refl are (gone submitted n xs are.2)

-- The first of a filter is the one that is found

abbrev pub first_of : List Queued → Option Queued
first_of [] = None
first_of (x ∷ xs) = Some x

first_go : (p : Queued → Bool) (x : Queued) (xs : List Queued) (b : Bool) → p x ≡ b → find p xs ≡ first_of (filter p xs) → find p (x ∷ xs) ≡ first_of (filter p (x ∷ xs))
first_go p x xs true e rest = rw e refl
first_go p x xs false e rest = rw e rest

pub found_first : (p : Queued → Bool) (xs : List Queued) → find p xs ≡ first_of (filter p xs)
found_first p [] = refl
found_first p (x ∷ xs) = first_go p x xs (p x) refl (found_first p xs)
