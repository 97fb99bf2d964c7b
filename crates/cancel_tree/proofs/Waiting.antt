-- Waiting fibers in order of their numbers: where one goes in, and what is left when it goes.
use Rattle.std.proofs.Common.{◌≡◌, ℕ, zero, suc, ◌<◌, ◌≤◌, ◌≢◌, inl, inr, Bool, true, false, not, ◌||◌, nat_lt, List, [], ◌∷◌, ◌++◌, length, map, filter, get_or, take, drop, cond, arith, refl, ap, ◌∙◌, sym, subst, true≢false}
use Rattle.std.specs.List.{AllWithin}
use Rattle.std.specs.List.Sorted.{IsPartitionedBy}
use Rattle.std.proofs.lemmas.Bool.Decides.{eqb_tells}
use Rattle.spec_parts.specs.Contexts.{Context, Waiting, goes_up_to, reached}
use Rattle.spec_parts.specs.ContextCalls.{put_in, taken_out}
use Rattle.cancel_tree.specs.declared.waiters.Entered.{Entered}
use Rattle.cancel_tree.specs.Entered.{waiting_of, AreAbove, Rise}
use Rattle.cancel_tree.specs.Waits.{waits}
use Rattle.cancel_tree.proofs.Finding.{lower, not_lower, tests_lower, tests_not_lower, tells_other, tells_same}

AreAbove-lower : (a b : ℕ) (xs : List Entered) → a < b → AreAbove b xs → AreAbove a xs
AreAbove-lower a b [] h all = tt
AreAbove-lower a b (x ∷ xs) h all = ((let k : b < x.fiber = all.0 in omega arith), AreAbove-lower a b xs h all.1)

AreAbove-at : (a : ℕ) (xs : List Entered) (j : ℕ) (d : Entered) → AreAbove a xs → j < length xs → a < (get_or xs j d).fiber
AreAbove-at a [] j d all h = absurd (omega arith)
AreAbove-at a (x ∷ xs) zero d all h = all.0
AreAbove-at a (x ∷ xs) (suc j) d all h = AreAbove-at a xs j d all.1 (omega arith)

-- no number below this stands behind one that isn't
pub first_are_lower : (fiber : ℕ) (xs : List Entered) → Rise xs → IsPartitionedBy (λ entered. nat_lt entered.fiber fiber) xs
first_are_lower fiber [] rise i j d le h t = absurd (omega arith)
first_are_lower fiber (x ∷ xs) rise zero zero d le h t = t
first_are_lower fiber (x ∷ xs) rise zero (suc j) d le h t =
    let k : x.fiber < (get_or xs j d).fiber = AreAbove-at x.fiber xs j d rise.0 (omega arith) in
    let l : (get_or xs j d).fiber < fiber = lower _ _ t in
    tests_lower x.fiber fiber (omega arith)
first_are_lower fiber (x ∷ xs) rise (suc i) zero d le h t = absurd (omega arith)
first_are_lower fiber (x ∷ xs) rise (suc i) (suc j) d le h t = first_are_lower fiber xs rise.1 i j d (omega arith) (omega arith) t

-- the numbers below this stand before the index, the others from it on
pub record Parts (fiber : ℕ) (xs : List Entered) (i : ℕ) : Type 0 where
  pub within : i ≤ length xs
  pub before : AllWithin (λ entered. nat_lt entered.fiber fiber ≡ true) xs 0 i
  pub behind : AllWithin (λ entered. nat_lt entered.fiber fiber ≡ false) xs i (length xs)

Parts-rest : (fiber : ℕ) (x : Entered) (xs : List Entered) (i : ℕ) → Parts fiber (x ∷ xs) (suc i) → Parts fiber xs i
Parts-rest fiber x xs i parts = record {
  within = (let h : suc i ≤ suc (length xs) = parts.within in omega arith);
  before = λ k d low high. parts.before (suc k) d (omega arith) (omega arith);
  behind = λ k d low high. parts.behind (suc k) d (omega arith) (let h : suc k < suc (length xs) = omega arith in h);
}

-- a fiber that doesn't wait is none of them
waits_past : (fiber : ℕ) (x : Entered) (xs : List Entered) → x.fiber ≢ fiber → waits fiber (map waiting_of (x ∷ xs)) ≡ waits fiber (map waiting_of xs)
waits_past fiber x xs other = ap (λ b. b || waits fiber (map waiting_of xs)) (tells_other x.fiber fiber other)

waits_here : (fiber : ℕ) (x : Entered) (xs : List Entered) → x.fiber ≡ fiber → waits fiber (map waiting_of (x ∷ xs)) ≡ true
waits_here fiber x xs same = ap (λ b. b || waits fiber (map waiting_of xs)) (tells_same x.fiber fiber same)

not_first : (fiber : ℕ) (x : Entered) (xs : List Entered) → waits fiber (map waiting_of (x ∷ xs)) ≡ false → x.fiber ≢ fiber
not_first fiber x xs out same = true≢false (sym (waits_here fiber x xs same) ∙ out)

none_above : (fiber : ℕ) (xs : List Entered) → AreAbove fiber xs → waits fiber (map waiting_of xs) ≡ false
none_above fiber [] all = refl
none_above fiber (x ∷ xs) all = let h : fiber < x.fiber = all.0 in waits_past fiber x xs (λ e. absurd (omega arith)) ∙ none_above fiber xs all.1

-- One goes in

-- it stands where the definition puts it
pub put_in-map : (w : Entered) (xs : List Entered) (i : ℕ) → Parts w.fiber xs i → waits w.fiber (map waiting_of xs) ≡ false → put_in (waiting_of w) (map waiting_of xs) ≡ map waiting_of (take i xs ++ w ∷ drop i xs)
put_in-map w [] zero parts out = refl
put_in-map w [] (suc i) parts out = absurd (omega (arith, parts.within))
put_in-map w (x ∷ xs) zero parts out =
    let h : w.fiber ≤ x.fiber = not_lower x.fiber w.fiber (parts.behind 0 x (omega arith) (omega arith)) in
    let k : x.fiber ≢ w.fiber = not_first w.fiber x xs out in
    rw (tests_lower w.fiber x.fiber (omega arith), put_in) refl
put_in-map w (x ∷ xs) (suc i) parts out =
    let h : x.fiber < w.fiber = lower x.fiber w.fiber (parts.before 0 x (omega arith) (omega arith)) in
    rw (tests_not_lower w.fiber x.fiber (omega arith), put_in) (ap (λ ys. waiting_of x ∷ ys) (put_in-map w xs i (Parts-rest w.fiber x xs i parts) (sym (waits_past w.fiber x xs (λ e. absurd (omega arith))) ∙ out)))

AreAbove-put : (a : ℕ) (w : Entered) (xs : List Entered) (i : ℕ) → a < w.fiber → AreAbove a xs → AreAbove a (take i xs ++ w ∷ drop i xs)
AreAbove-put a w [] zero h all = (h, tt)
AreAbove-put a w [] (suc i) h all = (h, tt)
AreAbove-put a w (x ∷ xs) zero h all = (h, all)
AreAbove-put a w (x ∷ xs) (suc i) h all = (all.0, AreAbove-put a w xs i h all.1)

pub Rise-put : (w : Entered) (xs : List Entered) (i : ℕ) → Parts w.fiber xs i → waits w.fiber (map waiting_of xs) ≡ false → Rise xs → Rise (take i xs ++ w ∷ drop i xs)
Rise-put w [] zero parts out rise = (tt, tt)
Rise-put w [] (suc i) parts out rise = (tt, tt)
Rise-put w (x ∷ xs) zero parts out rise =
    let h : w.fiber ≤ x.fiber = not_lower x.fiber w.fiber (parts.behind 0 x (omega arith) (omega arith)) in
    let k : x.fiber ≢ w.fiber = not_first w.fiber x xs out in
    let l : w.fiber < x.fiber = omega arith in
    ((l, AreAbove-lower w.fiber x.fiber xs l rise.0), rise)
Rise-put w (x ∷ xs) (suc i) parts out rise =
    let h : x.fiber < w.fiber = lower x.fiber w.fiber (parts.before 0 x (omega arith) (omega arith)) in
    (AreAbove-put x.fiber w xs i h rise.0, Rise-put w xs i (Parts-rest w.fiber x xs i parts) (sym (waits_past w.fiber x xs (λ e. absurd (omega arith))) ∙ out) rise.1)

-- One goes

kept_first : (fiber : ℕ) (x : Entered) (rest : List Waiting) → x.fiber ≢ fiber → taken_out fiber (waiting_of x ∷ rest) ≡ waiting_of x ∷ taken_out fiber rest
kept_first fiber x rest other = ap (λ b. cond (not b) (waiting_of x ∷ taken_out fiber rest) (taken_out fiber rest)) (tells_other x.fiber fiber other)

gone_first : (fiber : ℕ) (x : Entered) (rest : List Waiting) → x.fiber ≡ fiber → taken_out fiber (waiting_of x ∷ rest) ≡ taken_out fiber rest
gone_first fiber x rest same = ap (λ b. cond (not b) (waiting_of x ∷ taken_out fiber rest) (taken_out fiber rest)) (tells_same x.fiber fiber same)

all_kept : (fiber : ℕ) (xs : List Entered) → AreAbove fiber xs → taken_out fiber (map waiting_of xs) ≡ map waiting_of xs
all_kept fiber [] all = refl
all_kept fiber (x ∷ xs) all =
    let h : fiber < x.fiber = all.0 in
    kept_first fiber x (map waiting_of xs) (λ e. absurd (omega arith)) ∙ ap (λ ys. waiting_of x ∷ ys) (all_kept fiber xs all.1)

-- where the first isn't below the fiber that waits, it is that fiber
first_waits : (fiber : ℕ) (x : Entered) (xs : List Entered) → fiber ≤ x.fiber → AreAbove x.fiber xs → waits fiber (map waiting_of (x ∷ xs)) ≡ true → x.fiber ≡ fiber
first_waits fiber x xs h above waiting = elim (eqb_tells x.fiber fiber) [
  | inl same ↦ same.1
  | inr other ↦
      let k : x.fiber ≢ fiber = other.1 in
      absurd (true≢false (sym waiting ∙ waits_past fiber x xs other.1 ∙ none_above fiber xs (AreAbove-lower fiber x.fiber xs (omega arith) above)))
]

pub within_waits : (fiber : ℕ) (xs : List Entered) (i : ℕ) → Parts fiber xs i → waits fiber (map waiting_of xs) ≡ true → i < length xs
within_waits fiber [] i parts waiting = absurd (true≢false (sym waiting))
within_waits fiber (x ∷ xs) zero parts waiting = omega arith
within_waits fiber (x ∷ xs) (suc i) parts waiting =
    let h : x.fiber < fiber = lower x.fiber fiber (parts.before 0 x (omega arith) (omega arith)) in
    let k : i < length xs = within_waits fiber xs i (Parts-rest fiber x xs i parts) (sym (waits_past fiber x xs (λ e. absurd (omega arith))) ∙ waiting) in
    omega arith

pub taken_out-map : (fiber : ℕ) (xs : List Entered) (i : ℕ) → Parts fiber xs i → Rise xs → waits fiber (map waiting_of xs) ≡ true → taken_out fiber (map waiting_of xs) ≡ map waiting_of (take i xs ++ drop (suc i) xs)
taken_out-map fiber [] zero parts rise waiting = refl
taken_out-map fiber [] (suc i) parts rise waiting = refl
taken_out-map fiber (x ∷ xs) zero parts rise waiting =
    let h : fiber ≤ x.fiber = not_lower x.fiber fiber (parts.behind 0 x (omega arith) (omega arith)) in
    let same : x.fiber ≡ fiber = first_waits fiber x xs h rise.0 waiting in
    gone_first fiber x (map waiting_of xs) same ∙ all_kept fiber xs (subst (λ n. AreAbove n xs) same rise.0)
taken_out-map fiber (x ∷ xs) (suc i) parts rise waiting =
    let h : x.fiber < fiber = lower x.fiber fiber (parts.before 0 x (omega arith) (omega arith)) in
    let other : x.fiber ≢ fiber = omega arith in
    kept_first fiber x (map waiting_of xs) other ∙ ap (λ ys. waiting_of x ∷ ys) (taken_out-map fiber xs i (Parts-rest fiber x xs i parts) rise.1 (sym (waits_past fiber x xs other) ∙ waiting))

AreAbove-rest : (a : ℕ) (xs : List Entered) (i : ℕ) → AreAbove a xs → AreAbove a (take i xs ++ drop (suc i) xs)
AreAbove-rest a [] zero all = tt
AreAbove-rest a [] (suc i) all = tt
AreAbove-rest a (x ∷ xs) zero all = all.1
AreAbove-rest a (x ∷ xs) (suc i) all = (all.0, AreAbove-rest a xs i all.1)

pub Rise-rest : (xs : List Entered) (i : ℕ) → Rise xs → Rise (take i xs ++ drop (suc i) xs)
Rise-rest [] zero rise = tt
Rise-rest [] (suc i) rise = tt
Rise-rest (x ∷ xs) zero rise = rise.1
Rise-rest (x ∷ xs) (suc i) rise = (AreAbove-rest x.fiber xs i rise.0, Rise-rest xs i rise.1)

-- Those that a cancellation reaches

abbrev reaching : List Context → List Waiting → ℕ → List Waiting
reaching contexts ws c = filter (λ w. goes_up_to contexts w.context c) ws

-- one more, who goes up to the context alike in both trees
pub reached-cons : (s t : List Context) (w : Waiting) (ws : List Waiting) (c : ℕ) → goes_up_to t w.context c ≡ goes_up_to s w.context c → reached t ws c ≡ reached s ws c → reached t (w ∷ ws) c ≡ reached s (w ∷ ws) c
reached-cons s t w ws c up rest =
    ap (λ b. map (λ w. w.fiber) (cond b (w ∷ reaching t ws c) (reaching t ws c))) up ∙ by (goes_up_to s w.context c)
  where
    by : (b : Bool) → map (λ w. w.fiber) (cond b (w ∷ reaching t ws c) (reaching t ws c)) ≡ map (λ w. w.fiber) (cond b (w ∷ reaching s ws c) (reaching s ws c))
    by true = ap (λ fibers. w.fiber ∷ fibers) rest
    by false = rest
