-- The list of those that wait, along the fibers: the fiber at the place g has the number k + g, where the first has the number k.
use Rattle.std.proofs.Common.{◌≡◌, ◌≢◌, ◌⊎◌, inl, inr, ℕ, zero, suc, ◌+◌, ◌<◌, ◌≤◌, Bool, true, false, not, ◌==◌, nat_lt, ◌||◌, List, [], ◌∷◌, ◌++◌, length, slice_set, refl, ap, ◌∙◌, sym, subst, cond, arith, true≢false, eqb-true}
use Rattle.std.proofs.lemmas.List.Sums.{sum_by-cons}
use Rattle.spec_parts.specs.Contexts.{Waiting}
use Rattle.spec_parts.specs.ContextCalls.{put_in, taken_out}
use Rattle.cancel_tree.specs.Waits.{waits, waits_in}
use Rattle.spec_machine.specs.Domain.{Fiber, never_made, fiber_at, has_ended, live_fibers}
use Rattle.spec_machine.specs.Steps.{waiting_from}
use Rattle.domain_strikes.specs.Waiting.Laws.{WaitingByStanding, WaitingInStep}
use Rattle.domain_strikes.specs.Waiting.WhoWaits.{can_be_struck, waits_as, WaitsAlike}
use Rattle.domain_strikes.proofs.Waiting.Standing.{listed_by, one_listed, waits_lives, tells_same, tells_other}

pub listed-cons : (k : ℕ) (fiber : Fiber) (fibers : List Fiber) → waiting_from k (fiber ∷ fibers) ≡ listed_by (can_be_struck fiber) (waits_as k fiber) (waiting_from (k + 1) fibers)
unfolding waiting_from
listed-cons k fiber fibers = one_listed k fiber (waiting_from (k + 1) fibers)

pub listed_none : (k : ℕ) → waiting_from k [] ≡ []
unfolding waiting_from
listed_none k = refl

-- ## Numbers

-- each has a number above this
abbrev AreAbove : ℕ → List Waiting → Type 0
AreAbove n [] = Unit {0}
AreAbove n (one ∷ others) = (n < one.fiber) × AreAbove n others

above : (n k : ℕ) (fibers : List Fiber) → n < k → AreAbove n (waiting_from k fibers)
above n k [] less = subst (AreAbove n) (sym (listed_none k)) tt
above n k (fiber ∷ fibers) less = subst (AreAbove n) (sym (listed-cons k fiber fibers)) (by (can_be_struck fiber) (above n (k + 1) fibers (omega arith))) where
  by : (can : Bool) → AreAbove n (waiting_from (k + 1) fibers) → AreAbove n (listed_by can (waits_as k fiber) (waiting_from (k + 1) fibers))
  by true rest = (less, rest)
  by false rest = rest

-- ## One goes in

put_first : (w : Waiting) (ws : List Waiting) → AreAbove w.fiber ws → put_in w ws ≡ w ∷ ws
put_first w [] all = refl
put_first w (v ∷ vs) all = by (nat_lt w.fiber v.fiber) (grind (arith, all.0)) where
  by : (b : Bool) → b ≡ true → ◌≡◌ {A = List Waiting} (elim b [ true ↦ w ∷ v ∷ vs | false ↦ v ∷ put_in w vs ]) (w ∷ v ∷ vs)
  by true e = refl
  by false e = absurd (true≢false (sym e))

put_later : (w v : Waiting) (vs : List Waiting) → v.fiber < w.fiber → put_in w (v ∷ vs) ≡ v ∷ put_in w vs
put_later w v vs less = by (nat_lt w.fiber v.fiber) (grind arith) where
  by : (b : Bool) → b ≡ false → ◌≡◌ {A = List Waiting} (elim b [ true ↦ w ∷ v ∷ vs | false ↦ v ∷ put_in w vs ]) (v ∷ put_in w vs)
  by true e = absurd (true≢false e)
  by false e = refl

puts : (k : ℕ) (fibers : List Fiber) (g n : ℕ) (parked : Fiber) → n ≡ k + g → g < length fibers → can_be_struck (fiber_at fibers g) ≡ false → can_be_struck parked ≡ true
    → waiting_from k (slice_set fibers g parked) ≡ put_in (waits_as n parked) (waiting_from k fibers)
puts k [] g n parked place below out can = absurd (omega arith)
puts k (fiber ∷ fibers) zero n parked place below out can = (
    let rest : List Waiting = waiting_from (k + 1) fibers in
    let number : k ≡ n = omega arith in
    listed-cons k parked fibers
    ∙ (ap (λ b. listed_by b (waits_as k parked) rest) can
    ∙ (ap (λ m. waits_as m parked ∷ rest) number
    ∙ (sym (put_first (waits_as n parked) rest (above n (k + 1) fibers (omega arith)))
    ∙ ap (put_in (waits_as n parked)) (sym (listed-cons k fiber fibers ∙ ap (λ b. listed_by b (waits_as k fiber) rest) out))))))
puts k (fiber ∷ fibers) (suc g) n parked place below out can = (
    let rest : List Waiting = waiting_from (k + 1) fibers in
    let after : List Waiting = waiting_from (k + 1) (slice_set fibers g parked) in
    let there : after ≡ put_in (waits_as n parked) rest = puts (k + 1) fibers g n parked (omega arith) (omega arith) out can in
    listed-cons k fiber (slice_set fibers g parked)
    ∙ (ap (listed_by (can_be_struck fiber) (waits_as k fiber)) there
    ∙ (by (can_be_struck fiber) ∙ ap (put_in (waits_as n parked)) (sym (listed-cons k fiber fibers))))) where
      by : (can : Bool) → listed_by can (waits_as k fiber) (put_in (waits_as n parked) (waiting_from (k + 1) fibers))
          ≡ put_in (waits_as n parked) (listed_by can (waits_as k fiber) (waiting_from (k + 1) fibers))
      by true = sym (put_later (waits_as n parked) (waits_as k fiber) (waiting_from (k + 1) fibers) (omega (arith, place)))
      by false = refl

-- ## One goes

out_keeps : (n : ℕ) (w : Waiting) (ws : List Waiting) → w.fiber ≢ n → taken_out n (w ∷ ws) ≡ w ∷ taken_out n ws
out_keeps n w ws other = ap (λ b. cond (not b) (w ∷ taken_out n ws) (taken_out n ws)) (tells_other w.fiber n other)

out_takes : (n : ℕ) (w : Waiting) (ws : List Waiting) → w.fiber ≡ n → taken_out n (w ∷ ws) ≡ taken_out n ws
out_takes n w ws same = ap (λ b. cond (not b) (w ∷ taken_out n ws) (taken_out n ws)) (tells_same w.fiber n same)

none_out : (n : ℕ) (ws : List Waiting) → AreAbove n ws → taken_out n ws ≡ ws
none_out n [] all = refl
none_out n (w ∷ ws) all = (let less : n < w.fiber = all.0 in out_keeps n w ws (omega arith) ∙ ap (λ vs. w ∷ vs) (none_out n ws all.1))

takes : (k : ℕ) (fibers : List Fiber) (g n : ℕ) (woken : Fiber) → n ≡ k + g → can_be_struck woken ≡ false
    → waiting_from k (slice_set fibers g woken) ≡ taken_out n (waiting_from k fibers)
takes k [] g n woken place out = listed_none k ∙ ap (taken_out n) (sym (listed_none k))
takes k (fiber ∷ fibers) zero n woken place out = (
    let rest : List Waiting = waiting_from (k + 1) fibers in
    listed-cons k woken fibers
    ∙ (ap (λ b. listed_by b (waits_as k woken) rest) out
    ∙ (sym (none_out n rest (above n (k + 1) fibers (omega arith)))
    ∙ (sym (by (can_be_struck fiber)) ∙ ap (taken_out n) (sym (listed-cons k fiber fibers)))))) where
      by : (can : Bool) → taken_out n (listed_by can (waits_as k fiber) (waiting_from (k + 1) fibers)) ≡ taken_out n (waiting_from (k + 1) fibers)
      by true = out_takes n (waits_as k fiber) (waiting_from (k + 1) fibers) (omega (arith, place))
      by false = refl
takes k (fiber ∷ fibers) (suc g) n woken place out = (
    listed-cons k fiber (slice_set fibers g woken)
    ∙ (ap (listed_by (can_be_struck fiber) (waits_as k fiber)) (takes (k + 1) fibers g n woken (omega arith) out)
    ∙ (by (can_be_struck fiber) ∙ ap (taken_out n) (sym (listed-cons k fiber fibers))))) where
      by : (can : Bool) → listed_by can (waits_as k fiber) (taken_out n (waiting_from (k + 1) fibers)) ≡ taken_out n (listed_by can (waits_as k fiber) (waiting_from (k + 1) fibers))
      by true = sym (out_keeps n (waits_as k fiber) (waiting_from (k + 1) fibers) (omega (arith, place)))
      by false = refl

-- ## Nothing is seen

alike_one : (k : ℕ) (before after : Fiber) (rest : List Waiting) → WaitsAlike before after
    → listed_by (can_be_struck after) (waits_as k after) rest ≡ listed_by (can_be_struck before) (waits_as k before) rest
alike_one k before after rest same = ap (λ b. listed_by b (waits_as k after) rest) same.strikes ∙ by (can_be_struck before) refl where
  by : (can : Bool) → can_be_struck before ≡ can → listed_by can (waits_as k after) rest ≡ listed_by can (waits_as k before) rest
  by true e = ap (λ (c : ℕ). (record { fiber = k; context = c } ∷ rest)) (same.context e)
  by false e = refl

none_wait : (k : ℕ) (fibers : List Fiber) → ((g : ℕ) → can_be_struck (fiber_at fibers g) ≡ false) → waiting_from k fibers ≡ []
none_wait k [] out = listed_none k
none_wait k (fiber ∷ fibers) out =
    listed-cons k fiber fibers ∙ (ap (λ b. listed_by b (waits_as k fiber) (waiting_from (k + 1) fibers)) (out 0) ∙ none_wait (k + 1) fibers (λ g. out (suc g)))

alike_lists : (k : ℕ) (before after : List Fiber) → ((g : ℕ) → WaitsAlike (fiber_at before g) (fiber_at after g)) → waiting_from k after ≡ waiting_from k before
alike_lists k [] after same = none_wait k after (λ g. (same g).strikes) ∙ sym (listed_none k)
alike_lists k (x ∷ before) [] same = listed_none k ∙ sym (none_wait k (x ∷ before) (λ g. sym (same g).strikes))
alike_lists k (x ∷ before) (y ∷ after) same =
    listed-cons k y after
    ∙ (ap (listed_by (can_be_struck y) (waits_as k y)) (alike_lists (k + 1) before after (λ g. same (suc g)))
    ∙ (alike_one k x y (waiting_from (k + 1) before) (same 0) ∙ sym (listed-cons k x before)))

-- ## Who is in it

waits_first : (n : ℕ) (w : Waiting) (ws : List Waiting) → w.fiber ≡ n → waits n (w ∷ ws) ≡ true
waits_first n w ws same = ap (λ b. b || waits n ws) (tells_same w.fiber n same)

waits_behind : (n : ℕ) (w : Waiting) (ws : List Waiting) → w.fiber ≢ n → waits n (w ∷ ws) ≡ waits n ws
waits_behind n w ws other = ap (λ b. b || waits n ws) (tells_other w.fiber n other)

none_waits : (n : ℕ) (ws : List Waiting) → AreAbove n ws → waits n ws ≡ false
none_waits n [] all = refl
none_waits n (w ∷ ws) all = (let less : n < w.fiber = all.0 in waits_behind n w ws (omega arith) ∙ none_waits n ws all.1)

who_waits : (k : ℕ) (fibers : List Fiber) (g n : ℕ) → n ≡ k + g → waits n (waiting_from k fibers) ≡ can_be_struck (fiber_at fibers g)
who_waits k [] g n place = ap (waits n) (listed_none k)
who_waits k (fiber ∷ fibers) zero n place = ap (waits n) (listed-cons k fiber fibers) ∙ by (can_be_struck fiber) where
  by : (can : Bool) → waits n (listed_by can (waits_as k fiber) (waiting_from (k + 1) fibers)) ≡ can
  by true = waits_first n (waits_as k fiber) (waiting_from (k + 1) fibers) (omega (arith, place))
  by false = none_waits n (waiting_from (k + 1) fibers) (above n (k + 1) fibers (omega (arith, place)))
who_waits k (fiber ∷ fibers) (suc g) n place =
    ap (waits n) (listed-cons k fiber fibers) ∙ (by (can_be_struck fiber) ∙ who_waits (k + 1) fibers g n (omega arith)) where
      by : (can : Bool) → waits n (listed_by can (waits_as k fiber) (waiting_from (k + 1) fibers)) ≡ waits n (waiting_from (k + 1) fibers)
      by true = waits_behind n (waits_as k fiber) (waiting_from (k + 1) fibers) (omega (arith, place))
      by false = refl

-- ## Who is in it of a context

-- one of the fibers, who waits so and has this
abbrev Somebody : List Fiber → (ℕ → Type 0) → Type 0
Somebody fibers Has = (g : ℕ) × (can_be_struck (fiber_at fibers g) ≡ true) × Has (fiber_at fibers g).context

module _ (c : ℕ) where
  in_cons : (w : Waiting) (ws : List Waiting) → waits_in c (w ∷ ws) ≡ true → (w.context ≡ c) ⊎ (waits_in c ws ≡ true)
  in_cons w ws e = by (w.context == c) refl e where
    by : (b : Bool) → (w.context == c) ≡ b → (b || waits_in c ws) ≡ true → (w.context ≡ c) ⊎ (waits_in c ws ≡ true)
    by true is e = inl (eqb-true w.context c is)
    by false is e = inr e

  somebody_waits : (k : ℕ) (fibers : List Fiber) → waits_in c (waiting_from k fibers) ≡ true → Somebody fibers (λ d. d ≡ c)
  somebody_waits k [] e = absurd (true≢false (sym e ∙ ap (waits_in c) (listed_none k)))
  somebody_waits k (fiber ∷ fibers) e = by (can_be_struck fiber) refl (somebody_waits (k + 1) fibers) (sym (ap (waits_in c) (listed-cons k fiber fibers)) ∙ e) where
    behind : Somebody fibers (λ d. d ≡ c) → Somebody (fiber ∷ fibers) (λ d. d ≡ c)
    behind it = (suc it.0, it.1, it.2)

    by : (can : Bool) → can_be_struck fiber ≡ can → (waits_in c (waiting_from (k + 1) fibers) ≡ true → Somebody fibers (λ d. d ≡ c))
        → waits_in c (listed_by can (waits_as k fiber) (waiting_from (k + 1) fibers)) ≡ true → Somebody (fiber ∷ fibers) (λ d. d ≡ c)
    by true is rest there = elim (in_cons (waits_as k fiber) (waiting_from (k + 1) fibers) there) [ inl here ↦ (0, is, here) | inr later ↦ behind (rest later) ]
    by false is rest there = behind (rest there)

  in_behind : (w : Waiting) (ws : List Waiting) → waits_in c ws ≡ true → waits_in c (w ∷ ws) ≡ true
  in_behind w ws e = by (w.context == c) where
    by : (b : Bool) → (b || waits_in c ws) ≡ true
    by true = refl
    by false = e

  waits_there : (k : ℕ) (fibers : List Fiber) (g : ℕ) → can_be_struck (fiber_at fibers g) ≡ true → (fiber_at fibers g).context ≡ c → waits_in c (waiting_from k fibers) ≡ true
  waits_there k [] g can is = absurd (true≢false (sym can))
  waits_there k (fiber ∷ fibers) zero can is = (
      let rest : List Waiting = waiting_from (k + 1) fibers in
      ap (waits_in c) (listed-cons k fiber fibers ∙ ap (λ b. listed_by b (waits_as k fiber) rest) can) ∙ ap (λ b. b || waits_in c rest) (tells_same fiber.context c is))
  waits_there k (fiber ∷ fibers) (suc g) can is = ap (waits_in c) (listed-cons k fiber fibers) ∙ by (can_be_struck fiber) (waits_there (k + 1) fibers g can is) where
    by : (some : Bool) → waits_in c (waiting_from (k + 1) fibers) ≡ true → waits_in c (listed_by some (waits_as k fiber) (waiting_from (k + 1) fibers)) ≡ true
    by true rest = in_behind (waits_as k fiber) (waiting_from (k + 1) fibers) rest
    by false rest = rest

  nobody_waits : (fibers : List Fiber) → ((g : ℕ) → has_ended (fiber_at fibers g) ≡ false → (fiber_at fibers g).context ≡ c → can_be_struck (fiber_at fibers g) ≡ false)
      → waits_in c (waiting_from 0 fibers) ≡ false
  nobody_waits fibers out = by (waits_in c (waiting_from 0 fibers)) refl where
    by : (b : Bool) → waits_in c (waiting_from 0 fibers) ≡ b → b ≡ false
    by true e = (let it = somebody_waits 0 fibers e in absurd (true≢false (sym it.1 ∙ out it.0 (waits_lives (fiber_at fibers it.0) it.1) it.2)))
    by false e = refl

-- ## How many

abbrev one_if : Bool → ℕ
one_if b = cond b 1 0

live-cons : (fiber : Fiber) (fibers : List Fiber) → live_fibers (fiber ∷ fibers) ≡ one_if (not (has_ended fiber)) + live_fibers fibers
live-cons fiber fibers = sum_by-cons (λ (x : Fiber). one_if (not (has_ended x))) fiber fibers

length-listed : (can : Bool) (one : Waiting) (others : List Waiting) → length (listed_by can one others) ≡ one_if can + length others
length-listed true one others = omega arith
length-listed false one others = omega arith

-- who waits lives
counts_in : (fiber : Fiber) → one_if (can_be_struck fiber) ≤ one_if (not (has_ended fiber))
counts_in fiber = by (can_be_struck fiber) refl where
  by : (can : Bool) → can_be_struck fiber ≡ can → one_if can ≤ one_if (not (has_ended fiber))
  by true is = (let one : one_if (not (has_ended fiber)) ≡ 1 = ap (λ b. one_if (not b)) (waits_lives fiber is) in omega arith)
  by false is = omega arith

few_wait : (k : ℕ) (fibers : List Fiber) → length (waiting_from k fibers) ≤ live_fibers fibers
few_wait k [] = (let none : length (waiting_from k []) ≡ 0 = ap length (listed_none k) in omega arith)
few_wait k (fiber ∷ fibers) = (
    let count : length (waiting_from k (fiber ∷ fibers)) ≡ one_if (can_be_struck fiber) + length (waiting_from (k + 1) fibers) =
    ap length (listed-cons k fiber fibers) ∙ length-listed (can_be_struck fiber) (waits_as k fiber) (waiting_from (k + 1) fibers) in
    omega (arith, count, counts_in fiber, live-cons fiber fibers, few_wait (k + 1) fibers))

room_for : (k : ℕ) (fibers : List Fiber) (g : ℕ) → has_ended (fiber_at fibers g) ≡ false → can_be_struck (fiber_at fibers g) ≡ false
    → length (waiting_from k fibers) + 1 ≤ live_fibers fibers
room_for k [] g lives out = absurd (true≢false lives)
room_for k (fiber ∷ fibers) zero lives out = (
    let count : length (waiting_from k (fiber ∷ fibers)) ≡ one_if (can_be_struck fiber) + length (waiting_from (k + 1) fibers) =
    ap length (listed-cons k fiber fibers) ∙ length-listed (can_be_struck fiber) (waits_as k fiber) (waiting_from (k + 1) fibers) in
    let none : one_if (can_be_struck fiber) ≡ 0 = ap one_if out in
    let one : one_if (not (has_ended fiber)) ≡ 1 = ap (λ b. one_if (not b)) lives in
    omega (arith, count, none, one, live-cons fiber fibers, few_wait (k + 1) fibers))
room_for k (fiber ∷ fibers) (suc g) lives out = (
    let count : length (waiting_from k (fiber ∷ fibers)) ≡ one_if (can_be_struck fiber) + length (waiting_from (k + 1) fibers) =
    ap length (listed-cons k fiber fibers) ∙ length-listed (can_be_struck fiber) (waits_as k fiber) (waiting_from (k + 1) fibers) in
    omega (arith, count, counts_in fiber, live-cons fiber fibers, room_for (k + 1) fibers g lives out))

-- a fiber that lives was made
pub lives_below : (fibers : List Fiber) (g : ℕ) → has_ended (fiber_at fibers g) ≡ false → g < length fibers
lives_below [] g lives = absurd (true≢false lives)
lives_below (fiber ∷ fibers) zero lives = omega arith
lives_below (fiber ∷ fibers) (suc g) lives = (let below : g < length fibers = lives_below fibers g lives in omega (arith, below))

-- ## The laws

pub in_step : WaitingInStep
in_step = record {
  parks = λ fibers g parked below out can. puts 0 fibers g g parked (omega arith) below out can;
  wakes = λ fibers g woken out. takes 0 fibers g g woken (omega arith) out;
  stays = λ fibers g changed same. alike_lists 0 fibers (slice_set fibers g changed) (changed_alike fibers g changed same);
  makes = λ fibers made out. alike_lists 0 fibers (fibers ++ made ∷ []) (made_alike fibers made out);
  goes_by_waits = alike_lists 0;
} where
  itself : (fiber : Fiber) → WaitsAlike fiber fiber
  itself fiber = record { strikes = refl; context = λ can. refl }

  changed_alike : (fibers : List Fiber) (g : ℕ) (changed : Fiber) → WaitsAlike (fiber_at fibers g) changed
      → (h : ℕ) → WaitsAlike (fiber_at fibers h) (fiber_at (slice_set fibers g changed) h)
  changed_alike [] g changed same h = itself never_made
  changed_alike (fiber ∷ fibers) zero changed same zero = same
  changed_alike (fiber ∷ fibers) zero changed same (suc h) = itself (fiber_at fibers h)
  changed_alike (fiber ∷ fibers) (suc g) changed same zero = itself fiber
  changed_alike (fiber ∷ fibers) (suc g) changed same (suc h) = changed_alike fibers g changed same h

  made_alike : (fibers : List Fiber) (made : Fiber) → can_be_struck made ≡ false → (h : ℕ) → WaitsAlike (fiber_at fibers h) (fiber_at (fibers ++ made ∷ []) h)
  made_alike [] made out zero = record { strikes = out; context = λ can. absurd (true≢false (sym can)) }
  made_alike [] made out (suc h) = itself never_made
  made_alike (fiber ∷ fibers) made out zero = itself fiber
  made_alike (fiber ∷ fibers) made out (suc h) = made_alike fibers made out h

pub by_standing : WaitingByStanding
by_standing = record {
  who = λ fibers g. who_waits 0 fibers g g (omega arith);
  somebody = λ fibers c e. somebody_waits c 0 fibers e;
  runs_there = λ fibers g can. waits_there (fiber_at fibers g).context 0 fibers g can refl;
  nobody = λ fibers c out. nobody_waits c fibers out;
  few = few_wait 0;
  room = room_for 0;
}
