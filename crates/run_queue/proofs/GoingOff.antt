-- Each call keeps the timers in order of due time and of making, so any list of calls does.
use Rattle.std.proofs.Common.{◌≡◌, ℕ, zero, suc, ◌+◌, ◌<◌, ◌⊎◌, inl, inr, ℤ, ◌<ℤ◌, Bool, true, false, not, ◌==◌, List, [], ◌∷◌, Some, None, arith, refl}
use Rattle.std.specs.Prelude.{int_lt, slice_index_or}
use Rattle.std.specs.List.{All}
use Rattle.std.proofs.lemmas.Int.{ints}
use Rattle.std.proofs.lemmas.List.Elements.{All-nil, All-cons, All-filter}
use Rattle.std.proofs.lemmas.List.Kept.{AllPairs-cons, AllPairs-filter}
use Rattle.spec_parts.specs.Timers.{Timer, Timers, no_timers, put_in, add, is_due, DuePopped, pop_due, remove}
use Rattle.run_queue.specs.Laws.{TimerCall, Adds, Pops, Removes, after_call, after, IsBefore, AreInOrder, AreMade, TimersGoOffInOrder}

earlier : (a b : ℤ) → int_lt a b ≡ true → a <ℤ b
earlier a b h = grind (arith, ints)

no_earlier : (a b : ℤ) → int_lt a b ≡ false → (b <ℤ a) ⊎ (b ≡ a)
no_earlier a b h = grind (arith, ints)

trans_lt : (a b c : ℤ) → a <ℤ b → b <ℤ c → a <ℤ c
trans_lt a b c h k = omega (arith, ints)

trans_eq : (a b c : ℤ) → a <ℤ b → b ≡ c → a <ℤ c
trans_eq a b c h k = omega (arith, ints)

-- what is due earlier than a timer is before all that the timer is before
before_behind : (t x y : Timer) → t.due <ℤ x.due → IsBefore x y → IsBefore t y
before_behind t x y h (inl k) = inl (trans_lt t.due x.due y.due h k)
before_behind t x y h (inr k) = inl (trans_eq t.due x.due y.due h k.0)

-- a timer that is due no later, and was made before
before_new : (t x : Timer) → int_lt t.due x.due ≡ false → x.number < t.number → IsBefore x t
before_new t x h made = by (no_earlier t.due x.due h)
  where
    by : ((x.due <ℤ t.due) ⊎ (x.due ≡ t.due)) → IsBefore x t
    by (inl k) = inl k
    by (inr k) = inr (k, made)

in_order-head : (x : Timer) (xs : List Timer) → AreInOrder (x ∷ xs) → All (IsBefore x) xs
in_order-head x xs order k d within = order zero (suc k) d (omega arith) (omega arith)

in_order-tail : (x : Timer) (xs : List Timer) → AreInOrder (x ∷ xs) → AreInOrder xs
in_order-tail x xs order i j d less within = order (suc i) (suc j) d (omega arith) (omega arith)

-- where the new timer goes
abbrev put : Bool → Timer → Timer → List Timer → List Timer
put b t x xs = elim b [ true ↦ t ∷ x ∷ xs | false ↦ x ∷ put_in t xs ]

All-put : (P : Timer → Type 0) (t : Timer) (xs : List Timer) → P t → All P xs → All P (put_in t xs)
All-put P t [] new all = All-cons P t [] new all
All-put P t (x ∷ xs) new all = by (int_lt t.due x.due) (All-put P t xs new (λ k d within. all (suc k) d (omega arith)))
  where
    by : (b : Bool) → All P (put_in t xs) → All P (put b t x xs)
    by true rest = All-cons P t (x ∷ xs) new all
    by false rest = All-cons P x (put_in t xs) (all zero x (omega arith)) rest

in_order-put : (t : Timer) (xs : List Timer) → All (λ x. x.number < t.number) xs → AreInOrder xs → AreInOrder (put_in t xs)
in_order-put t [] made order = AllPairs-cons IsBefore t [] (All-nil (IsBefore t)) order
in_order-put t (x ∷ xs) made order =
    by (int_lt t.due x.due) refl (in_order-put t xs (λ k d within. made (suc k) d (omega arith)) (in_order-tail x xs order))
  where
    by : (b : Bool) → int_lt t.due x.due ≡ b → AreInOrder (put_in t xs) → AreInOrder (put b t x xs)
    by true h rest =
        let first : t.due <ℤ x.due = earlier t.due x.due h in
        AllPairs-cons IsBefore t (x ∷ xs) (All-cons (IsBefore t) x xs (inl first) (λ k d within. before_behind t x (slice_index_or xs k d) first (in_order-head x xs order k d within))) order
    by false h rest =
        let old : x.number < t.number = made zero x (omega arith) in
        AllPairs-cons IsBefore x (put_in t xs) (All-put (IsBefore x) t xs (before_new t x h old) (in_order-head x xs order)) rest

abbrev IsKept : Timers → Type 0
IsKept timers = AreInOrder timers.standing × AreMade timers

add-kept : (due : ℤ) (fiber : ℕ) (timers : Timers) → IsKept timers → IsKept (add due fiber timers)
add-kept due fiber timers kept =
    let t : Timer = record { due = due; number = timers.made; fiber = fiber } in
    let more : All (λ (x : Timer). x.number < timers.made + 1) timers.standing = λ k d within. (let h = kept.1 k d within in omega (arith, h)) in
    (in_order-put t timers.standing kept.1 kept.0, All-put (λ (x : Timer). x.number < timers.made + 1) t timers.standing (omega arith) more)

pop-kept : (now : ℤ) (timers : Timers) → IsKept timers → IsKept (pop_due now timers).timers
pop-kept now timers kept = by timers.standing kept
  where
    by : (standing : List Timer) → IsKept (record { standing = standing; made = timers.made }) → IsKept (pop_due now (record { standing = standing; made = timers.made })).timers
    by [] k = k
    by (x ∷ xs) k = due (is_due now x)
      where
        due : (b : Bool) → IsKept (elim b as (λ (v : Bool). DuePopped) [
          | true ↦ record { fiber = Some x.fiber; timers = record { standing = xs; made = timers.made } }
          | false ↦ record { fiber = None; timers = record { standing = x ∷ xs; made = timers.made } }
        ]).timers
        due true = (in_order-tail x xs k.0, λ i d within. k.1 (suc i) d (omega arith))
        due false = k

remove-kept : (fiber : ℕ) (timers : Timers) → IsKept timers → IsKept (remove fiber timers)
remove-kept fiber timers kept =
    (AllPairs-filter IsBefore (λ timer. not (timer.fiber == fiber)) timers.standing kept.0, All-filter (λ timer. not (timer.fiber == fiber)) (λ (x : Timer). x.number < timers.made) timers.standing kept.1)

call-kept : (call : TimerCall) (timers : Timers) → IsKept timers → IsKept (after_call call timers)
call-kept (Adds due fiber) timers = add-kept due fiber timers
call-kept (Pops now) timers = pop-kept now timers
call-kept (Removes fiber) timers = remove-kept fiber timers

calls-kept : (calls : List TimerCall) (timers : Timers) → IsKept timers → IsKept (after calls timers)
calls-kept [] timers kept = kept
calls-kept (call ∷ calls) timers kept = calls-kept calls (after_call call timers) (call-kept call timers kept)

pub timers_go_off_in_order : TimersGoOffInOrder
timers_go_off_in_order calls = calls-kept calls no_timers ((λ i j d less within. absurd (omega arith)), All-nil (λ (x : Timer). x.number < 0))
