-- Timers: who is due, and when, after calls.
use Rattle.std.proofs.Common.{◌≡◌, [], ◌∷◌, true, false, refl}
use Rattle.std.specs.Prelude.{pos, negsuc, Some, None, map}
use Rattle.spec_parts.specs.Timers.{Timers, no_timers, is_full, add, earliest, due_fibers, pop_due, sleeps, remove}

-- fiber 1 sleeps until 3, and then fiber 2 until 10
two_sleepers : Timers
two_sleepers = add (pos 10) 2 (add (pos 3) 1 no_timers)

-- five fibers; 4 and 2 are due at the same time as 1, which was the first of them
five_sleepers : Timers
five_sleepers = add (pos 5) 2 (add (pos 9) 5 (add (pos 5) 4 (add (pos 2) 3 (add (pos 5) 1 no_timers))))

nothing_stands : earliest no_timers ≡ None
nothing_stands = refl

-- one sleeper: the clock goes to its due time
one_sleeper : earliest (add (pos 5) 1 no_timers) ≡ Some (pos 5)
one_sleeper = refl

-- a timeout: at 3 the first is due and the second isn't; when the second has been cancelled, nothing stands any more
timeout_wakes : due_fibers (pos 3) two_sleepers ≡ 1 ∷ []
unfolding two_sleepers
timeout_wakes = refl

timeout_cancelled : earliest (remove 2 (pop_due (pos 3) two_sleepers).timers) ≡ None
unfolding two_sleepers
timeout_cancelled = refl

-- who sleeps later goes off later, whichever was made first
later_made_first : earliest (add (pos 3) 1 (add (pos 10) 2 no_timers)) ≡ Some (pos 3)
later_made_first = refl

-- by due time, and then in order of making
due_in_order : due_fibers (pos 9) five_sleepers ≡ 3 ∷ 1 ∷ 4 ∷ 2 ∷ 5 ∷ []
unfolding five_sleepers
due_in_order = refl

due_at_five : due_fibers (pos 5) five_sleepers ≡ 3 ∷ 1 ∷ 4 ∷ 2 ∷ []
unfolding five_sleepers
due_at_five = refl

none_due_yet : (pop_due (pos 1) five_sleepers).fiber ≡ None
unfolding five_sleepers
none_due_yet = refl

-- the timers as they stand, with their numbers
numbers_in_order_of_making : map (λ timer. timer.number) five_sleepers.standing ≡ 1 ∷ 0 ∷ 2 ∷ 4 ∷ 3 ∷ []
unfolding five_sleepers
numbers_in_order_of_making = refl

-- one after the other
popped_one_by_one : (pop_due (pos 5) (pop_due (pos 5) five_sleepers).timers).fiber ≡ Some 1
unfolding five_sleepers
popped_one_by_one = refl

-- a removed timer goes alone; a fiber without one changes nothing
removed_alone : due_fibers (pos 9) (remove 4 five_sleepers) ≡ 3 ∷ 1 ∷ 2 ∷ 5 ∷ []
unfolding five_sleepers
removed_alone = refl

removed_none : remove 7 five_sleepers ≡ five_sleepers
unfolding five_sleepers
removed_none = refl

who_sleeps : map (λ fiber. sleeps fiber five_sleepers) (0 ∷ 4 ∷ []) ≡ false ∷ true ∷ []
unfolding five_sleepers
who_sleeps = refl

-- a number isn't given again: the third timer that is made has the number 2, though only one stands
numbers_rise : (add (pos 1) 3 (remove 1 two_sleepers)).standing ≡ record { due = pos 1; number = 2; fiber = 3 } ∷ record { due = pos 10; number = 1; fiber = 2 } ∷ []
unfolding two_sleepers
numbers_rise = refl

-- due times may lie below zero
below_zero : due_fibers (negsuc 0) (add (pos 0) 2 (add (negsuc 4) 1 no_timers)) ≡ 1 ∷ []
below_zero = refl

full_at_two : map (λ most. is_full most two_sleepers) (1 ∷ 2 ∷ 3 ∷ []) ≡ true ∷ true ∷ false ∷ []
unfolding two_sleepers
full_at_two = refl
