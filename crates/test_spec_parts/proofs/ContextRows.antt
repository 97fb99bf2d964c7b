-- Contexts: calls, and who is off or reached after them.
use Rattle.std.proofs.Common.{◌≡◌, ℕ, List, [], ◌∷◌, true, false, refl}
use Rattle.std.specs.Prelude.{Option, Some, None, map, length, replicate}
use Rattle.eio_value.specs.declared.plain.Plain.{Plain}
use Rattle.eio_value.specs.declared.plain.Plain.TheVariants.{Exit, NotFirst}
use Rattle.spec_parts.specs.Contexts.{Context, is_live, live_count, new_context, root, sub, way_within, way_up, off, takes_effect, to_be_struck}
use Rattle.spec_parts.specs.ContextCalls.{no_contexts, ContextCall, Root, Sub, Protect, Cancel, Wait, Unwait, End, after}
use Rattle.test_spec_parts.proofs.Exceptions.{failure}

-- the contexts that calls leave, begun with none
abbrev made : List ContextCall → List Context
made calls = (after calls no_contexts).made

-- the reason by which each of these contexts is off
abbrev reasons : List ContextCall → List ℕ → List (Option Plain)
reasons calls cs = map (off (made calls)) cs

-- the fibers that a cancellation strikes after these calls
abbrev struck : List ContextCall → ℕ → List ℕ
struck calls c = to_be_struck (made calls) (after calls no_contexts).waiting c

-- a context that its own fiber cancels: it is off, its parent isn't, and once it has ended the parent still isn't
sub_cancels_itself : reasons (Root ∷ Sub 0 ∷ Cancel 1 (failure 0) ∷ []) (0 ∷ 1 ∷ []) ≡ None ∷ Some (failure 0) ∷ []
unfolding after way_within
sub_cancels_itself = refl

parent_after_its_end : reasons (Root ∷ Sub 0 ∷ Cancel 1 (failure 0) ∷ End 1 ∷ []) (0 ∷ []) ≡ None ∷ []
unfolding after way_within
parent_after_its_end = refl

-- a context that has ended isn't cancelled
no_cancel_after_the_end : made (Root ∷ Sub 0 ∷ Sub 1 ∷ End 2 ∷ Cancel 2 (failure 0) ∷ []) ≡ made (Root ∷ Sub 0 ∷ Sub 1 ∷ End 2 ∷ [])
unfolding after way_within
no_cancel_after_the_end = refl

effect_after_the_end : takes_effect (made (Root ∷ Sub 0 ∷ Sub 1 ∷ End 2 ∷ [])) 2 ≡ false
unfolding after way_within
effect_after_the_end = refl

-- the first branch is in a protected block when the second finishes: it isn't off until it has left the block
protected_branch : reasons (Root ∷ Sub 0 ∷ Protect 1 ∷ Cancel 1 NotFirst ∷ []) (1 ∷ 2 ∷ []) ≡ Some NotFirst ∷ None ∷ []
unfolding after way_within
protected_branch = refl

-- below the protected block nothing comes down either
below_a_protected_block : reasons (Root ∷ Sub 0 ∷ Protect 1 ∷ Sub 2 ∷ Cancel 0 Exit ∷ []) (0 ∷ 1 ∷ 2 ∷ 3 ∷ []) ≡ Some Exit ∷ Some Exit ∷ None ∷ None ∷ []
unfolding after way_within
below_a_protected_block = refl

-- a protected context can be cancelled itself, and what is below it is then off
protected_is_cancelled : reasons (Root ∷ Protect 0 ∷ Sub 1 ∷ Cancel 1 Exit ∷ []) (0 ∷ 1 ∷ 2 ∷ []) ≡ None ∷ Some Exit ∷ Some Exit ∷ []
unfolding after way_within
protected_is_cancelled = refl

-- a second cancellation changes nothing, whether the first was of the context itself or of its parent
second_cancellation : reasons (Root ∷ Sub 0 ∷ Cancel 1 (failure 0) ∷ Cancel 1 (failure 1) ∷ []) (1 ∷ []) ≡ Some (failure 0) ∷ []
unfolding after way_within
second_cancellation = refl

cancelled_below_its_parent : reasons (Root ∷ Sub 0 ∷ Sub 1 ∷ Cancel 1 (failure 0) ∷ Cancel 2 (failure 1) ∷ []) (1 ∷ 2 ∷ []) ≡ Some (failure 0) ∷ Some (failure 0) ∷ []
unfolding after way_within
cancelled_below_its_parent = refl

-- the parent may be cancelled after the child: the child keeps its own reason
parent_cancelled_later : reasons (Root ∷ Sub 0 ∷ Sub 1 ∷ Cancel 2 (failure 0) ∷ Cancel 1 (failure 1) ∷ []) (0 ∷ 1 ∷ 2 ∷ []) ≡ None ∷ Some (failure 1) ∷ Some (failure 0) ∷ []
unfolding after way_within
parent_cancelled_later = refl

-- one who is made below an off context is off from the beginning; below a protected one it isn't
made_below_an_off_context : reasons (Root ∷ Cancel 0 Exit ∷ Sub 0 ∷ Protect 0 ∷ Sub 2 ∷ []) (1 ∷ 2 ∷ 3 ∷ []) ≡ Some Exit ∷ None ∷ None ∷ []
unfolding after way_within
made_below_an_off_context = refl

-- The way up

way_through_subs : way_up (made (Root ∷ Sub 0 ∷ Sub 1 ∷ Sub 0 ∷ [])) 2 ≡ 2 ∷ 1 ∷ 0 ∷ []
unfolding after way_within
way_through_subs = refl

way_to_a_protected_context : way_up (made (Root ∷ Sub 0 ∷ Protect 1 ∷ Sub 2 ∷ Sub 3 ∷ [])) 4 ≡ 4 ∷ 3 ∷ 2 ∷ []
unfolding after way_within
way_to_a_protected_context = refl

-- Whom a cancellation reaches

-- a switch with a waiting fiber: it is struck when the switch fails
switch_fails : struck (Root ∷ Sub 0 ∷ Wait 1 1 ∷ []) 1 ≡ 1 ∷ []
unfolding after way_within
switch_fails = refl

-- of two fibers of a switch one raises while the other waits: the other is struck, and is off by the reason of the first
other_fiber : struck (Root ∷ Sub 0 ∷ Wait 1 2 ∷ []) 1 ≡ 2 ∷ []
unfolding after way_within
other_fiber = refl

other_fiber_is_off : reasons (Root ∷ Sub 0 ∷ Wait 1 2 ∷ Cancel 1 (failure 0) ∷ Unwait 2 ∷ []) (0 ∷ 1 ∷ []) ≡ None ∷ Some (failure 0) ∷ []
unfolding after way_within
other_fiber_is_off = refl

-- a daemon waits in a context of its own below that of the switch: the switch's cancellation reaches it; once struck, a second one strikes nobody
daemon_below : struck (Root ∷ Sub 0 ∷ Sub 1 ∷ Wait 2 1 ∷ []) 1 ≡ 1 ∷ []
unfolding after way_within
daemon_below = refl

daemon_once : struck (Root ∷ Sub 0 ∷ Sub 1 ∷ Wait 2 1 ∷ Cancel 1 Exit ∷ []) 1 ≡ []
unfolding after way_within
daemon_once = refl

-- in order of fiber number, whatever the order of waiting; a fiber above or beside isn't reached
in_order_of_number : struck (Root ∷ Sub 0 ∷ Sub 1 ∷ Sub 0 ∷ Wait 1 7 ∷ Wait 2 3 ∷ Wait 0 1 ∷ Wait 3 2 ∷ Wait 1 5 ∷ []) 1 ≡ 3 ∷ 5 ∷ 7 ∷ []
unfolding after way_within
in_order_of_number = refl

-- a fiber that waits no more isn't struck
no_longer_waiting : struck (Root ∷ Sub 0 ∷ Wait 1 2 ∷ Wait 1 1 ∷ Unwait 2 ∷ []) 1 ≡ 1 ∷ []
unfolding after way_within
no_longer_waiting = refl

-- in and below a protected context it isn't reached from above
protected_waiters : struck (Root ∷ Sub 0 ∷ Protect 1 ∷ Sub 2 ∷ Wait 2 1 ∷ Wait 3 2 ∷ Wait 1 3 ∷ []) 0 ≡ 3 ∷ []
unfolding after way_within
protected_waiters = refl

-- but by the cancellation of the protected context itself it is
protected_context_cancelled : struck (Root ∷ Sub 0 ∷ Protect 1 ∷ Sub 2 ∷ Wait 2 1 ∷ Wait 3 2 ∷ Wait 1 3 ∷ []) 2 ≡ 1 ∷ 2 ∷ []
unfolding after way_within
protected_context_cancelled = refl

-- a fiber that is already off for the reason of its own context is reached once more when the parent is cancelled
reached_twice : struck (Root ∷ Sub 0 ∷ Sub 1 ∷ Wait 2 1 ∷ Cancel 2 (failure 0) ∷ []) 1 ≡ 1 ∷ []
unfolding after way_within
reached_twice = refl

-- a cancellation without effect strikes nobody
nobody_is_struck : struck (Root ∷ Sub 0 ∷ Wait 1 1 ∷ Cancel 0 Exit ∷ []) 1 ≡ []
unfolding after way_within
nobody_is_struck = refl

-- Numbers and the limit

-- the number of a context that has ended isn't given again
number_after_an_end : (root (made (Root ∷ Sub 0 ∷ End 1 ∷ Sub 0 ∷ End 2 ∷ []))).number ≡ Some 3
unfolding after way_within
number_after_an_end = refl

which_live : map (is_live (made (Root ∷ Sub 0 ∷ Sub 0 ∷ End 1 ∷ []))) (0 ∷ 1 ∷ 2 ∷ 3 ∷ []) ≡ true ∷ false ∷ true ∷ false ∷ []
unfolding after way_within
which_live = refl

live_after_an_end : live_count (made (Root ∷ Sub 0 ∷ Sub 0 ∷ End 1 ∷ [])) ≡ 2
unfolding after way_within
live_after_an_end = refl

-- with 4,095 live contexts one more is made, with 4,096 none
last_of_all : (sub 0 (replicate 4095 (new_context None false))).number ≡ Some 4095
last_of_all = refl

one_too_many : (sub 0 (replicate 4096 (new_context None false))).number ≡ None
one_too_many = refl

nothing_made : length (sub 0 (replicate 4096 (new_context None false))).contexts ≡ 4096
nothing_made = refl
