-- Worked rows: a domain in which fibers wait, so that the premises of the laws can be met, and what cancellations strike there.
use Rattle.std.proofs.Common.{◌≡◌, ℕ, [], ◌∷◌, ◌++◌, map, slice_set, Contains, Some, None, true, false, refl, arith}
use Rattle.eio_value.specs.declared.plain.Plain.TheVariants.{Exit}
use Rattle.eio_value.specs.declared.raised.Outcome.TheVariants as outcome
use Rattle.eio_value.specs.declared.value.Value.TheVariants as value
use Rattle.spec_parts.specs.Contexts.{new_context, off, sub, to_be_struck, way_within}
use Rattle.spec_parts.specs.ContextCalls.{Contexts, Root, Sub, Protect, Cancel, Wait, Unwait, after, called, put_in}
use Rattle.cancel_tree.specs.Forgetting.{MayCallAll, left, left_after}
use Rattle.cancel_tree.specs.Waits.{waits, waits_in}
use Rattle.spec_fiber.specs.Asks as ask
use Rattle.spec_machine.specs.Domain.{OfBody, GoesOn, LooksUp, ForCancel, ForOthers, Asleep, Standing, Ready, Parked, Ended, Fiber, Duty, Strike, DomainState, fiber_at, nothing_made, off_for, to_back}
use Rattle.spec_machine.specs.DutyMoves.{strike_told}
use Rattle.spec_machine.specs.Steps.{cancels, strike_by, waiting_from}
use Rattle.domain_strikes.specs.Waiting.InStep.{AreContexts}
use Rattle.domain_strikes.specs.Waiting.WhoWaits.{contexts_of, waiting_in, waits_as}
use Rattle.domain_strikes.proofs.Waiting.Alike.{contexts_in_step, domains_in_step, strikes_in_step}
use Rattle.domain_strikes.proofs.Waiting.Listed as listed
use Rattle.domain_strikes.proofs.Waiting.Parts.{fibers_in_step, calls_in_step}
use Rattle.domain_strikes.proofs.Waiting.Struck.{by_number}

fiber : (context : ℕ) → Standing → Fiber
fiber context standing = record { context = context; role = OfBody; cell = 0; work = []; variables = []; standing = standing }

-- context 1 lies in 0, and so does 2, which is protected. Fiber 0 runs; 1 and 4 wait for a cancellation, 3 for the clock, 2 for others; 5 has ended
worked : DomainState
worked = record (nothing_made 0 []) {
  contexts = new_context None false ∷ new_context (Some 0) false ∷ new_context (Some 0) true ∷ [];
  fibers =
      fiber 0 (Ready (GoesOn (outcome.Ok value.Unit)))
      ∷ fiber 1 (Parked ForCancel)
      ∷ fiber 1 (Parked (ForOthers (ask.Close 0 None value.Unit)))
      ∷ fiber 2 (Parked Asleep)
      ∷ fiber 0 (Parked ForCancel)
      ∷ fiber 1 (Ended (outcome.Ok value.Unit))
      ∷ [];
}

kept : Contexts
kept = record {
  made = worked.contexts;
  waiting = record { fiber = 1; context = 1 } ∷ record { fiber = 3; context = 2 } ∷ record { fiber = 4; context = 0 } ∷ [];
}

who_waits : waiting_in worked ≡ kept.waiting
unfolding worked kept fiber waiting_from
who_waits = refl

-- the calls that led there, in an order that isn't that of the numbers
in_step : AreContexts kept (contexts_of worked)
unfolding worked kept fiber waiting_from after left_after MayCallAll
in_step = record {
  calls = Root ∷ Sub 0 ∷ Protect 0 ∷ Wait 0 4 ∷ Wait 1 1 ∷ Wait 2 3 ∷ [];
  may = (tt, (refl, (refl, (refl, (refl, (refl, tt))))));
  forgets = refl;
  keeps = refl;
}

-- what is cancelled above reaches whoever waits, but through no protected context; cancelled again, it reaches nobody
struck_from_above : (cancels 0 0 Exit worked).duties ≡ strike_by 0 1 ∷ strike_by 0 4 ∷ []
unfolding worked fiber waiting_from way_within
struck_from_above = refl

struck_once : (cancels 0 1 Exit (cancels 0 0 Exit worked)).duties ≡ strike_by 0 1 ∷ strike_by 0 4 ∷ []
unfolding worked fiber waiting_from way_within
struck_once = refl

struck_behind_the_protected : (cancels 0 2 Exit worked).duties ≡ strike_by 0 3 ∷ []
unfolding worked fiber waiting_from way_within
struck_behind_the_protected = refl

-- ## What the laws say of it

-- fiber 0 begins to wait
abbrev parked : Fiber
parked = fiber 0 (Parked ForCancel)

put_in_its_place : waiting_from 0 (slice_set worked.fibers 0 parked) ≡ put_in (waits_as 0 parked) (waiting_from 0 worked.fibers)
unfolding worked fiber
put_in_its_place = listed.in_step.parks worked.fibers 0 parked (omega arith) refl refl

somebody_waits_in_1 : waits_in 1 (waiting_from 0 worked.fibers) ≡ true
unfolding worked fiber
somebody_waits_in_1 = listed.by_standing.runs_there worked.fibers 1 refl

first_is_struck : Contains (to_be_struck worked.contexts (waiting_from 0 worked.fibers) 0) 1
unfolding worked fiber way_within
first_is_struck = by_number.strikes worked.contexts worked.fibers 0 1 refl refl refl

goes_on_with_a_context : AreContexts (left (Sub 1) kept) (called (Sub 1) (contexts_of worked))
unfolding kept worked
goes_on_with_a_context = contexts_in_step.goes_on kept (contexts_of worked) (Sub 1) in_step refl

struck_by_what_is_kept :
    ((cancels 0 0 Exit worked).duties ≡ worked.duties ++ map (strike_by 0) (to_be_struck kept.made kept.waiting 0))
    × AreContexts (called (Cancel 0 Exit) kept) (contexts_of (cancels 0 0 Exit worked))
struck_by_what_is_kept = domains_in_step.cancelled kept worked 0 0 Exit in_step

abbrev strike : Duty
strike = record { maker = 0; owed = Strike 1 }

the_strike_is_won :
    (waits 1 kept.waiting ≡ true) × (off kept.made (fiber_at worked.fibers 1).context ≡ off_for worked 1)
    × AreContexts (called (Unwait 1) kept) (contexts_of (strike_told strike 1 true worked).state)
unfolding kept worked fiber
the_strike_is_won = strikes_in_step.won kept worked strike 1 in_step refl refl

at_the_back : AreContexts kept (contexts_of (to_back LooksUp 0 worked))
unfolding worked fiber
at_the_back = fibers_in_step.last kept worked 0 LooksUp in_step refl

one_context_more :
    ((sub 1 kept.made).number ≡ (sub 1 worked.contexts).number)
    × AreContexts (called (Sub 1) kept) (contexts_of (record worked { contexts = (sub 1 worked.contexts).contexts }))
unfolding worked
one_context_more = calls_in_step.subs kept worked 1 in_step refl
