-- The parts of a domain's moves, each with what it asks of the kept contexts.
use Rattle.std.proofs.Common.{◌≡◌, ℕ, Bool, true, false, List, [], ◌∷◌, ◌++◌, map, Option, Some, None, refl, ap, ◌∙◌, sym, subst}
use Rattle.eio_value.specs.declared.raised.Raised.{Raised}
use Rattle.eio_value.specs.declared.value.Value.{Value}
use Rattle.eio_value.specs.Exceptions.{reason}
use Rattle.spec_parts.specs.Contexts.{Context, context_at, is_live, new_context, end, to_be_struck}
use Rattle.spec_parts.specs.ContextCalls.{Contexts, Cancel, Protect, Root, Sub, called, no_contexts}
use Rattle.spec_parts.specs.Errors.{joined}
use Rattle.spec_parts.specs.Switches.{Switch, switch_at}
use Rattle.cancel_tree.specs.Ended.{left_by_end}
use Rattle.cancel_tree.specs.Endings.{HasNoLiveChild}
use Rattle.cancel_tree.specs.Forgetting.{AnswersAlike}
use Rattle.cancel_tree.specs.Waits.{waits_in}
use Rattle.spec_script.specs.Syntax.{Block}
use Rattle.spec_fiber.specs.Replies.{begun}
use Rattle.spec_machine.specs.ContextMoves.{leaves}
use Rattle.spec_machine.specs.Domain.{CallsAgain, DomainState, Ended, ForOthers, ForCancel, Asleep, OnObject, Resting, OfGroup, Parked, Ready, Standing, Wait, fiber_at, made, to_back}
use Rattle.spec_machine.specs.GroupMoves.{branched}
use Rattle.spec_machine.specs.Mock.{opening_domain}
use Rattle.spec_machine.specs.Steps.{can_be_cancelled, cancels, strike_by, waiting_from}
use Rattle.spec_machine.specs.SwitchMoves.{fails, with_switch_at, woken, woken_if}
use Rattle.domain_strikes.specs.Waiting.InStep.{AreContexts}
use Rattle.domain_strikes.specs.Waiting.Parts.{CallsInStep, FibersInStep, NobodyWaitsIn}
use Rattle.domain_strikes.specs.Waiting.WhoWaits.{can_be_struck, contexts_of}
use Rattle.domain_strikes.proofs.Waiting.Alike.{answers_alike, childless_here, domains_in_step, number_alike, one_more, one_unseen, contexts_in_step}

module _ (kept : Contexts) (l : DomainState) (are : AreContexts kept (contexts_of l)) where
  -- one who stood so didn't wait so
  waited : (g : ℕ) (standing : Standing) → (fiber_at l.fibers g).standing ≡ standing
      → can_be_struck (fiber_at l.fibers g) ≡ elim standing as (λ _. Bool) [ Parked wait ↦ can_be_cancelled wait | Ready next ↦ false | Ended it ↦ false ]
  waited g standing is = ap (λ (it : Standing). elim it as (λ _. Bool) [ Parked wait ↦ can_be_cancelled wait | Ready next ↦ false | Ended it ↦ false ]) is

  wakes_one : (g : ℕ) → AreContexts kept (contexts_of (woken g l))
  wakes_one g = by (fiber_at l.fibers g).standing refl where
    parked : (wait : Wait) → (fiber_at l.fibers g).standing ≡ Parked wait
        → AreContexts kept (contexts_of (elim wait as (λ _. DomainState) [ ForOthers call ↦ to_back (CallsAgain call) g l | OnObject who ↦ l | Asleep ↦ l | ForCancel ↦ l | Resting ↦ l ]))
    parked (ForOthers call) is = domains_in_step.changed kept l g _ are (waited g (Parked (ForOthers call)) is) refl
    parked (OnObject who) is = are
    parked Asleep is = are
    parked ForCancel is = are
    parked Resting is = are

    by : (standing : Standing) → (fiber_at l.fibers g).standing ≡ standing → AreContexts kept (contexts_of (elim standing as (λ _. DomainState) [
      | Parked wait ↦ elim wait [ ForOthers call ↦ to_back (CallsAgain call) g l | OnObject who ↦ l | Asleep ↦ l | ForCancel ↦ l | Resting ↦ l ]
      | Ready next ↦ l
      | Ended it ↦ l
    ]))
    by (Parked wait) is = parked wait is
    by (Ready next) is = are
    by (Ended it) is = are

  wakes_some : (who : Option ℕ) → AreContexts kept (contexts_of (woken_if who l))
  wakes_some None = are
  wakes_some (Some g) = wakes_one g

  alike : AnswersAlike (contexts_of l) kept
  alike = answers_alike kept (contexts_of l) are

  live_kept : (c : ℕ) → is_live l.contexts c ≡ true → is_live kept.made c ≡ true
  live_kept c lives = alike.live c ∙ lives

branches_in : (kept : Contexts) (context group : ℕ) (variables : List Value) (blocks : List Block) (l : DomainState) → AreContexts kept (contexts_of l)
    → AreContexts kept (contexts_of (branched context group variables blocks l))
unfolding branched
branches_in kept context group variables [] l are = are
branches_in kept context group variables (block ∷ blocks) l are = (
    let role = OfGroup group in
    branches_in kept context group variables blocks (made context role (begun block variables) l) (domains_in_step.made_one kept l context role (begun block variables) are))

pub fibers_in_step : FibersInStep
fibers_in_step = record {
  first = λ kept l g next are out. domains_in_step.changed kept l g _ are out refl;
  last = λ kept l g next are out. domains_in_step.changed kept l g _ are out refl;
  for_others = λ kept l g call are out. domains_in_step.changed kept l g _ are out refl;
  moved = λ kept l g context are out. domains_in_step.changed kept l g _ are out out;
  ends_there = λ kept l g result are out. domains_in_step.changed kept l g _ are out refl;
  stands_there = λ kept l g position are. one_unseen kept l are g _ (record { strikes = refl; context = λ can. refl });
  wakes = λ kept l who are. wakes_some kept l are who;
  branches = λ kept l context group variables blocks are. branches_in kept context group variables blocks l are;
}

-- ## Calls

module _ (l : DomainState) (maker n : ℕ) (what : Raised) where
  abbrev failing : Switch
  failing = record (switch_at l.switches n) { errors = Some (joined (switch_at l.switches n).errors what) }

  fails_by : (finished : Bool) → DomainState
  fails_by finished = elim (elim finished as (λ _. Option Switch) [ true ↦ None | false ↦ Some failing ]) as (λ _. DomainState) [
    | None ↦ l
    | Some switch ↦ cancels maker switch.context (reason what) (with_switch_at n switch l)
  ]

  failed_late : (switch_at l.switches n).finished ≡ true → fails maker n what l ≡ l
  unfolding fails_by
  failed_late closed = ap fails_by closed

  failed_open : (switch_at l.switches n).finished ≡ false → fails maker n what l ≡ cancels maker (switch_at l.switches n).context (reason what) (with_switch_at n failing l)
  unfolding fails_by
  failed_open still = ap fails_by still

module _ (kept : Contexts) (l : DomainState) (are : AreContexts kept (contexts_of l)) where
  leaves_alike : (c g : ℕ) → is_live l.contexts c ≡ true → HasNoLiveChild l.contexts c → NobodyWaitsIn l c → can_be_struck (fiber_at l.fibers g) ≡ false
      → (is_live kept.made c ≡ true) × HasNoLiveChild kept.made c × (waits_in c kept.waiting ≡ false) × ((context_at kept.made c).parent ≡ (context_at l.contexts c).parent)
      × AreContexts (left_by_end c kept) (contexts_of (leaves c g l))
  leaves_alike c g lives childless nobody out = (
      let free : HasNoLiveChild kept.made c = childless_here kept (contexts_of l) are c childless in
      let gone = domains_in_step.ended kept l c are free nobody in (
        live_kept kept l are c lives,
        free,
        gone.0,
        ap (λ (x : Context). x.parent) ((alike kept l are).stand c lives),
        domains_in_step.changed (left_by_end c kept) (record l { contexts = end c l.contexts }) g _ gone.1 out out,
      ))

  failed_alike : (maker n : ℕ) (what : Raised) → (switch_at l.switches n).finished ≡ false
      → ((fails maker n what l).duties ≡ l.duties ++ map (strike_by maker) (to_be_struck kept.made kept.waiting (switch_at l.switches n).context))
      × AreContexts (called (Cancel (switch_at l.switches n).context (reason what)) kept) (contexts_of (fails maker n what l))
  failed_alike maker n what still =
      subst (λ k. (k.duties ≡ l.duties ++ map (strike_by maker) (to_be_struck kept.made kept.waiting (switch_at l.switches n).context))
      × AreContexts (called (Cancel (switch_at l.switches n).context (reason what)) kept) (contexts_of k)) (sym (failed_open l maker n what still))
      (domains_in_step.cancelled kept (with_switch_at n (failing l maker n what) l) maker (switch_at l.switches n).context (reason what) are)

starts_alike : (number : ℕ) (texts : List (List ℕ)) (body : Block) → AreContexts (called Root no_contexts) (contexts_of (opening_domain number texts body))
unfolding waiting_from
starts_alike number texts body = one_more no_contexts no_contexts contexts_in_step.opens Root tt

pub calls_in_step : CallsInStep
calls_in_step = record {
  starts = starts_alike;
  roots = λ kept l are. (number_alike kept (contexts_of l) are (new_context None false), one_more kept (contexts_of l) are Root tt);
  subs = λ kept l parent are lives.
      (number_alike kept (contexts_of l) are (new_context (Some parent) false), one_more kept (contexts_of l) are (Sub parent) (live_kept kept l are parent lives));
  protects = λ kept l parent are lives.
      (number_alike kept (contexts_of l) are (new_context (Some parent) true), one_more kept (contexts_of l) are (Protect parent) (live_kept kept l are parent lives));
  leaves_it = λ kept l c g are lives childless nobody out. leaves_alike kept l are c g lives childless nobody out;
  fails_there = λ kept l maker n what are still. failed_alike kept l are maker n what still;
  fails_late = λ l maker n what closed. failed_late l maker n what closed;
}
