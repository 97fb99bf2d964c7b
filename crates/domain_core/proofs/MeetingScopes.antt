-- What is asked for calls on contexts, switches and groups holds where a sound domain has come to such a call: what ends is alone, so that it may end by what is kept.
use Rattle.std.proofs.Common.{◌≡◌, inl, inr, ℕ, ◌+◌, ◌<◌, ◌≤◌, Bool, true, false, List, length, Option, ap, ◌∙◌, sym, subst, arith}
use Rattle.std.specs.Prelude.{is_some}
use Rattle.std.specs.List.{Contains}
use Rattle.std.proofs.lemmas.List.Elements.{All-contains}
use Rattle.fiber_step.proofs.Numbering.Finding.{blocks_by_number}
use Rattle.cancel_tree.specs.Forgetting as forgetting
use Rattle.law_domain.specs.Kinded.KindedStates.{IsKinded, IsKindedHandler, handlers_of, made_facts}
use Rattle.law_domain.specs.Sound.Conditions as laws
use Rattle.law_domain.specs.Sound.Conditions.{IsAlone, EndsAs, HasSoundSwitches}
use Rattle.law_domain.specs.Sound.SoundStates.{attached_to, own_branches}
use Rattle.law_domain.proofs.Sound.Conditions.{switches_are_sound}
use Rattle.law_domain.proofs.Sound.Counting.{live_same}
use Rattle.eio_value.specs.declared.raised.Outcome.{Outcome}
use Rattle.law_fiber.specs.Kinded.Kinds.{IsOfScript}
use Rattle.law_fiber.proofs.Kinded.Between.{is_of_script}
use Rattle.spec_machine.specs.Domain.{Fiber, Role, OfBody, OfSwitch, OfGroup, OfJob, OfWriter, Next, Ready, DomainState, fiber_at, live_fibers}
use Rattle.spec_parts.specs.ContextCalls.{End}
use Rattle.spec_parts.specs.Contexts.{is_live}
use Rattle.spec_parts.specs.Groups.{Group, group_at}
use Rattle.spec_parts.specs.Switches.{Switch, switch_at}
use Rattle.script_forms.specs.declared.node.Node.{Node}
use Rattle.spec_script.specs.Scripts.{Script}
use Rattle.spec_fiber.specs.Numbered.{block_numbered}
use Rattle.switch_core.specs.Attaching.{IsAttached}
use Rattle.domain_strikes.specs.Waiting.WhoWaits.{can_be_struck, contexts_of}
use Rattle.domain_strikes.proofs.Waiting.Alike.{contexts_in_step}
use Rattle.domain_strikes.proofs.Waiting.Listed.{by_standing}
use Rattle.cancel_tree.specs.Waits.{waits, waits_in}
use Rattle.spec_machine.specs.Steps.{waiting_from}
use Rattle.domain_core.specs.Conditions.{HandlersBegin, HasLiveContexts, IsAttachedToNone, KeptMayClose, MayEnd, MayEndAs, MayEndContext, KeptMayJoin}
use Rattle.domain_core.specs.Keeping.{KeptDomain}
use Rattle.domain_core.proofs.MeetingCounts.{IsAtCall, at_call, alike, lives_kept, same_count, same_groups, same_switches, same_context, same_ended, same_role, stands_for, stands_ready}

-- who is ready waits for nothing
ready_waits_not : (fiber : Fiber) (next : Next) → fiber.standing ≡ Ready next → can_be_struck fiber ≡ false
ready_waits_not fiber next is = ap (λ standing. can_be_struck (record fiber { standing = standing })) is

module _ {nodes : List Node} {texts : List (List ℕ)} {l : DomainState} {g : ℕ} {others : List ℕ} {kept : KeptDomain} (at : IsAtCall nodes texts l g others kept) where
  -- ## Contexts

  -- where only the fiber that calls runs, nobody waits
  nobody_waits : (c : ℕ) → IsAlone l g c → waits_in c (waiting_from 0 (at_call l g others at.calls.settled).fibers) ≡ false
  nobody_waits c alone = by_standing.nobody (at_call l g others at.calls.settled).fibers c (λ h lives runs. (
      let itself : h ≡ g = alone.idle h (sym (same_ended at h) ∙ lives) (sym (same_context at h) ∙ runs) in
      subst (λ (x : ℕ). can_be_struck (fiber_at (at_call l g others at.calls.settled).fibers x) ≡ false) (sym itself)
      (ready_waits_not (fiber_at (at_call l g others at.calls.settled).fibers g) at.calls.next (stands_ready at))))

  pub may_end : (c : ℕ) → is_live l.contexts c ≡ true → IsAlone l g c → MayEndContext kept c
  may_end c lives alone = (
      let it : forgetting.MayEnd c kept.contexts =
      (contexts_in_step.meets kept.contexts (contexts_of (at_call l g others at.calls.settled)) (End c) at.mirrors.contexts).1
      (record { childless = alone.childless; idle = nobody_waits c alone }) in
      record { live = lives_kept at c lives; childless = it.childless; idle = it.idle })

  -- the fiber that calls doesn't wait, and there is room for it among those that do
  pub waits_not : waits g kept.contexts.waiting ≡ false
  waits_not = ap (waits g) (alike at).waiting
      ∙ (by_standing.who (at_call l g others at.calls.settled).fibers g
      ∙ ready_waits_not (fiber_at (at_call l g others at.calls.settled).fibers g) at.calls.next (stands_ready at))

  pub few_wait : length kept.contexts.waiting < 1024
  few_wait = (
      let fibers : List Fiber = (at_call l g others at.calls.settled).fibers in
      let room : length (waiting_from 0 fibers) + 1 ≤ live_fibers fibers =
      by_standing.room fibers g (same_ended at g ∙ at.calls.lives) (ready_waits_not (fiber_at fibers g) at.calls.next (stands_ready at)) in
      let same : length kept.contexts.waiting ≡ length (waiting_from 0 fibers) = ap length (alike at).waiting in
      let many : live_fibers fibers ≡ live_fibers l.fibers = live_same fibers l.fibers (same_ended at) in
      let most : live_fibers l.fibers ≤ 1024 = at.sound.counted.live in
      omega (arith, room, same, many, most))

  -- ## Switches

  same_switch : (n : ℕ) → switch_at l.switches n ≡ switch_at kept.switches n
  same_switch n = ap (λ (xs : List Switch). switch_at xs n) at.mirrors.switches

  sound_switches : HasSoundSwitches l
  sound_switches = switches_are_sound l at.sound

  pub live_contexts : HasLiveContexts kept
  live_contexts n below is =
      lives_kept at (switch_at kept.switches n).context
      (subst (λ (s : Switch). is_live l.contexts s.context ≡ true) (same_switch n)
      (sound_switches.live n (ap (λ (s : Switch). s.finished) (same_switch n) ∙ is)))

  pub apart : IsAttachedToNone kept (length kept.fibers)
  apart n attached = by_side (subst (λ (s : Switch). IsAttached (length kept.fibers) s) (sym (same_switch n)) attached) where
    by_side : IsAttached (length kept.fibers) (switch_at l.switches n) → ⊥
    by_side (inl it) = sound_switches.nobody_new n false (subst (λ (m : ℕ). Contains (switch_at l.switches n).fibers m) (same_count at) it)
    by_side (inr it) = sound_switches.nobody_new n true (subst (λ (m : ℕ). Contains (switch_at l.switches n).daemons m) (same_count at) it)

  pub may_close : (n : ℕ) → laws.MayClose l g n → KeptMayClose kept n
  may_close n it = record {
    opened = (let made : n < length l.switches = it.made in omega (arith, made, same_switches at));
    unfinished = ap (λ (s : Switch). s.finished) (sym (same_switch n)) ∙ it.unfinished;
    ends = λ empty. subst (λ (s : Switch). MayEndContext kept s.context) (same_switch n)
        (may_end (switch_at l.switches n).context it.live (it.alone (λ daemon. ap (attached_to daemon) (same_switch n) ∙ empty daemon)));
  }

  pub handlers_begin : (script : Script) → IsKinded script l → (n : ℕ) → HandlersBegin script kept n
  handlers_begin script kinded n handler there = (
      let it : IsKindedHandler script (made_facts script (length l.switches) (length l.contexts)) handler =
      All-contains (IsKindedHandler script (made_facts script (length l.switches) (length l.contexts))) (handlers_of (switch_at l.switches n)) handler (kinded.handlers n)
      (subst (λ (s : Switch). Contains (handlers_of s) handler) (sym (same_switch n)) there) in
      let its : IsOfScript script (block_numbered script handler.block) = is_of_script script (block_numbered script handler.block) it.fits.1 in
      record { block = block_numbered script handler.block; its = its.its; begins = blocks_by_number.number script handler.block })

  -- ## Groups

  same_group : (n : ℕ) → group_at l.groups n ≡ group_at kept.groups n
  same_group n = ap (λ (xs : List Group). group_at xs n) at.mirrors.groups

  pub may_join : (n : ℕ) (own : Option Outcome) → laws.MayJoin l g n (is_some own) → KeptMayJoin kept n own
  may_join n own it = record {
    made = (let made : n < length l.groups = it.made in omega (arith, made, same_groups at));
    some_left = subst (λ (x : Group). own_branches (is_some own) ≤ x.left) (same_group n) it.some_left;
    ends = λ last. subst (λ (x : Group). MayEndContext kept x.context) (same_group n)
        (may_end (group_at l.groups n).context it.live (it.alone (ap (λ (x : Group). x.left) (same_group n) ∙ last)));
  }

  -- ## Ends

  ends_as : (role : Role) → EndsAs l g role → MayEndAs kept g (fiber_at l.fibers g).context role
  ends_as OfBody it = (it.0, may_end (fiber_at l.fibers g).context at.calls.live (subst (λ (c : ℕ). IsAlone l g c) (sym it.1) it.2))
  ends_as (OfSwitch n daemon) it = (
      let later : 0 < g = it.0 in
      let made : n < length l.switches = it.1 in (
        omega (arith, made, same_switches at),
        subst (λ (s : Switch). IsAttached g s) (same_switch n) (attached_so daemon it.3),
        λ e. omega (arith, later, e),
      )) where
        attached_so : (d : Bool) → Contains (attached_to d (switch_at l.switches n)) g → IsAttached g (switch_at l.switches n)
        attached_so true there = inr there
        attached_so false there = inl there
  ends_as (OfGroup n) it = (
      let later : 0 < g = it.0 in
      let made : n < length l.groups = it.1 in
      (omega (arith, made, same_groups at), λ e. omega (arith, later, e)))
  ends_as (OfJob executor number) it = absurd it
  ends_as (OfWriter writer) it = absurd it

  pub may_be_ended : EndsAs l g (fiber_at l.fibers g).role → MayEnd kept g
  may_be_ended ends f there = (
      let role : (fiber_at l.fibers g).role ≡ f.role = sym (same_role at g) ∙ (stands_for at g f there).role in
      let context : (fiber_at l.fibers g).context ≡ f.context = sym (same_context at g) ∙ (stands_for at g f there).context in
      subst (λ (c : ℕ). MayEndAs kept g c f.role) context
      (subst (λ (r : Role). MayEndAs kept g (fiber_at l.fibers g).context r) role (ends_as (fiber_at l.fibers g).role ends)))
