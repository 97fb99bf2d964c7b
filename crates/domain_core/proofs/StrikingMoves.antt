-- The strike that a domain owes first is a move of its own, and what is asked for it holds.
use Rattle.std.proofs.Common.{◌≡◌, inl, inr, ℕ, ◌<◌, ◌≤◌, true, false, List, ◌∷◌, length, Some, refl, ap, ◌∙◌, subst, arith}
use Rattle.std.specs.List.{Contains}
use Rattle.cancel_tree.specs.Waits.{waits}
use Rattle.spec_parts.specs.Contexts.{is_live}
use Rattle.script_forms.specs.Flat.{nodes_of}
use Rattle.spec_script.specs.Scripts.{Script}
use Rattle.domain_strikes.specs.Waiting.WhoWaits.{can_be_struck, contexts_of}
use Rattle.domain_strikes.proofs.Waiting.Alike.{contexts_in_step, domains_in_step}
use Rattle.spec_machine.specs.Asking.{asks_by, strike_on}
use Rattle.spec_machine.specs.Domain.{Duty, DomainState, Fiber, ForCancel, ForOthers, LooksUp, Next, Parked, Ready, Standing, fiber_at, has_ended, live_fibers}
use Rattle.spec_machine.specs.Domain as model
use Rattle.spec_machine.specs.DutyMoves.{own_duty}
use Rattle.spec_machine.specs.Labels.{Own}
use Rattle.spec_machine.specs.Moves.{asks, own_move}
use Rattle.spec_machine.specs.Preparing.{Owes, Prepared, at_once, prepared}
use Rattle.spec_machine.specs.Steps.{strike_by}
use Rattle.law_domain.specs.Sound.Scopes.{scopes_of}
use Rattle.law_domain.specs.Sound.SoundStates.{IsBuiltStanding, IsSoundState}
use Rattle.law_domain.proofs.Sound.Counting.{few_stand}
use Rattle.law_domain.proofs.Sound.EndingAlone.{fibers_run_in_live}
use Rattle.law_domain.proofs.Sound.Following.{ready_live}
use Rattle.law_domain.proofs.Sound.Lists.{contains_cases, front_apart}
use Rattle.law_domain.proofs.Sound.Preparing.{by_duties}
use Rattle.domain_core.specs.declared.told.Told.{Told}
use Rattle.domain_core.specs.Answering.{Makes}
use Rattle.domain_core.specs.Conditions.{MayStrike, waits_so}
use Rattle.domain_core.specs.Keeping.{KeptFiber, KeptDomain, kept_at}
use Rattle.domain_core.specs.Mirrors.{IsFiber, Mirrors}
use Rattle.domain_core.specs.Moving.{MovesOwn}
use Rattle.domain_core.proofs.Mirroring.{is_fiber, mirrors_as, owed_mirrors, struck_as, tells_as}

-- a strike on a fiber of these forms asks nothing from outside
strikes_own : (stand : Standing) → IsBuiltStanding stand → strike_on stand ≡ Own
strikes_own (Ready next) built = refl
strikes_own (Parked ForCancel) built = refl
strikes_own (Parked (ForOthers call)) built = refl
strikes_own (Parked wait) built = absurd built
strikes_own (model.Ended it) built = refl

ready_not_parked : (next : Next) (stand : Standing) → stand ≡ Ready next → stand ≡ Parked ForCancel → ⊥
ready_not_parked next stand is other = cc

parked_lives : (fiber : Fiber) → fiber.standing ≡ Parked ForCancel → has_ended fiber ≡ false
parked_lives fiber is = ap (λ (s : Standing). has_ended (record fiber { standing = s })) is

module _ (script : Script) (texts : List (List ℕ)) (now : KeptDomain) (l : DomainState) (mirrors : Mirrors (nodes_of script) texts now l) (sound : IsSoundState l)
    (maker g : ℕ) (others : List Duty) (is : now.owed ≡ strike_by maker g ∷ others) where
  -- ## What is asked for it

  module _ (f : KeptFiber) (there : kept_at now.fibers g ≡ Some f) (stands : f.standing ≡ Parked ForCancel) where
    fiber_is : IsFiber (nodes_of script) g f (fiber_at l.fibers g)
    fiber_is = is_fiber (nodes_of script) texts now l g f there mirrors

    -- it stands in no ready list, so that with all who do no more live than may
    room : length now.ready < 1024
    room = (
        let parked : (fiber_at l.fibers g).standing ≡ Parked ForCancel = fiber_is.standing ∙ stands in
        let apart : Contains l.ready g → ⊥ = λ listed. (
        let it : (next : Next) × ((fiber_at l.fibers g).standing ≡ Ready next) = sound.ready g listed in
        ready_not_parked it.0 (fiber_at l.fibers g).standing it.1 parked) in
        let lives : (x : ℕ) → Contains (g ∷ l.ready) x → has_ended (fiber_at l.fibers x) ≡ false = λ x listed. (elim (contains_cases g x l.ready listed) as (λ _. has_ended (fiber_at l.fibers x) ≡ false) [
          | inl e ↦ subst (λ (y : ℕ). has_ended (fiber_at l.fibers y) ≡ false) e (parked_lives (fiber_at l.fibers g) parked)
          | inr it ↦ ready_live (scopes_of l) l.lines l sound x it
        ]) in
        let few : length (g ∷ l.ready) ≤ live_fibers l.fibers = few_stand (g ∷ l.ready) l.fibers (front_apart g l.ready sound.distinct apart) lives in
        let same : length l.ready ≡ length now.ready = ap length mirrors.ready in
        let most : live_fibers l.fibers ≤ 1024 = sound.counted.live in
        omega (arith, few, same, most))

    can : can_be_struck (fiber_at l.fibers g) ≡ true
    can = struck_as (nodes_of script) texts now l g f there mirrors ∙ ap waits_so stands

    listed : waits g now.contexts.waiting ≡ true
    listed = (domains_in_step.woken now.contexts l g LooksUp mirrors.contexts can).0

  pub may_strike : MayStrike (record now { owed = others }) g
  may_strike = record {
    room = λ awaits. room awaits.0 awaits.1 awaits.2;
    live = λ awaits f there. live_by f there;
    waits = λ awaits. listed awaits.0 awaits.1 awaits.2;
  }
    where
      live_by : (f : KeptFiber) → kept_at now.fibers g ≡ Some f → is_live now.contexts.made f.context ≡ true
      live_by f there = (
          let it : IsFiber (nodes_of script) g f (fiber_at l.fibers g) = is_fiber (nodes_of script) texts now l g f there mirrors in
          (contexts_in_step.alike now.contexts (contexts_of l) mirrors.contexts).live f.context
          ∙ subst (λ (c : ℕ). is_live l.contexts c ≡ true) it.context (fibers_run_in_live l g sound it.lives))

  -- ## The move

  prepares : prepared l ≡ at_once (Owes (strike_by maker g)) (record l { duties = others })
  unfolding prepared
  prepares = ap (by_duties l) (mirrors.duties ∙ is)

  popped : Mirrors (nodes_of script) texts (record now { owed = others }) (record l { duties = others })
  popped = owed_mirrors (nodes_of script) texts now l mirrors others

  asks_nothing : asks l ≡ Own
  unfolding asks
  asks_nothing = ap asks_by prepares ∙ strikes_own (fiber_at l.fibers g).standing (sound.fibers g).stand

  is_step : own_move script (prepared l) ≡ own_duty (strike_by maker g) (record l { duties = others })
  is_step = ap (own_move script) prepares

  pub strike_moves : (told : Told) (mid : KeptDomain) → Makes (own_duty (strike_by maker g)) (record now { owed = others }) told mid → MovesOwn script texts l told mid
  strike_moves told mid makes = record {
    own = asks_nothing;
    texts = ap (λ (p : Prepared). p.state.texts) prepares;
    tells = tells_as _ _ told is_step ((makes (nodes_of script)).tells texts _ popped);
    becomes = mirrors_as (nodes_of script) texts mid _ _ is_step ((makes (nodes_of script)).becomes texts _ popped);
  }
