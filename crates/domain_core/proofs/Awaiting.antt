-- A fiber that begins to wait until its context is cancelled, one that would have waited in a context that is off, and one that others wake.
use Rattle.std.proofs.Common.{◌≡◌, ℕ, Bool, true, false, List, Option, Some, None, refl, ap, ◌∙◌, sym, subst, true≢false}
use Rattle.std.specs.Prelude.{is_some}
use Rattle.std.specs.Option.{option_map}
use Rattle.std.proofs.lemmas.Option.{none-some, same_Some}
use Rattle.eio_value.specs.declared.plain.Plain.{Plain}
use Rattle.eio_value.specs.declared.raised.Raised.{Raised}
use Rattle.spec_parts.specs.ContextCalls.{Contexts, Wait, called}
use Rattle.spec_parts.specs.Contexts.{is_live}
use Rattle.script_forms.specs.declared.node.Node.{Node}
use Rattle.spec_fiber.specs.Asks.{Ask}
use Rattle.trace_lines.specs.declared.line.Did.{Did}
use Rattle.spec_machine.specs.Domain as model
use Rattle.spec_machine.specs.Domain.{DomainState, fiber_at, off_for, stands, to_back}
use Rattle.spec_machine.specs.Steps.{Step, goes_off, waits, waits_unless_off}
use Rattle.spec_machine.specs.SwitchMoves.{woken}
use Rattle.domain_strikes.specs.Waiting.InStep.{AreContexts}
use Rattle.domain_strikes.specs.Waiting.WhoWaits.{contexts_of}
use Rattle.domain_strikes.proofs.Waiting.Alike.{domains_in_step}
use Rattle.domain_core.specs.declared.standing.Again.{Again}
use Rattle.domain_core.specs.declared.standing.Standing.{Standing}
use Rattle.domain_core.specs.declared.standing.Standing.TheVariants as kept_standing
use Rattle.domain_core.specs.Answering.{Becomes}
use Rattle.domain_core.specs.Conditions.{IsAwake, IsParked, waits_so}
use Rattle.domain_core.specs.Keeping.{KeptFiber, KeptDomain, kept_at, changed_at}
use Rattle.domain_core.specs.Keyed.{call_of, standing_of}
use Rattle.domain_core.specs.Mirrors.{IsFiber, IsKept, Mirrors}
use Rattle.domain_core.proofs.Mirroring.{is_fiber, lives, struck_as, stands_with}

-- ## In a context that may be off

-- a wait by whether it is
pub off_waits : (it : Did) (wait : model.Wait) (g : ℕ) (l : DomainState) (found : Option Plain) → is_some found ≡ true → found ≡ off_for l g → waits_unless_off it wait g l ≡ goes_off it g l
off_waits it wait g l None there is = absurd (true≢false (sym there))
off_waits it wait g l (Some why) there is = ap (λ (x : Option Plain). elim x as (λ _. Step) [ Some reason ↦ goes_off it g l | None ↦ waits it wait g l ]) (sym is)

pub on_waits : (it : Did) (wait : model.Wait) (g : ℕ) (l : DomainState) (found : Option Plain) → is_some found ≡ false → found ≡ off_for l g → waits_unless_off it wait g l ≡ waits it wait g l
on_waits it wait g l (Some why) there is = absurd (true≢false there)
on_waits it wait g l None there is = ap (λ (x : Option Plain). elim x as (λ _. Step) [ Some reason ↦ goes_off it g l | None ↦ waits it wait g l ]) (sym is)

-- ## Until it is cancelled

module _ (inside now : KeptDomain) (same : inside ≡ now) (g : ℕ) (awake : IsAwake now g) (f : KeptFiber) (there : kept_at inside.fibers g ≡ Some f)
    (live : is_live inside.contexts.made f.context ≡ true) where
  awaits_calm : waits_so f.standing ≡ false
  awaits_calm = (
      let it : IsAwake inside g = subst (λ (kept : KeptDomain). IsAwake kept g) (sym same) awake in
      subst (λ (x : KeptFiber). waits_so x.standing ≡ false) (same_Some it.fiber f (sym it.there ∙ there)) it.awake)

  awaits_there : (nodes : List Node) (texts : List (List ℕ)) (l : DomainState) → Mirrors nodes texts inside l
      → AreContexts (called (Wait f.context g) inside.contexts) (contexts_of (stands (model.Parked model.ForCancel) g l))
  awaits_there nodes texts l mirrors = (
      let context : (fiber_at l.fibers g).context ≡ f.context = (is_fiber nodes texts inside l g f there mirrors).context in
      let parked = domains_in_step.parked inside.contexts l g model.ForCancel mirrors.contexts (lives nodes texts inside l g f there mirrors)
      (struck_as nodes texts inside l g f there mirrors ∙ awaits_calm) refl (ap (is_live inside.contexts.made) context ∙ live) in
      subst (λ (c : ℕ). AreContexts (called (Wait c g) inside.contexts) (contexts_of (stands (model.Parked model.ForCancel) g l))) context parked.2)

  pub awaits_becomes : (contexts : Contexts) (fibers : List (Option KeptFiber)) → contexts ≡ called (Wait f.context g) inside.contexts
      → fibers ≡ changed_at g (λ fiber. record fiber { standing = model.Parked model.ForCancel }) inside.fibers
      → Becomes (stands (model.Parked model.ForCancel) g) now (record inside { fibers = fibers; contexts = contexts })
  awaits_becomes contexts fibers calls are =
      subst (λ (kept : KeptDomain). Becomes (stands (model.Parked model.ForCancel) g) kept (record inside { fibers = fibers; contexts = contexts })) same
      (subst (λ (xs : List (Option KeptFiber)). Becomes (stands (model.Parked model.ForCancel) g) inside (record inside { fibers = xs; contexts = contexts })) (sym are)
      (subst (λ (cs : Contexts). Becomes (stands (model.Parked model.ForCancel) g) inside
      (record inside { fibers = changed_at g (λ fiber. record fiber { standing = model.Parked model.ForCancel }) inside.fibers; contexts = cs })) (sym calls)
      (λ nodes texts l mirrors. stands_with nodes texts inside l g f there mirrors (model.Parked model.ForCancel) refl (called (Wait f.context g) inside.contexts) (awaits_there nodes texts l mirrors))))

-- ## Woken by others

-- a fiber that waits for others, by how code keeps it
pub parked_there : (found : Option KeptFiber) (thrown : ℕ → Raised) (again : Again) → option_map (standing_of thrown) (Some (kept_standing.Parked again)) ≡ option_map (λ (fiber : KeptFiber). fiber.standing) found
    → (f : KeptFiber) × (found ≡ Some f) × (f.standing ≡ model.Parked (model.ForOthers (call_of again)))
parked_there None thrown again is = absurd (none-some _ (sym is))
parked_there (Some f) thrown again is = (f, refl, sym (same_Some _ _ is))

abbrev woken_as : model.Standing → (fiber : ℕ) → DomainState → DomainState
woken_as standing g l = elim standing as (λ _. DomainState) [
  | model.Parked wait ↦ elim wait as (λ _. DomainState) [
    | model.ForOthers call ↦ to_back (model.CallsAgain call) g l
    | model.OnObject who ↦ l
    | model.Asleep ↦ l
    | model.ForCancel ↦ l
    | model.Resting ↦ l
  ]
  | model.Ready next ↦ l
  | model.Ended it ↦ l
]

module _ (inside now : KeptDomain) (same : inside ≡ now) (g : ℕ) where
  -- it goes to the back, and makes its call again
  module _ (f : KeptFiber) (there : kept_at inside.fibers g ≡ Some f) (call : Ask) (parked : f.standing ≡ model.Parked (model.ForOthers call)) where
    pub parked_awake : IsAwake now g
    parked_awake = subst (λ (kept : KeptDomain). IsAwake kept g) same (record { fiber = f; there = there; awake = ap waits_so parked })

    pub is_parked : IsParked now g
    is_parked = subst (λ (kept : KeptDomain). IsParked kept g) same (f, call, there, parked)

    pub wakes_becomes : (new : KeptDomain) → Becomes (to_back (model.CallsAgain call) g) now new → Becomes (woken g) now new
    wakes_becomes new becomes = λ nodes texts l mirrors. (
        let fiber : IsFiber nodes g f (fiber_at l.fibers g) = is_fiber nodes texts inside l g f there (subst (λ (kept : KeptDomain). Mirrors nodes texts kept l) (sym same) mirrors) in
        subst (λ (m : DomainState). Mirrors nodes texts new m) (ap (λ (s : model.Standing). woken_as s g l) (sym (fiber.standing ∙ parked))) (becomes nodes texts l mirrors))

  -- and no other fiber does anything
  unwoken_ended : (standing : model.Standing) (l : DomainState) → elim standing as (λ _. Bool) [ model.Ended it ↦ true | model.Ready next ↦ false | model.Parked wait ↦ false ] ≡ true
      → woken_as standing g l ≡ l
  unwoken_ended (model.Ready next) l ended = absurd (true≢false (sym ended))
  unwoken_ended (model.Parked wait) l ended = absurd (true≢false (sym ended))
  unwoken_ended (model.Ended it) l ended = refl

  unwoken_standing : (standing : Standing) (thrown : ℕ → Raised) (l : DomainState) → ((again : Again) → standing ≡ kept_standing.Parked again → ⊥) → woken_as (standing_of thrown standing) g l ≡ l
  unwoken_standing (kept_standing.Ready next) thrown l other = refl
  unwoken_standing (kept_standing.Throws key) thrown l other = refl
  unwoken_standing (kept_standing.Parked again) thrown l other = absurd (other again refl)
  unwoken_standing kept_standing.AwaitsCancel thrown l other = refl

  unwoken_kept : (nodes : List Node) (l : DomainState) (found : Option KeptFiber) → IsKept nodes g found (fiber_at l.fibers g) → (standing : Standing) (thrown : ℕ → Raised)
      → option_map (standing_of thrown) (Some standing) ≡ option_map (λ (fiber : KeptFiber). fiber.standing) found
      → ((again : Again) → standing ≡ kept_standing.Parked again → ⊥) → woken g l ≡ l
  unwoken_kept nodes l None kept standing thrown is other = absurd (none-some _ (sym is))
  unwoken_kept nodes l (Some f) kept standing thrown is other =
      ap (λ (s : model.Standing). woken_as s g l) (kept.standing ∙ sym (same_Some _ _ is)) ∙ unwoken_standing standing thrown l other

  pub unwoken_becomes : (stands : Option Standing) (standing : Standing) (thrown : ℕ → Raised) → stands ≡ Some standing
      → option_map (standing_of thrown) stands ≡ option_map (λ (fiber : KeptFiber). fiber.standing) (kept_at inside.fibers g)
      → ((again : Again) → standing ≡ kept_standing.Parked again → ⊥) → Becomes (woken g) now now
  unwoken_becomes stands standing thrown stood is other = λ nodes texts l mirrors. (
      let inner : Mirrors nodes texts inside l = subst (λ (kept : KeptDomain). Mirrors nodes texts kept l) (sym same) mirrors in
      let there : option_map (standing_of thrown) (Some standing) ≡ option_map (λ (fiber : KeptFiber). fiber.standing) (kept_at inside.fibers g) =
      ap (option_map (standing_of thrown)) (sym stood) ∙ is in
      subst (λ (m : DomainState). Mirrors nodes texts now m) (sym (unwoken_kept nodes l (kept_at inside.fibers g) (inner.fibers g) standing thrown there other)) mirrors)
