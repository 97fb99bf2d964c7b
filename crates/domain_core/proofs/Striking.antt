-- A strike: who waits for nothing but that it is cancelled goes on, with a new raise that it was, and whoever else has gone on before.
use Rattle.std.proofs.Common.{◌≡◌, ◌≢◌, ℕ, ◌+◌, Bool, true, false, List, [], ◌∷◌, ◌++◌, Option, Some, None, refl, ap, ap₂, ◌∙◌, sym, subst}
use Rattle.std.specs.Option.{option_map, unwrap_or}
use Rattle.std.proofs.lemmas.Option.{none-some, same_Some}
use Rattle.eio_value.specs.declared.plain.Member.{Member}
use Rattle.eio_value.specs.declared.plain.Plain.{Plain}
use Rattle.eio_value.specs.declared.plain.Plain.TheVariants.{Exit}
use Rattle.eio_value.specs.declared.raised.Outcome.TheVariants as outcome
use Rattle.eio_value.specs.declared.raised.Raised.{Raised}
use Rattle.eio_value.specs.declared.raised.Raised.TheVariants.{Cancelled}
use Rattle.spec_parts.specs.ContextCalls.{Contexts, Unwait, called}
use Rattle.spec_parts.specs.Contexts.{is_live, off}
use Rattle.script_forms.specs.declared.node.Node.{Node}
use Rattle.trace_lines.specs.declared.line.Did.TheVariants as did
use Rattle.trace_lines.specs.declared.line.Said2.TheVariants as said
use Rattle.domain_strikes.specs.Waiting.WhoWaits.{can_be_struck}
use Rattle.domain_strikes.proofs.Waiting.Alike.{domains_in_step}
use Rattle.spec_machine.specs.Domain as model
use Rattle.spec_machine.specs.Domain.{Duty, DomainState, fiber_at, off_for, stands}
use Rattle.spec_machine.specs.DutyMoves.{own_duty, own_strike, strike_told}
use Rattle.spec_machine.specs.Steps.{member, strike_by}
use Rattle.domain_core.specs.declared.standing.Standing.{Standing}
use Rattle.domain_core.specs.declared.standing.Standing.TheVariants as standing
use Rattle.domain_core.specs.declared.told.Told.{Told}
use Rattle.domain_core.specs.Answering.{HoldsOf, Makes, MakesUnder, Tells}
use Rattle.domain_core.specs.Conditions.{waits_so}
use Rattle.domain_core.specs.Keeping.{KeptFiber, KeptDomain, kept_at, changed_at}
use Rattle.domain_core.specs.Keyed.{standing_of}
use Rattle.domain_core.specs.Mirrors.{IsKept, Mirrors}
use Rattle.domain_core.proofs.Coming.{off_is}
use Rattle.domain_core.proofs.Mirroring.{is_fiber, mirrors_as, ready_mirrors, serial_mirrors, stands_with, struck_as, tells_as}

-- ## Who waits so

pub awaits : (thrown : ℕ → Raised) (found : Option KeptFiber) (stand : Option Standing) → option_map (standing_of thrown) stand ≡ option_map (λ (f : KeptFiber). f.standing) found
    → stand ≡ Some standing.AwaitsCancel → (f : KeptFiber) × (found ≡ Some f) × (f.standing ≡ model.Parked model.ForCancel)
awaits thrown None stand same is = absurd (none-some _ (sym (sym (ap (option_map (standing_of thrown)) is) ∙ same)))
awaits thrown (Some f) stand same is = (f, refl, same_Some _ _ (sym same ∙ ap (option_map (standing_of thrown)) is))

module _ (duty : Duty) (g : ℕ) (l : DomainState) where
  -- whoever is kept and doesn't wait so
  goes_on_kept : (thrown : ℕ → Raised) (stand : Standing) → stand ≢ standing.AwaitsCancel → own_strike duty g (standing_of thrown stand) l ≡ strike_told duty g false l
  goes_on_kept thrown (standing.Ready it) other = refl
  goes_on_kept thrown (standing.Throws key) other = refl
  goes_on_kept thrown (standing.Parked it) other = refl
  goes_on_kept thrown standing.AwaitsCancel other = absurd (other refl)

  goes_on_ended : (stand : model.Standing) → elim stand as (λ _. Bool) [ model.Ended it ↦ true | model.Ready next ↦ false | model.Parked wait ↦ false ] ≡ true
      → own_strike duty g stand l ≡ strike_told duty g false l
  goes_on_ended (model.Ended it) is = refl
  goes_on_ended (model.Ready next) is = (let e : false ≡ true = is in cc)
  goes_on_ended (model.Parked wait) is = (let e : false ≡ true = is in cc)

  pub has_gone_on : (nodes : List Node) (thrown : ℕ → Raised) (stand : Option Standing) → stand ≢ Some standing.AwaitsCancel → (found : Option KeptFiber)
      → option_map (standing_of thrown) stand ≡ option_map (λ (f : KeptFiber). f.standing) found → (fiber : model.Fiber) → IsKept nodes g found fiber
      → own_strike duty g fiber.standing l ≡ strike_told duty g false l
  has_gone_on nodes thrown stand other None same fiber ended = goes_on_ended fiber.standing ended
  has_gone_on nodes thrown None other (Some f) same fiber is = absurd (none-some _ same)
  has_gone_on nodes thrown (Some s) other (Some f) same fiber is =
      ap (λ st. own_strike duty g st l) (is.standing ∙ sym (same_Some _ _ same)) ∙ goes_on_kept thrown s (λ e. other (ap Some e))

-- ## The moves

module _ (maker g : ℕ) (now : KeptDomain) (number : ℕ) (numbered : number ≡ now.number) where
  same_did : (l : DomainState) → l.number ≡ now.number → did.Strike l.number g ≡ did.Strike number g
  same_did l is = ap (λ n. did.Strike n g) (is ∙ sym numbered)

  -- it is lost
  pub loses : (thrown : ℕ → Raised) (stand : Option Standing) → stand ≢ Some standing.AwaitsCancel
      → option_map (standing_of thrown) stand ≡ option_map (λ (f : KeptFiber). f.standing) (kept_at now.fibers g)
      → Makes (own_duty (strike_by maker g)) now (record { fiber = maker; did = did.Strike number g; reply = said.Lost }) now
  loses thrown stand other same nodes = record {
    tells = λ texts l mirrors. tells_as _ _ _ (gone nodes texts l mirrors) (record { fiber = refl; did = same_did l mirrors.number; reply = refl });
    becomes = λ texts l mirrors. mirrors_as nodes texts now _ _ (gone nodes texts l mirrors) mirrors;
  }
    where
      gone : (nodes : List Node) (texts : List (List ℕ)) (l : DomainState) → Mirrors nodes texts now l
          → own_duty (strike_by maker g) l ≡ strike_told (strike_by maker g) g false l
      gone nodes texts l mirrors =
          has_gone_on (strike_by maker g) g l nodes thrown stand other (kept_at now.fibers g) same (fiber_at l.fibers g) (mirrors.fibers g)

  -- it is won
  module _ (f : KeptFiber) (there : kept_at now.fibers g ≡ Some f) (is : f.standing ≡ model.Parked model.ForCancel) (live : is_live now.contexts.made f.context ≡ true)
      (made : Member) (raised : HoldsOf now (λ l. made ≡ member (unwrap_or (off now.contexts.made f.context) Exit) l)) where
    abbrev next : model.Next
    next = model.GoesOn (outcome.Err (Cancelled made))

    abbrev told : Told
    told = record { fiber = maker; did = did.Strike number g; reply = said.Won }

    abbrev then : KeptDomain
    then = record now {
      fibers = changed_at g (λ fiber. record fiber { standing = model.Ready (model.GoesOn (outcome.Err (Cancelled made))) }) now.fibers;
      contexts = called (Unwait g) now.contexts;
      ready = now.ready ++ g ∷ [];
      serial = now.serial + 1;
    }

    module _ (nodes : List Node) (texts : List (List ℕ)) (l : DomainState) (mirrors : Mirrors nodes texts now l) where
      stands_so : (fiber_at l.fibers g).standing ≡ model.Parked model.ForCancel
      stands_so = (is_fiber nodes texts now l g f there mirrors).standing ∙ is

      struck : own_duty (strike_by maker g) l ≡ strike_told (strike_by maker g) g true l
      struck = ap (λ stand. own_strike (strike_by maker g) g stand l) stands_so

      same_made : made ≡ member (unwrap_or (off_for l g) Exit) l
      same_made = raised nodes texts l mirrors ∙ ap (λ (o : Option Plain). member (unwrap_or o Exit) l) (sym (off_is now g f there nodes texts l mirrors live))

      can : can_be_struck (fiber_at l.fibers g) ≡ true
      can = struck_as nodes texts now l g f there mirrors ∙ ap waits_so is

      stood : Mirrors nodes texts
          (record now { fibers = changed_at g (λ fiber. record fiber { standing = model.Ready (model.GoesOn (outcome.Err (Cancelled made))) }) now.fibers; contexts = called (Unwait g) now.contexts })
          (stands (model.Ready (model.GoesOn (outcome.Err (Cancelled made)))) g l)
      stood = stands_with nodes texts now l g f there mirrors (model.Ready (model.GoesOn (outcome.Err (Cancelled made)))) refl (called (Unwait g) now.contexts)
          (domains_in_step.woken now.contexts l g (model.GoesOn (outcome.Err (Cancelled made))) mirrors.contexts can).1

      counts : Mirrors nodes texts then (strike_told (strike_by maker g) g true l).state
      counts =
          subst (λ (m : Member). Mirrors nodes texts then (model.to_back (model.GoesOn (outcome.Err (Cancelled m))) g (record l { serial = l.serial + 1 }))) same_made
          (subst (λ (xs : List ℕ). Mirrors nodes texts (record then { ready = xs ++ g ∷ [] }) (model.to_back (model.GoesOn (outcome.Err (Cancelled made))) g (record l { serial = l.serial + 1 }))) mirrors.ready
          (subst (λ (n : ℕ). Mirrors nodes texts (record then { ready = l.ready ++ g ∷ []; serial = n + 1 }) (model.to_back (model.GoesOn (outcome.Err (Cancelled made))) g (record l { serial = l.serial + 1 }))) mirrors.serial
          (serial_mirrors nodes texts _ _ (ready_mirrors nodes texts _ _ stood (l.ready ++ g ∷ [])) (l.serial + 1))))

      tells : Tells (own_duty (strike_by maker g) l) told
      tells = tells_as _ _ told struck (record { fiber = refl; did = same_did l mirrors.number; reply = refl })

      becomes : Mirrors nodes texts then (own_duty (strike_by maker g) l).state
      becomes = mirrors_as nodes texts then _ _ struck counts

    pub wins : (mid : KeptDomain) → mid ≡ record now { serial = now.serial + 1 }
        → (fibers : List (Option KeptFiber)) → fibers ≡ changed_at g (λ fiber. record fiber { standing = model.Ready (model.GoesOn (outcome.Err (Cancelled made))) }) mid.fibers
        → (contexts : Contexts) → contexts ≡ called (Unwait g) mid.contexts → (ready : List ℕ) → ready ≡ mid.ready ++ g ∷ []
        → Makes (own_duty (strike_by maker g)) now (record { fiber = maker; did = did.Strike number g; reply = said.Won }) (record mid { fibers = fibers; contexts = contexts; ready = ready })
    wins mid same fibers fibers_are contexts contexts_are ready ready_is nodes = (
        let new_is : record mid { fibers = fibers; contexts = contexts; ready = ready } ≡ then =
        ap (λ (xs : List (Option KeptFiber)). record mid { fibers = xs; contexts = contexts; ready = ready }) fibers_are
        ∙ (ap₂ (λ (cs : Contexts) (rs : List ℕ). record mid {
          fibers = changed_at g (λ fiber. record fiber { standing = model.Ready (model.GoesOn (outcome.Err (Cancelled made))) }) mid.fibers;
          contexts = cs;
          ready = rs;
        }) contexts_are ready_is
        ∙ ap (λ (m : KeptDomain). record m {
          fibers = changed_at g (λ fiber. record fiber { standing = model.Ready (model.GoesOn (outcome.Err (Cancelled made))) }) m.fibers;
          contexts = called (Unwait g) m.contexts;
          ready = m.ready ++ g ∷ [];
        }) same) in
        subst (λ (k : KeptDomain). MakesUnder nodes (own_duty (strike_by maker g)) now told k) (sym new_is)
        (record { tells = tells nodes; becomes = becomes nodes }))
