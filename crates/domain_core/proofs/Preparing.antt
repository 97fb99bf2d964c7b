-- The fiber that stood first in the ready list has come to its next call, on both sides.
use Rattle.std.proofs.Common.{◌≡◌, ◌≢◌, ℕ, zero, suc, true, false, List, [], ◌∷◌, slice_set, Option, Some, None, refl, ap, ap₂, ◌∙◌, sym, subst, true≢false}
use Rattle.std.specs.Prelude.{IsSome}
use Rattle.eio_value.specs.declared.plain.Member.{Member}
use Rattle.eio_value.specs.declared.raised.Outcome.{Outcome}
use Rattle.eio_value.specs.declared.raised.Outcome.TheVariants as outcome
use Rattle.eio_value.specs.declared.raised.Raised.{Raised}
use Rattle.eio_value.specs.declared.value.Value.{Value}
use Rattle.fiber_step.specs.declared.ask.Ask.{Ask}
use Rattle.fiber_step.specs.Settling.{HasTextsOfOutcome}
use Rattle.fiber_step.specs.Standing.{ask_of, works_of}
use Rattle.spec_parts.specs.Contexts.{is_live}
use Rattle.script_forms.specs.Flat.{nodes_of}
use Rattle.script_forms.specs.declared.node.Node.{Node}
use Rattle.spec_script.specs.Opening.{opening_texts}
use Rattle.spec_script.specs.Scripts.{Script}
use Rattle.spec_fiber.specs.Asks.{Ask as Called}
use Rattle.spec_fiber.specs.Replies.{passed}
use Rattle.spec_fiber.specs.Settling.{Settled}
use Rattle.spec_fiber.specs.Work.{Work, Carry}
use Rattle.spec_machine.specs.Domain as model
use Rattle.spec_machine.specs.Domain.{Fiber, DomainState, never_made, fiber_at, has_ended, off_for}
use Rattle.spec_machine.specs.Preparing.{Prepared, Calls, prepared, next_call, next_of, carry_of, called_by}
use Rattle.law_domain.specs.Sound.Conditions.{Calls as CallsSo}
use Rattle.law_fiber.specs.Texts.Laws.{HasFailureTexts}
use Rattle.law_fiber.specs.Texts.Texts.{IsHeldOutcome, known_in}
use Rattle.law_domain.proofs.Texts.Moving.{known_have_texts}
use Rattle.domain_strikes.specs.Waiting.WhoWaits.{WaitsAlike, contexts_of}
use Rattle.domain_strikes.proofs.Waiting.Alike.{contexts_in_step}
use Rattle.law_domain.specs.Well.WellStates.{CallsWell, IsRunnable, StandsWell}
use Rattle.law_domain.proofs.Well.Standing.{moves_call_well}
use Rattle.domain_core.specs.declared.standing.Again.{Again}
use Rattle.domain_core.specs.declared.standing.Next.TheVariants as next
use Rattle.domain_core.specs.declared.standing.Standing.{Standing}
use Rattle.domain_core.specs.declared.standing.Standing.TheVariants as standing
use Rattle.domain_core.specs.Conditions.{RunsInLive}
use Rattle.domain_core.specs.Keeping.{KeptFiber, KeptDomain, kept_at}
use Rattle.domain_core.specs.Mirrors.{IsFiber, IsKept, Mirrors}
use Rattle.domain_core.specs.Keyed.{call_of, standing_of}
use Rattle.domain_core.specs.Moving.{with_head, ComesTo, GoesOnWith, IsReady}
use Rattle.domain_core.specs.Stepping.{IsPlacedAt, Settles}
use Rattle.domain_core.specs.Turns.{StandsFor}
use Rattle.domain_core.proofs.ByNumber.{at}
use Rattle.domain_core.proofs.Mirroring.{is_fiber, is_there, ready_mirrors, told_mirrors, changed_mirrors}

-- ## How it stands

same_next : (n m : model.Next) → model.Ready n ≡ model.Ready m → n ≡ m
same_next n m e = cc

-- one that makes no call again as it is kept, makes none
pub not_again : (thrown : ℕ → Raised) (stands : Standing) → ((again : Again) → stands ≢ standing.Ready (next.CallsAgain again))
    → (call : Called) → standing_of thrown stands ≢ model.Ready (model.CallsAgain call)
not_again thrown (standing.Ready (next.GoesOn it)) other call is = (let e : model.Ready (model.GoesOn (outcome.Ok it)) ≡ model.Ready (model.CallsAgain call) = is in cc)
not_again thrown (standing.Ready next.LooksUp) other call is = (let e : model.Ready model.LooksUp ≡ model.Ready (model.CallsAgain call) = is in cc)
not_again thrown (standing.Ready next.FindsOff) other call is = (let e : model.Ready model.FindsOff ≡ model.Ready (model.CallsAgain call) = is in cc)
not_again thrown (standing.Ready (next.CallsAgain again)) other call is = other again refl
not_again thrown (standing.Throws key) other call is = (let e : model.Ready (model.GoesOn (outcome.Err (thrown key))) ≡ model.Ready (model.CallsAgain call) = is in cc)
not_again thrown (standing.Parked it) other call is = (let e : model.Parked (model.ForOthers (call_of it)) ≡ model.Ready (model.CallsAgain call) = is in cc)
not_again thrown standing.AwaitsCancel other call is = (let e : model.Parked model.ForCancel ≡ model.Ready (model.CallsAgain call) = is in cc)

-- what stands at its place put there again
set_same : {X : Type 0} (otherwise : X) (xs : List X) (n : ℕ) → slice_set xs n (at otherwise xs n) ≡ xs
set_same otherwise [] n = refl
set_same otherwise (x ∷ xs) zero = refl
set_same otherwise (x ∷ xs) (suc n) = ap (λ ys. x ∷ ys) (set_same otherwise xs n)

-- a fiber that lives is kept
kept_by : (nodes : List Node) (g : ℕ) (found : Option KeptFiber) (fiber : Fiber) → IsKept nodes g found fiber → has_ended fiber ≡ false → (f : KeptFiber) × (found ≡ Some f)
kept_by nodes g None fiber is lives = absurd (true≢false (sym is ∙ lives))
kept_by nodes g (Some f) fiber is lives = (f, refl)

-- the texts of what is known stand in the table with which the script starts
texts_of : (script : Script) (came : Outcome) → HasFailureTexts script → IsHeldOutcome (known_in script) came → HasTextsOfOutcome (opening_texts script) came
texts_of script (outcome.Ok it) has held = tt
texts_of script (outcome.Err raised) has held = known_have_texts.raises script raised has held

-- ## The move

module _ (script : Script) (runnable : IsRunnable script) (texts : List (List ℕ)) (old : KeptDomain) (g : ℕ) (owes : old.owed ≡ []) (going : old.halted ≡ false)
    (l : DomainState) (stands : StandsFor script texts (with_head g old) l) where
  pub well : StandsWell script l
  well = stands.well (stands.mirrors.halted ∙ going)

  pub calls_well : CallsWell script l g old.ready
  calls_well = moves_call_well script l g old.ready runnable well (stands.mirrors.duties ∙ owes) stands.mirrors.ready

  pub prior : CallsSo l g old.ready
  prior = calls_well.calls

  mirrors : Mirrors (nodes_of script) texts old (record l { ready = old.ready })
  mirrors = ready_mirrors (nodes_of script) texts (with_head g old) l stands.mirrors old.ready

  head : (f : KeptFiber) × (kept_at old.fibers g ≡ Some f)
  head = kept_by (nodes_of script) g (kept_at old.fibers g) (fiber_at l.fibers g) (mirrors.fibers g) prior.lives

  pub head_there : IsSome (kept_at old.fibers g)
  head_there = is_there (kept_at old.fibers g) head.0 head.1

  fiber_is : (f : KeptFiber) → kept_at old.fibers g ≡ Some f → IsFiber (nodes_of script) g f (fiber_at l.fibers g)
  fiber_is f there = is_fiber (nodes_of script) texts old (record l { ready = old.ready }) g f there mirrors

  pub head_placed : IsPlacedAt (nodes_of script) g old.fibers
  head_placed f there = (fiber_is f there).placed

  pub head_live : RunsInLive old g
  head_live f there =
      (contexts_in_step.alike old.contexts (contexts_of l) mirrors.contexts).live f.context
      ∙ subst (λ (c : ℕ). is_live l.contexts c ≡ true) (fiber_is f there).context prior.live

  head_ready : (f : KeptFiber) → kept_at old.fibers g ≡ Some f → f.standing ≡ model.Ready prior.next
  head_ready f there = sym (fiber_is f there).standing ∙ prior.stands

  -- it doesn't make its call again
  pub head_new : (f : KeptFiber) → kept_at old.fibers g ≡ Some f → ((call : Called) → f.standing ≢ model.Ready (model.CallsAgain call)) → IsReady old g
  head_new f there other = record {
    fiber = f;
    there = there;
    next = prior.next;
    stands = head_ready f there;
    new = λ call is. other call (head_ready f there ∙ ap (λ n. model.Ready n) is);
  }

  -- the texts of what comes to it stand in the table
  pub head_texts : (came : Outcome) (new : KeptDomain) → GoesOnWith g came old new → HasTextsOfOutcome texts came
  head_texts came new goes =
      subst (λ ts. HasTextsOfOutcome ts came) (sym well.texted.table ∙ stands.mirrors.texts)
      (texts_of script came runnable.texts.failures (goes.known (nodes_of script) texts (record l { ready = old.ready }) mirrors script well.texted))

  -- it makes its call again
  pub comes_again : (f : KeptFiber) (there : kept_at old.fibers g ≡ Some f) (call : Ask) (again : Again) → f.standing ≡ model.Ready (model.CallsAgain (call_of again))
      → ask_of (nodes_of script) call ≡ call_of again → ComesTo script texts l g call old
  comes_again f there call again is same_call = (
      let fiber : Fiber = fiber_at l.fibers g in
      let settled : Settled = record { call = call_of again; behind = fiber.work; carry = carry_of fiber l } in
      let which : prior.next ≡ model.CallsAgain (call_of again) = same_next prior.next _ (sym (head_ready f there) ∙ is) in
      let settles : prior.settled ≡ settled = prior.settles ∙ ap (λ n. next_call n (off_for l g) fiber (carry_of fiber l)) which in
      let prepares : prepared l ≡ called_by g fiber settled (record l { ready = old.ready }) =
      prior.prepares ∙ ap (λ (s : Settled). called_by g fiber s (record l { ready = old.ready })) settles in
      let same : slice_set l.fibers g fiber ≡ l.fibers = set_same never_made l.fibers g in
      record {
        calls = ap (λ (p : Prepared). p.doing) prepares ∙ ap (λ it. Calls g it) (sym same_call);
        mirrors = subst (λ (p : Prepared). Mirrors (nodes_of script) texts old p.state) (sym prepares)
            (subst (λ (xs : List Fiber). Mirrors (nodes_of script) texts old (record l { ready = old.ready; fibers = xs })) (sym same) mirrors);
      })

  -- it has run its silent statements
  module _ (came : Outcome) (mid : KeptDomain) (goes : GoesOnWith g came old mid) (new_texts : List (List ℕ)) (serial : ℕ) (call : Ask) (fibers : List (Option KeptFiber))
      (it : Settles (nodes_of script) came g old.fibers texts mid.serial call fibers new_texts serial) where
    was : IsFiber (nodes_of script) g it.reframes.fiber (fiber_at l.fibers g)
    was = fiber_is it.reframes.fiber it.reframes.there

    others : List Member
    others = (it.settles goes.made).0

    abbrev settled : Settled
    settled = record {
      call = ask_of (nodes_of script) call;
      behind = works_of (nodes_of script) it.reframes.frames.items;
      carry = record { variables = it.reframes.frames.variables; texts = new_texts; serial = serial; raises = (it.settles goes.made).0 };
    }

    carried_is : ◌≡◌ {A = Carry} (record { variables = (fiber_at l.fibers g).variables; texts = l.texts; serial = mid.serial; raises = goes.made })
        (record { variables = it.reframes.fiber.frames.variables; texts = texts; serial = mid.serial; raises = goes.made })
    carried_is = ap₂ (λ (vs : List Value) (ts : List (List ℕ)). record { variables = vs; texts = ts; serial = mid.serial; raises = goes.made }) was.variables stands.mirrors.texts

    settles : prior.settled ≡ settled
    settles =
        prior.settles
        ∙ (ap (λ n. next_call n (off_for l g) (fiber_at l.fibers g) (carry_of (fiber_at l.fibers g) l)) (ap next_of (sym prior.stands))
        ∙ (goes.settles (nodes_of script) texts (record l { ready = old.ready }) mirrors (fiber_at l.fibers g) (carry_of (fiber_at l.fibers g) l) refl
        ∙ (ap₂ (λ (work : List Work) (c : Carry). passed came work c) was.work carried_is
        ∙ (it.settles goes.made).1)))

    prepares : prepared l ≡ called_by g (fiber_at l.fibers g) settled (record l { ready = old.ready })
    prepares = prior.prepares ∙ ap (λ (s : Settled). called_by g (fiber_at l.fibers g) s (record l { ready = old.ready })) settles

    fiber_then : IsFiber (nodes_of script) g (record (it.reframes.fiber) { frames = it.reframes.frames })
        (record (fiber_at l.fibers g) { work = works_of (nodes_of script) it.reframes.frames.items; variables = it.reframes.frames.variables })
    fiber_then = record {
      number = was.number;
      context = was.context;
      role = was.role;
      standing = was.standing;
      lives = was.lives;
      work = refl;
      variables = refl;
      placed = it.placed;
    }

    same_waits : WaitsAlike (fiber_at l.fibers g) (record (fiber_at l.fibers g) { work = works_of (nodes_of script) it.reframes.frames.items; variables = it.reframes.frames.variables })
    same_waits = record { strikes = refl; context = λ can. refl }

    pub comes_settled : ComesTo script new_texts l g call (record old { fibers = fibers; serial = serial })
    comes_settled = record {
      calls = ap (λ (p : Prepared). p.doing) prepares;
      mirrors = subst (λ (p : Prepared). Mirrors (nodes_of script) new_texts (record old { fibers = fibers; serial = serial }) p.state) (sym prepares)
          (subst (λ (xs : List (Option KeptFiber)). Mirrors (nodes_of script) new_texts (record old { fibers = xs; serial = serial }) (called_by g (fiber_at l.fibers g) settled (record l { ready = old.ready })).state) (sym it.reframes.is)
          (told_mirrors (nodes_of script) texts _ _
          (changed_mirrors (nodes_of script) texts old (record l { ready = old.ready }) g it.reframes.fiber it.reframes.there mirrors (λ x. record x { frames = it.reframes.frames }) _ fiber_then same_waits)
          new_texts serial));
    }
