use Rattle.std.proofs.Common.{◌≡◌, ◌∙◌, inl, inr, ℕ, List, [], ◌∷◌, length, Option, Some, ap, refl, sym, subst}
use Rattle.std.specs.Option.{option_map}
use Rattle.std.proofs.lemmas.List.{length-append}
use Rattle.spec_machine.specs.Domain as model
use Rattle.spec_machine.specs.SwitchMoves.{woken_if}
use Rattle.domain_core.specs.Answering.{Becomes}
use Rattle.domain_core.specs.Keeping.{KeptFiber, kept_at}
use Rattle.domain_core.specs.Keyed.{standing_of, call_of}
use Rattle.domain_core.proofs.Awaiting.{is_parked, parked_awake, parked_there, unwoken_becomes, wakes_becomes}
use Rattle.domain_core.proofs.domain.Domain.wake.Goals as goal
use Rattle.domain_core.proofs.domain.Domain.wake.Goals.{In-Parked}

found : (c : In-Parked) → (f : KeptFiber) × (kept_at c.self.inside.fibers c.in-Some.fiber ≡ Some f) × (f.standing ≡ model.Parked (model.ForOthers (call_of c.in-Parked.again)))
found c = parked_there (kept_at c.self.inside.fibers c.in-Some.fiber) c.standing.ensures.0 c.in-Parked.again
    (ap (λ (s : Option _). option_map (standing_of c.standing.ensures.0) s) (sym (c.in-Some-standing.is ∙ ap Some c.in-Parked.is)) ∙ c.standing.ensures.1)

pub to_back-requires-clause-awake : goal.to_back-requires-clause-awake
to_back-requires-clause-awake c = (
    let it = found (goal.at.to_back-requires-clause-awake c).In-Parked in
    parked_awake _ c.args.self.now c.self.view_is c.in-Some.fiber it.0 it.1 (call_of c.in-Parked.again) it.2)

pub returns-in-Parked-clause-becomes : goal.returns-in-Parked-clause-becomes
returns-in-Parked-clause-becomes c = (
    let it = found (goal.at.returns-in-Parked-clause-becomes c).In-Parked in
    subst (λ (who : Option ℕ). Becomes (woken_if who) c.args.self.now c.to_back.new.self) (sym c.in-Some.is)
    (wakes_becomes _ c.args.self.now c.self.view_is c.in-Some.fiber it.0 it.1 (call_of c.in-Parked.again) it.2 c.to_back.new.self c.to_back.ensures.becomes))

pub returns-in-Parked-clause-ready : goal.returns-in-Parked-clause-ready
returns-in-Parked-clause-ready c = (
    let it = found (goal.at.returns-in-Parked-clause-ready c).In-Parked in
    inr (
      c.in-Some.fiber,
      is_parked _ c.args.self.now c.self.view_is c.in-Some.fiber it.0 it.1 (call_of c.in-Parked.again) it.2,
      ap (λ (xs : List ℕ). length xs) c.to_back.ensures.ready ∙ length-append c.args.self.now.ready (c.in-Some.fiber ∷ []),
    ))

pub returns-in_default-standing-2 : goal.returns-in_default-standing-2
returns-in_default-standing-2 c = record {
  becomes = subst (λ (who : Option ℕ). Becomes (woken_if who) c.args.self.now c.args.self.now) (sym c.in-Some.is)
      (unwoken_becomes _ c.args.self.now c.self.view_is c.in-Some.fiber c.standing.result c.in-Some-standing.standing c.standing.ensures.0 c.in-Some-standing.is c.standing.ensures.1
      c.in_default-standing-2.not-Parked);
  awake = λ g awake. awake;
  ready = inl refl;
  contexts = refl;
  groups = refl;
  same = record { number = refl; stamp = refl; lines = refl; budget = refl; mocked = refl };
}
