use Rattle.std.proofs.Common.{◌≡◌, ◌∙◌, ap, sym, subst, refl, ℕ, ◌<◌, false, List, [], ◌∷◌, Option, None}
use Rattle.eio_value.specs.declared.message.Message.{Message}
use Rattle.spec_machine.specs.Domain.{Duty}
use Rattle.spec_machine.specs.Steps.{strike_by}
use Rattle.spec_parts.specs.ReadyList.{pop}
use Rattle.script_forms.specs.Flat.{nodes_of}
use Rattle.domain_core.specs.Answering.{SameCounts}
use Rattle.domain_core.specs.Keeping.{KeptDomain}
use Rattle.domain_core.specs.Mirrors.{Mirrors}
use Rattle.domain_core.specs.Turns as turns
use Rattle.domain_core.specs.Turns.{StandsFor}
use Rattle.domain_core.proofs.StrikingMoves.{may_strike, strike_moves}
use Rattle.domain_core.proofs.Turning.{again, no_message, rests, none_popped, one_popped, made_turn}
use Rattle.domain_core.proofs.domain.Domain.turn_told.Goals as goal

pub strike-requires : goal.strike-requires
strike-requires g c = (
    let stands : StandsFor c.args.script.now c.args.texts.now c.args.self.now c.requires.stands.0 = c.requires.stands.1 in
    let going : c.args.self.now.halted ≡ false = ap (λ (k : KeptDomain). k.halted) (sym c.self.view_is) ∙ c.if-self.false in
    record {
      may = may_strike c.args.script.now c.args.texts.now _ c.requires.stands.0
          (subst (λ (k : KeptDomain). Mirrors (nodes_of c.args.script.now) c.args.texts.now k c.requires.stands.0) (sym c.self.view_is) stands.mirrors)
          (stands.well (stands.mirrors.halted ∙ going)).sound c.in-Some.strike.maker c.in-Some.strike.fiber c.pop.new.self c.in-Some.ensures.some;
    })

pub returns-in-Some-clause-turns : goal.returns-in-Some-clause-turns
returns-in-Some-clause-turns g c = (
    let going : c.args.self.now.halted ≡ false = ap (λ (k : KeptDomain). k.halted) (sym c.self.view_is) ∙ c.if-self.false in
    let owed : c.args.self.now.owed ≡ strike_by c.in-Some.strike.maker c.in-Some.strike.fiber ∷ c.pop.new.self = ap (λ (k : KeptDomain). k.owed) (sym c.self.view_is) ∙ c.in-Some.ensures.some in
    let counts = c.in_ok-strike.ensures.same in
    let same : SameCounts c.args.self.now c.strike.new.self = record {
      number = counts.number ∙ ap (λ (k : KeptDomain). k.number) c.self.view_is;
      stamp = counts.stamp ∙ ap (λ (k : KeptDomain). k.stamp) c.self.view_is;
      lines = counts.lines ∙ ap (λ (k : KeptDomain). k.lines) c.self.view_is;
      budget = counts.budget ∙ ap (λ (k : KeptDomain). k.budget) c.self.view_is;
      mocked = counts.mocked ∙ ap (λ (k : KeptDomain). k.mocked) c.self.view_is;
    } in
    made_turn g.O.Objects.calls g.O.Objects.strikes g.O.Objects.receives g.O.Extras.extras g.O.Extras.learns c.args.script.now c.requires.runnable c.args.texts.now c.args.texts.now c.args.self.now
    c.strike.new.told c.strike.new.self
    (λ l stands. strike_moves c.args.script.now c.args.texts.now _ l
    (subst (λ (k : KeptDomain). Mirrors (nodes_of c.args.script.now) c.args.texts.now k l) (sym c.self.view_is) stands.mirrors)
    (stands.well (stands.mirrors.halted ∙ going)).sound c.in-Some.strike.maker c.in-Some.strike.fiber c.pop.new.self c.in-Some.ensures.some
    c.strike.new.told c.strike.new.self c.in_ok-strike.ensures.makes)
    same going c.args.objects.now c.args.objects.now
    (subst (λ (duties : List Duty). turns.Looked g.O.Objects.calls g.O.Objects.strikes g.O.Objects.receives g.O.Extras.extras g.O.Extras.learns duties c.args.objects.now c.args.objects.now) (sym owed) refl)
    c.next_stamp.result c.next_stamp.new.self (subst (λ (k : KeptDomain). k.lines < k.budget) c.self.view_is c.if-self-2.false) refl c.next_stamp.ensures.stamp c.next_stamp.ensures.counts)

pub returns-in-Some-clause-stands : goal.returns-in-Some-clause-stands
returns-in-Some-clause-stands g c = (let then = (returns-in-Some-clause-turns g c).5 c.requires.stands.0 c.requires.stands.1 in (then.0, then.1))

pub returns-in_default-pop-clause-turns : goal.returns-in_default-pop-clause-turns
returns-in_default-pop-clause-turns g c = (
    let none : c.receive.result ≡ None = no_message _ _ c.receive.result c.receive.ensures.waited c.receive.ensures.fits c.requires.objects.waits c.requires.objects.submits in
    let going : c.args.self.now.halted ≡ false = ap (λ (k : KeptDomain). k.halted) (sym c.self.view_is) ∙ c.if-self.false in
    let owed : c.args.self.now.owed ≡ [] = ap (λ (k : KeptDomain). k.owed) (sym c.self.view_is) ∙ c.in_default.ensures.none in
    let empty : c.self.inside.ready.fibers ≡ [] = none_popped c.self.inside.ready.fibers (sym c.pop-2.ensures.fiber ∙ c.in_default-pop.is) in
    let stays : c.pop-2.new.self.fibers ≡ c.self.inside.ready.fibers = ap (λ r. r.fibers) c.pop-2.ensures.others ∙ (ap (λ (xs : List ℕ). (pop xs).others) empty ∙ sym empty) in
    let owes : c.pop.new.self ≡ c.self.inside.owed = c.in_default.ensures.still ∙ sym c.in_default.ensures.none in (
      (going, subst (λ (k : KeptDomain). k.lines < k.budget) c.self.view_is c.if-self-2.false),
      (refl, again _ _ c.self.view_is c.pop.new.self c.pop-2.new.self.fibers owes stays),
      subst (λ (m : Option Message). g.O.Objects.receives c.args.objects.now m c.receive.new.self) none c.receive.ensures.does,
      λ l stands. (
        stands.mirrors.duties ∙ owed,
        rests l (stands.well (stands.mirrors.halted ∙ going)).sound (stands.mirrors.duties ∙ owed) (stands.mirrors.ready ∙ (ap (λ (k : KeptDomain). k.ready) (sym c.self.view_is) ∙ empty)),
      ),
    ))

pub returns-clause-turns : goal.returns-clause-turns
returns-clause-turns g c = (
    let none : c.receive.result ≡ None = no_message _ _ c.receive.result c.receive.ensures.waited c.receive.ensures.fits c.requires.objects.waits c.requires.objects.submits in
    let going : c.args.self.now.halted ≡ false = ap (λ (k : KeptDomain). k.halted) (sym c.self.view_is) ∙ c.if-self.false in
    let owed : c.args.self.now.owed ≡ [] = ap (λ (k : KeptDomain). k.owed) (sym c.self.view_is) ∙ c.in_default.ensures.none in
    let first = one_popped c.self.inside.ready.fibers c.in-Some-pop.fiber (sym c.pop-2.ensures.fiber ∙ c.in-Some-pop.is) in
    let stood : c.in-Some-pop.fiber ∷ c.pop-2.new.self.fibers ≡ c.self.inside.ready.fibers = ap (λ r. c.in-Some-pop.fiber ∷ r.fibers) c.pop-2.ensures.others ∙ sym first in
    let owes : c.pop.new.self ≡ c.self.inside.owed = c.in_default.ensures.still ∙ sym c.in_default.ensures.none in
    let counts = c.in_ok-move_of.ensures.same in
    let same : SameCounts c.args.self.now c.move_of.new.self = record {
      number = counts.number ∙ ap (λ (k : KeptDomain). k.number) c.self.view_is;
      stamp = counts.stamp ∙ ap (λ (k : KeptDomain). k.stamp) c.self.view_is;
      lines = counts.lines ∙ ap (λ (k : KeptDomain). k.lines) c.self.view_is;
      budget = counts.budget ∙ ap (λ (k : KeptDomain). k.budget) c.self.view_is;
      mocked = counts.mocked ∙ ap (λ (k : KeptDomain). k.mocked) c.self.view_is;
    } in
    made_turn g.O.Objects.calls g.O.Objects.strikes g.O.Objects.receives g.O.Extras.extras g.O.Extras.learns c.args.script.now c.requires.runnable c.args.texts.now c.move_of.new.texts c.args.self.now
    c.move_of.new.told c.move_of.new.self
    (λ l stands. c.in_ok-move_of.ensures.moves l
    (subst (λ (k : KeptDomain). StandsFor c.args.script.now c.args.texts.now k l)
    (sym (again _ _ c.self.view_is c.pop.new.self (c.in-Some-pop.fiber ∷ c.pop-2.new.self.fibers) owes stood)) stands))
    same going c.args.objects.now c.receive.new.self
    (subst (λ (duties : List Duty). turns.Looked g.O.Objects.calls g.O.Objects.strikes g.O.Objects.receives g.O.Extras.extras g.O.Extras.learns duties c.args.objects.now c.receive.new.self) (sym owed)
    (subst (λ (m : Option Message). g.O.Objects.receives c.args.objects.now m c.receive.new.self) none c.receive.ensures.does))
    c.next_stamp-2.result c.next_stamp-2.new.self (subst (λ (k : KeptDomain). k.lines < k.budget) c.self.view_is c.if-self-2.false) c.in_ok-move_of.ensures.texts
    c.next_stamp-2.ensures.stamp c.next_stamp-2.ensures.counts)

pub returns-clause-stands : goal.returns-clause-stands
returns-clause-stands g c = (let then = (returns-clause-turns g c).5 c.requires.stands.0 c.requires.stands.1 in (then.0, then.1))
