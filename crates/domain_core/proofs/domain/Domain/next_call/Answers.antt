use Rattle.std.proofs.Common.{◌∙◌, ap, sym, subst}
use Rattle.std.specs.Prelude.{IsSome}
use Rattle.std.proofs.lemmas.Result.{on_ok_weaker}
use Rattle.eio_value.specs.declared.raised.Outcome.TheVariants as outcome
use Rattle.script_forms.specs.Flat.{nodes_of}
use Rattle.domain_core.specs.Keeping.{KeptDomain, kept_at}
use Rattle.domain_core.specs.Keyed.{standing_of}
use Rattle.domain_core.specs.Moving.{ComesTo}
use Rattle.domain_core.specs.Stepping.{Settles}
use Rattle.domain_core.proofs.Preparing.{not_again, head_there, head_live, head_new, head_texts, comes_again, comes_settled}
use Rattle.domain_core.proofs.domain.Domain.next_call.Goals as goal

pub at-requires : goal.at-requires
at-requires c =
    subst (λ (kept : KeptDomain). IsSome (kept_at kept.fibers c.args.fiber)) (sym c.self.view_is)
    (head_there c.args.script.now c.requires.runnable c.args.texts.now c.args.self.now c.args.fiber c.requires.owes c.requires.going c.requires.stands.0 c.requires.stands.1)

pub returns-in-Some-clause-bodies : goal.returns-in-Some-clause-bodies
returns-in-Some-clause-bodies c = c.made_again.ensures.bodies (nodes_of c.args.script.now)

pub came_to-requires-clause-live : goal.came_to-requires-clause-live
came_to-requires-clause-live c =
    head_live c.args.script.now c.requires.runnable c.args.texts.now c.args.self.now c.args.fiber c.requires.owes c.requires.going c.requires.stands.0 c.requires.stands.1

pub settle-requires-clause-came : goal.settle-requires-clause-came
settle-requires-clause-came c =
    head_texts c.args.script.now c.requires.runnable c.args.texts.now c.args.self.now c.args.fiber c.requires.owes c.requires.going c.requires.stands.0 c.requires.stands.1
    c.in-Ok.came _ c.in-Ok.ensures.came

pub came_to-requires-clause-ready : goal.came_to-requires-clause-ready
came_to-requires-clause-ready c = (
    let there = ap (λ (kept : KeptDomain). kept_at kept.fibers c.args.fiber) (sym c.self.view_is) ∙ c.at.ensures.1 in
    head_new c.args.script.now c.requires.runnable c.args.texts.now c.args.self.now c.args.fiber c.requires.owes c.requires.going c.requires.stands.0 c.requires.stands.1
    _ there (not_again c.at.ensures.0 c.at.result.now.standing c.in_default.ensures.none))

pub returns-in-Some-clause-calls : goal.returns-in-Some-clause-calls
returns-in-Some-clause-calls c l stands = (
    let there = ap (λ (kept : KeptDomain). kept_at kept.fibers c.args.fiber) (sym c.self.view_is) ∙ c.at.ensures.1 in
    comes_again c.args.script.now c.requires.runnable c.args.texts.now c.args.self.now c.args.fiber c.requires.owes c.requires.going l stands _ there
    c.made_again.result c.in-Some.again (ap (standing_of c.at.ensures.0) c.in-Some.ensures.some) (c.made_again.ensures.call (nodes_of c.args.script.now)))

pub returns-in-Ok-clause-calls : goal.returns-in-Ok-clause-calls
returns-in-Ok-clause-calls c = (
    let same = c.self-2.view_is ∙ c.in-Ok.ensures.kept in
    on_ok_weaker c.settle.result
    (λ settled l stands.
    subst (λ (kept : KeptDomain). ComesTo c.args.script.now c.settle.new.texts l c.args.fiber c.settle.new.ask kept)
    (sym (ap (λ (kept : KeptDomain). record kept { fibers = c.settle.new.self; serial = c.settle.new.serials }) same))
    (comes_settled c.args.script.now c.requires.runnable c.args.texts.now c.args.self.now c.args.fiber c.requires.owes c.requires.going l stands
    c.in-Ok.came c.came_to.new.self c.in-Ok.ensures.came c.settle.new.texts c.settle.new.serials c.settle.new.ask c.settle.new.self
    (subst (λ (kept : KeptDomain). Settles (nodes_of c.args.script.now) c.in-Ok.came c.args.fiber kept.fibers c.args.texts.now kept.serial c.settle.new.ask c.settle.new.self c.settle.new.texts c.settle.new.serials) same settled)))
    c.settle.ensures)

pub value_for-requires-clause-live : goal.value_for-requires-clause-live
value_for-requires-clause-live c =
    head_live c.args.script.now c.requires.runnable c.args.texts.now c.args.self.now c.args.fiber c.requires.owes c.requires.going c.requires.stands.0 c.requires.stands.1

pub value_for-requires-clause-ready : goal.value_for-requires-clause-ready
value_for-requires-clause-ready c = (
    let there = ap (λ (kept : KeptDomain). kept_at kept.fibers c.args.fiber) (sym c.self.view_is) ∙ c.at.ensures.1 in
    head_new c.args.script.now c.requires.runnable c.args.texts.now c.args.self.now c.args.fiber c.requires.owes c.requires.going c.requires.stands.0 c.requires.stands.1
    _ there (not_again c.at.ensures.0 c.at.result.now.standing c.in_default.ensures.none))

pub returns-in-Some-value_for-clause-calls : goal.returns-in-Some-value_for-clause-calls
returns-in-Some-value_for-clause-calls c = (
    on_ok_weaker c.settle_value.result
    (λ settled l stands.
    subst (λ (kept : KeptDomain). ComesTo c.args.script.now c.settle_value.new.texts l c.args.fiber c.settle_value.new.ask kept)
    (sym (ap (λ (kept : KeptDomain). record kept { fibers = c.settle_value.new.self; serial = c.settle_value.new.serials }) c.self.view_is))
    (comes_settled c.args.script.now c.requires.runnable c.args.texts.now c.args.self.now c.args.fiber c.requires.owes c.requires.going l stands
    (outcome.Ok c.in-Some-value_for.value) c.args.self.now c.in-Some-value_for.ensures c.settle_value.new.texts c.settle_value.new.serials c.settle_value.new.ask c.settle_value.new.self
    (subst (λ (kept : KeptDomain). Settles (nodes_of c.args.script.now) (outcome.Ok c.in-Some-value_for.value) c.args.fiber kept.fibers c.args.texts.now kept.serial c.settle_value.new.ask c.settle_value.new.self c.settle_value.new.texts c.settle_value.new.serials) c.self.view_is settled)))
    c.settle_value.ensures)
