use Rattle.std.proofs.Common.{◌∙◌, sym, subst}
use Rattle.spec_machine.specs.Domain.{ForCancel, Parked, stands}
use Rattle.spec_machine.specs.Moves.{own_call}
use Rattle.spec_machine.specs.Steps.{goes_off, waits}
use Rattle.script_forms.specs.Flat.{nodes_of}
use Rattle.trace_lines.specs.declared.line.Did.TheVariants as did
use Rattle.trace_lines.specs.declared.line.Said2.TheVariants as said
use Rattle.domain_core.specs.Conditions.{RunsInLive}
use Rattle.domain_core.proofs.Awaiting.{awaits_becomes, off_waits, on_waits}
use Rattle.domain_core.proofs.Composing.{makes_as, makes_told}
use Rattle.domain_core.proofs.domain.Domain.await_cancel.Goals as goal

pub returns-then-is_some-clause-answers : goal.returns-then-is_some-clause-answers
unfolding own_call
returns-then-is_some-clause-answers c script =
    makes_as (nodes_of script) _ (goes_off did.AwaitCancel c.args.fiber) _ _ _
    (λ texts l mirrors. off_waits did.AwaitCancel ForCancel c.args.fiber l c.off_for.result (sym c.is_some.ensures ∙ c.if-is_some.true) (c.off_for.ensures (nodes_of script) texts l mirrors))
    (c.go_off.ensures.makes (nodes_of script))

pub wait-requires-clause-live : goal.wait-requires-clause-live
wait-requires-clause-live c = subst (λ kept. RunsInLive kept c.args.fiber) (sym c.self.view_is) c.requires.can.live _ c.at.ensures.1

pub returns-clause-answers : goal.returns-clause-answers
unfolding own_call
returns-clause-answers c script =
    makes_as (nodes_of script) _ (waits did.AwaitCancel ForCancel c.args.fiber) _ _ _
    (λ texts l mirrors. on_waits did.AwaitCancel ForCancel c.args.fiber l c.off_for.result (sym c.is_some.ensures ∙ c.if-is_some.false) (c.off_for.ensures (nodes_of script) texts l mirrors))
    (makes_told (nodes_of script) (stands (Parked ForCancel) c.args.fiber) c.args.fiber did.AwaitCancel said.Waits _ _
    (awaits_becomes _ c.args.self.now c.self.view_is c.args.fiber c.requires.can.awake _ c.at.ensures.1
    (subst (λ kept. RunsInLive kept c.args.fiber) (sym c.self.view_is) c.requires.can.live _ c.at.ensures.1)
    c.wait.new.self c.stand.new.self c.wait.ensures c.stand.ensures (nodes_of script)))
