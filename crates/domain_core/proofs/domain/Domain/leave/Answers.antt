use Rattle.std.proofs.Common.{ℕ, List}
use Rattle.std.proofs.lemmas.Result.{on_ok_weaker}
use Rattle.eio_value.specs.declared.plain.Misuse.TheVariants.{SwitchFinished}
use Rattle.eio_value.specs.declared.plain.Plain.TheVariants.{Invalid}
use Rattle.eio_value.specs.declared.raised.Outcome.TheVariants as outcome
use Rattle.eio_value.specs.declared.value.Value.{Value}
use Rattle.eio_value.specs.declared.value.Value.TheVariants as value
use Rattle.script_forms.specs.Flat.{nodes_of}
use Rattle.script_forms.specs.declared.node.Node.{Node}
use Rattle.trace_lines.specs.declared.line.Did.TheVariants as did
use Rattle.trace_lines.specs.declared.line.Said2.TheVariants as said
use Rattle.spec_machine.specs.ContextMoves.{leaves, left_with}
use Rattle.spec_machine.specs.Domain.{DomainState, GoesOn, to_head}
use Rattle.spec_machine.specs.Moves.{own_call}
use Rattle.spec_machine.specs.Steps.{raises, raises_again, told}
use Rattle.domain_core.proofs.Composing.{makes_after, makes_as, makes_told}
use Rattle.domain_core.proofs.Scopes.{leaves_late, leaves_with_err, leaves_with_ok}
use Rattle.domain_core.proofs.domain.Domain.leave.Goals as goal

pub returns-in-Err-clause-answers : goal.returns-in-Err-clause-answers
unfolding own_call
returns-in-Err-clause-answers c = on_ok_weaker c.raise_again.result (λ makes script. (
    let nodes : List Node = nodes_of script in
    makes_after nodes (leaves c.args.context c.args.fiber) (left_with c.args.context c.args.late c.args.outcome c.args.fiber) _ c.leave_context.new.self _ _ (c.leave_context.ensures.becomes nodes)
    (makes_as nodes _ (raises_again (did.Leave c.args.context) c.in-Err.raised c.args.fiber) _ _ _
    (λ texts l mirrors. leaves_with_err c.args.context c.args.late c.args.outcome c.in-Err.raised c.args.fiber l c.in-Err.is)
    (makes nodes)))) c.raise_again.ensures.makes

pub returns-in-Ok-clause-answers : goal.returns-in-Ok-clause-answers
unfolding own_call
returns-in-Ok-clause-answers c = on_ok_weaker c.raise.result (λ makes script. (
    let nodes : List Node = nodes_of script in
    makes_after nodes (leaves c.args.context c.args.fiber) (left_with c.args.context c.args.late c.args.outcome c.args.fiber) _ c.leave_context.new.self _ _ (c.leave_context.ensures.becomes nodes)
    (makes_as nodes _ (raises (did.Leave c.args.context) (Invalid SwitchFinished) c.args.fiber) _ _ _
    (λ texts l mirrors. leaves_late c.args.context c.args.late c.args.outcome c.in-Ok.field-0 c.args.fiber l c.in-Ok.is c.if-late.true)
    (makes nodes)))) c.raise.ensures.makes

pub returns-in-Ok-2-clause-answers : goal.returns-in-Ok-2-clause-answers
unfolding own_call
returns-in-Ok-2-clause-answers c script = (
    let nodes : List Node = nodes_of script in
    let g : ℕ = c.args.fiber in
    let given : Value = c.in-Ok-2.value in
    makes_after nodes (leaves c.args.context g) (left_with c.args.context c.args.late c.args.outcome g) _ c.leave_context.new.self _ _ (c.leave_context.ensures.becomes nodes)
    (makes_as nodes _ (λ (l : DomainState). told g (did.Leave c.args.context) (said.Done value.Unit) (to_head (GoesOn (outcome.Ok given)) g l)) _ _ _
    (λ texts l mirrors. leaves_with_ok c.args.context c.args.late c.args.outcome given g l c.in-Ok-2.is c.if-late.false)
    (makes_told nodes (to_head (GoesOn (outcome.Ok given)) g) g (did.Leave c.args.context) (said.Done value.Unit) _ _ (c.to_head.ensures.becomes nodes))))
