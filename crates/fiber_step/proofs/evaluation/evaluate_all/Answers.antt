use Rattle.std.proofs.Common.{rules, ◌≡◌, ◌<◌, ◌-◌, Err, arith, ap, ◌∙◌, sym, subst}
use Rattle.script_forms.specs.Flat.{nodes_of}
use Rattle.fiber_step.specs.Evaluating.{operand_values}
use Rattle.fiber_step.proofs.Traced.{IsTraced, one_had, one_raises}
use Rattle.fiber_step.proofs.evaluation.evaluate_all.Goals as goal

pub returns-in_err-operand-clause-values : goal.returns-in_err-operand-clause-values
returns-in_err-operand-clause-values c =
    let is : c.from_residual.result ≡ Err c.in_err-operand.field-0.0 = search rules in
    let some : 0 < c.loop-left.left = omega arith in
    ap operand_values is
    ∙ one_raises (nodes_of c.args.script.now) c.args.variables.now c.args.count c.args.number c.loop-left.values c.loop-left.left c.loop-left.behind _ some c.loop-left.invariant c.in_err-operand.ensures.value

pub loop-left-preserved : goal.loop-left-preserved
loop-left-preserved c =
    let some : 0 < c.loop-left.left = omega arith in
    subst (λ values. IsTraced (nodes_of c.args.script.now) c.args.variables.now c.args.count c.args.number values (c.loop-left.left - 1) c.in_ok-operand.operand.behind) (sym c.with-values.ensures)
    (one_had (nodes_of c.args.script.now) c.args.variables.now c.args.count c.args.number c.loop-left.values c.loop-left.left c.loop-left.behind c.in_ok-operand.operand.value c.in_ok-operand.operand.behind some c.loop-left.invariant c.in_ok-operand.ensures.value c.in_ok-operand.ensures.behind)
