use Rattle.std.proofs.Common.{sym, ◌∙◌}
use Rattle.std.proofs.lemmas.Result.{err_from_is_err_and}
use Rattle.script_draft.specs.Drafts.{made_of}
use Rattle.script_draft.proofs.Within.{within_past}
use Rattle.script_declarations.proofs.FlowStepsRead.{step_refused, step_taken, steps_end}
use Rattle.script_declarations.proofs.flow_steps.flow_steps.Goals as goal

pub returns-in_err-step-clause-reads : goal.returns-in_err-step-clause-reads
returns-in_err-step-clause-reads c =
    let p = err_from_is_err_and c.from_residual.result c.from_residual.ensures.1 in
    rw (p.1, p.2) (step_refused c.loop-steps.steps.items _ c.loop-steps.cursor (made_of c.loop-steps.draft) _ (sym c.has_tree.ensures ∙ c.loop-steps-test.true) c.in_err-step.ensures.reads c.loop-steps.invariant.rest)

pub loop-steps-preserved : goal.loop-steps-preserved
loop-steps-preserved c = record {
  within = within_past c.args.cursor.now c.loop-steps.cursor c.step.new.cursor c.loop-steps.invariant.within c.in_ok-step.ensures.past;
  nodes = c.in_ok-step.ensures.reads.1 ∙ c.loop-steps.invariant.nodes;
  rest = rw c.in_ok-push.ensures.items (step_taken c.loop-steps.steps.items _ c.loop-steps.cursor c.step.new.cursor (made_of c.loop-steps.draft) (made_of c.step.new.draft) c.in_ok-step.field-0 (sym c.has_tree.ensures ∙ c.loop-steps-test.true) c.in_ok-step.ensures.past c.in_ok-step.ensures.reads.0 c.loop-steps.invariant.rest);
}

pub returns-clause-reads : goal.returns-clause-reads
returns-clause-reads c = rw c.new.ensures (steps_end c.loop-steps.steps.items _ c.loop-steps.cursor (made_of c.loop-steps.draft) (sym c.has_tree.ensures ∙ c.loop-steps-test.false) c.loop-steps.invariant.rest, c.loop-steps.invariant.nodes)
