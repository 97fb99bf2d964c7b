use Rattle.std.proofs.Common.{map, ap, ◌∙◌, ◌≤◌, length, subst, sym}
use Rattle.spec_script.specs.Limits.{most_captured}
use Rattle.spec_fiber.specs.Evaluation.{value_at}
use Rattle.fiber_step.proofs.CallSteps.{fork_step, on_release_step, submit_step}
use Rattle.fiber_step.proofs.Parts.{begins_within}
use Rattle.fiber_step.proofs.StepKinds.{handing_only}
use Rattle.fiber_step.proofs.Steps.{knows_node, known_at}
use Rattle.fiber_step.proofs.calls.call_with_job.Goals.{in-Fork, in-OnRelease, in-Submit}
use Rattle.fiber_step.proofs.calls.call_with_job.Goals as goal

pub node-requires : goal.node-requires
node-requires c = begins_within _ _ c.requires.statement

pub unreachable-requires : goal.unreachable-requires
unreachable-requires c =
    handing_only _ (c.requires.kind _ c.node.ensures.node) c.in_default.not-Fork c.in_default.not-OnRelease c.in_default.not-Submit

pub returns : goal.returns
returns c =
    let knows = knows_node _ _ _ _ c.requires.statement c.node.ensures.node c.node.ensures.stands c.node.ensures.text in
    elim c.match-node.branch [
      | in-Fork w ↦ fork_step _ _ _ _ _ _ _ _ _ _ _ _ knows w.in-Fork.is w.switch-switch.ensures (ap (λ it. it.0) w.call-is ∙ w.forking.ensures) (ap (λ it. it.1) w.call-is)
      | in-OnRelease w ↦ on_release_step _ _ _ _ _ _ _ _ _ _ _ knows w.in-OnRelease.is w.switch-switch-in-OnRelease.ensures (ap (λ it. it.0) w.call-is) (ap (λ it. it.1) w.call-is)
      | in-Submit w ↦ submit_step _ _ _ _ _ _ _ _ _ _ _ _ _ knows w.in-Submit.is (w.values_of-given.ensures ∙ ap (λ slots. map (value_at c.args.variables.now) slots) w.as_slice.ensures) (ap (λ it. it.0) w.call-is ∙ w.submitting.ensures) (ap (λ it. it.1) w.call-is)
    ]

pub values_of-given-requires : goal.values_of-given-requires
values_of-given-requires c =
    let knows = knows_node _ _ _ _ c.requires.statement c.node.ensures.node c.node.ensures.stands c.node.ensures.text in
    subst (λ slots. length slots ≤ most_captured) (sym c.as_slice.ensures) (known_at _ _ _ _ _ knows c.in-Submit.is).parts.0
