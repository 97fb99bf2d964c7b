use Rattle.std.proofs.Common.{ap}
use Rattle.fiber_step.proofs.CallSteps.{sub_step, protect_step, switch_step, buf_read_step, buf_write_step}
use Rattle.fiber_step.proofs.Parts.{begins_within}
use Rattle.fiber_step.proofs.StepKinds.{own_only}
use Rattle.fiber_step.proofs.Steps.{knows_node}
use Rattle.fiber_step.proofs.calls.call_with_block.Goals.{in-Sub, in-Protect, in-Switch, in-BufRead, in-BufWrite}
use Rattle.fiber_step.proofs.calls.call_with_block.Goals as goal

pub node-requires : goal.node-requires
node-requires c = begins_within _ _ c.requires.statement

pub unreachable-requires : goal.unreachable-requires
unreachable-requires c =
    own_only _ (c.requires.kind _ c.node.ensures.node) c.in_default.not-Sub c.in_default.not-Protect c.in_default.not-Switch c.in_default.not-BufRead c.in_default.not-BufWrite

pub returns : goal.returns
returns c variables =
    let knows = knows_node _ _ _ _ c.requires.statement c.node.ensures.node c.node.ensures.stands c.node.ensures.text in
    elim c.match-node.branch [
      | in-Sub w ↦ sub_step _ _ _ _ _ _ _ _ _ knows w.in-Sub.is (ap (λ it. it.0) w.call-is) (ap (λ it. it.1) w.call-is)
      | in-Protect w ↦ protect_step _ _ _ _ _ _ _ _ _ knows w.in-Protect.is (ap (λ it. it.0) w.call-is) (ap (λ it. it.1) w.call-is)
      | in-Switch w ↦ switch_step _ _ _ _ _ _ _ _ _ knows w.in-Switch.is (ap (λ it. it.0) w.call-is) (ap (λ it. it.1) w.call-is)
      | in-BufRead w ↦ buf_read_step _ _ _ _ _ _ _ _ _ _ _ knows w.in-BufRead.is (ap (λ it. it.0) w.call-is) (ap (λ it. it.1) w.call-is)
      | in-BufWrite w ↦ buf_write_step _ _ _ _ _ _ _ _ _ _ knows w.in-BufWrite.is (ap (λ it. it.0) w.call-is) (ap (λ it. it.1) w.call-is)
    ]
