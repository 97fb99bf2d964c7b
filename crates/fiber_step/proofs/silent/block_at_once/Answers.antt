use Rattle.std.proofs.Common.{ap}
use Rattle.fiber_step.proofs.Parts.{begins_within}
use Rattle.fiber_step.proofs.SilentSteps.{try_step, loop_step, use_rw_step, use_pool_step}
use Rattle.fiber_step.proofs.StepKinds.{marked_only}
use Rattle.fiber_step.proofs.Steps.{knows_node}
use Rattle.fiber_step.proofs.silent.block_at_once.Goals.{in-Try, in-Loop, in-UseRw, in-UsePool}
use Rattle.fiber_step.proofs.silent.block_at_once.Goals as goal

pub node-requires : goal.node-requires
node-requires c = begins_within _ _ c.requires.statement

pub unreachable-requires : goal.unreachable-requires
unreachable-requires c =
    marked_only _ (c.requires.kind _ c.node.ensures.node) c.in_default.not-Try c.in_default.not-Loop c.in_default.not-UseRw c.in_default.not-UsePool

pub returns : goal.returns
returns c variables =
    let knows = knows_node _ _ _ _ c.requires.statement c.node.ensures.node c.node.ensures.stands c.node.ensures.text in
    elim c.match-node.branch [
      | in-Try w ↦ try_step _ _ _ _ _ _ _ _ _ _ knows w.in-Try.is (ap (λ it. it.0) w.step-is) (ap (λ it. it.1) w.step-is)
      | in-Loop w ↦ loop_step _ _ _ _ _ _ _ _ _ knows w.in-Loop.is (ap (λ it. it.0) w.step-is) (ap (λ it. it.1) w.step-is)
      | in-UseRw w ↦ use_rw_step _ _ _ _ _ _ _ _ _ _ knows w.in-UseRw.is (ap (λ it. it.0) w.step-is) (ap (λ it. it.1) w.step-is)
      | in-UsePool w ↦ use_pool_step _ _ _ _ _ _ _ _ _ _ knows w.in-UsePool.is (ap (λ it. it.0) w.step-is) (ap (λ it. it.1) w.step-is)
    ]
