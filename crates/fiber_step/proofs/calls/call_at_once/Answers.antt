use Rattle.std.proofs.Common.{refl}
use Rattle.fiber_step.proofs.CallSteps.{yield_step, check_step, await_cancel_step, now_step, cancel_step, fail_step, on_object_step, on_reader_step, copy_step}
use Rattle.fiber_step.proofs.Parts.{begins_within}
use Rattle.fiber_step.proofs.StepKinds.{bare_only}
use Rattle.fiber_step.proofs.Steps.{knows_node}
use Rattle.fiber_step.proofs.calls.call_at_once.Goals.{in-Yield, in-Check, in-AwaitCancel, in-Now, in-Cancel, in-Fail, in-OnObject, in-OnReader, in-Copy}
use Rattle.fiber_step.proofs.calls.call_at_once.Goals as goal

pub node-requires : goal.node-requires
node-requires c = begins_within _ _ c.requires.statement

pub unreachable-requires : goal.unreachable-requires
unreachable-requires c =
    bare_only _ (c.requires.kind _ c.node.ensures.node) c.in_default.not-Yield c.in_default.not-Check c.in_default.not-AwaitCancel c.in_default.not-Now c.in_default.not-Cancel c.in_default.not-Fail c.in_default.not-OnObject c.in_default.not-OnReader c.in_default.not-Copy

pub returns : goal.returns
returns c =
    let knows = knows_node _ _ _ _ c.requires.statement c.node.ensures.node c.node.ensures.stands c.node.ensures.text in
    elim c.match-node.branch [
      | in-Yield w ↦ yield_step _ _ _ _ _ _ _ knows w.in-Yield.is w.call-is refl
      | in-Check w ↦ check_step _ _ _ _ _ _ _ knows w.in-Check.is w.call-is refl
      | in-AwaitCancel w ↦ await_cancel_step _ _ _ _ _ _ _ knows w.in-AwaitCancel.is w.call-is refl
      | in-Now w ↦ now_step _ _ _ _ _ _ _ knows w.in-Now.is w.call-is refl
      | in-Cancel w ↦ cancel_step _ _ _ _ _ _ _ _ _ _ knows w.in-Cancel.is w.context.ensures w.call-is refl
      | in-Fail w ↦ fail_step _ _ _ _ _ _ _ _ _ _ knows w.in-Fail.is w.switch.ensures w.call-is refl
      | in-OnObject w ↦ on_object_step _ _ _ _ _ _ _ _ _ knows w.in-OnObject.is w.call-is refl
      | in-OnReader w ↦ on_reader_step _ _ _ _ _ _ _ _ _ _ knows w.in-OnReader.is w.number.ensures w.call-is refl
      | in-Copy w ↦ copy_step _ _ _ _ _ _ _ _ _ knows w.in-Copy.is w.call-is refl
    ]
