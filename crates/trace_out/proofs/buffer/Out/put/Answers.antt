use Rattle.std.proofs.Common.{rules, subst, arith}
use Rattle.trace_out.specs.Causes.{AppendsFront}
use Rattle.trace_out.proofs.Passed.{at_error, front_slice, passes_filled, passes_none, passes_slice}
use Rattle.trace_out.proofs.buffer.Out.put.Goals as goal

pub filling-init : goal.filling-init
filling-init g c = record { within = omega arith; passed = passes_none _ _; later = omega arith }

pub returns-in_err-flush-clause-err : goal.returns-in_err-flush-clause-err
returns-in_err-flush-clause-err g c =
    at_error c.from_residual.result
    (front_slice _ _ _ _ _ _ _ _ (omega arith) c.filling.invariant.passed (subst (AppendsFront (g.K.Sink.held c.filling.sink) (g.K.Sink.held c.flush.new.sink)) c.push.ensures c.in_err-flush.ensures.err))

pub filling-preserved : goal.filling-preserved
filling-preserved g c = record {
  within = omega (arith, c.free-in-filling.ensures);
  passed = passes_slice _ _ _ _ _ _ _ _ (omega arith) c.filling.invariant.passed _ (passes_filled _ _ _ _ _ _ c.push.ensures c.in_ok-flush.ensures.ok c.in_ok-flush.ensures.empty);
  later = search rules;
}
