use Rattle.script_code.proofs.Openings.{bound_on, failures_bound}
use Rattle.script_code.proofs.opening.bind_failures.Goals as goal

pub loop-text-preserved : goal.loop-text-preserved
loop-text-preserved c = record {
  bound = bound_on c.args.table.now c.loop-text.table c.bind.new.table c.args.failures.now c.loop-text.text-index _ c.loop-text-test.true c.loop-text.invariant.bound c.in_ok-bind.ensures;
  there = failures_bound c.loop-text.table c.bind.new.table c.args.failures.now c.loop-text.text-index _ c.in_ok-bind.ensures c.loop-text.invariant.there;
}
