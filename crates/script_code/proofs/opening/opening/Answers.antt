use Rattle.std.proofs.Common.{arith}
use Rattle.spec_script.specs.Opening.{textless}
use Rattle.script_code.proofs.Openings.{bound_next, all_bound}
use Rattle.script_code.proofs.opening.opening.Goals as goal

pub loop-what-preserved : goal.loop-what-preserved
loop-what-preserved c = bound_next _ c.loop-what.table c.bind.new.table textless c.loop-what.what-index _ c.loop-what-test.true c.loop-what.invariant c.in_ok-bind.ensures

pub returns : goal.returns
returns c = all_bound c.args.texts _ c.loop-what.table c.args.failures.now c.loop-what.what-index (omega (arith, c.loop-what-test.false)) c.in_ok-bind_failures.ensures c.loop-what.invariant
