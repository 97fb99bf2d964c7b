use Rattle.script_lang.proofs.Building.{none_made, fork_made, forks_made}
use Rattle.script_lang.proofs.generator.push_forks.Goals as goal

pub loop-at-init : goal.loop-at-init
loop-at-init c = none_made _ _

pub loop-at-preserved : goal.loop-at-preserved
loop-at-preserved c = fork_made _ _ _ _ _ c.loop-at-test.true c.loop-at.invariant c.in_ok-push_fork.ensures

pub returns : goal.returns
returns c = forks_made _ _ _ _ c.loop-at-test.false c.loop-at.invariant
