use Rattle.executor_pool.proofs.Working.{weights_are_bounded}
use Rattle.executor_pool.proofs.laws.weights_are_bounded.Goals as goal

pub returns : goal.returns
returns c = weights_are_bounded
