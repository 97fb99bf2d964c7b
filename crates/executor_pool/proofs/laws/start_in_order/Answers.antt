use Rattle.executor_pool.proofs.Working.{start_in_order}
use Rattle.executor_pool.proofs.laws.start_in_order.Goals as goal

pub returns : goal.returns
returns c = start_in_order
