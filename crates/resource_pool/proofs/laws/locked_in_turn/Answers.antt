use Rattle.resource_pool.proofs.Locking.{locked_in_turn}
use Rattle.resource_pool.proofs.laws.locked_in_turn.Goals as goal

pub returns : goal.returns
returns c = locked_in_turn
