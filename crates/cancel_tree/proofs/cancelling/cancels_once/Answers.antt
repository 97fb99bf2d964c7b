use Rattle.cancel_tree.proofs.Once.{cancels_once}
use Rattle.cancel_tree.proofs.cancelling.cancels_once.Goals as goal

pub returns : goal.returns
returns c = cancels_once
