use Rattle.cancel_tree.proofs.Forgotten.{forgets_nothing_live}
use Rattle.cancel_tree.proofs.forgetting.forgets_nothing_live.Goals as goal

pub returns : goal.returns
returns c = forgets_nothing_live
