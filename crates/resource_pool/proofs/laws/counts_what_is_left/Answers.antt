use Rattle.resource_pool.proofs.Counting.{counts_what_is_left}
use Rattle.resource_pool.proofs.laws.counts_what_is_left.Goals as goal

pub returns : goal.returns
returns c = counts_what_is_left
