use Rattle.law_parts.proofs.Offs.{off_leaves}
use Rattle.law_parts.proofs.off_leaves.Goals as goal

pub returns : goal.returns
returns c = off_leaves
