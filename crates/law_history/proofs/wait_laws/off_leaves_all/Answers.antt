use Rattle.law_history.proofs.Waits.Offs.{off_leaves_all}
use Rattle.law_history.proofs.wait_laws.off_leaves_all.Goals as goal

pub returns : goal.returns
returns c = off_leaves_all
