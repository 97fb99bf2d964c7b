use Rattle.path_cap.proofs.Keeping.{changes_keep}
use Rattle.path_cap.proofs.laws.changes_stay_below.Goals as goal

pub returns : goal.returns
returns c = λ tree capability change. changes_keep tree capability change
