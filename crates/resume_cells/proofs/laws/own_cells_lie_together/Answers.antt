use Rattle.resume_cells.proofs.Seen.{cells_lie_together}
use Rattle.resume_cells.proofs.laws.own_cells_lie_together.Goals as goal

pub returns : goal.returns
returns c = cells_lie_together
