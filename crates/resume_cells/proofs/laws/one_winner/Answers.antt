use Rattle.resume_cells.proofs.Seen.{one_winner}
use Rattle.resume_cells.proofs.laws.one_winner.Goals as goal

pub returns : goal.returns
returns c = one_winner
