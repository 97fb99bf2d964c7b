use Rattle.resume_cells.proofs.Seen.{found_is_decided}
use Rattle.resume_cells.proofs.laws.found_is_decided.Goals as goal

pub returns : goal.returns
returns c = found_is_decided
