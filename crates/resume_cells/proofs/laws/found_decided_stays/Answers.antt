use Rattle.resume_cells.proofs.Winners.{found_stays}
use Rattle.resume_cells.proofs.laws.found_decided_stays.Goals as goal

pub returns : goal.returns
returns c = found_stays
