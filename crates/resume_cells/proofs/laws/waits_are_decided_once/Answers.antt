use Rattle.resume_cells.proofs.Winners.{decided_once}
use Rattle.resume_cells.proofs.laws.waits_are_decided_once.Goals as goal

pub returns : goal.returns
returns c = decided_once
