use Rattle.resume_cells.proofs.Seen.{rules_agree}
use Rattle.resume_cells.proofs.laws.rules_agree.Goals as goal

pub returns : goal.returns
returns c = rules_agree
