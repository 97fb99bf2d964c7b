use Rattle.law_history.proofs.Legal.Longer.{parts_extend}
use Rattle.law_history.proofs.legal_laws.parts_extend.Goals as goal

pub returns : goal.returns
returns c = parts_extend
