use Rattle.law_domain.proofs.Well.Standing.{keeps_well}
use Rattle.law_domain.proofs.well_laws.moves_keep_well.Goals as goal

pub returns : goal.returns
returns c = keeps_well
