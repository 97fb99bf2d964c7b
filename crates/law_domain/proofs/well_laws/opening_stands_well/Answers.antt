use Rattle.law_domain.proofs.Well.Standing.{opens_well}
use Rattle.law_domain.proofs.well_laws.opening_stands_well.Goals as goal

pub returns : goal.returns
returns c = opens_well
