use Rattle.law_domain.proofs.Well.Standing.{moves_call_well}
use Rattle.law_domain.proofs.well_laws.moves_call_well.Goals as goal

pub returns : goal.returns
returns c = moves_call_well
