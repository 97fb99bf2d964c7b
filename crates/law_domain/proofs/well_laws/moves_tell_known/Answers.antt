use Rattle.law_domain.proofs.Well.Standing.{moves_tell_known}
use Rattle.law_domain.proofs.well_laws.moves_tell_known.Goals as goal

pub returns : goal.returns
returns c = moves_tell_known
