use Rattle.law_domain.proofs.Sound.Conditions.{moves_may_call}
use Rattle.law_domain.proofs.sound_laws.moves_may_call.Goals as goal

pub returns : goal.returns
returns c = moves_may_call
