use Rattle.domain_strikes.proofs.Waiting.Alike.{strikes_in_step}
use Rattle.domain_strikes.proofs.waiting_laws.strikes_go_in_step.Goals as goal

pub returns : goal.returns
returns c = strikes_in_step
