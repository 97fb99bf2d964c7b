use Rattle.domain_strikes.proofs.Waiting.Listed.{in_step}
use Rattle.domain_strikes.proofs.waiting_laws.waiting_goes_in_step.Goals as goal

pub returns : goal.returns
returns c = in_step
