use Rattle.domain_strikes.proofs.Waiting.Parts.{calls_in_step}
use Rattle.domain_strikes.proofs.waiting_laws.calls_go_in_step.Goals as goal

pub returns : goal.returns
returns c = calls_in_step
