use Rattle.domain_strikes.proofs.Waiting.Alike.{domains_in_step}
use Rattle.domain_strikes.proofs.waiting_laws.domains_go_in_step.Goals as goal

pub returns : goal.returns
returns c = domains_in_step
