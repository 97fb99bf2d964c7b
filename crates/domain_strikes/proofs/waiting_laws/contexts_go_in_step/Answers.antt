use Rattle.domain_strikes.proofs.Waiting.Alike.{contexts_in_step}
use Rattle.domain_strikes.proofs.waiting_laws.contexts_go_in_step.Goals as goal

pub returns : goal.returns
returns c = contexts_in_step
