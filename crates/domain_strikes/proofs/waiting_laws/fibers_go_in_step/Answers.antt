use Rattle.domain_strikes.proofs.Waiting.Parts.{fibers_in_step}
use Rattle.domain_strikes.proofs.waiting_laws.fibers_go_in_step.Goals as goal

pub returns : goal.returns
returns c = fibers_in_step
