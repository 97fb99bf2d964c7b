use Rattle.domain_strikes.proofs.Waiting.Listed.{by_standing}
use Rattle.domain_strikes.proofs.waiting_laws.waiting_is_by_standing.Goals as goal

pub returns : goal.returns
returns c = by_standing
