use Rattle.domain_strikes.proofs.Waiting.Struck.{by_number}
use Rattle.domain_strikes.proofs.waiting_laws.struck_by_number.Goals as goal

pub returns : goal.returns
returns c = by_number
