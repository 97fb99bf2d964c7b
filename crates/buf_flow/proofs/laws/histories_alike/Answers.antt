use Rattle.buf_flow.proofs.Interleaving.{histories_as_at_once, histories_alike}
use Rattle.buf_flow.proofs.laws.histories_alike.Goals as goal

pub returns-clause-at_once : goal.returns-clause-at_once
returns-clause-at_once c = histories_as_at_once

pub returns-clause-alike : goal.returns-clause-alike
returns-clause-alike c = histories_alike
