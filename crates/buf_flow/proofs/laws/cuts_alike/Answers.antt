use Rattle.buf_flow.proofs.Cutting.{given_as_at_once, cuts_alike}
use Rattle.buf_flow.proofs.laws.cuts_alike.Goals as goal

pub returns-clause-at_once : goal.returns-clause-at_once
returns-clause-at_once c = given_as_at_once

pub returns-clause-alike : goal.returns-clause-alike
returns-clause-alike c = cuts_alike
