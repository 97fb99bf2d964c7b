use Rattle.std.proofs.Common.{true}
use Rattle.spec_parts.specs.Walk.{resolve}
use Rattle.path_cap.proofs.Ways.{resolve_below, opened_below}
use Rattle.path_cap.proofs.laws.leads_stay_below.Goals as goal

pub returns-clause-leads : goal.returns-clause-leads
returns-clause-leads c = λ tree capability path follow. resolve_below tree capability path follow

pub returns-clause-opens : goal.returns-clause-opens
returns-clause-opens c = λ tree capability path directory e. opened_below tree capability (resolve tree capability path true) directory (resolve_below tree capability path true) e
