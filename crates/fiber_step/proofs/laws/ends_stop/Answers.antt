use Rattle.fiber_step.proofs.Scopes.{ends_stop}
use Rattle.fiber_step.proofs.laws.ends_stop.Goals as goal

pub returns : goal.returns
returns c = ends_stop
