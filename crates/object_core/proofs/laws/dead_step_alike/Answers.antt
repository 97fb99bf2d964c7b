use Rattle.object_core.proofs.Without.{dead_step_alike}
use Rattle.object_core.proofs.laws.dead_step_alike.Goals as goal

pub returns : goal.returns
returns c = dead_step_alike
