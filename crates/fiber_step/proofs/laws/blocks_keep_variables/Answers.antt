use Rattle.fiber_step.proofs.Blocks.{blocks_keep_variables}
use Rattle.fiber_step.proofs.laws.blocks_keep_variables.Goals as goal

pub returns : goal.returns
returns c = blocks_keep_variables
