use Rattle.fiber_step.proofs.Numbering.Finding.{blocks_by_number}
use Rattle.fiber_step.proofs.block_laws.blocks_by_number.Goals as goal

pub returns : goal.returns
returns c = blocks_by_number
