use Rattle.fiber_step.proofs.Numbering.Beginning.{blocks_by_node}
use Rattle.fiber_step.proofs.block_laws.blocks_by_node.Goals as goal

pub returns : goal.returns
returns c = blocks_by_node
