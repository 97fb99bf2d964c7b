use Rattle.fiber_step.proofs.Branches.{blocks_found, all_begin, some_found}
use Rattle.fiber_step.proofs.entering.branch_bodies.Goals as goal

pub returns-clause-blocks : goal.returns-clause-blocks
returns-clause-blocks c = blocks_found _ _ _ _ _ _ _ c.node.ensures.node c.in-Branches.is c.as_slice.ensures

pub returns-clause-begin : goal.returns-clause-begin
returns-clause-begin c = all_begin _ _ _ _ _ _ _ c.requires.begin c.node.ensures.node c.in-Branches.is c.as_slice.ensures

pub returns-clause-some : goal.returns-clause-some
returns-clause-some c = some_found _ _ _ _ _ _ _ c.requires.some c.node.ensures.node c.in-Branches.is c.as_slice.ensures
