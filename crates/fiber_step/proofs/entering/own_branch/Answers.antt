use Rattle.fiber_step.proofs.Branches.{own_found}
use Rattle.fiber_step.proofs.Entries.{own_begins}
use Rattle.fiber_step.proofs.entering.own_branch.Goals as goal

pub returns-clause-block : goal.returns-clause-block
returns-clause-block c = own_found _ _ _ _ _ _ _ _ c.requires.some c.node.ensures.node c.in-Branches.is c.as_slice.ensures c.in-Some.ensures.value

pub returns-clause-begins : goal.returns-clause-begins
returns-clause-begins c = own_begins _ _ _ _ _ _ _ _ c.requires.begin c.node.ensures.node c.in-Branches.is c.as_slice.ensures c.in-Some.ensures.value
