use Rattle.buf_flow.proofs.Deciding.{decided_stays, end_decides, undecided_leaves}
use Rattle.buf_flow.proofs.laws.decided_stays.Goals as goal

pub returns-clause-more : goal.returns-clause-more
returns-clause-more c = decided_stays

pub returns-clause-end : goal.returns-clause-end
returns-clause-end c = end_decides

pub returns-clause-undecided : goal.returns-clause-undecided
returns-clause-undecided c = undecided_leaves
