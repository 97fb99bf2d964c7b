use Rattle.wait_list.proofs.Marks.{no_more_than_marks}
use Rattle.wait_list.proofs.list.WaitList.each_cell_once.Goals as goal

pub returns-clause-few : goal.returns-clause-few
returns-clause-few c = rw (← c.self.view_is) (no_more_than_marks _ _ _ c.self.invariant)
