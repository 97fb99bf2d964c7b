use Rattle.stream_core.proofs.Sides.{once_in_both}
use Rattle.stream_core.proofs.stream.Stream.each_cell_once.Goals as goal

pub returns-clause-once : goal.returns-clause-once
returns-clause-once c = rw (← c.self.view_is) (once_in_both _ _ c.self.invariant.one_side c.each_cell_once.ensures.once c.each_cell_once-2.ensures.once)
