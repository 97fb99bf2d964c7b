use Rattle.stream_core.proofs.Sides.{takers_asked}
use Rattle.stream_core.proofs.stream.Stream.add.Goals as goal

pub invariant_of-self : goal.invariant_of-self
invariant_of-self g c = takers_asked _ _ _ _ _ c.self.inside.takers c.wake_first.new.self c.self.inside.adders _ _ _ c.self.invariant c.wake_first.ensures.cells c.wake_first.ensures.finds
