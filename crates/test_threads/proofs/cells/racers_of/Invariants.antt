use Rattle.std.proofs.Common.{length}
use Rattle.test_threads.specs.Racing.{AreOf}
use Rattle.test_threads.proofs.cells.racers_of.Given as goal

abbrev pub invariant-loop-seat : goal.invariant-loop-seat
invariant-loop-seat l = AreOf l.cells.table l.others.items

abbrev pub decreases-loop-seat : goal.decreases-loop-seat
decreases-loop-seat l = length l.others.items
