use Rattle.std.proofs.Common.{◌≡◌}
use Rattle.test_threads.specs.Racing.{AreWaiting}
use Rattle.test_threads.proofs.cells.cancel_all.Given as goal

abbrev pub invariant-loop-cell : goal.invariant-loop-cell
invariant-loop-cell l = (l.seat.table ≡ l.initial.seat.table) × AreWaiting 1000 l.seat l.cell
