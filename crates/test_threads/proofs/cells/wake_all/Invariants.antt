use Rattle.std.proofs.Common.{◌≡◌}
use Rattle.test_threads.proofs.cells.wake_all.Given as goal

abbrev pub invariant-loop-cell : goal.invariant-loop-cell
invariant-loop-cell l = l.seat.table ≡ l.initial.seat.table
