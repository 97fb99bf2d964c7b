use Rattle.std.proofs.Common.{◌≡◌}
use Rattle.test_threads.proofs.Racing.{AreArmed}
use Rattle.test_threads.proofs.cells.arm_all.Given as goal

abbrev pub invariant-loop-cell : goal.invariant-loop-cell
invariant-loop-cell l = (l.seat.table ≡ l.initial.seat.table) × (l.seat.number ≡ 0) × (l.seat.each ≡ 1000) × AreArmed l.seat.told l.cell
