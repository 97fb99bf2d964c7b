use Rattle.std.proofs.Common.{◌∙◌, arith}
use Rattle.test_threads.proofs.Racing.{can_arm, owns}
use Rattle.test_threads.proofs.cells.arm_all.Goals as goal

pub arm-requires-clause-seat : goal.arm-requires-clause-seat
arm-requires-clause-seat c = c.loop-cell.invariant.0 ∙ c.requires.fits.0

pub arm-requires-clause-owns : goal.arm-requires-clause-owns
arm-requires-clause-owns c = let h = c.loop-cell.invariant in owns 1000 c.loop-cell.seat c.loop-cell.cell h.1 h.2 c.loop-cell-test.true

pub arm-requires-clause-free : goal.arm-requires-clause-free
arm-requires-clause-free c = let h = c.loop-cell.invariant in can_arm c.loop-cell.seat.told c.loop-cell.cell 1 (h.3.free c.loop-cell.cell (omega arith)) (omega arith)
