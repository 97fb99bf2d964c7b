use Rattle.std.proofs.Common.{◌∙◌}
use Rattle.resume_cells.specs.declared.view.Deed.TheVariants.{Wake}
use Rattle.resume_cells.specs.Views.{decision_of}
use Rattle.test_threads.proofs.Racing.{same_table}
use Rattle.test_threads.proofs.cells.wake_all.Goals as goal

pub wake-requires-clause-seat : goal.wake-requires-clause-seat
wake-requires-clause-seat c = c.loop-cell.invariant ∙ c.requires.fits.0

pub loop-cell-preserved : goal.loop-cell-preserved
loop-cell-preserved c =
    let e = c.wake.ensures in let who = c.waiter.result in
    same_table c.loop-cell.seat c.wake.new.seat (decision_of Wake who.cell who.armed 2) who.cell who.armed c.wake.result e.won e.lost ∙ c.loop-cell.invariant
