use Rattle.std.proofs.Common.{ℕ, ◌∙◌, sym, subst, arith}
use Rattle.resume_cells.specs.declared.view.Deed.TheVariants.{Cancel}
use Rattle.resume_cells.specs.Known.{IsLast}
use Rattle.resume_cells.specs.Seats.{Owns}
use Rattle.resume_cells.specs.Views.{decision_of}
use Rattle.test_threads.proofs.Racing.{waiting_on, same_table}
use Rattle.test_threads.proofs.cells.cancel_all.Goals as goal

pub cancel-requires-clause-seat : goal.cancel-requires-clause-seat
cancel-requires-clause-seat c = c.loop-cell.invariant.0 ∙ c.requires.fits.0

pub cancel-requires-clause-owns : goal.cancel-requires-clause-owns
cancel-requires-clause-owns c = let h = c.loop-cell.invariant in subst (Owns c.loop-cell.seat) (sym c.waiter.ensures.0) (h.1 c.loop-cell.cell (omega arith) c.loop-cell-test.true).0

pub cancel-requires-clause-last : goal.cancel-requires-clause-last
cancel-requires-clause-last c =
    let h = c.loop-cell.invariant in let w = c.waiter.ensures in
    subst (λ (n : ℕ). IsLast c.loop-cell.seat.told n c.waiter.result.armed) (sym w.0) (subst (IsLast c.loop-cell.seat.told c.loop-cell.cell) (sym w.1) (h.1 c.loop-cell.cell (omega arith) c.loop-cell-test.true).1)

pub loop-cell-preserved : goal.loop-cell-preserved
loop-cell-preserved c =
    let h = c.loop-cell.invariant in let w = c.waiter.ensures in let e = c.cancel.ensures in let who = c.waiter.result in (
      same_table c.loop-cell.seat c.cancel.new.seat (decision_of Cancel who.cell who.armed 2) who.cell who.armed c.cancel.result e.won e.lost ∙ h.0,
      waiting_on 1000 c.loop-cell.seat c.cancel.new.seat c.loop-cell.cell who.cell who.armed c.cancel.result w.0 w.1 e.won e.lost h.1,
    )
