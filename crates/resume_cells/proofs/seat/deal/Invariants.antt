use Rattle.std.proofs.Common.{◌≡◌, ◌-◌, ◌≤◌, []}
use Rattle.resume_cells.specs.Seats.{new_seats}
use Rattle.resume_cells.specs.Views.{first_view}
use Rattle.resume_cells.proofs.seat.deal.Given as goal

abbrev pub invariant-loop-number : goal.invariant-loop-number
invariant-loop-number l =
    (l.first.table_id ≡ l.shared.table_id)
    × (l.first.me ≡ (record (first_view l.shared.key.each) { dealt = l._number }, []))
    × (l.others.items ≡ new_seats l.shared.table_id l.shared.key.each 1 (l._number - 1))
    × (1 ≤ l._number)
