use Rattle.std.proofs.Common.{◌≡◌, ◌+◌, ◌++◌, length}
use Rattle.resume_cells.specs.Seats.{AreNumbered, told_all}
use Rattle.resume_cells.proofs.seat.take_in.Given as goal

abbrev pub invariant-loop-other : goal.invariant-loop-other
invariant-loop-other l =
    (l.first.table_id ≡ l.shared.table_id)
    × (l.first.me.1 ≡ l.initial.first.me.1)
    × (l.first.me.0 ≡ record l.initial.first.me.0 { known = l.first.me.0.known })
    × (l.first.me.0.known ++ told_all l.others.items ≡ told_all l.initial.others.items)
    × AreNumbered l.shared.table_id (length l.first.me.0.known + 1) l.others.items

abbrev pub decreases-loop-other : goal.decreases-loop-other
decreases-loop-other l = length l.others.items
