use Rattle.std.proofs.Common.{◌≡◌, length}
use Rattle.wait_list.specs.Finding.{Seeks}
use Rattle.wait_list.proofs.list.WaitList.wake_first.Given as goal

abbrev pub invariant-loop-queued : goal.invariant-loop-queued
invariant-loop-queued g l =
    Seeks (g.W.Wake.knows l.initial.wake) (g.W.Wake.knows l.wake) (g.W.Wake.tells l.initial.wake) (g.W.Wake.tells l.wake) l.initial.self.waiting l.self.waiting (g.W.Wake.sent l.wake)
    × g.W.Wake.goes_on l.initial.wake l.wake
    × (l.self.cells ≡ l.initial.self.cells)

abbrev pub decreases-loop-queued : goal.decreases-loop-queued
decreases-loop-queued g l = length l.self.waiting
