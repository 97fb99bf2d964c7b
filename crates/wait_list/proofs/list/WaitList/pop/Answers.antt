use Rattle.std.proofs.Common.{◌<◌, List, length, map, arith, subst, deque_capacity}
use Rattle.wait_list.specs.declared.queued.Queued.{Queued as Kept}
use Rattle.wait_list.specs.Standing.{queued_of, Holds}
use Rattle.wait_list.proofs.Marks.{holds_popped}
use Rattle.wait_list.proofs.list.WaitList.pop.Goals as goal
use Rattle.wait_list.proofs.list.WaitList.pop.Goals.{After-branch-first}

pub index_mut-requires : goal.index_mut-requires
index_mut-requires c =
    let held = subst (λ (l : List Kept). Holds (map queued_of l) c.self.inside.marks.items (deque_capacity c.self.inside.queue)) c.in_ok-first.ensures.items c.self.invariant in
    let below : c.in_ok-first.first.who.cell < length c.self.inside.marks.items = held.below 0 (queued_of c.in_ok-first.first) (omega arith) in
    omega arith

pub invariant_of-self-2 : goal.invariant_of-self-2
invariant_of-self-2 c =
    let held = subst (λ (l : List Kept). Holds (map queued_of l) c.self.inside.marks.items (deque_capacity c.self.inside.queue)) c.in_ok-first.ensures.items c.self.invariant in
    rw c.pop_front.ensures.capacity (holds_popped _ _ _ _ held)
