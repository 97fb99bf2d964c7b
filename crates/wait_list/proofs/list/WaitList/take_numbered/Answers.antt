use Rattle.std.proofs.Common.{◌≡◌, ◌<◌, ◌==◌, ℕ, Bool, false, List, length, map, get_or, slice_set, arith, sym, ap, ◌∙◌, Some, None, length-set, deque_capacity}
use Rattle.std.specs.Prelude.{find}
use Rattle.std.specs.List.{position, remove}
use Rattle.spec_parts.specs.Row.{Queued, but_first}
use Rattle.wait_list.specs.declared.queued.Queued.{Queued as Kept}
use Rattle.wait_list.specs.Standing.{queued_of, Holds}
use Rattle.wait_list.specs.Waits.{has_number}
use Rattle.wait_list.proofs.Leaving.{holds_left}
use Rattle.wait_list.proofs.Picking.{Picked, picked, nowhere, all_left}
use Rattle.wait_list.proofs.list.WaitList.take_numbered.Goals as goal

-- where nobody waits with the number

nobody : (number : ℕ) (items : List Kept) → None ≡ position (λ (kept : Kept). kept.number == number) items → find (has_number number) (map queued_of items) ≡ None
nobody number items is = nowhere queued_of (has_number number) items (sym is)

pub returns-in_err-place-clause-found : goal.returns-in_err-place-clause-found
returns-in_err-place-clause-found c =
    rw (c.from_residual.ensures, ← c.self.view_is) (sym (nobody c.args.number c.self.inside.queue.items c.in_err-place.ensures))

pub returns-in_err-place-clause-left : goal.returns-in_err-place-clause-left
returns-in_err-place-clause-left c =
    let left = all_left queued_of (has_number c.args.number) (map queued_of c.self.inside.queue.items) (nobody c.args.number c.self.inside.queue.items c.in_err-place.ensures) in
    rw (← c.self.view_is) (ap (λ (l : List Queued). record { waiting = l; cells = length c.self.inside.marks.items }) (sym left))

-- where somebody does

record Takes (number place : ℕ) (items : List Kept) (marks : List Bool) (room : ℕ) (found : Kept) : Type 0 where
  is : find (has_number number) (map queued_of items) ≡ Some (queued_of found)
  left : map queued_of (remove items place) ≡ but_first (has_number number) (map queued_of items)
  holds : Holds (map queued_of (remove items place)) (slice_set marks found.who.cell false) room
  within : found.who.cell < length marks

takes : (number place : ℕ) (items : List Kept) (marks : List Bool) (room : ℕ) (found : Kept) → Some place ≡ position (λ (kept : Kept). kept.number == number) items → found ≡ get_or items place found
    → Holds (map queued_of items) marks room → Takes number place items marks room found
takes number place items marks room found at value held =
    let pick : Picked queued_of (has_number number) items place found = picked queued_of (has_number number) items place found (sym at) in
    let is : find (has_number number) (map queued_of items) ≡ Some (queued_of found) = pick.found ∙ ap (λ (k : Kept). Some (queued_of k)) (sym value) in
    let left = holds_left (has_number number) (map queued_of items) (queued_of found) marks room is held in
    record { is = is; left = pick.left; holds = rw pick.left left.0; within = left.1 }

pub index_mut-requires : goal.index_mut-requires
index_mut-requires c =
    let t = takes c.args.number c.in_ok-place.place c.self.inside.queue.items c.self.inside.marks.items (deque_capacity c.self.inside.queue) c.in_ok-found.found c.in_ok-place.ensures c.in_ok-found.ensures.value c.self.invariant in
    let within : c.in_ok-found.found.who.cell < length c.self.inside.marks.items = t.within in
    omega arith

pub invariant_of-self-2 : goal.invariant_of-self-2
invariant_of-self-2 c =
    let t = takes c.args.number c.in_ok-place.place c.self.inside.queue.items c.self.inside.marks.items (deque_capacity c.self.inside.queue) c.in_ok-found.found c.in_ok-place.ensures c.in_ok-found.ensures.value c.self.invariant in
    rw (c.in_ok-found.ensures.items, c.remove.ensures.capacity) t.holds

pub returns-clause-found : goal.returns-clause-found
returns-clause-found c =
    let t = takes c.args.number c.in_ok-place.place c.self.inside.queue.items c.self.inside.marks.items (deque_capacity c.self.inside.queue) c.in_ok-found.found c.in_ok-place.ensures c.in_ok-found.ensures.value c.self.invariant in
    rw (← c.self.view_is) (sym t.is)

pub returns-clause-left : goal.returns-clause-left
returns-clause-left c =
    let t = takes c.args.number c.in_ok-place.place c.self.inside.queue.items c.self.inside.marks.items (deque_capacity c.self.inside.queue) c.in_ok-found.found c.in_ok-place.ensures c.in_ok-found.ensures.value c.self.invariant in
    rw (← c.self.view_is, c.in_ok-found.ensures.items) (λ i. record { waiting = t.left i; cells = length-set c.self.inside.marks.items c.in_ok-found.found.who.cell false i })
