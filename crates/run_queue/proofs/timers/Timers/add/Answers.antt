use Rattle.std.proofs.Common.{rules, refl, ◌≡◌, ◌≤◌, ◌++◌, ◌∷◌, take, drop, Ok, arith, FitsSigned, w64, deque_capacity}
use Rattle.std.proofs.lemmas.Int.{to_z-of_z}
use Rattle.std.specs.Prelude.{int_le}
use Rattle.std.proofs.lemmas.List.Sorted.{IsPartitionPoint-from_clause}
use Rattle.run_queue.specs.declared.timers.Timer.{Timer}
use Rattle.run_queue.proofs.Standing.{IsPlace, first_are_due, put_in-map, IsInOrder-put}
use Rattle.run_queue.proofs.timers.Timers.add.Goals as goal
use Rattle.run_queue.proofs.timers.Timers.add.Goals.{After-insert}

place_found : (c : After-insert) → IsPlace c.args.due c.self.inside.standing.items c.partition_point-place.result
place_found c =
    let len : _ = c.self.inside.standing.ok.0 in
    let found = IsPartitionPoint-from_clause (λ (timer : Timer). int_le timer.due c.args.due) c.self.inside.standing.items c.partition_point-place.result
    c.partition_point-place.ensures.partitioned (first_are_due c.args.due _ c.self.invariant.1) (λ a r f' k. search rules) in
    record { within = (let h : c.partition_point-place.result ≤ c.self.inside.standing.len = c.partition_point-place.ensures.bound in omega (arith, len)); before = found.0; behind = found.1 }

-- the timer as it is made
abbrev made_timer : After-insert → Timer
made_timer c = record { due = c.args.due; number = c.self.inside.made; fiber = c.args.fiber }

inserted : (c : After-insert) → c.insert.result ≡ Ok tt → c.insert.new.self.items ≡ take c.partition_point-place.result c.self.inside.standing.items ++ made_timer c ∷ drop c.partition_point-place.result c.self.inside.standing.items
inserted c ok =
    let fits : FitsSigned w64 c.args.due = search rules in
    let items = rw ok at c.insert.ensures.items in
    simp to_z-of_z at items

pub invariant_of-self : goal.invariant_of-self
invariant_of-self c =
    let after = (goal.at.invariant_of-self c).After-insert in
    let room : c.self.inside.most ≤ deque_capacity c.self.inside.standing = c.self.invariant.0 in
    let grown : deque_capacity c.self.inside.standing ≤ deque_capacity c.insert.new.self = c.insert.ensures.capacity in
    (omega arith, rw (inserted after c.unwrap.ensures) (IsInOrder-put (made_timer after) _ _ (place_found after) c.self.invariant.1))

pub returns-clause-ok : goal.returns-clause-ok
returns-clause-ok c =
    let after = (goal.at.returns-clause-ok c).After-insert in
    rw (← c.self.view_is) (rw (inserted after c.unwrap.ensures) (rw (← put_in-map (made_timer after) _ _ (place_found after)) refl))
