use Rattle.std.proofs.Common.{rules, ◌≡◌, ◌≤◌, ◌<◌, ◌+◌, sym, ap, ◌∙◌, length, map, nat_lt, false, arith, deque_capacity}
use Rattle.std.proofs.lemmas.List.{length-map}
use Rattle.std.proofs.lemmas.List.Sorted.{IsPartitionPoint-from_clause}
use Rattle.spec_parts.specs.ContextCalls.{put_in}
use Rattle.cancel_tree.specs.declared.waiters.Entered.{Entered}
use Rattle.cancel_tree.specs.Entered.{waiting_of}
use Rattle.cancel_tree.specs.Waits.{waits}
use Rattle.cancel_tree.proofs.Waiting.{Parts, first_are_lower, put_in-map, Rise-put}
use Rattle.cancel_tree.proofs.waiters.Waiters.enter.Goals as goal
use Rattle.cancel_tree.proofs.waiters.Waiters.enter.Goals.{After-partition_point-index}

-- the index parts the numbers at the fiber's
parts : (c : After-partition_point-index) → Parts c.args.fiber c.self.inside.entered.items c.partition_point-index.result
parts c =
    let found = IsPartitionPoint-from_clause (λ (entered : Entered). nat_lt entered.fiber c.args.fiber) c.self.inside.entered.items c.partition_point-index.result
    c.partition_point-index.ensures.partitioned (first_are_lower c.args.fiber _ c.self.invariant.rise) (λ a r f' k. search rules) in
    record { within = rw (← c.self.inside.entered.ok.0) c.partition_point-index.ensures.bound; before = found.0; behind = found.1 }

out : (c : After-partition_point-index) → waits c.args.fiber (map waiting_of c.self.inside.entered.items) ≡ false
out c = ap (waits c.args.fiber) c.self.view_is ∙ c.requires.out

pub invariant_of-self : goal.invariant_of-self
invariant_of-self c =
    let begun = (goal.at.invariant_of-self c).After-partition_point-index in
    let few : length c.args.self.now < 1024 = c.requires.room in
    let same : length (map waiting_of c.self.inside.entered.items) ≡ length c.args.self.now = ap length c.self.view_is in
    let mapped : length (map waiting_of c.self.inside.entered.items) ≡ length c.self.inside.entered.items = length-map _ _ in
    let new : c.insert.new.self.len ≡ length c.insert.new.self.items = c.insert.new.self.ok.0 in
    let old : c.self.inside.entered.len ≡ length c.self.inside.entered.items = c.self.inside.entered.ok.0 in
    let more : c.insert.new.self.len ≡ c.self.inside.entered.len + 1 = rw c.unwrap.ensures at c.insert.ensures.len in
    let grown : deque_capacity c.self.inside.entered ≤ deque_capacity c.insert.new.self = c.insert.ensures.capacity in
    let room : 1024 ≤ deque_capacity c.self.inside.entered = c.self.invariant.room in
    let items = rw c.unwrap.ensures at c.insert.ensures.items in
    record { rise = rw items (Rise-put (record { fiber = c.args.fiber; context = c.args.context }) c.self.inside.entered.items c.partition_point-index.result (parts begun) (out begun) c.self.invariant.rise); few = omega arith; room = omega arith }

pub returns : goal.returns
returns c =
    let begun = (goal.at.returns c).After-partition_point-index in
    let items = rw c.unwrap.ensures at c.insert.ensures.items in
    ap (map waiting_of) items
    ∙ sym (put_in-map (record { fiber = c.args.fiber; context = c.args.context }) c.self.inside.entered.items c.partition_point-index.result (parts begun) (out begun))
    ∙ ap (put_in (record { fiber = c.args.fiber; context = c.args.context })) c.self.view_is
