use Rattle.std.proofs.Common.{rules, ◌≡◌, ◌≤◌, ◌<◌, ◌+◌, sym, ap, ◌∙◌, length, get_or, map, nat_lt, Some, true, arith}
use Rattle.std.proofs.lemmas.List.Sorted.{IsPartitionPoint-from_clause}
use Rattle.spec_parts.specs.ContextCalls.{taken_out}
use Rattle.cancel_tree.specs.declared.waiters.Entered.{Entered}
use Rattle.cancel_tree.specs.Entered.{waiting_of}
use Rattle.cancel_tree.specs.Waits.{waits}
use Rattle.cancel_tree.proofs.Waiting.{Parts, first_are_lower, within_waits, taken_out-map, Rise-rest}
use Rattle.cancel_tree.proofs.waiters.Waiters.leave.Goals as goal
use Rattle.cancel_tree.proofs.waiters.Waiters.leave.Goals.{After-partition_point-index, After-remove}

-- the index parts the numbers at the fiber's
parts : (c : After-partition_point-index) → Parts c.args.fiber c.self.inside.entered.items c.partition_point-index.result
parts c =
    let found = IsPartitionPoint-from_clause (λ (entered : Entered). nat_lt entered.fiber c.args.fiber) c.self.inside.entered.items c.partition_point-index.result
    c.partition_point-index.ensures.partitioned (first_are_lower c.args.fiber _ c.self.invariant.rise) (λ a r f' k. search rules) in
    record { within = rw (← c.self.inside.entered.ok.0) c.partition_point-index.ensures.bound; before = found.0; behind = found.1 }

waiting : (c : After-partition_point-index) → waits c.args.fiber (map waiting_of c.self.inside.entered.items) ≡ true
waiting c = ap (waits c.args.fiber) c.self.view_is ∙ c.requires

-- it stands there
within : (c : After-partition_point-index) → c.partition_point-index.result < length c.self.inside.entered.items
within c = within_waits c.args.fiber c.self.inside.entered.items c.partition_point-index.result (parts c) (waiting c)

-- so the call removes it
taken : (c : After-remove) → c.partition_point-index.result < length c.self.inside.entered.items → c.remove.result ≡ Some (get_or c.self.inside.entered.items c.partition_point-index.result (record { fiber = 0; context = 0 }))
taken c there = c.remove.ensures.succeeds (record { fiber = 0; context = 0 }) (rw c.self.inside.entered.ok.0 there)

pub invariant_of-self : goal.invariant_of-self
invariant_of-self c =
    let at = goal.at.invariant_of-self c in
    let there = taken at.After-remove (within at.After-partition_point-index) in
    let few : length c.self.inside.entered.items ≤ 1024 = c.self.invariant.few in
    let new : c.remove.new.self.len ≡ length c.remove.new.self.items = c.remove.new.self.ok.0 in
    let old : c.self.inside.entered.len ≡ length c.self.inside.entered.items = c.self.inside.entered.ok.0 in
    let fewer : c.remove.new.self.len + 1 ≡ c.self.inside.entered.len = rw there at c.remove.ensures.len in
    let items = rw there at c.remove.ensures.items in
    record { rise = rw items (Rise-rest c.self.inside.entered.items c.partition_point-index.result c.self.invariant.rise); few = omega arith; room = rw c.remove.ensures.capacity c.self.invariant.room }

pub returns : goal.returns
returns c =
    let at = goal.at.returns c in
    let begun = at.After-partition_point-index in
    let items = rw (taken at.After-remove (within begun)) at c.remove.ensures.items in
    ap (map waiting_of) items
    ∙ sym (taken_out-map c.args.fiber c.self.inside.entered.items c.partition_point-index.result (parts begun) c.self.invariant.rise (waiting begun))
    ∙ ap (taken_out c.args.fiber) c.self.view_is
