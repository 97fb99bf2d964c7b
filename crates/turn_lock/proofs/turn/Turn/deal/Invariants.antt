use Rattle.std.proofs.Common.{◌≡◌, ◌-◌, ◌≤◌, [], vec_len, vec_capacity}
use Rattle.turn_lock.specs.Passes.{AreFresh}
use Rattle.turn_lock.specs.Rule.{new_view}
use Rattle.turn_lock.proofs.turn.Turn.deal.Given as goal

abbrev pub invariant-loop-made : goal.invariant-loop-made
invariant-loop-made g l =
    (l.seat.table_id ≡ l.self.id)
    × (l.seat.me ≡ (new_view l._made (l.passes - 1 - l._made), []))
    × (vec_len l.dealt ≡ l._made)
    × (l.passes ≤ vec_capacity l.dealt)
    × AreFresh l.self.id 0 l.dealt.items
