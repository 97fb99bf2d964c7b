use Rattle.std.proofs.Common.{sym, ap, ◌∙◌, arith}
use Rattle.turn_lock.specs.Passes.{TurnView}
use Rattle.turn_lock.proofs.Turns.{looks}
use Rattle.turn_lock.proofs.turn.Turn.wait_turn.Goals as goal

pub load-found-requires : goal.load-found-requires
load-found-requires g c =
    let h = c.loop.invariant in
    let words = c.self.invariant.0 in (
      h.2 ∙ c.requires.turn ∙ sym (ap (λ (t : TurnView). t.id) c.self.view_is),
      omega arith,
      looks (λ x. g.V.Kept.stands x 0) _ _ _ c.loop.seat.me (ap (λ m. m.0.waits) h.3 ∙ c.requires.waits.0) (ap (λ m. m.0.holds) h.3 ∙ c.requires.waits.1),
    )
