use Rattle.std.proofs.Common.{◌≡◌, Some, length, sym, ap, ◌∙◌, subst, arith}
use Rattle.turn_lock.specs.Passes.{TurnView}
use Rattle.turn_lock.specs.Closing.{Closes}
use Rattle.turn_lock.proofs.Gathering.{closes_with}
use Rattle.turn_lock.proofs.turn.Turn.close.Goals as goal

some_same : {A : Type 0} (x y : A) → Some x ≡ Some y → x ≡ y
some_same x y e = cc

pub unreachable-requires : goal.unreachable-requires
unreachable-requires g c =
    let ok = c.args.passes.ok in let all = c.requires.all in
    let many : length c.args.passes.items ≡ c.self.inside.table.shared.key = omega (arith, ap (λ (t : TurnView). t.passes) c.self.view_is) in
    let v = closes_with (λ x. g.V.Kept.stands x 0) c.self.inside.table.shared.key c.gather-seat.result.id c.gather-seat.result.me.0 c.args.passes.items _ _ c.take.result c.close_with-closed.ensures.values.2 c.gather-seat.ensures.gathers many c.take.ensures.value in
    c.in_default.not-Some v.0 v.1

pub returns : goal.returns
returns g c =
    let ok = c.args.passes.ok in let all = c.requires.all in
    let many : length c.args.passes.items ≡ c.self.inside.table.shared.key = omega (arith, ap (λ (t : TurnView). t.passes) c.self.view_is) in
    let v = closes_with (λ x. g.V.Kept.stands x 0) c.self.inside.table.shared.key c.gather-seat.result.id c.gather-seat.result.me.0 c.args.passes.items _ _ c.take.result c.close_with-closed.ensures.values.2 c.gather-seat.ensures.gathers many c.take.ensures.value in
    record { closes = subst (Closes (λ x. g.V.Kept.stands x 0) c.args.passes.items) (some_same v.0 c.in-Some.value (sym v.1 ∙ c.in-Some.is)) v.2 }
