use Rattle.std.proofs.Common.{◌∷◌, Some, sym, ap, ◌∙◌, subst, arith}
use Rattle.atomic_table.specs.Table.{rest}
use Rattle.turn_lock.specs.Passes.{TurnView, PassView, Adds}
use Rattle.turn_lock.proofs.Turns.{leaves_named}
use Rattle.turn_lock.proofs.turn.Turn.leave.Goals as goal

pub fetch_add-requires : goal.fetch_add-requires
fetch_add-requires g c =
    let x = c.exchange-hole.ensures in
    let words = c.self.invariant.0 in
    let held = ap (λ (p : PassView g.row.V-Entry.Denot). p.holds) c.pass.view_is ∙ c.requires.held in
    let out = c.pass.invariant.slots ∙ ap Rattle.turn_lock.specs.Passes.slots_out held in (
      x.0 ∙ ap (λ (p : PassView g.row.V-Entry.Denot). p.turn) c.pass.view_is ∙ c.requires.turn ∙ sym (ap (λ (t : TurnView). t.id) c.self.view_is),
      omega arith,
      leaves_named (λ v. g.V.Kept.stands v 0) _ _ _ c.exchange-hole.new.seat.me c.pass.inside.seat.me.0 c.args.value g.N.Names.entry
          (x.3 ∙ ap (λ l. (c.pass.inside.seat.me.0, (0, Some c.args.value) ∷ rest l)) out) held
          (subst (λ (p : PassView g.row.V-Entry.Denot). Adds (λ v. g.V.Kept.stands v 0) p.number p.seen c.args.value g.N.Names.entry) (sym c.pass.view_is) c.requires.adds),
    )
