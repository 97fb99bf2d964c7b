use Rattle.std.proofs.Common.{◌≡◌, ℕ, ◌<◌, ◌/◌, refl, sym, ap, ◌∙◌, subst}
use Rattle.resume_cells.specs.Known.{CanArm}
use Rattle.resume_cells.specs.Views.{arm_of}
use Rattle.resume_cells.proofs.Deciding.{arms}
use Rattle.resume_cells.proofs.Outcomes.{seated_marked}
use Rattle.resume_cells.proofs.cells.Cells.arm.Goals as goal

pub swap-requires : goal.swap-requires
swap-requires c =
    let cells = c.self.inside in
    let seat = c.seat.inside.seat in
    let k = c.self.invariant in
    let cell = c.args.cell in
    let counted : cells.table.shared.table_id.words ≡ c.args.self.now.count = k.0 ∙ ap (λ s. s.count) c.self.view_is in (
      ap (λ s. s.table) c.seat.view_is ∙ c.requires.seat ∙ sym (ap (λ s. s.table) c.self.view_is),
      subst (λ (n : ℕ). cell < n) (sym counted) c.requires.cell,
      arms cells.table.shared.key cells.table.shared.table_id.slots seat.id cell c.args.stamp seat.me c.seat.invariant.0
          (subst (λ (n : ℕ). cell < n) (sym (ap (λ s. s.count) c.self.view_is)) c.requires.cell)
          (ap (λ s. cell / s.each) c.seat.view_is ∙ c.requires.owns ∙ sym (ap (λ s. s.number) c.seat.view_is))
          (subst (λ s. CanArm s.told cell c.args.stamp) (sym c.seat.view_is) c.requires.free) c.requires.stamp,
    )

pub invariant_of-seat : goal.invariant_of-seat
invariant_of-seat c =
    let e = c.swap.ensures.2.tells c.args.stamp refl in let h = c.seat.invariant in
    (ap (λ v. v.live) e ∙ h.0, ap (λ v. v.known) e ∙ h.1, c.swap.ensures.2.slots ∙ h.2)

pub returns : goal.returns
returns c =
    let was = c.seat.inside.seat in let now = c.swap.new.seat in record {
      armed = seated_marked was.table_id now.table_id was.me.0 now.me.0 (arm_of c.args.cell c.args.stamp) c.args.seat.now c.seat.view_is c.swap.ensures.0 (c.swap.ensures.2.tells c.args.stamp refl);
    }
