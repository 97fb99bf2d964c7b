use Rattle.std.proofs.Common.{ap, ◌∙◌, subst}
use Rattle.resume_cells.specs.Seats.{AreNumbered}
use Rattle.resume_cells.proofs.Dealing.{takes_in}
use Rattle.resume_cells.proofs.seat.take_in.Goals as goal

pub join_seat-requires : goal.join_seat-requires
join_seat-requires c =
    let h = c.loop-other.invariant in
    let other = c.other.inside.seat in
    let s = subst (AreNumbered c.args.shared.now.table_id _) c.in-Some.ensures.items h.4 in (
      h.0,
      ap (λ o. o.table) c.other.view_is ∙ s.0,
      c.other.invariant.2,
      c.requires.fits.1,
      takes_in c.args.shared.now.key c.loop-other.first.id c.loop-other.first.me.0 other.id other.me.0 (ap (λ v. v.live) h.2 ∙ c.requires.first.0) (ap (λ v. v.number) h.2 ∙ c.requires.first.1) c.other.invariant.0
          (ap (λ o. o.number) c.other.view_is ∙ s.1),
    )
