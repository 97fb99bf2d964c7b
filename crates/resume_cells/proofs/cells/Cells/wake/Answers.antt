use Rattle.std.proofs.Common.{◌≡◌, ◌≢◌, ℕ, ◌^◌, ◌<◌, refl, sym, ap, ◌∙◌, subst, inl}
use Rattle.resume_cells.specs.declared.view.Deed.TheVariants.{Wake}
use Rattle.resume_cells.specs.Known.{waiting}
use Rattle.resume_cells.specs.Seats.{seated, with_found}
use Rattle.resume_cells.specs.Views.{decision_of}
use Rattle.resume_cells.proofs.Deciding.{decides}
use Rattle.resume_cells.proofs.Outcomes.{if_won, if_lost, seated_marked, seated_found, after_won, after_lost, after_stands}
use Rattle.resume_cells.proofs.cells.Cells.wake.Goals as goal

pub compare_exchange-word-requires : goal.compare_exchange-word-requires
compare_exchange-word-requires c =
    let cells = c.self.inside in
    let seat = c.seat.inside.seat in
    let k = c.self.invariant in
    let who = c.args.who in
    let counted : cells.table.shared.table_id.words ≡ c.args.self.now.count = k.0 ∙ ap (λ s. s.count) c.self.view_is in (
      ap (λ s. s.table) c.seat.view_is ∙ c.requires.seat ∙ sym (ap (λ s. s.table) c.self.view_is),
      subst (λ (n : ℕ). who.cell < n) (sym counted) c.requires.cell,
      decides cells.table.shared.key cells.table.shared.table_id.slots seat.id who.cell Wake who.armed c.args.stamp seat.me c.seat.invariant.0
          (subst (λ (n : ℕ). who.cell < n) (sym (ap (λ s. s.count) c.self.view_is)) c.requires.cell) (inl refl) (λ ne. absurd (ne refl)) c.requires.stamp.0 c.requires.stamp.1,
    )

pub invariant_of-seat : goal.invariant_of-seat
invariant_of-seat c =
    let who = c.args.who in
    after_stands Wake c.self.inside.table.shared.table_id.slots who.cell who.armed c.args.stamp c.seat.inside.seat.me c.compare_exchange-word.result c.compare_exchange-word.new.seat.me
    c.compare_exchange-word.ensures.2 c.seat.invariant

pub returns-clause-won : goal.returns-clause-won
returns-clause-won c =
    let who = c.args.who in let step = c.compare_exchange-word in let was = c.seat.inside.seat in
    if_won _ step.result (waiting who.armed) c.outcome.result c.outcome.ensures (λ hit.
    seated_marked was.table_id step.new.seat.table_id was.me.0 step.new.seat.me.0 (decision_of Wake who.cell who.armed c.args.stamp) c.args.seat.now c.seat.view_is step.ensures.0
    (after_won Wake c.self.inside.table.shared.table_id.slots who.cell who.armed c.args.stamp was.me step.result step.new.seat.me step.ensures.2 hit))

pub returns-clause-lost : goal.returns-clause-lost
returns-clause-lost c =
    let who = c.args.who in let step = c.compare_exchange-word in let was = c.seat.inside.seat in
    if_lost (λ (word : ℕ). (seated step.new.seat.table_id step.new.seat.me.0 ≡ with_found c.args.seat.now who.cell word) × (word ≢ waiting who.armed)) step.result (waiting who.armed) c.outcome.result c.outcome.ensures (λ miss. (
      seated_found was.table_id step.new.seat.table_id was.me.0 step.new.seat.me.0 who.cell step.result c.args.seat.now c.seat.view_is step.ensures.0
          (after_lost Wake c.self.inside.table.shared.table_id.slots who.cell who.armed c.args.stamp was.me step.result step.new.seat.me step.ensures.2 miss),
      miss,
    ))

pub returns-clause-bounded : goal.returns-clause-bounded
returns-clause-bounded c =
    let who = c.args.who in let step = c.compare_exchange-word in
    if_lost (λ (word : ℕ). word < 2 ^ 62) step.result (waiting who.armed) c.outcome.result c.outcome.ensures (λ _. step.ensures.2.bounded)
