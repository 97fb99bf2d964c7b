use Rattle.std.proofs.Common.{◌≡◌, ℕ, List, ◌∷◌, sym, ap, ◌∙◌, arith}
use Rattle.atomic_table.specs.Table.{rest}
use Rattle.turn_lock.specs.Passes.{TurnView, PassView}
use Rattle.turn_lock.proofs.Turns.{draws}
use Rattle.turn_lock.proofs.turn.Turn.enter.Goals as goal

pub fetch_add-ticket-requires : goal.fetch_add-ticket-requires
fetch_add-ticket-requires g c =
    let words = c.self.invariant.0 in
    let free = ap (λ (p : PassView g.row.V-Entry.Denot). p.holds) c.pass.view_is ∙ c.requires.free in (
      ap (λ (p : PassView g.row.V-Entry.Denot). p.turn) c.pass.view_is ∙ c.requires.turn ∙ sym (ap (λ (t : TurnView). t.id) c.self.view_is),
      omega arith,
      draws (λ x. g.V.Kept.stands x 0) _ _ _ c.pass.inside.seat.me c.pass.invariant.live (c.pass.invariant.waits ∙ free) free,
    )

slot_taken : {A : Type 0} (l : List (ℕ × A)) (x : A) (m : List (ℕ × A)) → l ≡ (0, x) ∷ m → (y : A) × (l ≡ (0, y) ∷ rest l)
slot_taken l x m e = (x, e ∙ ap (λ t. (0, x) ∷ t) (sym (ap rest e)))

pub exchange-requires : goal.exchange-requires
exchange-requires g c = let t = c.wait_turn.ensures.takes in (
  c.wait_turn.ensures.turn ∙ c.fetch_add-ticket.ensures.0 ∙ ap (λ (p : PassView g.row.V-Entry.Denot). p.turn) c.pass.view_is ∙ c.requires.turn ∙ sym (ap (λ (t : TurnView). t.id) c.self.view_is),
  slot_taken _ _ _ t.3,
)
