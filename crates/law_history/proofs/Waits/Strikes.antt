-- The rows of a list that are struck one by one.
use Rattle.std.proofs.Common.{◌≡◌, ℕ, zero, suc, List, [], ◌∷◌, map, refl, ap, ◌∙◌}
use Rattle.eio_value.specs.declared.message.Waiter.{Waiter}
use Rattle.spec_parts.specs.Row.{Row}
use Rattle.spec_parts.specs.Strikes.{struck}
use Rattle.spec_machine.specs.Shared.{SharedState, row_at}
use Rattle.law_history.specs.Waits.Strikes.{StrikesTakeOne, LostStrikesTakeNone}

pub struck_at : (who : Waiter) (rows : List Row) (object : ℕ) → row_at (map (λ row. struck row who) rows) object ≡ struck (row_at rows object) who
struck_at who [] object = refl
struck_at who (row ∷ rows) zero = refl
struck_at who (row ∷ rows) (suc object) = struck_at who rows object

pub strikes_take_one : StrikesTakeOne
strikes_take_one s t d stamp from who away moves = record {
  rows = λ object. ap (λ (u : SharedState). row_at u.rows object) moves.2 ∙ struck_at who s.rows object;
  stamps = ap (λ (u : SharedState). u.stamps) moves.2;
  posts = ap (λ (u : SharedState). u.posts) moves.2;
  silent = moves.0;
}

pub lost_strikes_take_none : LostStrikesTakeNone
lost_strikes_take_none s t d stamp from who away moves = moves.2
