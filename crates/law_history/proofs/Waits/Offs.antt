-- A call that answers `Off` leaves its row; so the list of rows, in which that row is put in its own place, is the same.
use Rattle.std.proofs.Common.{◌≡◌, ℕ, zero, suc, List, [], ◌∷◌, slice_set, Option, refl, sym, ap, ◌∙◌}
use Rattle.eio_value.specs.Sending.{Sent}
use Rattle.spec_parts.specs.Row.{Row, Stepped}
use Rattle.spec_machine.specs.Runs.{away_of}
use Rattle.spec_machine.specs.Shared.{SharedState, row_at, stepped, mine_of, posted, with_woken}
use Rattle.law_parts.specs.Offs.{HasDoneNothing}
use Rattle.law_parts.proofs.Offs.{off_leaves}
use Rattle.law_history.specs.Waits.Offs.{OffLeavesAll}

pub set_itself : (rows : List Row) (object : ℕ) → slice_set rows object (row_at rows object) ≡ rows
set_itself [] object = refl
set_itself (row ∷ rows) zero = refl
set_itself (row ∷ rows) (suc object) = ap (λ (rest : List Row). row ∷ rest) (set_itself rows object)

pub off_leaves_all : OffLeavesAll
off_leaves_all s t d stamp from asked mine away moves =
    let step : Stepped = stepped s asked in
    let nothing : HasDoneNothing (row_at s.rows asked.object) asked.off step = off_leaves (row_at s.rows asked.object) asked.who asked.off asked.serial asked.call (sym moves.0) in
    record {
      rows = ap (λ (u : SharedState). u.rows) moves.5 ∙ ap (λ (row : Row). slice_set s.rows asked.object row) nothing.same ∙ set_itself s.rows asked.object;
      silent = moves.1 ∙ ap (λ (sent : Option Sent). mine_of d stamp sent) nothing.silent;
      silent_away = moves.2 ∙ ap (λ (sent : Option Sent). away_of d stamp sent) nothing.silent;
      posts = ap (λ (u : SharedState). u.posts) moves.5 ∙ ap (λ (sent : Option Sent). posted d stamp sent s.posts) nothing.silent;
      decided = ap (λ (u : SharedState). u.decided) moves.5 ∙ ap (λ (sent : Option Sent). with_woken sent s.decided) nothing.silent;
      cancelled = nothing.cancelled;
    }
