-- A strike in what domains share: one that won takes its waiter and no more, and one that was lost takes nothing.
use Rattle.std.specs.Prelude.{◌≡◌, ℕ, true, false, None, Option}
use Rattle.eio_value.specs.declared.message.Waiter.{Waiter}
use Rattle.spec_parts.specs.Strikes.{struck}
use Rattle.spec_machine.specs.Labels.{Struck}
use Rattle.spec_machine.specs.Runs.{Letter, SharedMoves}
use Rattle.spec_machine.specs.Shared.{SharedState, row_at}

-- each object is the one before less this waiter, and nothing was sent
pub record TakesOnly (s : SharedState) (who : Waiter) (away : Option Letter) (t : SharedState) : Type 0 where
  pub rows : (object : ℕ) → row_at t.rows object ≡ struck (row_at s.rows object) who
  pub stamps : t.stamps ≡ s.stamps
  pub posts : t.posts ≡ s.posts
  pub silent : away ≡ None

abbrev pub StrikesTakeOne : Type 0
StrikesTakeOne =
    (s t : SharedState) (d stamp from : ℕ) (who : Waiter) (away : Option Letter)
    → SharedMoves s d stamp (Struck who true) away from t
    → TakesOnly s who away t

abbrev pub LostStrikesTakeNone : Type 0
LostStrikesTakeNone = (s t : SharedState) (d stamp from : ℕ) (who : Waiter) (away : Option Letter) → SharedMoves s d stamp (Struck who false) away from t → t ≡ s
