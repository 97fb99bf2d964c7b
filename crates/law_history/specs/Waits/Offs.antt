-- A call that answers `Off` in what domains share: it has done nothing there.
use Rattle.std.specs.Prelude.{◌≡◌, ℕ, true, None, Option}
use Rattle.eio_value.specs.declared.call.Answer.TheVariants as answer
use Rattle.eio_value.specs.declared.message.Message.{Message}
use Rattle.spec_machine.specs.Labels.{Called}
use Rattle.spec_machine.specs.Runs.{Letter, SharedMoves}
use Rattle.spec_machine.specs.Shared.{Asked, SharedState}

-- each object is as before, nothing was sent, no wait was decided, and the caller's context is off
pub record HasLeftAll (s : SharedState) (asked : Asked) (mine : Option Message) (away : Option Letter) (t : SharedState) : Type 0 where
  pub rows : t.rows ≡ s.rows
  pub silent : mine ≡ None
  pub silent_away : away ≡ None
  pub posts : t.posts ≡ s.posts
  pub decided : t.decided ≡ s.decided
  pub cancelled : asked.off ≡ true

abbrev pub OffLeavesAll : Type 0
OffLeavesAll =
    (s t : SharedState) (d stamp from : ℕ) (asked : Asked) (mine : Option Message) (away : Option Letter)
    → SharedMoves s d stamp (Called asked answer.Off mine) away from t
    → HasLeftAll s asked mine away t
