-- A call that answers `Off` has done nothing.
use Rattle.std.specs.Prelude.{◌≡◌, ℕ, Bool, true, None}
use Rattle.eio_value.specs.declared.call.Answer.TheVariants as answer
use Rattle.eio_value.specs.declared.call.Call.{Call}
use Rattle.eio_value.specs.declared.message.Waiter.{Waiter}
use Rattle.spec_parts.specs.Objects.{called}
use Rattle.spec_parts.specs.Row.{Row, Stepped}

-- the row is as before, nothing was sent, and the caller's context is off
pub record HasDoneNothing (before : Row) (off : Bool) (step : Stepped) : Type 0 where
  pub same : step.row ≡ before
  pub silent : step.sent ≡ None
  pub cancelled : off ≡ true

abbrev pub OffLeaves : Type 0
OffLeaves = (row : Row) (who : Waiter) (off : Bool) (serial : ℕ) (call : Call) → (called row who off serial call).answer ≡ answer.Off → HasDoneNothing row off (called row who off serial call)
