-- A call does the same on a row with some waiters too many, as lists in code have them until they come to them.
use Rattle.std.specs.Prelude.{◌≡◌, ℕ, Bool, true, Some}
use Rattle.eio_value.specs.declared.call.Answer.TheVariants as answer
use Rattle.eio_value.specs.declared.call.Call.{Call}
use Rattle.eio_value.specs.declared.message.Waiter.{Waiter}
use Rattle.eio_value.specs.declared.raised.Outcome.{Outcome}
use Rattle.spec_parts.specs.Objects.{called}
use Rattle.eio_value.specs.Sending.{Resumes}
use Rattle.spec_parts.specs.Row.{Row, Stepped, only_row}

-- the fiber that the call wakes is one of those that stay, and so is the caller where it waits
pub record TouchesNone (stays : Waiter → Bool) (who : Waiter) (step : Stepped) : Type 0 where
  pub woken : (found : Waiter) (given : Outcome) → step.sent ≡ Some (Resumes found given) → stays found ≡ true
  pub entered : step.answer ≡ answer.Waits → stays who ≡ true

-- the same step, in whose row only those stay
abbrev pub only_stepped : (Waiter → Bool) → Stepped → Stepped
only_stepped stays step = record { row = only_row stays step.row; answer = step.answer; sent = step.sent }

abbrev pub SkipsAlike : Type 0
SkipsAlike =
    (stays : Waiter → Bool) (row : Row) (who : Waiter) (off : Bool) (serial : ℕ) (call : Call)
    → TouchesNone stays who (called row who off serial call)
    → called (only_row stays row) who off serial call ≡ only_stepped stays (called row who off serial call)
