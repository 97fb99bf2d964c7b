-- A call on a row in which dead waiters stand is the definitions' call on the row without them.
use Rattle.std.specs.Prelude.{◌≡◌, ℕ, Bool, false}
use Rattle.eio_value.specs.declared.call.Call.{Call}
use Rattle.eio_value.specs.declared.message.Waiter.{Waiter}
use Rattle.eio_value.specs.Waking.{Test, IsKnown}
use Rattle.law_parts.specs.Skips.{TouchesNone, only_stepped}
use Rattle.object_core.specs.Calling.{MeetsCall}
use Rattle.spec_parts.specs.Objects.{called}
use Rattle.spec_parts.specs.Row.{Row, Stepped, only_row}

-- What a call gives in code that meets its row: whoever is chosen to stay, as long as none does whose wait is known as decided after the call, and the fiber
-- that was woken does, and so does the caller where it waits. Then the definitions' step of the row with those alone answers and sends the same, and its row
-- is the new one with those alone. The end of a job is no exception
abbrev pub DeadStepAlike : Type 0
DeadStepAlike =
    (knew knows : Test) (tells : Bool) (row : Row) (who : Waiter) (off : Bool) (serial : ℕ) (call : Call) (after : Stepped) (stays : Waiter → Bool)
    → MeetsCall knew knows tells row who off serial call after
    → ((other : Waiter) → IsKnown knows other → stays other ≡ false)
    → TouchesNone stays who after
    → called (only_row stays row) who off serial call ≡ only_stepped stays after
