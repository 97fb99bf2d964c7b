-- What a call on an object in code gives, over any `Wake`: the step of its row, on the row without the dead to which it came.
use Rattle.std.specs.Prelude.{◌≡◌, ℕ, Bool}
use Rattle.eio_value.specs.declared.call.Call.{Call}
use Rattle.eio_value.specs.declared.message.Waiter.{Waiter}
use Rattle.eio_value.specs.Waking.{Test, Keeps}
use Rattle.spec_parts.specs.Objects.{does}
use Rattle.spec_parts.specs.Row.{Row, Does, Ignores, Looks, Stepped, stepped}
use Rattle.spec_parts.specs.Skipping.{Skipping}

-- a call that ignores who waits gives its step on the row as it is; one that looks at a list asks there in order, and gives its step on the row without the
-- dead to which it came
abbrev pub Asks : Test → Test → (tells : Bool) → Row → Waiter → (off : Bool) → Does → Stepped → Type 0
Asks knew knows tells row who off (Ignores alone) after = (stepped row who off (Ignores alone) ≡ after) × Keeps knew knows
Asks knew knows tells row who off (Looks side pick hand alone) after = Skipping knew knows tells row side (λ rest. stepped rest who off (Looks side pick hand alone) ≡ after)

-- what is known of waits before and after the call, whether it is told which are alive, the row before, the caller, whether its context is off, the serial of
-- the exception that the call may raise, the call, and what came of it
abbrev pub Meets : Test → Test → (tells : Bool) → Row → Waiter → (off : Bool) → (serial : ℕ) → Call → Stepped → Type 0
Meets knew knows tells row who off serial call after = Asks knew knows tells row who off (does row.values serial call) after
