-- What is known of waits while a call asks waiters in order. A wait is named by its cell and the stamp with which it was armed.
-- A waiter is dead in a call where its wait turns out to be decided already, and alive where this call wakes it.
use Rattle.std.specs.Prelude.{◌≡◌, ℕ, Bool, true, false, List, [], ◌∷◌, All, Option, Some, None}
use Rattle.eio_value.specs.declared.call.Woken.{Woken}
use Rattle.eio_value.specs.declared.call.Woken.TheVariants.{Won, Lost}
use Rattle.eio_value.specs.declared.message.Waiter.{Waiter}
use Rattle.eio_value.specs.declared.raised.Outcome.{Outcome}
use Rattle.eio_value.specs.Sending.{Sent, Resumes}

-- which waits were found decided, by cell and armed stamp
abbrev pub Test : Type 0
Test = (cell armed : ℕ) → Bool

abbrev pub IsKnown : Test → Waiter → Type 0
IsKnown knows who = knows who.cell who.armed ≡ true

abbrev pub IsUnknown : Test → Waiter → Type 0
IsUnknown knows who = knows who.cell who.armed ≡ false

-- no wait that was known is forgotten
abbrev pub Keeps : Test → Test → Type 0
Keeps knew knows = (cell armed : ℕ) → knew cell armed ≡ true → knows cell armed ≡ true

-- what one wake says: it has won, where the wait wasn't known as decided, and then its one message is sent; or it has lost, where the wait is known afterwards
abbrev pub Wakes : Test → Test → Waiter → Outcome → Woken → Option Sent → Type 0
Wakes knew knows who outcome Won sent = IsUnknown knew who × (sent ≡ Some (Resumes who outcome))
Wakes knew knows who outcome Lost sent = IsKnown knows who × (sent ≡ None)

-- these waiters were found dead: all are known afterwards, and, where it is told which waits are alive, were known before
pub record Skips (knew knows : Test) (tells : Bool) (dead : List Waiter) : Type 0 where
  pub known : All (IsKnown knows) dead
  pub told : tells ≡ true → All (IsKnown knew) dead

-- a call that has found these dead so far, and nobody alive
pub record Scans (knew knows : Test) (tells : Bool) (dead : List Waiter) : Type 0 where
  pub skips : Skips knew knows tells dead
  pub keeps : Keeps knew knows
  pub exact : tells ≡ true → Keeps knows knew

-- the first of these wasn't known as decided
abbrev pub IsAlive : Test → List Waiter → Type 0
IsAlive knew [] = Unit {0}
IsAlive knew (who ∷ others) = IsUnknown knew who
