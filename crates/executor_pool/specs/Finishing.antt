-- What a call on an object in code gives, over any `Wake`, where it asks one fiber of a list alone: the first that it is for. Where that one is dead
-- it leaves the list, and the call gives the step of its row on the row without it.
use Rattle.std.specs.Prelude.{◌≡◌, ℕ, Bool, List, [], ◌∷◌, filter, find, Some}
use Rattle.eio_value.specs.declared.call.Call.{Call}
use Rattle.eio_value.specs.declared.message.Waiter.{Waiter}
use Rattle.eio_value.specs.Waking.{Test, Keeps, Skips, IsAlive}
use Rattle.spec_parts.specs.Objects.{does}
use Rattle.spec_parts.specs.Row.{Row, Queued, Side, Does, Ignores, Looks, Stepped, but_first, queue, stepped, with_queue}
use Rattle.spec_parts.specs.Skipping.{waiters}

-- nobody is dead, and all are left; or one is, the first of its kind, and the others are left
abbrev pub Parts : (pick : Queued → Bool) → List Queued → (dead rest : List Queued) → Type 0
Parts pick list [] rest = rest ≡ list
Parts pick list (queued ∷ more) rest = (more ≡ []) × (find pick list ≡ Some queued) × (rest ≡ but_first pick list)

-- what is known of waits before and after the call, whether it is told which are alive, the row before, the list and which fiber the call is for, and
-- what the call gives on a row
pub record AsksOne (knew knows : Test) (tells : Bool) (row : Row) (side : Side) (pick : Queued → Bool) (Gives : Row → Type 0) : Type 0 where
  pub dead : List Queued
  pub rest : List Queued
  pub parts : Parts pick (queue side row) dead rest
  pub skips : Skips knew knows tells (waiters dead)
  pub alive : IsAlive knew (waiters (filter pick rest))
  pub keeps : Keeps knew knows
  pub gives : Gives (with_queue side rest row.values row)

abbrev pub AsksFor : Test → Test → (tells : Bool) → Row → Waiter → (off : Bool) → Does → Stepped → Type 0
AsksFor knew knows tells row who off (Ignores alone) after = (stepped row who off (Ignores alone) ≡ after) × Keeps knew knows
AsksFor knew knows tells row who off (Looks side pick hand alone) after = AsksOne knew knows tells row side pick (λ rest. stepped rest who off (Looks side pick hand alone) ≡ after)

-- the operands are those of `Meets`
abbrev pub MeetsOne : Test → Test → (tells : Bool) → Row → Waiter → (off : Bool) → (serial : ℕ) → Call → Stepped → Type 0
MeetsOne knew knows tells row who off serial call after = AsksFor knew knows tells row who off (does row.values serial call) after
