-- A call on a row in whose list dead waiters may still stand, as code has it: the call asks them in order, and comes to the dead before it comes to
-- one that is alive or to the end. They leave the row; what the call does is its step on the row without them.
use Rattle.std.specs.Prelude.{◌≡◌, Bool, List, ◌++◌, map}
use Rattle.eio_value.specs.declared.message.Waiter.{Waiter}
use Rattle.eio_value.specs.Waking.{Test, Keeps, Skips, IsAlive}
use Rattle.spec_parts.specs.Row.{Row, Queued, Side, queue, with_queue}

-- the waits of a list
abbrev pub waiters : List Queued → List Waiter
waiters = map (λ queued. queued.who)

-- what is known of waits before and after the call, whether it is told which are alive, the row before, the list that the call looks at, and what the call
-- gives on a row
pub record Skipping (knew knows : Test) (tells : Bool) (row : Row) (side : Side) (Gives : Row → Type 0) : Type 0 where
  pub dead : List Queued
  pub rest : List Queued
  pub are_all : queue side row ≡ dead ++ rest
  pub skips : Skips knew knows tells (waiters dead)
  pub alive : IsAlive knew (waiters rest)
  pub keeps : Keeps knew knows
  pub gives : Gives (with_queue side rest row.values row)
