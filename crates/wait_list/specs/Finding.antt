-- What a call finds that asks the fibers of a list in order. The dead to which it comes leave the list; the first that is alive is woken.
use Rattle.std.specs.Prelude.{◌≡◌, Bool, List, [], ◌∷◌, ◌++◌, Option, Some, None}
use Rattle.eio_value.specs.declared.raised.Outcome.{Outcome}
use Rattle.eio_value.specs.Sending.{Sent, Resumes}
use Rattle.eio_value.specs.Waking.{Test, Keeps, Skips, Scans, IsAlive}
use Rattle.spec_parts.specs.Row.{Queued}
use Rattle.spec_parts.specs.Skipping.{waiters}

-- what is known of waits before and after the call, whether it is told which are alive, the list, and what the call gives on what is left behind the dead
pub record Finds (knew knows : Test) (tells : Bool) (list : List Queued) (Gives : List Queued → Type 0) : Type 0 where
  pub dead : List Queued
  pub rest : List Queued
  pub are_all : list ≡ dead ++ rest
  pub skips : Skips knew knows tells (waiters dead)
  pub alive : IsAlive knew (waiters rest)
  pub keeps : Keeps knew knows
  pub gives : Gives rest

-- the first of these leaves them and is woken with this outcome; where there is none, nobody is
abbrev pub WakesFirst : Outcome → (found : Option Queued) → (left : List Queued) → (sent : Option Sent) → List Queued → Type 0
WakesFirst outcome found left sent [] = (found ≡ None) × (left ≡ []) × (sent ≡ None)
WakesFirst outcome found left sent (queued ∷ others) = (found ≡ Some queued) × (left ≡ others) × (sent ≡ Some (Resumes queued.who outcome))

-- a call that still asks: these were found dead, and these are left
pub record Seeks (knew knows : Test) (told tells : Bool) (all left : List Queued) (sent : Option Sent) : Type 0 where
  pub dead : List Queued
  pub are_all : all ≡ dead ++ left
  pub scans : Scans knew knows told (waiters dead)
  pub same : tells ≡ told
  pub quiet : sent ≡ None
