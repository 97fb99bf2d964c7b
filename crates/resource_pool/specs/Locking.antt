-- Who has a mutex: it is locked only where it is free, unlocked only where it is held, and once it is poisoned nobody gets it.
-- It is locked where a `lock` answers `()`, where a `try_lock` answers 1, or where an `unlock` wakes the fiber that waits for it.
use Rattle.std.specs.Prelude.{◌≡◌, suc, pos, List, [], ◌∷◌, ◌++◌, Option, Some, None}
use Rattle.eio_value.specs.declared.call.Answer.{Answer}
use Rattle.eio_value.specs.declared.call.Answer.TheVariants as answer
use Rattle.eio_value.specs.declared.call.Call.{Call}
use Rattle.eio_value.specs.declared.call.Call.TheVariants as call
use Rattle.eio_value.specs.declared.value.Value.TheVariants as value
use Rattle.eio_value.specs.Sending.{Sent}
use Rattle.law_parts.specs.Items.{Move, Calls, Strikes}
use Rattle.spec_parts.specs.declared.hold.Hold.{Hold}
use Rattle.spec_parts.specs.declared.hold.Hold.TheVariants.{Free, Held, Poisoned}
use Rattle.spec_parts.specs.Mutexes.{mutex}
use Rattle.spec_parts.specs.Objects.{called}
use Rattle.spec_parts.specs.Row.{Row, Stepped}
use Rattle.spec_parts.specs.Strikes.{struck}

-- what happens to a mutex
pub data LockChange : Type 0 where
  Locks : LockChange
  Unlocks : LockChange
  Poisons : LockChange

-- these turns where the answer is `()` or another value but 0
abbrev pub if_taken : Answer → List LockChange → List LockChange
if_taken (answer.Done value.Unit) turns = turns
if_taken (answer.Done (value.Int (pos (suc more)))) turns = turns
if_taken other turns = []

abbrev pub if_woken : Option Sent → List LockChange → List LockChange
if_woken None turns = []
if_woken (Some sent) turns = turns

-- what a call does to the mutex, in order
abbrev pub turns_of : Call → Stepped → List LockChange
turns_of (call.Lock object) step = if_taken step.answer (Locks ∷ [])
turns_of (call.TryLock object) step = if_taken step.answer (Locks ∷ [])
turns_of (call.Unlock object) step = if_taken step.answer (Unlocks ∷ []) ++ if_woken step.sent (Locks ∷ [])
turns_of (call.Poison object) step = Poisons ∷ []
turns_of other step = []

abbrev pub turns : Row → List Move → List LockChange
turns row [] = []
turns row (Calls who off serial call ∷ moves) = let step : Stepped = called row who off serial call in turns_of call step ++ turns step.row moves
turns row (Strikes who ∷ moves) = turns (struck row who) moves

-- each turn comes where it may: from this state on
abbrev pub AreInTurn : Hold → List LockChange → Type 0
AreInTurn state [] = Unit {0}
AreInTurn state (Locks ∷ others) = (state ≡ Free) × AreInTurn Held others
AreInTurn state (Unlocks ∷ others) = (state ≡ Held) × AreInTurn Free others
AreInTurn state (Poisons ∷ others) = AreInTurn Poisoned others

abbrev pub LockedInTurn : Type 0
LockedInTurn = (moves : List Move) → AreInTurn Free (turns mutex moves)
