-- A semaphore's count: it and all that was acquired are together what was declared and all that was released.
-- An acquire is granted where it answers `()`, or where a release wakes the fiber that waits in it.
use Rattle.std.specs.Prelude.{◌≡◌, ℕ, ◌+◌, List, [], ◌∷◌, Option, Some, None}
use Rattle.eio_value.specs.declared.call.Answer.{Answer}
use Rattle.eio_value.specs.declared.call.Answer.TheVariants as answer
use Rattle.eio_value.specs.declared.call.Call.{Call}
use Rattle.eio_value.specs.declared.call.Call.TheVariants as call
use Rattle.eio_value.specs.Sending.{Sent}
use Rattle.law_parts.specs.Items.{Move, Calls, Strikes}
use Rattle.spec_parts.specs.Data.{Data, Semaphore}
use Rattle.spec_parts.specs.Objects.{called}
use Rattle.spec_parts.specs.Row.{Row, Stepped}
use Rattle.spec_parts.specs.Semaphores.{semaphore}
use Rattle.spec_parts.specs.Strikes.{struck}

-- what is left to acquire
abbrev pub left : Data → ℕ
left (Semaphore count) = count
left other = 0

-- one where the answer is a value
abbrev pub one_if_done : Answer → ℕ
one_if_done (answer.Done value) = 1
one_if_done other = 0

-- one where a fiber was woken
abbrev pub one_if_woken : Option Sent → ℕ
one_if_woken None = 0
one_if_woken (Some sent) = 1

-- how many acquires a call has granted
abbrev pub granted_by : Call → Stepped → ℕ
granted_by (call.Acquire object) step = one_if_done step.answer
granted_by (call.Release object) step = one_if_woken step.sent
granted_by other step = 0

-- how many were given back by a call
abbrev pub released_by : Call → Stepped → ℕ
released_by (call.Release object) step = one_if_done step.answer
released_by other step = 0

-- what came of moves: how many acquires were granted, how many were released, and the row at the end
pub record Counted : Type 0 where
  pub granted : ℕ
  pub released : ℕ
  pub row : Row

abbrev pub counted : Row → List Move → Counted
counted row [] = record { granted = 0; released = 0; row = row }
counted row (Calls who off serial call ∷ moves) =
    let step : Stepped = called row who off serial call in
    let rest : Counted = counted step.row moves in
    record { granted = granted_by call step + rest.granted; released = released_by call step + rest.released; row = rest.row }
counted row (Strikes who ∷ moves) = counted (struck row who) moves

abbrev pub CountsWhatIsLeft : Type 0
CountsWhatIsLeft = (count : ℕ) (moves : List Move) → left (counted (semaphore count) moves).row.values + (counted (semaphore count) moves).granted ≡ count + (counted (semaphore count) moves).released
