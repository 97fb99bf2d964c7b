-- Each move keeps the sum: what is left and what it grants are what was left and what it releases.
use Rattle.std.proofs.Common.{◌≡◌, ℕ, zero, suc, ◌+◌, ◌==◌, Bool, true, false, List, [], ◌∷◌, arith, refl, sym, subst}
use Rattle.eio_value.specs.declared.call.Answer.TheVariants as answer
use Rattle.eio_value.specs.declared.call.Call.{Call}
use Rattle.eio_value.specs.declared.call.Call.TheVariants as call
use Rattle.eio_value.specs.declared.message.Waiter.{Waiter}
use Rattle.eio_value.specs.declared.raised.Outcome.TheVariants as outcome
use Rattle.eio_value.specs.declared.value.Value.TheVariants as value
use Rattle.law_parts.specs.Items.{Move, Calls, Strikes}
use Rattle.law_parts.proofs.Choices.{either_way}
use Rattle.spec_parts.specs.Data.{Semaphore}
use Rattle.spec_parts.specs.Objects.{called}
use Rattle.spec_parts.specs.Row.{Row, Queued, Stepped, Takers, Ignores, Looks, anybody, quiet, done, stepped}
use Rattle.spec_parts.specs.Semaphores.{semaphore, greatest_count}
use Rattle.spec_parts.specs.Strikes.{struck}
use Rattle.resource_pool.specs.Counting.{left, granted_by, released_by, Counted, counted, CountsWhatIsLeft}

pub record IsSemaphore (row : Row) : Type 0 where
  pub count : ℕ
  pub values : row.values ≡ Semaphore count

abbrev row_of : ℕ → List Queued → List Queued → Row
row_of count takers adders = record { values = Semaphore count; takers = takers; adders = adders }

is_row : (count : ℕ) (takers adders : List Queued) → IsSemaphore (row_of count takers adders)
is_row count takers adders = record { count = count; values = refl }

abbrev KeepsSum : Row → Call → Stepped → Type 0
KeepsSum row call step = (left step.row.values + granted_by call step ≡ left row.values + released_by call step) × IsSemaphore step.row

module _ (who : Waiter) (serial : ℕ) where
  abbrev SumKept : Bool → Call → ℕ → List Queued → List Queued → Type 0
  SumKept off call count takers adders = KeepsSum (row_of count takers adders) call (called (row_of count takers adders) who off serial call)

  acquire_keeps : (off : Bool) (object count : ℕ) (takers adders : List Queued) → SumKept off (call.Acquire object) count takers adders
  acquire_keeps true object zero takers adders = (refl, is_row zero takers adders)
  acquire_keeps false object zero takers adders = (refl, record { count = zero; values = refl })
  acquire_keeps off object (suc count) takers adders = (omega arith, is_row count takers adders)

  -- a release that finds the count below the greatest
  counts_keeps : (off : Bool) (object count : ℕ) (takers adders : List Queued)
      → KeepsSum (row_of count takers adders) (call.Release object) (stepped (row_of count takers adders) who off
      (Looks Takers anybody (λ waiter. record { values = Semaphore count; answer = done; outcome = outcome.Ok value.Unit }) (quiet (Semaphore (count + 1)) done)))
  counts_keeps off object count [] adders = (omega arith, is_row (count + 1) [] adders)
  counts_keeps off object count (taker ∷ takers) adders = (refl, is_row count takers adders)

  release_keeps : (off : Bool) (object count : ℕ) (takers adders : List Queued) → SumKept off (call.Release object) count takers adders
  release_keeps off object count takers adders =
      either_way
      (λ b. KeepsSum (row_of count takers adders) (call.Release object) (stepped (row_of count takers adders) who off
      (elim b [
        | true ↦ Ignores (quiet (Semaphore count) answer.Nothing)
        | false ↦ Looks Takers anybody (λ waiter. record { values = Semaphore count; answer = done; outcome = outcome.Ok value.Unit }) (quiet (Semaphore (count + 1)) done)
      ])))
      (count == greatest_count)
      (refl, is_row count takers adders)
      (counts_keeps off object count takers adders)

  sum_kept : (off : Bool) (call : Call) (count : ℕ) (takers adders : List Queued) → SumKept off call count takers adders
  sum_kept off (call.Acquire object) count takers adders = acquire_keeps off object count takers adders
  sum_kept off (call.Release object) count takers adders = release_keeps off object count takers adders
  sum_kept off other count takers adders = (refl, is_row count takers adders)

call_keeps : (row : Row) (who : Waiter) (off : Bool) (serial : ℕ) (call : Call) → IsSemaphore row → KeepsSum row call (called row who off serial call)
call_keeps row who off serial call is =
    let seen : row_of is.count row.takers row.adders ≡ row = λ i. record { values = sym is.values i; takers = row.takers; adders = row.adders } in
    subst (λ (r : Row). KeepsSum r call (called r who off serial call)) seen (sum_kept who serial off call is.count row.takers row.adders)

moves_keep : (row : Row) (moves : List Move) → IsSemaphore row → left (counted row moves).row.values + (counted row moves).granted ≡ left row.values + (counted row moves).released
moves_keep row [] is = refl
moves_keep row (Strikes who ∷ moves) is = moves_keep (struck row who) moves (record { count = is.count; values = is.values })
moves_keep row (Calls who off serial call ∷ moves) is =
    let step : Stepped = called row who off serial call in
    let kept : KeepsSum row call step = call_keeps row who off serial call is in
    let sum : left step.row.values + granted_by call step ≡ left row.values + released_by call step = kept.0 in
    let rest : Counted = counted step.row moves in
    let others : left rest.row.values + rest.granted ≡ left step.row.values + rest.released = moves_keep step.row moves kept.1 in
    omega arith

pub counts_what_is_left : CountsWhatIsLeft
counts_what_is_left count moves = moves_keep (semaphore count) moves (is_row count [] [])
