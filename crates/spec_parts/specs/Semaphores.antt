-- Semaphores. The count is what is left to acquire; whoever finds none waits, and a release is handed to the first that waits.
use Rattle.std.specs.Prelude.{ℕ, zero, suc, ◌+◌, ◌==◌, true, false}
use Rattle.eio_value.specs.declared.call.Answer.TheVariants as answer
use Rattle.eio_value.specs.declared.call.Call.{Call}
use Rattle.eio_value.specs.declared.call.Call.TheVariants as call
use Rattle.eio_value.specs.declared.raised.Outcome.TheVariants as outcome
use Rattle.eio_value.specs.declared.value.Value.TheVariants as value
use Rattle.spec_parts.specs.Data.{Semaphore}
use Rattle.spec_parts.specs.Row.{Row, Takers, Waits, Does, Ignores, Looks, anybody, quiet, done, opening}

-- no count goes beyond it
abbrev pub greatest_count : ℕ
greatest_count = 4294967295

-- one less, or waits at 0
abbrev pub acquire_does : ℕ → Does
acquire_does zero = Ignores (Waits (Semaphore zero) Takers value.Unit 0)
acquire_does (suc count) = Ignores (quiet (Semaphore count) done)

-- wakes the first waiter, else one more; at the greatest count it does nothing
abbrev pub release_does : ℕ → Does
release_does count =
    elim (count == greatest_count) [
      | true ↦ Ignores (quiet (Semaphore count) answer.Nothing)
      | false ↦ Looks Takers anybody
          (λ waiter. record { values = Semaphore count; answer = done; outcome = outcome.Ok value.Unit })
          (quiet (Semaphore (count + 1)) done)
    ]

abbrev pub semaphore_does : ℕ → Call → Does
semaphore_does count (call.Acquire object) = acquire_does count
semaphore_does count (call.Release object) = release_does count
semaphore_does count other = Ignores (quiet (Semaphore count) answer.Nothing)

-- as declared
abbrev pub semaphore : (count : ℕ) → Row
semaphore count = opening (Semaphore count)
