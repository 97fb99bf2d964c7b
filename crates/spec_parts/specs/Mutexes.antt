-- Mutexes. A mutex is free, held or poisoned. Unlocking passes it on to the first that waits; once it is poisoned nobody can lock it,
-- and whoever waits is woken with `Poisoned`, one fiber a call, in order.
use Rattle.std.specs.Prelude.{ℕ}
use Rattle.eio_value.specs.declared.call.Answer.{Answer}
use Rattle.eio_value.specs.declared.call.Answer.TheVariants as answer
use Rattle.eio_value.specs.declared.call.Call.{Call}
use Rattle.eio_value.specs.declared.call.Call.TheVariants as call
use Rattle.eio_value.specs.declared.plain.Misuse.TheVariants as misuse
use Rattle.eio_value.specs.declared.plain.Plain.TheVariants as plain
use Rattle.eio_value.specs.declared.raised.Outcome.TheVariants as outcome
use Rattle.eio_value.specs.declared.value.Value.TheVariants as value
use Rattle.spec_parts.specs.declared.hold.Hold.{Hold}
use Rattle.spec_parts.specs.declared.hold.Hold.TheVariants.{Free, Held, Poisoned}
use Rattle.spec_parts.specs.Data.{Mutex}
use Rattle.spec_parts.specs.Row.{Row, Takers, Waits, Does, Ignores, Looks, anybody, quiet, done, int, raise, opening}

-- `Poisoned`, raised with this serial
abbrev pub raises_poisoned : (serial : ℕ) → Answer
raises_poisoned serial = answer.Raised (raise serial plain.Poisoned)

-- takes it, waits, or raises `Poisoned`
abbrev pub lock_does : Hold → (serial : ℕ) → Does
lock_does Free serial = Ignores (quiet (Mutex Held) done)
lock_does Held serial = Ignores (Waits (Mutex Held) Takers value.Unit 0)
lock_does Poisoned serial = Ignores (quiet (Mutex Poisoned) (raises_poisoned serial))

-- takes it and answers 1, answers 0 where it is held, or raises `Poisoned`
abbrev pub try_lock_does : Hold → (serial : ℕ) → Does
try_lock_does Free serial = Ignores (quiet (Mutex Held) (answer.Done (int 1)))
try_lock_does Held serial = Ignores (quiet (Mutex Held) (answer.Done (int 0)))
try_lock_does Poisoned serial = Ignores (quiet (Mutex Poisoned) (raises_poisoned serial))

-- passes it to the first waiter, else frees it; raises where it is free or poisoned
abbrev pub unlock_does : Hold → (serial : ℕ) → Does
unlock_does Free serial = Ignores (quiet (Mutex Free) (answer.Raised (raise serial (plain.Invalid misuse.NotLocked))))
unlock_does Held serial = Looks Takers anybody (λ waiter. record { values = Mutex Held; answer = done; outcome = outcome.Ok value.Unit }) (quiet (Mutex Free) done)
unlock_does Poisoned serial = Ignores (quiet (Mutex Poisoned) (raises_poisoned serial))

-- the first waiter gets `Poisoned`; none where there is no waiter or the mutex isn't poisoned
abbrev pub mutex_wake_does : Hold → (serial : ℕ) → Does
mutex_wake_does Free serial = Ignores (quiet (Mutex Free) answer.Nothing)
mutex_wake_does Held serial = Ignores (quiet (Mutex Held) answer.Nothing)
mutex_wake_does Poisoned serial =
    Looks Takers anybody
    (λ waiter. record { values = Mutex Poisoned; answer = answer.Woke waiter.who; outcome = outcome.Err (raise serial plain.Poisoned) })
    (quiet (Mutex Poisoned) answer.Nothing)

abbrev pub mutex_does : Hold → (serial : ℕ) → Call → Does
mutex_does state serial (call.Lock object) = lock_does state serial
mutex_does state serial (call.TryLock object) = try_lock_does state serial
mutex_does state serial (call.Unlock object) = unlock_does state serial
mutex_does state serial (call.Poison object) = Ignores (quiet (Mutex Poisoned) done)
mutex_does state serial (call.NextWake object) = mutex_wake_does state serial
mutex_does state serial other = Ignores (quiet (Mutex state) answer.Nothing)

-- as declared: free
abbrev pub mutex : Row
mutex = opening (Mutex Free)
