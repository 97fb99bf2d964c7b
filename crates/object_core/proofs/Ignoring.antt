-- Calls that ignore who waits, on any object, meet its row by their step alone.
use Rattle.std.proofs.Common.{◌≡◌, ℕ, Bool, Some, None}
use Rattle.eio_value.specs.declared.call.Call.TheVariants as call
use Rattle.eio_value.specs.declared.message.Waiter.{Waiter}
use Rattle.eio_value.specs.declared.raised.Outcome.{Outcome}
use Rattle.eio_value.specs.declared.value.Value.{Value}
use Rattle.eio_value.specs.Waking.{Test}
use Rattle.eio_value.specs.Waits.{Mutexes}
use Rattle.object_core.specs.Kinds.{kind_of}
use Rattle.spec_parts.specs.declared.hold.Hold.TheVariants.{Free, Held, Poisoned}
use Rattle.spec_parts.specs.Data.{Data, Stream, Promise, Semaphore, Mutex, Pool, Executor}
use Rattle.spec_parts.specs.Objects.{does}
use Rattle.spec_parts.specs.Row.{Row, done, Does, Ignores, Looks, Stepped, stepped}
use Rattle.wait_list.specs.Meeting.{Asks}

abbrev pub IsIgnoring : Does → Type 0
IsIgnoring (Ignores alone) = Unit {0}
IsIgnoring (Looks side pick hand alone) = ⊥

-- who asks nobody knows what it knew
pub asks_nobody : (knew : Test) (tells : Bool) (row : Row) (who : Waiter) (off : Bool) (what : Does) (after : Stepped) → IsIgnoring what → stepped row who off what ≡ after → Asks knew knew tells row who off what after
asks_nobody knew tells row who off (Ignores alone) after ignores gives = (gives, λ cell armed known. known)
asks_nobody knew tells row who off (Looks side pick hand alone) after ignores gives = absurd ignores

pub resolve_ignores : (values : Data) (serial object : ℕ) (given : Outcome) → IsIgnoring (does values serial (call.Resolve object given))
resolve_ignores (Stream capacity items) serial object given = tt
resolve_ignores (Promise None) serial object given = tt
resolve_ignores (Promise (Some kept)) serial object given = tt
resolve_ignores (Semaphore count) serial object given = tt
resolve_ignores (Mutex state) serial object given = tt
resolve_ignores (Pool size made idle) serial object given = tt
resolve_ignores (Executor work) serial object given = tt

pub try_resolve_ignores : (values : Data) (serial object : ℕ) (given : Value) → IsIgnoring (does values serial (call.TryResolve object given))
try_resolve_ignores (Stream capacity items) serial object given = tt
try_resolve_ignores (Promise None) serial object given = tt
try_resolve_ignores (Promise (Some kept)) serial object given = tt
try_resolve_ignores (Semaphore count) serial object given = tt
try_resolve_ignores (Mutex state) serial object given = tt
try_resolve_ignores (Pool size made idle) serial object given = tt
try_resolve_ignores (Executor work) serial object given = tt

pub try_lock_ignores : (values : Data) (serial object : ℕ) → IsIgnoring (does values serial (call.TryLock object))
try_lock_ignores (Stream capacity items) serial object = tt
try_lock_ignores (Promise kept) serial object = tt
try_lock_ignores (Semaphore count) serial object = tt
try_lock_ignores (Mutex Free) serial object = tt
try_lock_ignores (Mutex Held) serial object = tt
try_lock_ignores (Mutex Poisoned) serial object = tt
try_lock_ignores (Pool size made idle) serial object = tt
try_lock_ignores (Executor work) serial object = tt

-- a mutex is poisoned, and answers so
pub poisoned : (knew : Test) (tells : Bool) (values : Data) (row new : Row) (who : Waiter) (off : Bool) (serial object : ℕ) → kind_of values ≡ Mutexes
    → (stepped row who off (does values serial (call.Poison object))).row ≡ new
    → Asks knew knew tells row who off (does values serial (call.Poison object)) (record { row = new; answer = done; sent = None })
poisoned knew tells (Mutex state) row new who off serial object is same = (λ i. record { row = same i; answer = done; sent = None }, λ cell armed known. known)
poisoned knew tells (Stream capacity items) row new who off serial object is same = absurd (cc)
poisoned knew tells (Promise kept) row new who off serial object is same = absurd (cc)
poisoned knew tells (Semaphore count) row new who off serial object is same = absurd (cc)
poisoned knew tells (Pool size made idle) row new who off serial object is same = absurd (cc)
poisoned knew tells (Executor work) row new who off serial object is same = absurd (cc)
