-- A call on any shared object. A call that isn't one of the object's kind does nothing.
use Rattle.std.specs.Prelude.{ℕ, Bool}
use Rattle.eio_value.specs.declared.call.Call.{Call}
use Rattle.eio_value.specs.declared.message.Waiter.{Waiter}
use Rattle.spec_parts.specs.Data.{Data, Stream, Promise, Semaphore, Mutex, Pool, Executor}
use Rattle.spec_parts.specs.Executors.{executor_does}
use Rattle.spec_parts.specs.Mutexes.{mutex_does}
use Rattle.spec_parts.specs.Pools.{pool_does}
use Rattle.spec_parts.specs.Promises.{promise_does}
use Rattle.spec_parts.specs.Row.{Row, Does, Stepped, stepped}
use Rattle.spec_parts.specs.Semaphores.{semaphore_does}
use Rattle.spec_parts.specs.Streams.{stream_does}

-- what a call does; the serial is that of the exception that it may raise
abbrev pub does : Data → (serial : ℕ) → Call → Does
does (Stream capacity items) serial call = stream_does capacity items call
does (Promise kept) serial call = promise_does kept serial call
does (Semaphore count) serial call = semaphore_does count call
does (Mutex state) serial call = mutex_does state serial call
does (Pool size made idle) serial call = pool_does size made idle call
does (Executor work) serial call = executor_does work call

-- a call of a fiber whose context is off or isn't
abbrev pub called : Row → Waiter → (off : Bool) → (serial : ℕ) → Call → Stepped
called row who off serial call = stepped row who off (does row.values serial call)
