-- The kind of object that a row has.
use Rattle.eio_value.specs.Waits.{ObjectKind, Streams, Promises, Semaphores, Mutexes, Pools, Executors}
use Rattle.spec_parts.specs.Data.{Data, Stream, Promise, Semaphore, Mutex, Pool, Executor}

abbrev pub kind_of : Data → ObjectKind
kind_of (Stream capacity items) = Streams
kind_of (Promise kept) = Promises
kind_of (Semaphore count) = Semaphores
kind_of (Mutex state) = Mutexes
kind_of (Pool size made idle) = Pools
kind_of (Executor work) = Executors
