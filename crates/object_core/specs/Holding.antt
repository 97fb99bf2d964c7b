-- What is seen of a core of any kind, and that it has its kind.
use Rattle.std.specs.Prelude.{◌≡◌}
use Rattle.eio_value.specs.Waits.{ObjectKind, Streams, Promises, Semaphores, Mutexes, Pools, Executors}
use Rattle.object_core.specs.declared.held.Held.{Held}
use Rattle.object_core.specs.declared.held.Held.TheVariants as held
use Rattle.object_core.specs.Kinds.{kind_of}
use Rattle.wait_list.specs.Lists.{Core}

abbrev pub core_in : Held → Core
core_in (held.Stream core) = core
core_in (held.Promise core) = core
core_in (held.Semaphore core) = core
core_in (held.Mutex core) = core
core_in (held.Pool core) = core
core_in (held.Executor core) = core

abbrev pub kind_in : Held → ObjectKind
kind_in (held.Stream core) = Streams
kind_in (held.Promise core) = Promises
kind_in (held.Semaphore core) = Semaphores
kind_in (held.Mutex core) = Mutexes
kind_in (held.Pool core) = Pools
kind_in (held.Executor core) = Executors

-- the row has the kind of its core
abbrev pub IsHeld : Held → Type 0
IsHeld held = kind_of (core_in held).row.values ≡ kind_in held
