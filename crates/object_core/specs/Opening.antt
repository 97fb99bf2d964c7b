-- The row of an object as it is declared. An executor queues as many jobs as there are cells.
use Rattle.std.specs.Prelude.{ℕ}
use Rattle.object_core.specs.declared.declared.Declared.{Declared}
use Rattle.object_core.specs.declared.declared.Declared.TheVariants as declared
use Rattle.spec_parts.specs.Executors.{executor}
use Rattle.spec_parts.specs.Mutexes.{mutex}
use Rattle.spec_parts.specs.Pools.{pool}
use Rattle.spec_parts.specs.Promises.{promise}
use Rattle.spec_parts.specs.Row.{Row}
use Rattle.spec_parts.specs.Semaphores.{semaphore}
use Rattle.spec_parts.specs.Streams.{stream}

abbrev pub opened : (cells : ℕ) → Declared → Row
opened cells (declared.Stream capacity) = stream capacity
opened cells declared.Promise = promise
opened cells (declared.Semaphore count) = semaphore count
opened cells declared.Mutex = mutex
opened cells (declared.Pool size) = pool size
opened cells (declared.Executor workers) = executor cells workers.now
