use Rattle.std.proofs.Common.{◌≡◌, ◌++◌, map, drop}
use Rattle.spec_parts.specs.Executors.{workers_from}
use Rattle.executor_pool.specs.Kept.{worker_of}
use Rattle.executor_pool.proofs.crew.declared.Given as goal

abbrev pub invariant-loop-place : goal.invariant-loop-place
invariant-loop-place l = map worker_of l.workers.items ++ workers_from l.place (drop l.place l.domains) ≡ workers_from 0 l.domains
