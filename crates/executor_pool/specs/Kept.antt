-- The definitions' workers, jobs that run and jobs that are queued, of those that the code keeps.
use Rattle.spec_parts.specs.Data.{Running, Submitted, Worker}
use Rattle.executor_pool.specs.declared.crew.Running.{Running as KeptRunning}
use Rattle.executor_pool.specs.declared.crew.Worker.{Worker as KeptWorker}
use Rattle.executor_pool.specs.declared.exec.Submitted.{Submitted as KeptSubmitted}

abbrev pub worker_of : KeptWorker → Worker
worker_of kept = record { place = kept.place; domain = kept.domain; load = kept.load }

abbrev pub running_of : KeptRunning → Running
running_of kept = record { number = kept.number; weight = kept.weight; worker = kept.worker }

abbrev pub submitted_of : KeptSubmitted → Submitted
submitted_of kept = record { job = kept.job; number = kept.number }
