-- The workers of an executor and the jobs that run on them, as the code keeps them apart from the queue.
use Rattle.std.specs.Prelude.{ℕ, ◌+◌, ◌*◌, ◌≤◌, ◌<◌, List, [], ◌∷◌, ◌++◌, length, map}
use Rattle.spec_parts.specs.Data.{Running, Worker}
use Rattle.spec_parts.specs.Executors.{fits, has_number, relieved}
use Rattle.spec_parts.specs.Row.{but_first}
use Rattle.executor_pool.specs.Loads.{AreWorking}

-- the workers in order of choice, and the jobs that run, the oldest first
pub record Crew : Type 0 where
  pub workers : List Worker
  pub running : List Running

-- once a job has started on this worker, the first that it fits, which then stands last
abbrev pub crew_with : (number weight : ℕ) → Worker → Crew → Crew
crew_with number weight worker crew = record {
  workers = but_first (fits weight) crew.workers ++ record worker { load = worker.load + weight } ∷ [];
  running = crew.running ++ record { number = number; weight = weight; worker = worker.place } ∷ [];
}

-- once this job has ended
abbrev pub crew_without : Running → Crew → Crew
crew_without job crew = record { workers = map (relieved job) crew.workers; running = but_first (has_number job.number) crew.running }

-- each of these jobs weighs something
abbrev pub AreWeighty : List Running → Type 0
AreWeighty [] = Unit {0}
AreWeighty (job ∷ jobs) = (0 < job.weight) × AreWeighty jobs

-- what holds of them, and for how many jobs there is room
pub record AreManned (workers : List Worker) (jobs : List Running) (most : ℕ) : Type 0 where
  pub working : AreWorking workers jobs
  pub weighty : AreWeighty jobs
  pub room : 100 * length workers ≤ most
