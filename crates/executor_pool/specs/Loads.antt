-- What holds of an executor's workers and the jobs that run, whatever was called.
use Rattle.std.specs.Prelude.{◌≡◌, ℕ, ◌≤◌, ◌==◌, Bool, true, false, List, [], ◌∷◌}
use Rattle.std.specs.List.{list_any}
use Rattle.spec_parts.specs.Data.{Running, Worker}
use Rattle.executor_pool.specs.Working.{weight_at}

-- whether one of these workers has this place
abbrev pub has_place : ℕ → List Worker → Bool
has_place place workers = list_any (λ worker. worker.place == place) workers

-- no place twice
abbrev pub AreApart : List Worker → Type 0
AreApart [] = Unit {0}
AreApart (worker ∷ workers) = (has_place worker.place workers ≡ false) × AreApart workers

-- each load is the weight of the jobs that run there, and at most 100
abbrev pub AreLoaded : List Running → List Worker → Type 0
AreLoaded jobs [] = Unit {0}
AreLoaded jobs (worker ∷ workers) = (worker.load ≡ weight_at worker.place jobs) × (worker.load ≤ 100) × AreLoaded jobs workers

-- each job runs on one of these workers
abbrev pub AreAtWork : List Worker → List Running → Type 0
AreAtWork workers [] = Unit {0}
AreAtWork workers (job ∷ jobs) = (has_place job.worker workers ≡ true) × AreAtWork workers jobs

pub record AreWorking (workers : List Worker) (jobs : List Running) : Type 0 where
  pub apart : AreApart workers
  pub loaded : AreLoaded jobs workers
  pub at_work : AreAtWork workers jobs
