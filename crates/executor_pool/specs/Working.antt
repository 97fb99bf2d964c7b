-- What the workers of an executor have to do, under any calls: on each run jobs of at most 100 hundredths together, and jobs start in order of their
-- numbers.
use Rattle.std.specs.Prelude.{◌≡◌, ℕ, zero, suc, ◌+◌, ◌≤◌, ◌==◌, if◌then◌else◌, List, [], ◌∷◌, ◌++◌, map, Option, Some, None}
use Rattle.eio_value.specs.Sending.{Sent, Resumes, Starts}
use Rattle.law_parts.specs.Items.{Move, Calls, Strikes}
use Rattle.spec_parts.specs.Data.{Data, Executor, Running, Submitted}
use Rattle.spec_parts.specs.Executors.{executor}
use Rattle.spec_parts.specs.Objects.{called}
use Rattle.spec_parts.specs.Row.{Row, Stepped}
use Rattle.spec_parts.specs.Strikes.{struck}

-- the jobs that run
abbrev pub running : Data → List Running
running (Executor work) = work.running
running other = []

-- the jobs that are queued
abbrev pub queued : Data → List Submitted
queued (Executor work) = work.queued
queued other = []

-- how many jobs were submitted
abbrev pub submitted : Data → ℕ
submitted (Executor work) = work.submitted
submitted other = 0

-- the weight of the jobs that run on the worker at this place of the declaration
abbrev pub weight_at : (place : ℕ) → List Running → ℕ
weight_at place [] = 0
weight_at place (job ∷ jobs) = (if job.worker == place then job.weight else 0) + weight_at place jobs

-- the number of the job that is started
abbrev pub started_by : Option Sent → List ℕ
started_by None = []
started_by (Some (Resumes who outcome)) = []
started_by (Some (Starts start)) = start.number ∷ []

-- what came of moves: the numbers of the jobs that started, in order, and the row at the end
pub record Worked : Type 0 where
  pub started : List ℕ
  pub row : Row

abbrev pub worked : Row → List Move → Worked
worked row [] = record { started = []; row = row }
worked row (Calls who off serial call ∷ moves) =
    let step : Stepped = called row who off serial call in
    let rest : Worked = worked step.row moves in
    record { started = started_by step.sent ++ rest.started; row = rest.row }
worked row (Strikes who ∷ moves) = worked (struck row who) moves

abbrev pub numbers : List Submitted → List ℕ
numbers jobs = map (λ job. job.number) jobs

-- 0, 1, 2 and so on, so many
abbrev pub first_numbers : ℕ → List ℕ
first_numbers zero = []
first_numbers (suc n) = first_numbers n ++ n ∷ []

abbrev pub WeightsAreBounded : Type 0
WeightsAreBounded = (most : ℕ) (domains : List ℕ) (moves : List Move) (place : ℕ) → weight_at place (running (worked (executor most domains) moves).row.values) ≤ 100

-- the jobs that started, in order, and then those that are queued, in order, are all that were submitted, in order
abbrev pub StartInOrder : Type 0
StartInOrder =
    (most : ℕ) (domains : List ℕ) (moves : List Move)
    → let after = worked (executor most domains) moves in after.started ++ numbers (queued after.row.values) ≡ first_numbers (submitted after.row.values)
