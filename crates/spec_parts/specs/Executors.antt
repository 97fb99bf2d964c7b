-- Executors. Submitted jobs are numbered from 0 and queued; the submitter waits until its job is done. The job at the head of the queue goes to the
-- first worker, in order of choice, whose jobs weigh at most 100 together with it; that worker then stands last. A submitter that was struck has left
-- its list, and its job stays.
use Rattle.std.specs.Prelude.{ℕ, ◌+◌, ◌-◌, ◌==◌, Bool, true, false, nat_lt, nat_le, if◌then◌else◌, List, [], ◌∷◌, ◌++◌, length, map, find, Option, Some, None}
use Rattle.eio_value.specs.declared.call.Answer.TheVariants as answer
use Rattle.eio_value.specs.declared.call.Call.{Call}
use Rattle.eio_value.specs.declared.call.Call.TheVariants as call
use Rattle.eio_value.specs.declared.message.Job.{Job}
use Rattle.eio_value.specs.declared.raised.Outcome.{Outcome}
use Rattle.eio_value.specs.declared.value.Value.TheVariants as value
use Rattle.spec_parts.specs.Data.{Submitted, Worker, Running, Work, Executor}
use Rattle.spec_parts.specs.Row.{Row, Takers, Alone, Keeps, Waits, Does, Ignores, Looks, quiet, done, but_first, opening}

-- Submitting

abbrev pub with_job : Work → Job → Work
with_job work job = record work { queued = work.queued ++ record { job = job; number = work.submitted } ∷ []; submitted = work.submitted + 1 }

-- queues the job and waits; where as many are queued as can be, it does nothing, whether the caller's context is off or not
abbrev pub submit_does : Work → Job → Does
submit_does work job =
    Ignores (elim (nat_lt (length work.queued) work.most) [
      | true ↦ Waits (Executor (with_job work job)) Takers value.Unit work.submitted
      | false ↦ quiet (Executor work) answer.Nothing
    ])

-- Starting

-- the worker's jobs weigh at most 100 together with one of this weight
abbrev pub fits : (weight : ℕ) → Worker → Bool
fits weight worker = nat_le (worker.load + weight) 100

-- the job has gone from the queue to this worker, which stands last
abbrev pub with_running : Work → Submitted → List Submitted → Worker → Work
with_running work head others worker =
    record work {
      queued = others;
      workers = but_first (fits head.job.weight) work.workers ++ record worker { load = worker.load + head.job.weight } ∷ [];
      running = work.running ++ record { number = head.number; weight = head.job.weight; worker = worker.place } ∷ [];
    }

abbrev pub start_on : Work → Submitted → List Submitted → Option Worker → Alone
start_on work head others None = quiet (Executor work) answer.Nothing
start_on work head others (Some worker) =
    Keeps (Executor (with_running work head others worker)) (answer.Started worker.domain head.number) (Some (record { domain = worker.domain; job = head.job; number = head.number }))

-- the head job goes to the first worker that it fits; none where no job is queued, or where it fits no worker
abbrev pub start_head : Work → List Submitted → Alone
start_head work [] = quiet (Executor work) answer.Nothing
start_head work (head ∷ others) = start_on work head others (find (fits head.job.weight) work.workers)

-- Finishing

-- whether this is the job with a number
abbrev pub has_number : ℕ → Running → Bool
has_number number job = job.number == number

-- the worker without the weight of a job, if it ran it
abbrev pub relieved : Running → Worker → Worker
relieved job worker = if worker.place == job.worker then record worker { load = worker.load - job.weight } else worker

abbrev pub without_running : Work → Running → Work
without_running work job = record work { workers = map (relieved job) work.workers; running = but_first (has_number job.number) work.running }

-- the weight is freed, and the submitter is woken with the outcome if it still waits; nothing where that job doesn't run
abbrev pub finish : Work → (number : ℕ) → Outcome → Option Running → Does
finish work number given None = Ignores (quiet (Executor work) answer.Nothing)
finish work number given (Some job) =
    Looks Takers (λ submitter. submitter.number == number)
    (λ submitter. record { values = Executor (without_running work job); answer = done; outcome = given })
    (quiet (Executor (without_running work job)) done)

abbrev pub executor_does : Work → Call → Does
executor_does work (call.Submit job) = submit_does work job
executor_does work (call.NextStart object) = Ignores (start_head work work.queued)
executor_does work (call.Done object number given) = finish work number given (find (has_number number) work.running)
executor_does work other = Ignores (quiet (Executor work) answer.Nothing)

-- workers in these domains, from this place of the declaration on
abbrev pub workers_from : (place : ℕ) → (domains : List ℕ) → List Worker
workers_from place [] = []
workers_from place (domain ∷ domains) = record { place = place; domain = domain; load = 0 } ∷ workers_from (place + 1) domains

-- as declared: one worker for each domain that is named, and at most so many queued jobs
abbrev pub executor : (most : ℕ) → (domains : List ℕ) → Row
executor most domains = opening (Executor (record { most = most; queued = []; submitted = 0; workers = workers_from 0 domains; running = [] }))
