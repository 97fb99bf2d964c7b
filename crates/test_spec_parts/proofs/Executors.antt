-- Sequences of calls on executors.
use Rattle.std.proofs.Common.{◌≡◌, ℕ, List, [], ◌∷◌, refl}
use Rattle.eio_value.specs.declared.call.Answer.TheVariants as answer
use Rattle.eio_value.specs.declared.call.Call.TheVariants.{Submit, NextStart, Done, Acquire}
use Rattle.eio_value.specs.declared.message.Job.{Job}
use Rattle.eio_value.specs.declared.value.Value.TheVariants as value
use Rattle.spec_parts.specs.Data.{Submitted, Worker, Running, Work, Executor}
use Rattle.spec_parts.specs.Executors.{executor}
use Rattle.eio_value.specs.Sending.{Starts}
use Rattle.spec_parts.specs.Row.{Row, Queued}
use Rattle.test_spec_parts.proofs.Moves.{Move, waiter, by, off_by, strike, Reply, Sends, Won, Lost, fine, waits, is_off, none, fine_and, number, queued, row, run, ran}

-- a job of this weight; its block has the same number
abbrev job : ℕ → Job
job weight = record { executor = 0; node = weight; given = []; count = 0; weight = weight }

abbrev submitting : ℕ → ℕ → Move
submitting fiber weight = by fiber (Submit (job weight))

abbrev starting : Move
starting = by 0 (NextStart 0)

abbrev finishing : ℕ → ℕ → Move
finishing job result = by 9 (Done 0 job (number result))

-- the job with this number, of this weight, starts in this domain
abbrev starts : (domain : ℕ) → (number : ℕ) → (weight : ℕ) → Reply
starts domain number weight = Sends (answer.Started domain number) (Starts (record { domain = domain; job = job weight; number = number }))

abbrev worker : (place : ℕ) → (domain : ℕ) → (load : ℕ) → Worker
worker place domain load = record { place = place; domain = domain; load = load }

abbrev waiting_job : (number : ℕ) → (weight : ℕ) → Submitted
waiting_job number weight = record { job = job weight; number = number }

abbrev running : (number : ℕ) → (weight : ℕ) → (worker : ℕ) → Running
running number weight worker = record { number = number; weight = weight; worker = worker }

-- the submitter of the job with this number
abbrev submitter : (fiber : ℕ) → (number : ℕ) → Queued
submitter fiber number = queued (waiter fiber) value.Unit number

abbrev left : Work → List Queued → Row
left work submitters = row (Executor work) submitters []

-- a job runs and its submitter gets what it gives
answered : run (executor 1024 (0 ∷ 0 ∷ [])) (submitting 0 60 ∷ starting ∷ starting ∷ finishing 0 7 ∷ starting ∷ []) ≡ ran (waits ∷ starts 0 0 60 ∷ none ∷ fine_and 0 (number 7) ∷ none ∷ []) (left (record { most = 1024; queued = []; submitted = 1; workers = worker 1 0 0 ∷ worker 0 0 0 ∷ []; running = [] }) [])
answered = refl

-- the worker that got a job stands last; a job that fits nobody stays at the head
chosen_in_turn :
    run (executor 1024 (0 ∷ 1 ∷ [])) (submitting 1 60 ∷ submitting 2 60 ∷ submitting 3 60 ∷ starting ∷ starting ∷ starting ∷ finishing 0 5 ∷ starting ∷ [])
    ≡ ran (waits ∷ waits ∷ waits ∷ starts 0 0 60 ∷ starts 1 1 60 ∷ none ∷ fine_and 1 (number 5) ∷ starts 0 2 60 ∷ [])
    (left (record { most = 1024; queued = []; submitted = 3; workers = worker 1 1 60 ∷ worker 0 0 60 ∷ []; running = running 1 60 1 ∷ running 2 60 0 ∷ [] }) (submitter 2 1 ∷ submitter 3 2 ∷ []))
chosen_in_turn = refl

-- jobs of together 100 fit one worker, and no more
filled_to_the_brim :
    run (executor 8 (3 ∷ [])) (submitting 1 60 ∷ submitting 2 40 ∷ submitting 3 1 ∷ starting ∷ starting ∷ starting ∷ [])
    ≡ ran (waits ∷ waits ∷ waits ∷ starts 3 0 60 ∷ starts 3 1 40 ∷ none ∷ [])
    (left (record { most = 8; queued = waiting_job 2 1 ∷ []; submitted = 3; workers = worker 0 3 100 ∷ []; running = running 0 60 0 ∷ running 1 40 0 ∷ [] }) (submitter 1 0 ∷ submitter 2 1 ∷ submitter 3 2 ∷ []))
filled_to_the_brim = refl

-- a small job doesn't pass a large one
head_first :
    run (executor 8 (0 ∷ [])) (submitting 1 50 ∷ starting ∷ submitting 2 60 ∷ submitting 3 10 ∷ starting ∷ [])
    ≡ ran (waits ∷ starts 0 0 50 ∷ waits ∷ waits ∷ none ∷ [])
    (left (record { most = 8; queued = waiting_job 1 60 ∷ waiting_job 2 10 ∷ []; submitted = 3; workers = worker 0 0 50 ∷ []; running = running 0 50 0 ∷ [] }) (submitter 1 0 ∷ submitter 2 1 ∷ submitter 3 2 ∷ []))
head_first = refl

-- the limit of queued jobs comes before the answer to a context that is off, which queues nothing
limit_before_off :
    run (executor 1 (0 ∷ [])) (off_by 1 (Submit (job 10)) ∷ submitting 1 20 ∷ submitting 2 30 ∷ off_by 2 (Submit (job 40)) ∷ [])
    ≡ ran (is_off ∷ waits ∷ none ∷ none ∷ []) (left (record { most = 1; queued = waiting_job 0 20 ∷ []; submitted = 1; workers = worker 0 0 0 ∷ []; running = [] }) (submitter 1 0 ∷ []))
limit_before_off = refl

-- the job of a struck submitter stays, runs, and wakes nobody
struck_submitter :
    run (executor 8 (0 ∷ [])) (submitting 1 10 ∷ strike 1 ∷ starting ∷ strike 1 ∷ finishing 0 7 ∷ [])
    ≡ ran (waits ∷ Won ∷ starts 0 0 10 ∷ Lost ∷ fine ∷ []) (left (record { most = 8; queued = []; submitted = 1; workers = worker 0 0 0 ∷ []; running = [] }) [])
struck_submitter = refl

-- a job that is queued, or done, or was never submitted doesn't run
not_running :
    run (executor 8 (0 ∷ [])) (finishing 0 1 ∷ submitting 1 10 ∷ finishing 0 1 ∷ starting ∷ finishing 1 1 ∷ finishing 0 1 ∷ finishing 0 1 ∷ [])
    ≡ ran (none ∷ waits ∷ none ∷ starts 0 0 10 ∷ none ∷ fine_and 1 (number 1) ∷ none ∷ []) (left (record { most = 8; queued = []; submitted = 1; workers = worker 0 0 0 ∷ []; running = [] }) [])
not_running = refl

-- each job wakes its own submitter, whichever ends first
own_submitter :
    run (executor 8 (0 ∷ [])) (submitting 1 10 ∷ submitting 2 20 ∷ starting ∷ starting ∷ finishing 1 5 ∷ finishing 0 6 ∷ strike 2 ∷ by 0 (Acquire 0) ∷ [])
    ≡ ran (waits ∷ waits ∷ starts 0 0 10 ∷ starts 0 1 20 ∷ fine_and 2 (number 5) ∷ fine_and 1 (number 6) ∷ Lost ∷ none ∷ [])
    (left (record { most = 8; queued = []; submitted = 2; workers = worker 0 0 0 ∷ []; running = [] }) [])
own_submitter = refl

-- a job that ends frees its own weight, and not that of the others of its worker
own_weight :
    run (executor 8 (0 ∷ [])) (submitting 1 60 ∷ submitting 2 30 ∷ starting ∷ starting ∷ finishing 0 5 ∷ submitting 3 80 ∷ starting ∷ [])
    ≡ ran (waits ∷ waits ∷ starts 0 0 60 ∷ starts 0 1 30 ∷ fine_and 1 (number 5) ∷ waits ∷ none ∷ [])
    (left (record { most = 8; queued = waiting_job 2 80 ∷ []; submitted = 3; workers = worker 0 0 30 ∷ []; running = running 1 30 0 ∷ [] }) (submitter 2 1 ∷ submitter 3 2 ∷ []))
own_weight = refl
