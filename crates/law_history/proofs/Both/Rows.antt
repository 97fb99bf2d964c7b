-- The jobs that executors hold, and those that they start, name declared executors.
use Rattle.std.proofs.Common.{ℕ, zero, suc, ◌+◌, ◌<◌, ◌==◌, Bool, true, false, nat_lt, length, List, [], ◌∷◌, ◌++◌, Option, Some, None}
use Rattle.std.specs.Prelude.{find}
use Rattle.std.specs.List.{All, last_or}
use Rattle.std.proofs.lemmas.List.Elements.{All-set, All-append, All-map}
use Rattle.eio_value.specs.declared.call.Answer.TheVariants as answer
use Rattle.eio_value.specs.declared.call.Call.{Call}
use Rattle.eio_value.specs.declared.call.Call.TheVariants as call
use Rattle.eio_value.specs.declared.message.Message.{Message}
use Rattle.eio_value.specs.declared.message.Message.TheVariants as message
use Rattle.eio_value.specs.declared.message.Waiter.{Waiter}
use Rattle.eio_value.specs.declared.raised.Outcome.{Outcome}
use Rattle.eio_value.specs.declared.raised.Outcome.TheVariants as outcome
use Rattle.eio_value.specs.declared.value.Value.{Value}
use Rattle.eio_value.specs.declared.value.Value.TheVariants as value
use Rattle.spec_parts.specs.declared.hold.Hold.{Hold}
use Rattle.spec_parts.specs.declared.hold.Hold.TheVariants.{Free, Held, Poisoned}
use Rattle.spec_parts.specs.Data.{Data, Stream, Promise, Semaphore, Mutex, Pool, Executor, Submitted}
use Rattle.spec_parts.specs.Data as data_of
use Rattle.spec_parts.specs.Executors.{executor_does, with_job, start_head, start_on, finish, fits, has_number}
use Rattle.spec_parts.specs.Mutexes.{mutex_does}
use Rattle.spec_parts.specs.Objects.{does, called}
use Rattle.spec_parts.specs.Pools.{pool_does, use_last, is_out}
use Rattle.spec_parts.specs.Promises.{promise_does}
use Rattle.eio_value.specs.Sending.{Start, Sent, Resumes, Starts}
use Rattle.spec_parts.specs.Row.{Row, Queued, Side, Takers, Adders, Alone, Keeps, Waits, Handed, Does, Ignores, Looks, Stepped, anybody, quiet, done, int, otherwise, found, queue, stepped, started}
use Rattle.spec_parts.specs.Semaphores.{semaphore_does, greatest_count}
use Rattle.spec_parts.specs.Streams.{stream_does, take_does}
use Rattle.spec_parts.specs.Strikes as strikes
use Rattle.spec_machine.specs.Shared.{SharedState, Asked, no_object, row_at, mine_of, after_call, after_strike}
use Rattle.law_run.proofs.Places.{at_is, all_head, all_tail}
use Rattle.law_run.proofs.Standings.{all_single}

-- of so many objects
module _ (objects : ℕ) where
  abbrev pub JobIs : Submitted → Type 0
  JobIs submitted = submitted.job.executor < objects

  abbrev pub DataIs : Data → Type 0
  DataIs (Executor work) = All JobIs work.queued
  DataIs values = Unit {0}

  -- a call that brings a job
  abbrev pub BringsIs : Call → Type 0
  BringsIs (call.Submit job) = job.executor < objects
  BringsIs other = Unit {0}

  abbrev StartIs : Option Start → Type 0
  StartIs None = Unit {0}
  StartIs (Some start) = start.job.executor < objects

  abbrev pub SentIs : Option Sent → Type 0
  SentIs (Some (Starts start)) = start.job.executor < objects
  SentIs other = Unit {0}

  abbrev AloneIs : Alone → Type 0
  AloneIs (Keeps values answer start) = DataIs values × StartIs start
  AloneIs (Waits values side item number) = DataIs values

  abbrev DoesIs : Does → Type 0
  DoesIs (Ignores alone) = AloneIs alone
  DoesIs (Looks side pick hand alone) = ((q : Queued) → DataIs (hand q).values) × AloneIs alone

  -- ## One step

  abbrev pub StepIs : Stepped → Type 0
  StepIs step = DataIs step.row.values × SentIs step.sent

  started_is : (start : Option Start) → StartIs start → SentIs (started start)
  started_is None is = tt
  started_is (Some start) is = is

  otherwise_is : (row : Row) (who : Waiter) (off : Bool) (alone : Alone) → DataIs row.values → AloneIs alone → StepIs (otherwise row who off alone)
  otherwise_is row who off (Keeps values answer start) before is = (is.0, started_is start is.1)
  otherwise_is row who true (Waits values side item number) before is = (before, tt)
  otherwise_is row who false (Waits values Takers item number) before is = (is, tt)
  otherwise_is row who false (Waits values Adders item number) before is = (is, tt)

  found_is : (row : Row) (side : Side) (pick : Queued → Bool) (hand : Queued → Handed) (other : Stepped) (first : Option Queued)
      → ((q : Queued) → DataIs (hand q).values) → StepIs other → StepIs (found row side pick hand other first)
  found_is row side pick hand other None hands otherwise = otherwise
  found_is row Takers pick hand other (Some q) hands otherwise = (hands q, tt)
  found_is row Adders pick hand other (Some q) hands otherwise = (hands q, tt)

  stepped_is : (row : Row) (who : Waiter) (off : Bool) (what : Does) → DataIs row.values → DoesIs what → StepIs (stepped row who off what)
  stepped_is row who off (Ignores alone) before is = otherwise_is row who off alone before is
  stepped_is row who off (Looks side pick hand alone) before is =
      found_is row side pick hand (otherwise row who off alone) (find pick (queue side row)) is.0 (otherwise_is row who off alone before is.1)

  -- ## Objects

  if_either : (b : Bool) (one other : Alone) → AloneIs one → AloneIs other → AloneIs (elim b [ true ↦ one | false ↦ other ])
  if_either true one other h k = h
  if_either false one other h k = k

  does_either : (b : Bool) (one other : Does) → DoesIs one → DoesIs other → DoesIs (elim b [ true ↦ one | false ↦ other ])
  does_either true one other h k = h
  does_either false one other h k = k

  take_is : (capacity : ℕ) (items : List Value) (alone : Alone) → AloneIs alone → DoesIs (take_does capacity items alone)
  take_is capacity [] alone is = ((λ q. tt), is)
  take_is capacity (item ∷ items) alone is = ((λ q. tt), (tt, tt))

  stream_is : (capacity : ℕ) (items : List Value) (call : Call) → DoesIs (stream_does capacity items call)
  stream_is capacity items (call.Add object item) = ((λ q. tt), if_either (nat_lt (length items) capacity) (quiet (Stream capacity (items ++ item ∷ [])) done) (Waits (Stream capacity items) Adders item 0) (tt, tt) tt)
  stream_is capacity items (call.Take object) = take_is capacity items (Waits (Stream capacity []) Takers value.Unit 0) tt
  stream_is capacity items (call.TakeNonblocking object) = take_is capacity items (quiet (Stream capacity []) answer.Nothing) (tt, tt)
  stream_is capacity items (call.Length object) = (tt, tt)
  stream_is capacity items other = (tt, tt)

  semaphore_is : (count : ℕ) (call : Call) → DoesIs (semaphore_does count call)
  semaphore_is zero (call.Acquire object) = tt
  semaphore_is (suc count) (call.Acquire object) = (tt, tt)
  semaphore_is count (call.Release object) =
      does_either (count == greatest_count) (Ignores (quiet (Semaphore count) answer.Nothing))
      (Looks Takers anybody (λ waiter. record { values = Semaphore count; answer = done; outcome = outcome.Ok value.Unit }) (quiet (Semaphore (count + 1)) done)) (tt, tt) ((λ q. tt), (tt, tt))
  semaphore_is count other = (tt, tt)

  use_is : (size made : ℕ) (idle : List ℕ) (last : Option ℕ) → AloneIs (use_last size made idle last)
  use_is size made idle None = if_either (nat_lt made size) (quiet (Pool size (made + 1) idle) (answer.Done (int made))) (Waits (Pool size made idle) Takers value.Unit 0) (tt, tt) tt
  use_is size made idle (Some resource) = (tt, tt)

  pool_is : (size made : ℕ) (idle : List ℕ) (call : Call) → DoesIs (pool_does size made idle call)
  pool_is size made idle (call.Use object) = use_is size made idle (last_or None idle)
  pool_is size made idle (call.Put object resource) =
      does_either (is_out made idle resource)
      (Looks Takers anybody (λ waiter. record { values = Pool size made idle; answer = done; outcome = outcome.Ok (int resource) }) (quiet (Pool size made (idle ++ resource ∷ [])) done))
      (Ignores (quiet (Pool size made idle) answer.Nothing)) ((λ q. tt), (tt, tt)) (tt, tt)
  pool_is size made idle other = (tt, tt)

  promise_is : (kept : Option Outcome) (serial : ℕ) (call : Call) → DoesIs (promise_does kept serial call)
  promise_is None serial (call.Resolve object given) = (tt, tt)
  promise_is (Some kept) serial (call.Resolve object given) = (tt, tt)
  promise_is None serial (call.TryResolve object given) = (tt, tt)
  promise_is (Some kept) serial (call.TryResolve object given) = (tt, tt)
  promise_is None serial (call.Await object) = tt
  promise_is (Some kept) serial (call.Await object) = (tt, tt)
  promise_is None serial (call.NextWake object) = (tt, tt)
  promise_is (Some kept) serial (call.NextWake object) = ((λ q. tt), (tt, tt))
  promise_is kept serial other = (tt, tt)

  mutex_is : (state : Hold) (serial : ℕ) (call : Call) → DoesIs (mutex_does state serial call)
  mutex_is Free serial (call.Lock object) = (tt, tt)
  mutex_is Held serial (call.Lock object) = tt
  mutex_is Poisoned serial (call.Lock object) = (tt, tt)
  mutex_is Free serial (call.TryLock object) = (tt, tt)
  mutex_is Held serial (call.TryLock object) = (tt, tt)
  mutex_is Poisoned serial (call.TryLock object) = (tt, tt)
  mutex_is Free serial (call.Unlock object) = (tt, tt)
  mutex_is Held serial (call.Unlock object) = ((λ q. tt), (tt, tt))
  mutex_is Poisoned serial (call.Unlock object) = (tt, tt)
  mutex_is Free serial (call.NextWake object) = (tt, tt)
  mutex_is Held serial (call.NextWake object) = (tt, tt)
  mutex_is Poisoned serial (call.NextWake object) = ((λ q. tt), (tt, tt))
  mutex_is state serial other = (tt, tt)

  -- ## Executors

  start_is : (work : data_of.Work) (head : Submitted) (others : List Submitted) (worker : Option data_of.Worker) → All JobIs work.queued → JobIs head → All JobIs others → AloneIs (start_on work head others worker)
  start_is work head others None all first rest = (all, tt)
  start_is work head others (Some worker) all first rest = (rest, first)

  starts_is : (work : data_of.Work) (queued : List Submitted) → All JobIs work.queued → All JobIs queued → AloneIs (start_head work queued)
  starts_is work [] all queued = (all, tt)
  starts_is work (head ∷ others) all queued = start_is work head others (find (fits head.job.weight) work.workers) all (all_head JobIs head others queued) (all_tail JobIs head others queued)

  finish_is : (work : data_of.Work) (number : ℕ) (given : Outcome) (job : Option data_of.Running) → All JobIs work.queued → DoesIs (finish work number given job)
  finish_is work number given None all = (all, tt)
  finish_is work number given (Some job) all = ((λ q. all), (all, tt))

  executor_is : (work : data_of.Work) (call : Call) → All JobIs work.queued → BringsIs call → DoesIs (executor_does work call)
  executor_is work (call.Submit job) all brings =
      if_either (nat_lt (length work.queued) work.most) (Waits (Executor (with_job work job)) Takers value.Unit work.submitted) (quiet (Executor work) answer.Nothing)
      (All-append JobIs work.queued (record { job = job; number = work.submitted } ∷ []) all (all_single JobIs (record { job = job; number = work.submitted }) brings)) (all, tt)
  executor_is work (call.NextStart object) all brings = starts_is work work.queued all all
  executor_is work (call.Done object number given) all brings = finish_is work number given (find (has_number number) work.running) all
  executor_is work other all brings = (all, tt)

  does_is : (values : Data) (serial : ℕ) (call : Call) → DataIs values → BringsIs call → DoesIs (does values serial call)
  does_is (Stream capacity items) serial call is brings = stream_is capacity items call
  does_is (Promise kept) serial call is brings = promise_is kept serial call
  does_is (Semaphore count) serial call is brings = semaphore_is count call
  does_is (Mutex state) serial call is brings = mutex_is state serial call
  does_is (Pool size made idle) serial call is brings = pool_is size made idle call
  does_is (Executor work) serial call is brings = executor_is work call is brings

  pub called_is : (row : Row) (who : Waiter) (off : Bool) (serial : ℕ) (call : Call) → DataIs row.values → BringsIs call → StepIs (called row who off serial call)
  called_is row who off serial call is brings = stepped_is row who off (does row.values serial call) is (does_is row.values serial call is brings)

  -- ## What is shared

  abbrev pub RowIs : Row → Type 0
  RowIs row = DataIs row.values

  abbrev pub Shares : SharedState → Type 0
  Shares shared = All RowIs shared.rows

  pub row_is : (rows : List Row) (object : ℕ) → All RowIs rows → RowIs (row_at rows object)
  row_is rows object all = at_is RowIs rows object no_object all tt

  -- a job that starts in the domain itself
  abbrev pub MineIs : Option Message → Type 0
  MineIs (Some (message.Start job number stamp)) = job.executor < objects
  MineIs other = Unit {0}

  pub mine_is : (domain stamp : ℕ) (sent : Option Sent) → SentIs sent → MineIs (mine_of domain stamp sent)
  mine_is domain stamp None is = tt
  mine_is domain stamp (Some (Resumes who outcome)) is = by (who.domain == domain)
    where
      by : (mine : Bool) → MineIs (elim mine [ true ↦ Some (message.Resume who outcome stamp) | false ↦ None ])
      by true = tt
      by false = tt
  mine_is domain stamp (Some (Starts start)) is = by (start.domain == domain)
    where
      by : (mine : Bool) → MineIs (elim mine [ true ↦ Some (message.Start start.job start.number stamp) | false ↦ None ])
      by true = is
      by false = tt

  pub call_shares : (shared : SharedState) (domain stamp : ℕ) (asked : Asked) (step : Stepped) → RowIs step.row → Shares shared → Shares (after_call shared domain stamp asked step)
  call_shares shared domain stamp asked step row h = All-set RowIs shared.rows asked.object step.row row h

  pub strike_shares : (shared : SharedState) (who : Waiter) (won : Bool) → Shares shared → Shares (after_strike shared who won)
  strike_shares shared who false h = h
  strike_shares shared who true h = All-map RowIs (λ row. strikes.struck row who) shared.rows h
