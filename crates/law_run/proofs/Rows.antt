-- What a call on a shared object raises: nothing but exceptions with the number that the call was given; and only `await` raises what was raised before.
-- A call that isn't a `wake` hands over nothing new, and a `wake` answers nothing new; it hands over something new only at a poisoned mutex.
use Rattle.std.proofs.Common.{◌≡◌, ℕ, zero, suc, ◌+◌, ◌==◌, Bool, true, false, nat_lt, length, List, [], ◌∷◌, ◌++◌, Option, Some, None, refl}
use Rattle.std.specs.Prelude.{find}
use Rattle.std.specs.List.{last_or}
use Rattle.eio_value.specs.declared.call.Answer.{Answer}
use Rattle.eio_value.specs.declared.call.Answer.TheVariants as answer
use Rattle.eio_value.specs.declared.call.Call.{Call}
use Rattle.eio_value.specs.declared.call.Call.TheVariants as call
use Rattle.eio_value.specs.declared.message.Waiter.{Waiter}
use Rattle.eio_value.specs.declared.plain.Member.{Member}
use Rattle.eio_value.specs.declared.plain.Misuse.TheVariants as misuse
use Rattle.eio_value.specs.declared.plain.Plain.{Plain}
use Rattle.eio_value.specs.declared.plain.Plain.TheVariants as plain
use Rattle.eio_value.specs.declared.raised.Outcome.{Outcome}
use Rattle.eio_value.specs.declared.raised.Outcome.TheVariants as outcome
use Rattle.eio_value.specs.declared.raised.Raised.{Raised}
use Rattle.eio_value.specs.declared.raised.Raised.TheVariants.{One}
use Rattle.eio_value.specs.declared.value.Value.{Value}
use Rattle.eio_value.specs.declared.value.Value.TheVariants as value
use Rattle.spec_parts.specs.declared.hold.Hold.{Hold}
use Rattle.spec_parts.specs.declared.hold.Hold.TheVariants.{Free, Held, Poisoned}
use Rattle.spec_parts.specs.Data.{Data, Stream, Promise, Semaphore, Mutex, Pool, Executor, Submitted}
use Rattle.spec_parts.specs.Data as data_of
use Rattle.spec_parts.specs.Executors.{executor_does, with_job, start_head, start_on, finish, fits, has_number}
use Rattle.spec_parts.specs.Mutexes.{mutex_does}
use Rattle.spec_parts.specs.Objects.{does, called}
use Rattle.spec_parts.specs.Pools.{pool_does, use_last, is_out}
use Rattle.spec_parts.specs.Promises.{promise_does}
use Rattle.eio_value.specs.Sending.{Start, Sent, Resumes}
use Rattle.spec_parts.specs.Row.{Row, Queued, Side, Takers, Adders, Alone, Keeps, Waits, Handed, Does, Ignores, Looks, Stepped, anybody, quiet, done, int, answer_of, otherwise, found, queue, stepped, started}
use Rattle.spec_parts.specs.Semaphores.{semaphore_does, greatest_count}
use Rattle.spec_parts.specs.Streams.{stream_does, take_does}
use Rattle.law_run.specs.Exceptions.{InOutcome}
use Rattle.law_run.proofs.Places.{AllRaised, AllOutcome, AllData, none, all_one}

abbrev pub is_mutex : Data → Bool
is_mutex (Mutex state) = true
is_mutex values = false

abbrev pub is_await : Call → Bool
is_await (call.Await object) = true
is_await other = false

abbrev pub is_wake : Call → Bool
is_wake (call.NextWake object) = true
is_wake other = false

-- what an object raises, if it raises something anew
abbrev pub raises_of : Data → Plain
raises_of (Promise kept) = plain.Invalid misuse.Resolved
raises_of (Mutex Free) = plain.Invalid misuse.NotLocked
raises_of values = plain.Poisoned

abbrev pub raise_of : (serial : ℕ) → Data → Member
raise_of serial values = record { serial = serial; what = raises_of values }

-- what a call brings
abbrev pub InBrought : Member → Call → Type 0
InBrought x (call.Resolve object it) = InOutcome x it
InBrought x (call.Done object number it) = InOutcome x it
InBrought x other = ⊥

-- P of what is kept, A of what is raised in an answer, H of what is handed over
module _ (P : Member → Type 0) (A : Raised → Type 0) (H : Member → Type 0) where
  abbrev pub AllAnswer : Answer → Type 0
  AllAnswer (answer.Raised raised) = A raised
  AllAnswer other = Unit {0}

  abbrev pub AllSent : Option Sent → Type 0
  AllSent (Some (Resumes who it)) = AllOutcome H it
  AllSent other = Unit {0}

  abbrev AloneIs : Bool → Alone → Type 0
  AloneIs kind (Keeps values answer start) = AllData P values × AllAnswer answer × (is_mutex values ≡ kind)
  AloneIs kind (Waits values side item number) = AllData P values × (is_mutex values ≡ kind)

  abbrev HandedIs : Bool → Handed → Type 0
  HandedIs kind handed = AllData P handed.values × AllAnswer handed.answer × AllOutcome H handed.outcome × (is_mutex handed.values ≡ kind)

  abbrev DoesIs : Bool → Does → Type 0
  DoesIs kind (Ignores alone) = AloneIs kind alone
  DoesIs kind (Looks side pick hand alone) = ((q : Queued) → HandedIs kind (hand q)) × AloneIs kind alone

  -- ## One step

  pub record StepIs (kind : Bool) (step : Stepped) : Type 0 where
    pub values : AllData P step.row.values
    pub answer : AllAnswer step.answer
    pub sent : AllSent step.sent
    pub same_kind : is_mutex step.row.values ≡ kind

  started_is : (start : Option Start) → AllSent (started start)
  started_is None = tt
  started_is (Some start) = tt

  otherwise_is : (row : Row) (who : Waiter) (off : Bool) (alone : Alone) → AllData P row.values → AloneIs (is_mutex row.values) alone → StepIs (is_mutex row.values) (otherwise row who off alone)
  otherwise_is row who off (Keeps values answer start) before is = record { values = is.0; answer = is.1; sent = started_is start; same_kind = is.2 }
  otherwise_is row who true (Waits values side item number) before is = record { values = before; answer = tt; sent = tt; same_kind = refl }
  otherwise_is row who false (Waits values Takers item number) before is = record { values = is.0; answer = tt; sent = tt; same_kind = is.1 }
  otherwise_is row who false (Waits values Adders item number) before is = record { values = is.0; answer = tt; sent = tt; same_kind = is.1 }

  found_is : (kind : Bool) (row : Row) (side : Side) (pick : Queued → Bool) (hand : Queued → Handed) (other : Stepped) (first : Option Queued)
      → ((q : Queued) → HandedIs kind (hand q)) → StepIs kind other → StepIs kind (found row side pick hand other first)
  found_is kind row side pick hand other None hands otherwise = otherwise
  found_is kind row Takers pick hand other (Some q) hands otherwise = record { values = (hands q).0; answer = (hands q).1; sent = (hands q).2; same_kind = (hands q).3 }
  found_is kind row Adders pick hand other (Some q) hands otherwise = record { values = (hands q).0; answer = (hands q).1; sent = (hands q).2; same_kind = (hands q).3 }

  stepped_is : (row : Row) (who : Waiter) (off : Bool) (what : Does) → AllData P row.values → DoesIs (is_mutex row.values) what → StepIs (is_mutex row.values) (stepped row who off what)
  stepped_is row who off (Ignores alone) before is = otherwise_is row who off alone before is
  stepped_is row who off (Looks side pick hand alone) before is =
      found_is (is_mutex row.values) row side pick hand (otherwise row who off alone) (find pick (queue side row)) is.0 (otherwise_is row who off alone before is.1)

  -- ## Objects

  abbrev value_kept : (x : Member) → ⊥ → P x
  value_kept = none P

  abbrev value_handed : (x : Member) → ⊥ → H x
  value_handed = none H

  if_either : (kind b : Bool) (one other : Alone) → AloneIs kind one → AloneIs kind other → AloneIs kind (elim b [ true ↦ one | false ↦ other ])
  if_either kind true one other h k = h
  if_either kind false one other h k = k

  does_either : (kind b : Bool) (one other : Does) → DoesIs kind one → DoesIs kind other → DoesIs kind (elim b [ true ↦ one | false ↦ other ])
  does_either kind true one other h k = h
  does_either kind false one other h k = k

  take_is : (capacity : ℕ) (items : List Value) (alone : Alone) → AloneIs false alone → DoesIs false (take_does capacity items alone)
  take_is capacity [] alone is = (λ q. (value_kept, tt, value_handed, refl), is)
  take_is capacity (item ∷ items) alone is = (λ q. (value_kept, tt, value_handed, refl), (value_kept, tt, refl))

  stream_is : (capacity : ℕ) (items : List Value) (call : Call) → DoesIs false (stream_does capacity items call)
  stream_is capacity items (call.Add object item) = (λ q. (value_kept, tt, value_handed, refl), if_either false (nat_lt (length items) capacity) (quiet (Stream capacity (items ++ item ∷ [])) done) (Waits (Stream capacity items) Adders item 0) (value_kept, tt, refl) (value_kept, refl))
  stream_is capacity items (call.Take object) = take_is capacity items (Waits (Stream capacity []) Takers value.Unit 0) (value_kept, refl)
  stream_is capacity items (call.TakeNonblocking object) = take_is capacity items (quiet (Stream capacity []) answer.Nothing) (value_kept, tt, refl)
  stream_is capacity items (call.Length object) = (value_kept, tt, refl)
  stream_is capacity items other = (value_kept, tt, refl)

  semaphore_is : (count : ℕ) (call : Call) → DoesIs false (semaphore_does count call)
  semaphore_is zero (call.Acquire object) = (value_kept, refl)
  semaphore_is (suc count) (call.Acquire object) = (value_kept, tt, refl)
  semaphore_is count (call.Release object) =
      does_either false (count == greatest_count) (Ignores (quiet (Semaphore count) answer.Nothing))
      (Looks Takers anybody (λ waiter. record { values = Semaphore count; answer = done; outcome = outcome.Ok value.Unit }) (quiet (Semaphore (count + 1)) done)) (value_kept, tt, refl) (λ q. (value_kept, tt, value_handed, refl), (value_kept, tt, refl))
  semaphore_is count other = (value_kept, tt, refl)

  use_is : (size made : ℕ) (idle : List ℕ) (last : Option ℕ) → AloneIs false (use_last size made idle last)
  use_is size made idle None = if_either false (nat_lt made size) (quiet (Pool size (made + 1) idle) (answer.Done (int made))) (Waits (Pool size made idle) Takers value.Unit 0) (value_kept, tt, refl) (value_kept, refl)
  use_is size made idle (Some resource) = (value_kept, tt, refl)

  pool_is : (size made : ℕ) (idle : List ℕ) (call : Call) → DoesIs false (pool_does size made idle call)
  pool_is size made idle (call.Use object) = use_is size made idle (last_or None idle)
  pool_is size made idle (call.Put object resource) =
      does_either false (is_out made idle resource)
      (Looks Takers anybody (λ waiter. record { values = Pool size made idle; answer = done; outcome = outcome.Ok (int resource) }) (quiet (Pool size made (idle ++ resource ∷ [])) done))
      (Ignores (quiet (Pool size made idle) answer.Nothing)) (λ q. (value_kept, tt, value_handed, refl), (value_kept, tt, refl)) (value_kept, tt, refl)
  pool_is size made idle other = (value_kept, tt, refl)

  start_is : (work : data_of.Work) (head : Submitted) (others : List Submitted) (worker : Option data_of.Worker) → AloneIs false (start_on work head others worker)
  start_is work head others None = (value_kept, tt, refl)
  start_is work head others (Some worker) = (value_kept, tt, refl)

  starts_is : (work : data_of.Work) (queued : List Submitted) → AloneIs false (start_head work queued)
  starts_is work [] = (value_kept, tt, refl)
  starts_is work (head ∷ others) = start_is work head others (find (fits head.job.weight) work.workers)

  finish_is : (work : data_of.Work) (number : ℕ) (given : Outcome) (job : Option data_of.Running) → AllOutcome H given → DoesIs false (finish work number given job)
  finish_is work number given None all = (value_kept, tt, refl)
  finish_is work number given (Some job) all = (λ q. (value_kept, tt, all, refl), (value_kept, tt, refl))

  executor_is : (work : data_of.Work) (call : Call) → ((x : Member) → InBrought x call → H x) → DoesIs false (executor_does work call)
  executor_is work (call.Submit job) brought = if_either false (nat_lt (length work.queued) work.most) (Waits (Executor (with_job work job)) Takers value.Unit work.submitted) (quiet (Executor work) answer.Nothing) (value_kept, refl) (value_kept, tt, refl)
  executor_is work (call.NextStart object) brought = starts_is work work.queued
  executor_is work (call.Done object number given) brought = finish_is work number given (find (has_number number) work.running) brought
  executor_is work other brought = (value_kept, tt, refl)

  answered_is : (kept : Outcome) → ((raised : Raised) → AllRaised P raised → A raised) → AllOutcome P kept → AllAnswer (answer_of kept)
  answered_is (outcome.Ok it) old all = tt
  answered_is (outcome.Err raised) old all = old raised all

  promise_is : (kept : Option Outcome) (serial : ℕ) (call : Call) → (is_await call ≡ true → (raised : Raised) → AllRaised P raised → A raised) → (is_await call ≡ false → A (One (raise_of serial (Promise kept))))
      → ((x : Member) → P x → H x) → AllData P (Promise kept) → ((x : Member) → InBrought x call → P x) → DoesIs false (promise_does kept serial call)
  promise_is None serial (call.Resolve object given) old new hands before brought = (brought, tt, refl)
  promise_is (Some kept) serial (call.Resolve object given) old new hands before brought = (before, new refl, refl)
  promise_is None serial (call.TryResolve object given) old new hands before brought = (value_kept, tt, refl)
  promise_is (Some kept) serial (call.TryResolve object given) old new hands before brought = (before, tt, refl)
  promise_is None serial (call.Await object) old new hands before brought = (value_kept, refl)
  promise_is (Some kept) serial (call.Await object) old new hands before brought = (before, answered_is kept (old refl) before, refl)
  promise_is None serial (call.NextWake object) old new hands before brought = (before, tt, refl)
  promise_is (Some kept) serial (call.NextWake object) old new hands before brought = (λ q. (before, tt, (λ x i. hands x (before x i)), refl), (before, tt, refl))
  promise_is kept serial other old new hands before brought = (before, tt, refl)

  mutex_is : (state : Hold) (serial : ℕ) (call : Call) → (is_await call ≡ false → A (One (raise_of serial (Mutex state)))) → (is_wake call ≡ true → H (raise_of serial (Mutex Poisoned)))
      → DoesIs true (mutex_does state serial call)
  mutex_is Free serial (call.Lock object) new hands = (value_kept, tt, refl)
  mutex_is Held serial (call.Lock object) new hands = (value_kept, refl)
  mutex_is Poisoned serial (call.Lock object) new hands = (value_kept, new refl, refl)
  mutex_is Free serial (call.TryLock object) new hands = (value_kept, tt, refl)
  mutex_is Held serial (call.TryLock object) new hands = (value_kept, tt, refl)
  mutex_is Poisoned serial (call.TryLock object) new hands = (value_kept, new refl, refl)
  mutex_is Free serial (call.Unlock object) new hands = (value_kept, new refl, refl)
  mutex_is Held serial (call.Unlock object) new hands = (λ q. (value_kept, tt, value_handed, refl), (value_kept, tt, refl))
  mutex_is Poisoned serial (call.Unlock object) new hands = (value_kept, new refl, refl)
  mutex_is Free serial (call.NextWake object) new hands = (value_kept, tt, refl)
  mutex_is Held serial (call.NextWake object) new hands = (value_kept, tt, refl)
  mutex_is Poisoned serial (call.NextWake object) new hands = (λ q. (value_kept, tt, all_one H _ (hands refl), refl), (value_kept, tt, refl))
  mutex_is state serial other new hands = (value_kept, tt, refl)

  -- what a call finds: what was kept, what it brings, and the one exception that it may raise
  pub record Finds (values : Data) (serial : ℕ) (call : Call) : Type 0 where
    pub kept : AllData P values
    pub brought : (x : Member) → InBrought x call → P x
    pub awaited : is_await call ≡ true → (raised : Raised) → AllRaised P raised → A raised
    pub answered : is_await call ≡ false → A (One (raise_of serial values))
    pub handed : (x : Member) → P x → H x
    pub woken : is_wake call ≡ true → is_mutex values ≡ true → H (raise_of serial (Mutex Poisoned))

  does_is : (values : Data) (serial : ℕ) (call : Call) → Finds values serial call → DoesIs (is_mutex values) (does values serial call)
  does_is (Stream capacity items) serial call finds = stream_is capacity items call
  does_is (Promise kept) serial call finds = promise_is kept serial call finds.awaited finds.answered finds.handed finds.kept finds.brought
  does_is (Semaphore count) serial call finds = semaphore_is count call
  does_is (Mutex state) serial call finds = mutex_is state serial call finds.answered (λ wake. finds.woken wake refl)
  does_is (Pool size made idle) serial call finds = pool_is size made idle call
  does_is (Executor work) serial call finds = executor_is work call (λ x i. finds.handed x (finds.brought x i))

  pub called_is : (row : Row) (who : Waiter) (off : Bool) (serial : ℕ) (call : Call) → Finds row.values serial call → StepIs (is_mutex row.values) (called row who off serial call)
  called_is row who off serial call finds = stepped_is row who off (does row.values serial call) finds.kept (does_is row.values serial call finds)
