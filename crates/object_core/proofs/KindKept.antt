-- A call keeps the kind of its row.
use Rattle.std.proofs.Common.{◌≡◌, ◌≢◌, ℕ, zero, suc, ◌==◌, nat_lt, length, Bool, true, false, List, [], ◌∷◌, Option, Some, None, refl, sym}
use Rattle.std.specs.Prelude.{find}
use Rattle.std.specs.List.{last_or}
use Rattle.eio_value.specs.declared.call.Call.{Call}
use Rattle.eio_value.specs.declared.call.Call.TheVariants as call
use Rattle.eio_value.specs.declared.message.Job.{Job}
use Rattle.eio_value.specs.declared.message.Waiter.{Waiter}
use Rattle.eio_value.specs.declared.raised.Outcome.{Outcome}
use Rattle.eio_value.specs.declared.value.Value.{Value}
use Rattle.eio_value.specs.Waits.{ObjectKind, Streams, Promises, Semaphores, Mutexes, Pools, Executors}
use Rattle.executor_pool.specs.Working.{submitted}
use Rattle.object_core.specs.Kinds.{kind_of}
use Rattle.spec_parts.specs.declared.hold.Hold.{Hold}
use Rattle.spec_parts.specs.declared.hold.Hold.TheVariants.{Free, Held, Poisoned}
use Rattle.spec_parts.specs.Data.{Data, Stream, Promise, Semaphore, Mutex, Pool, Executor, Work, Submitted, Worker, Running}
use Rattle.spec_parts.specs.Executors.{submit_does, start_head, start_on, finish, fits, has_number}
use Rattle.spec_parts.specs.Mutexes.{lock_does, try_lock_does, unlock_does, mutex_wake_does}
use Rattle.spec_parts.specs.Objects.{does}
use Rattle.spec_parts.specs.Pools.{use_last, put_does, is_out}
use Rattle.spec_parts.specs.Promises.{resolve_does, try_resolve_does, await_does, promise_wake_does}
use Rattle.spec_parts.specs.Row.{Row, Queued, Side, Takers, Adders, Alone, Keeps, Waits, Handed, Does, Ignores, Looks, Stepped, found, otherwise, queue, stepped}
use Rattle.spec_parts.specs.Semaphores.{acquire_does, release_does, greatest_count}
use Rattle.spec_parts.specs.Streams.{take_does}

-- ## What a call does

abbrev HasKind : ObjectKind → Alone → Type 0
HasKind kind (Keeps values answer start) = kind_of values ≡ kind
HasKind kind (Waits values side item number) = kind_of values ≡ kind

abbrev KeepsKind : ObjectKind → Does → Type 0
KeepsKind kind (Ignores alone) = HasKind kind alone
KeepsKind kind (Looks side pick hand alone) = ((queued : Queued) → kind_of (hand queued).values ≡ kind) × HasKind kind alone

either : (kind : ObjectKind) (b : Bool) (x y : Alone) → HasKind kind x → HasKind kind y → HasKind kind (elim b [ true ↦ x | false ↦ y ])
either kind true x y hx hy = hx
either kind false x y hx hy = hy

either_does : (kind : ObjectKind) (b : Bool) (x y : Does) → KeepsKind kind x → KeepsKind kind y → KeepsKind kind (elim b [ true ↦ x | false ↦ y ])
either_does kind true x y hx hy = hx
either_does kind false x y hx hy = hy

takes : (capacity : ℕ) (items : List Value) (alone : Alone) → HasKind Streams alone → KeepsKind Streams (take_does capacity items alone)
takes capacity [] alone has = (λ adder. refl, has)
takes capacity (item ∷ items) alone has = (λ adder. refl, refl)

resolves : (kept : Option Outcome) (serial : ℕ) (given : Outcome) → KeepsKind Promises (resolve_does kept serial given)
resolves None serial given = refl
resolves (Some kept) serial given = refl

tries : (kept : Option Outcome) (given : Value) → KeepsKind Promises (try_resolve_does kept given)
tries None given = refl
tries (Some kept) given = refl

awaits : (kept : Option Outcome) → KeepsKind Promises (await_does kept)
awaits None = refl
awaits (Some kept) = refl

wakes : (kept : Option Outcome) → KeepsKind Promises (promise_wake_does kept)
wakes None = refl
wakes (Some kept) = (λ waiter. refl, refl)

acquires : (count : ℕ) → KeepsKind Semaphores (acquire_does count)
acquires zero = refl
acquires (suc count) = refl

releases : (count : ℕ) → KeepsKind Semaphores (release_does count)
releases count = either_does Semaphores (count == greatest_count) _ _ refl (λ waiter. refl, refl)

locks : (state : Hold) (serial : ℕ) → KeepsKind Mutexes (lock_does state serial)
locks Free serial = refl
locks Held serial = refl
locks Poisoned serial = refl

tries_lock : (state : Hold) (serial : ℕ) → KeepsKind Mutexes (try_lock_does state serial)
tries_lock Free serial = refl
tries_lock Held serial = refl
tries_lock Poisoned serial = refl

unlocks : (state : Hold) (serial : ℕ) → KeepsKind Mutexes (unlock_does state serial)
unlocks Free serial = refl
unlocks Held serial = (λ waiter. refl, refl)
unlocks Poisoned serial = refl

wakes_poisoned : (state : Hold) (serial : ℕ) → KeepsKind Mutexes (mutex_wake_does state serial)
wakes_poisoned Free serial = refl
wakes_poisoned Held serial = refl
wakes_poisoned Poisoned serial = (λ waiter. refl, refl)

uses : (size made : ℕ) (idle : List ℕ) (last : Option ℕ) → KeepsKind Pools (Ignores (use_last size made idle last))
uses size made idle (Some resource) = refl
uses size made idle None = either Pools (nat_lt made size) _ _ refl refl

puts : (size made : ℕ) (idle : List ℕ) (resource : ℕ) → KeepsKind Pools (put_does size made idle resource)
puts size made idle resource = either_does Pools (is_out made idle resource) _ _ (λ waiter. refl, refl) refl

submits : (work : Work) (job : Job) → KeepsKind Executors (submit_does work job)
submits work job = either Executors (nat_lt (length work.queued) work.most) _ _ refl refl

starts_on : (work : Work) (head : Submitted) (others : List Submitted) (worker : Option Worker) → HasKind Executors (start_on work head others worker)
starts_on work head others None = refl
starts_on work head others (Some worker) = refl

starts : (work : Work) (queued : List Submitted) → KeepsKind Executors (Ignores (start_head work queued))
starts work [] = refl
starts work (head ∷ others) = starts_on work head others (find (fits head.job.weight) work.workers)

ends : (work : Work) (number : ℕ) (given : Outcome) (job : Option Running) → KeepsKind Executors (finish work number given job)
ends work number given None = refl
ends work number given (Some job) = (λ submitter. refl, refl)

pub does_keep : (values : Data) (serial : ℕ) (call : Call) → KeepsKind (kind_of values) (does values serial call)
does_keep (Stream capacity items) serial (call.Add object item) = (λ taker. refl, either Streams (nat_lt (length items) capacity) _ _ refl refl)
does_keep (Stream capacity items) serial (call.Take object) = takes capacity items _ refl
does_keep (Stream capacity items) serial (call.TakeNonblocking object) = takes capacity items _ refl
does_keep (Stream capacity items) serial (call.Length object) = refl
does_keep (Stream capacity items) serial (call.Resolve object given) = refl
does_keep (Stream capacity items) serial (call.TryResolve object given) = refl
does_keep (Stream capacity items) serial (call.Await object) = refl
does_keep (Stream capacity items) serial (call.NextWake object) = refl
does_keep (Stream capacity items) serial (call.Acquire object) = refl
does_keep (Stream capacity items) serial (call.Release object) = refl
does_keep (Stream capacity items) serial (call.Lock object) = refl
does_keep (Stream capacity items) serial (call.TryLock object) = refl
does_keep (Stream capacity items) serial (call.Unlock object) = refl
does_keep (Stream capacity items) serial (call.Poison object) = refl
does_keep (Stream capacity items) serial (call.Use object) = refl
does_keep (Stream capacity items) serial (call.Put object resource) = refl
does_keep (Stream capacity items) serial (call.Submit job) = refl
does_keep (Stream capacity items) serial (call.NextStart object) = refl
does_keep (Stream capacity items) serial (call.Done object number given) = refl
does_keep (Promise kept) serial (call.Add object item) = refl
does_keep (Promise kept) serial (call.Take object) = refl
does_keep (Promise kept) serial (call.TakeNonblocking object) = refl
does_keep (Promise kept) serial (call.Length object) = refl
does_keep (Promise kept) serial (call.Resolve object given) = resolves kept serial given
does_keep (Promise kept) serial (call.TryResolve object given) = tries kept given
does_keep (Promise kept) serial (call.Await object) = awaits kept
does_keep (Promise kept) serial (call.NextWake object) = wakes kept
does_keep (Promise kept) serial (call.Acquire object) = refl
does_keep (Promise kept) serial (call.Release object) = refl
does_keep (Promise kept) serial (call.Lock object) = refl
does_keep (Promise kept) serial (call.TryLock object) = refl
does_keep (Promise kept) serial (call.Unlock object) = refl
does_keep (Promise kept) serial (call.Poison object) = refl
does_keep (Promise kept) serial (call.Use object) = refl
does_keep (Promise kept) serial (call.Put object resource) = refl
does_keep (Promise kept) serial (call.Submit job) = refl
does_keep (Promise kept) serial (call.NextStart object) = refl
does_keep (Promise kept) serial (call.Done object number given) = refl
does_keep (Semaphore count) serial (call.Add object item) = refl
does_keep (Semaphore count) serial (call.Take object) = refl
does_keep (Semaphore count) serial (call.TakeNonblocking object) = refl
does_keep (Semaphore count) serial (call.Length object) = refl
does_keep (Semaphore count) serial (call.Resolve object given) = refl
does_keep (Semaphore count) serial (call.TryResolve object given) = refl
does_keep (Semaphore count) serial (call.Await object) = refl
does_keep (Semaphore count) serial (call.NextWake object) = refl
does_keep (Semaphore count) serial (call.Acquire object) = acquires count
does_keep (Semaphore count) serial (call.Release object) = releases count
does_keep (Semaphore count) serial (call.Lock object) = refl
does_keep (Semaphore count) serial (call.TryLock object) = refl
does_keep (Semaphore count) serial (call.Unlock object) = refl
does_keep (Semaphore count) serial (call.Poison object) = refl
does_keep (Semaphore count) serial (call.Use object) = refl
does_keep (Semaphore count) serial (call.Put object resource) = refl
does_keep (Semaphore count) serial (call.Submit job) = refl
does_keep (Semaphore count) serial (call.NextStart object) = refl
does_keep (Semaphore count) serial (call.Done object number given) = refl
does_keep (Mutex state) serial (call.Add object item) = refl
does_keep (Mutex state) serial (call.Take object) = refl
does_keep (Mutex state) serial (call.TakeNonblocking object) = refl
does_keep (Mutex state) serial (call.Length object) = refl
does_keep (Mutex state) serial (call.Resolve object given) = refl
does_keep (Mutex state) serial (call.TryResolve object given) = refl
does_keep (Mutex state) serial (call.Await object) = refl
does_keep (Mutex state) serial (call.NextWake object) = wakes_poisoned state serial
does_keep (Mutex state) serial (call.Acquire object) = refl
does_keep (Mutex state) serial (call.Release object) = refl
does_keep (Mutex state) serial (call.Lock object) = locks state serial
does_keep (Mutex state) serial (call.TryLock object) = tries_lock state serial
does_keep (Mutex state) serial (call.Unlock object) = unlocks state serial
does_keep (Mutex state) serial (call.Poison object) = refl
does_keep (Mutex state) serial (call.Use object) = refl
does_keep (Mutex state) serial (call.Put object resource) = refl
does_keep (Mutex state) serial (call.Submit job) = refl
does_keep (Mutex state) serial (call.NextStart object) = refl
does_keep (Mutex state) serial (call.Done object number given) = refl
does_keep (Pool size made idle) serial (call.Add object item) = refl
does_keep (Pool size made idle) serial (call.Take object) = refl
does_keep (Pool size made idle) serial (call.TakeNonblocking object) = refl
does_keep (Pool size made idle) serial (call.Length object) = refl
does_keep (Pool size made idle) serial (call.Resolve object given) = refl
does_keep (Pool size made idle) serial (call.TryResolve object given) = refl
does_keep (Pool size made idle) serial (call.Await object) = refl
does_keep (Pool size made idle) serial (call.NextWake object) = refl
does_keep (Pool size made idle) serial (call.Acquire object) = refl
does_keep (Pool size made idle) serial (call.Release object) = refl
does_keep (Pool size made idle) serial (call.Lock object) = refl
does_keep (Pool size made idle) serial (call.TryLock object) = refl
does_keep (Pool size made idle) serial (call.Unlock object) = refl
does_keep (Pool size made idle) serial (call.Poison object) = refl
does_keep (Pool size made idle) serial (call.Use object) = uses size made idle (last_or None idle)
does_keep (Pool size made idle) serial (call.Put object resource) = puts size made idle resource
does_keep (Pool size made idle) serial (call.Submit job) = refl
does_keep (Pool size made idle) serial (call.NextStart object) = refl
does_keep (Pool size made idle) serial (call.Done object number given) = refl
does_keep (Executor work) serial (call.Add object item) = refl
does_keep (Executor work) serial (call.Take object) = refl
does_keep (Executor work) serial (call.TakeNonblocking object) = refl
does_keep (Executor work) serial (call.Length object) = refl
does_keep (Executor work) serial (call.Resolve object given) = refl
does_keep (Executor work) serial (call.TryResolve object given) = refl
does_keep (Executor work) serial (call.Await object) = refl
does_keep (Executor work) serial (call.NextWake object) = refl
does_keep (Executor work) serial (call.Acquire object) = refl
does_keep (Executor work) serial (call.Release object) = refl
does_keep (Executor work) serial (call.Lock object) = refl
does_keep (Executor work) serial (call.TryLock object) = refl
does_keep (Executor work) serial (call.Unlock object) = refl
does_keep (Executor work) serial (call.Poison object) = refl
does_keep (Executor work) serial (call.Use object) = refl
does_keep (Executor work) serial (call.Put object resource) = refl
does_keep (Executor work) serial (call.Submit job) = submits work job
does_keep (Executor work) serial (call.NextStart object) = starts work work.queued
does_keep (Executor work) serial (call.Done object number given) = ends work number given (find (has_number number) work.running)

-- ## A step

alone_keeps : (kind : ObjectKind) (row : Row) (who : Waiter) (off : Bool) (alone : Alone) → kind_of row.values ≡ kind → HasKind kind alone → kind_of (otherwise row who off alone).row.values ≡ kind
alone_keeps kind row who off (Keeps values answer start) is has = has
alone_keeps kind row who true (Waits values side item number) is has = is
alone_keeps kind row who false (Waits values Takers item number) is has = has
alone_keeps kind row who false (Waits values Adders item number) is has = has

found_keeps : (kind : ObjectKind) (row : Row) (side : Side) (pick : Queued → Bool) (hand : Queued → Handed) (other : Stepped) (first : Option Queued)
    → ((queued : Queued) → kind_of (hand queued).values ≡ kind) → kind_of other.row.values ≡ kind → kind_of (found row side pick hand other first).row.values ≡ kind
found_keeps kind row side pick hand other None hands is = is
found_keeps kind row Takers pick hand other (Some queued) hands is = hands queued
found_keeps kind row Adders pick hand other (Some queued) hands is = hands queued

pub step_keeps : (kind : ObjectKind) (row : Row) (who : Waiter) (off : Bool) (what : Does) → kind_of row.values ≡ kind → KeepsKind kind what → kind_of (stepped row who off what).row.values ≡ kind
step_keeps kind row who off (Ignores alone) is keeps = alone_keeps kind row who off alone is keeps
step_keeps kind row who off (Looks side pick hand alone) is keeps =
    found_keeps kind row side pick hand (otherwise row who off alone) (find pick (queue side row)) keeps.0 (alone_keeps kind row who off alone is keeps.1)

-- ## Jobs

pub submits_nothing : (values : Data) (kind : ObjectKind) → kind_of values ≡ kind → kind ≢ Executors → submitted values ≡ 0
submits_nothing (Stream capacity items) kind is other = refl
submits_nothing (Promise kept) kind is other = refl
submits_nothing (Semaphore count) kind is other = refl
submits_nothing (Mutex state) kind is other = refl
submits_nothing (Pool size made idle) kind is other = refl
submits_nothing (Executor work) kind is other = absurd (other (sym is))
