-- No call that answers at once or hands something over answers `Off`: so `Off` comes only from a wait, which leaves the row.
use Rattle.std.proofs.Common.{◌≡◌, ℕ, zero, suc, ◌+◌, ◌==◌, Bool, true, false, nat_lt, length, List, [], ◌∷◌, ◌++◌, Option, Some, None, refl, sym, ap, ◌∙◌, true≢false}
use Rattle.std.specs.Prelude.{find}
use Rattle.std.specs.List.{last_or}
use Rattle.eio_value.specs.declared.call.Answer.{Answer}
use Rattle.eio_value.specs.declared.call.Answer.TheVariants as answer
use Rattle.eio_value.specs.declared.call.Call.{Call}
use Rattle.eio_value.specs.declared.call.Call.TheVariants as call
use Rattle.eio_value.specs.declared.message.Waiter.{Waiter}
use Rattle.eio_value.specs.declared.raised.Outcome.{Outcome}
use Rattle.eio_value.specs.declared.raised.Outcome.TheVariants as outcome
use Rattle.eio_value.specs.declared.value.Value.{Value}
use Rattle.eio_value.specs.declared.value.Value.TheVariants as value
use Rattle.spec_parts.specs.declared.hold.Hold.{Hold}
use Rattle.spec_parts.specs.declared.hold.Hold.TheVariants.{Free, Held, Poisoned}
use Rattle.spec_parts.specs.Data.{Data, Stream, Promise, Semaphore, Mutex, Pool, Executor, Work, Submitted}
use Rattle.spec_parts.specs.Executors.{executor_does, with_job, start_head, start_on, finish, fits, has_number}
use Rattle.spec_parts.specs.Mutexes.{mutex_does}
use Rattle.spec_parts.specs.Objects.{does}
use Rattle.spec_parts.specs.Pools.{pool_does, use_last, is_out}
use Rattle.spec_parts.specs.Promises.{promise_does}
use Rattle.spec_parts.specs.Row.{Row, Queued, Side, Takers, Adders, Alone, Keeps, Waits, Handed, Does, Ignores, Looks, Stepped, anybody, quiet, done, int, answer_of, otherwise, found, queue, stepped}
use Rattle.spec_parts.specs.Semaphores.{semaphore_does, greatest_count}
use Rattle.spec_parts.specs.Streams.{stream_does}
use Rattle.law_parts.specs.Offs.{HasDoneNothing, OffLeaves}
use Rattle.law_parts.proofs.Choices.{either_way, found_or_not}

abbrev is_off : Answer → Bool
is_off answer.Off = true
is_off other = false

abbrev KeepsNoOff : Alone → Type 0
KeepsNoOff (Keeps values answer start) = is_off answer ≡ false
KeepsNoOff (Waits values side item number) = Unit {0}

abbrev HasNoOff : Does → Type 0
HasNoOff (Ignores alone) = KeepsNoOff alone
HasNoOff (Looks side pick hand alone) = ((queued : Queued) → is_off (hand queued).answer ≡ false) × KeepsNoOff alone

answer_of-no_off : (given : Outcome) → is_off (answer_of given) ≡ false
answer_of-no_off (outcome.Ok value) = refl
answer_of-no_off (outcome.Err raised) = refl

-- Kind by kind

stream_no_off : (capacity : ℕ) (items : List Value) (call : Call) → HasNoOff (stream_does capacity items call)
stream_no_off capacity items (call.Add object item) =
    (λ queued. refl, either_way (λ b. KeepsNoOff (elim b [ true ↦ quiet (Stream capacity (items ++ item ∷ [])) done | false ↦ Waits (Stream capacity items) Adders item 0 ])) (nat_lt (length items) capacity) refl tt)
stream_no_off capacity [] (call.Take object) = (λ queued. refl, tt)
stream_no_off capacity (item ∷ items) (call.Take object) = (λ queued. refl, refl)
stream_no_off capacity [] (call.TakeNonblocking object) = (λ queued. refl, refl)
stream_no_off capacity (item ∷ items) (call.TakeNonblocking object) = (λ queued. refl, refl)
stream_no_off capacity items other = refl

promise_no_off : (kept : Option Outcome) (serial : ℕ) (call : Call) → HasNoOff (promise_does kept serial call)
promise_no_off None serial (call.Resolve object given) = refl
promise_no_off (Some kept) serial (call.Resolve object given) = refl
promise_no_off None serial (call.TryResolve object given) = refl
promise_no_off (Some kept) serial (call.TryResolve object given) = refl
promise_no_off None serial (call.Await object) = tt
promise_no_off (Some kept) serial (call.Await object) = answer_of-no_off kept
promise_no_off None serial (call.NextWake object) = refl
promise_no_off (Some kept) serial (call.NextWake object) = (λ queued. refl, refl)
promise_no_off kept serial other = refl

semaphore_no_off : (count : ℕ) (call : Call) → HasNoOff (semaphore_does count call)
semaphore_no_off zero (call.Acquire object) = tt
semaphore_no_off (suc count) (call.Acquire object) = refl
semaphore_no_off count (call.Release object) =
    either_way
    (λ b. HasNoOff (elim b [
      | true ↦ Ignores (quiet (Semaphore count) answer.Nothing)
      | false ↦ Looks Takers anybody (λ waiter. record { values = Semaphore count; answer = done; outcome = outcome.Ok value.Unit }) (quiet (Semaphore (count + 1)) done)
    ]))
    (count == greatest_count)
    refl
    (λ queued. refl, refl)
semaphore_no_off count other = refl

mutex_no_off : (state : Hold) (serial : ℕ) (call : Call) → HasNoOff (mutex_does state serial call)
mutex_no_off Free serial (call.Lock object) = refl
mutex_no_off Held serial (call.Lock object) = tt
mutex_no_off Poisoned serial (call.Lock object) = refl
mutex_no_off Free serial (call.TryLock object) = refl
mutex_no_off Held serial (call.TryLock object) = refl
mutex_no_off Poisoned serial (call.TryLock object) = refl
mutex_no_off Free serial (call.Unlock object) = refl
mutex_no_off Held serial (call.Unlock object) = (λ queued. refl, refl)
mutex_no_off Poisoned serial (call.Unlock object) = refl
mutex_no_off Free serial (call.NextWake object) = refl
mutex_no_off Held serial (call.NextWake object) = refl
mutex_no_off Poisoned serial (call.NextWake object) = (λ queued. refl, refl)
mutex_no_off state serial other = refl

use_no_off : (size made : ℕ) (idle : List ℕ) (last : Option ℕ) → KeepsNoOff (use_last size made idle last)
use_no_off size made idle None =
    either_way (λ b. KeepsNoOff (elim b [ true ↦ quiet (Pool size (made + 1) idle) (answer.Done (int made)) | false ↦ Waits (Pool size made idle) Takers value.Unit 0 ])) (nat_lt made size) refl tt
use_no_off size made idle (Some resource) = refl

pool_no_off : (size made : ℕ) (idle : List ℕ) (call : Call) → HasNoOff (pool_does size made idle call)
pool_no_off size made idle (call.Use object) = use_no_off size made idle (last_or None idle)
pool_no_off size made idle (call.Put object resource) =
    either_way
    (λ b. HasNoOff (elim b [
      | true ↦ Looks Takers anybody (λ waiter. record { values = Pool size made idle; answer = done; outcome = outcome.Ok (int resource) }) (quiet (Pool size made (idle ++ resource ∷ [])) done)
      | false ↦ Ignores (quiet (Pool size made idle) answer.Nothing)
    ]))
    (is_out made idle resource)
    (λ queued. refl, refl)
    refl
pool_no_off size made idle other = refl

start_no_off : (work : Work) (queued : List Submitted) → KeepsNoOff (start_head work queued)
start_no_off work [] = refl
start_no_off work (head ∷ others) = found_or_not (λ worker. KeepsNoOff (start_on work head others worker)) (find (fits head.job.weight) work.workers) refl (λ worker. refl)

executor_no_off : (work : Work) (call : Call) → HasNoOff (executor_does work call)
executor_no_off work (call.Submit job) =
    either_way (λ b. KeepsNoOff (elim b [ true ↦ Waits (Executor (with_job work job)) Takers value.Unit work.submitted | false ↦ quiet (Executor work) answer.Nothing ])) (nat_lt (length work.queued) work.most) tt refl
executor_no_off work (call.NextStart object) = start_no_off work work.queued
executor_no_off work (call.Done object number given) = found_or_not (λ job. HasNoOff (finish work number given job)) (find (has_number number) work.running) refl (λ job. (λ queued. refl, refl))
executor_no_off work other = refl

does_no_off : (values : Data) (serial : ℕ) (call : Call) → HasNoOff (does values serial call)
does_no_off (Stream capacity items) serial call = stream_no_off capacity items call
does_no_off (Promise kept) serial call = promise_no_off kept serial call
does_no_off (Semaphore count) serial call = semaphore_no_off count call
does_no_off (Mutex state) serial call = mutex_no_off state serial call
does_no_off (Pool size made idle) serial call = pool_no_off size made idle call
does_no_off (Executor work) serial call = executor_no_off work call

-- One step

not_off : (given : Answer) → given ≡ answer.Off → is_off given ≡ false → ⊥
not_off given off keeps = true≢false (sym (ap is_off off) ∙ keeps)

abbrev Leaves : Row → Bool → Stepped → Type 0
Leaves row off step = step.answer ≡ answer.Off → HasDoneNothing row off step

otherwise_leaves : (row : Row) (who : Waiter) (off : Bool) (alone : Alone) → KeepsNoOff alone → Leaves row off (otherwise row who off alone)
otherwise_leaves row who off (Keeps values answer start) keeps answered = absurd (not_off answer answered keeps)
otherwise_leaves row who true (Waits values side item number) keeps answered = record { same = refl; silent = refl; cancelled = refl }
otherwise_leaves row who false (Waits values side item number) keeps answered = absurd (cc)

found_leaves : (row : Row) (off : Bool) (side : Side) (pick : Queued → Bool) (hand : Queued → Handed) (other : Stepped) (who : Option Queued)
    → ((queued : Queued) → is_off (hand queued).answer ≡ false) → Leaves row off other → Leaves row off (found row side pick hand other who)
found_leaves row off side pick hand other None hands leaves answered = leaves answered
found_leaves row off side pick hand other (Some queued) hands leaves answered = absurd (not_off (hand queued).answer answered (hands queued))

stepped_leaves : (row : Row) (who : Waiter) (off : Bool) (what : Does) → HasNoOff what → Leaves row off (stepped row who off what)
stepped_leaves row who off (Ignores alone) never answered = otherwise_leaves row who off alone never answered
stepped_leaves row who off (Looks side pick hand alone) never answered =
    found_leaves row off side pick hand (otherwise row who off alone) (find pick (queue side row)) never.0 (otherwise_leaves row who off alone never.1) answered

pub off_leaves : OffLeaves
off_leaves row who off serial call answered = stepped_leaves row who off (does row.values serial call) (does_no_off row.values serial call) answered
