-- The waits and the jobs of a domain, as they change by what it asks of the objects and by what comes to it.
-- A wait is open from the call that answered `Waits` until a strike on it has won or its message has come. A cell has one open wait at most.
use Rattle.std.specs.Prelude.{◌≡◌, ◌≢◌, ℕ, ◌+◌, ◌*◌, ◌≤◌, ◌<◌, Bool, true, false, ◌&&◌, ◌||◌, ◌==◌, not, List, slice_get, Option, Some, None, max, IsTrue}
use Rattle.eio_value.specs.declared.call.Answer.{Answer}
use Rattle.eio_value.specs.declared.call.Answer.TheVariants as answer
use Rattle.eio_value.specs.declared.call.Answered.{Answered}
use Rattle.eio_value.specs.declared.call.Call.{Call}
use Rattle.eio_value.specs.declared.call.Call.TheVariants as call
use Rattle.eio_value.specs.declared.call.Struck.{Struck}
use Rattle.eio_value.specs.declared.call.Struck.TheVariants as struck
use Rattle.eio_value.specs.declared.message.Message.{Message}
use Rattle.eio_value.specs.declared.message.Message.TheVariants as message
use Rattle.eio_value.specs.declared.message.Waiter.{Waiter}
use Rattle.eio_value.specs.Fitting.{Bounds, Submit}
use Rattle.eio_value.specs.declared.value.TextId.{TextId}

-- ## What never changes

pub data ObjectKind : Type 0 where
  Streams : ObjectKind
  Promises : ObjectKind
  Semaphores : ObjectKind
  Mutexes : ObjectKind
  Pools : ObjectKind
  Executors : ObjectKind
  -- a declaration that is no shared object
  Others : ObjectKind

-- the domain that calls, how many cells each domain has, what stands under each number of a declaration, the submits of the script, and the texts of
-- failures, where they are told
pub record Terms : Type 0 where
  pub domain : ℕ
  pub cells : ℕ
  pub kinds : List ObjectKind
  pub submits : List Submit
  pub failures : Option (List TextId)

abbrev pub bounds_of : Terms → (texts : ℕ) → Bounds
bounds_of terms texts = record { texts = texts; failures = terms.failures; submits = terms.submits }

-- ## Which object a call is on

abbrev pub object_of : Call → ℕ
object_of (call.Add object item) = object
object_of (call.Take object) = object
object_of (call.TakeNonblocking object) = object
object_of (call.Length object) = object
object_of (call.Resolve object given) = object
object_of (call.TryResolve object given) = object
object_of (call.Await object) = object
object_of (call.NextWake object) = object
object_of (call.Acquire object) = object
object_of (call.Release object) = object
object_of (call.Lock object) = object
object_of (call.TryLock object) = object
object_of (call.Unlock object) = object
object_of (call.Poison object) = object
object_of (call.Use object) = object
object_of (call.Put object resource) = object
object_of (call.Submit job) = job.executor
object_of (call.NextStart object) = object
object_of (call.Done object number given) = object

-- whether a call is one of this kind of object
abbrev pub is_of_kind : ObjectKind → Call → Bool
is_of_kind Streams (call.Add object item) = true
is_of_kind Streams (call.Take object) = true
is_of_kind Streams (call.TakeNonblocking object) = true
is_of_kind Streams (call.Length object) = true
is_of_kind Promises (call.Resolve object given) = true
is_of_kind Promises (call.TryResolve object given) = true
is_of_kind Promises (call.Await object) = true
is_of_kind Promises (call.NextWake object) = true
is_of_kind Semaphores (call.Acquire object) = true
is_of_kind Semaphores (call.Release object) = true
is_of_kind Mutexes (call.Lock object) = true
is_of_kind Mutexes (call.TryLock object) = true
is_of_kind Mutexes (call.Unlock object) = true
is_of_kind Mutexes (call.Poison object) = true
is_of_kind Mutexes (call.NextWake object) = true
is_of_kind Pools (call.Use object) = true
is_of_kind Pools (call.Put object resource) = true
is_of_kind Executors (call.Submit job) = true
is_of_kind Executors (call.NextStart object) = true
is_of_kind Executors (call.Done object number given) = true
is_of_kind kind other = false

-- the call's number names an object of its kind
abbrev pub HasObject : Terms → Call → Type 0
HasObject terms call = (kind : ObjectKind) × (slice_get terms.kinds (object_of call) ≡ Some kind) × IsTrue (is_of_kind kind call)

-- ## Waits

abbrev pub is_same : Waiter → Waiter → Bool
is_same a b = a.domain == b.domain && a.fiber == b.fiber && a.cell == b.cell && a.armed == b.armed

-- which waits are open
abbrev pub Open : Type 0
Open = Waiter → Bool

abbrev pub may_wait : Call → Bool
may_wait (call.Add object item) = true
may_wait (call.Take object) = true
may_wait (call.Await object) = true
may_wait (call.Acquire object) = true
may_wait (call.Lock object) = true
may_wait (call.Use object) = true
may_wait (call.Submit job) = true
may_wait other = false

-- the wait is the domain's own, in a cell of the domain in which none is open
pub record CanEnter (terms : Terms) (is_open : Open) (who : Waiter) : Type 0 where
  pub domain : who.domain ≡ terms.domain
  pub from : terms.cells * terms.domain ≤ who.cell
  pub below : who.cell < terms.cells * terms.domain + terms.cells
  pub free : (other : Waiter) → is_open other ≡ true → other.cell ≢ who.cell

abbrev pub waits : Answer → Bool
waits answer.Waits = true
waits other = false

-- the message is for this wait
abbrev pub is_for : Option Message → Waiter → Bool
is_for (Some (message.Resume who given stamp)) other = is_same who other
is_for message other = false

-- the fiber of a message waits for it
abbrev pub IsForOpen : Open → Option Message → Type 0
IsForOpen is_open (Some (message.Resume who given stamp)) = is_open who ≡ true
IsForOpen is_open message = Unit {0}

-- the waits that are open once a message has come
abbrev pub open_behind : Option Message → Open → Open
open_behind message is_open = λ who. is_open who && not (is_for message who)

-- the waits that are open once a call of this waiter was answered
abbrev pub open_answered : Waiter → Answered → Open → Open
open_answered caller answered is_open = open_behind answered.mine (λ who. is_open who || waits answered.answer && is_same caller who)

-- the waits that are open once a wait was struck
abbrev pub open_struck : Waiter → Struck → Open → Open
open_struck struck_one (struck.Won stamp) is_open = λ who. is_open who && not (is_same struck_one who)
open_struck struck_one (struck.Lost stamp) is_open = is_open

-- ## Jobs

-- which jobs were given to the domain, by executor and number
abbrev pub Jobs : Type 0
Jobs = (executor number : ℕ) → Bool

-- a job that is done was given
abbrev pub WasGiven : Jobs → Call → Type 0
WasGiven jobs (call.Done object number given) = jobs object number ≡ true
WasGiven jobs other = Unit {0}

-- a job is given to the domain that calls for the next start, and in no other call
abbrev pub MayStart : Call → Option Message → Type 0
MayStart (call.NextStart object) message = Unit {0}
MayStart other (Some (message.Start job number stamp)) = ⊥
MayStart other message = Unit {0}

abbrev pub with_job : Option Message → Jobs → Jobs
with_job (Some (message.Start job number stamp)) jobs = λ executor other. jobs executor other || job.executor == executor && number == other
with_job message jobs = jobs

-- ## Stamps

abbrev pub struck_stamp : Struck → ℕ
struck_stamp (struck.Won stamp) = stamp
struck_stamp (struck.Lost stamp) = stamp

-- the greatest stamp that is known once a message has come
abbrev pub seen_in : Option Message → ℕ → ℕ
seen_in (Some (message.Resume who given stamp)) seen = max seen stamp
seen_in (Some (message.Start job number stamp)) seen = max seen stamp
seen_in None seen = seen
