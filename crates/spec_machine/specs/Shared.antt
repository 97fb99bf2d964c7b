-- What the domains share: the shared objects, the waits that are decided, and the posts. And what a call, a strike and a taken message do to it.
-- Whether a wait is still undecided, was woken or was cancelled lies here; a domain learns it by a message, or by the reply of its strike.
use Rattle.std.specs.Prelude.{ℕ, ◌+◌, Bool, true, false, ◌&&◌, ◌==◌, List, [], ◌∷◌, ◌++◌, map, take, drop, slice_get, slice_set, Option, Some, None}
use Rattle.std.specs.Option.{unwrap_or}
use Rattle.eio_value.specs.declared.call.Call.{Call}
use Rattle.eio_value.specs.declared.message.Message.{Message}
use Rattle.eio_value.specs.declared.message.Message.TheVariants as message
use Rattle.eio_value.specs.declared.message.Waiter.{Waiter}
use Rattle.spec_parts.specs.Data.{Semaphore}
use Rattle.spec_parts.specs.Executors.{executor}
use Rattle.spec_parts.specs.Mutexes.{mutex}
use Rattle.spec_parts.specs.Objects.{called}
use Rattle.spec_parts.specs.Pools.{pool}
use Rattle.spec_parts.specs.Promises.{promise}
use Rattle.spec_parts.specs.ResumeWords.{Decision, Woken, Cancelled}
use Rattle.eio_value.specs.Sending.{Sent, Resumes, Starts}
use Rattle.spec_parts.specs.Row.{Row, opening, Stepped}
use Rattle.spec_parts.specs.Semaphores.{semaphore}
use Rattle.spec_parts.specs.Streams.{stream}
use Rattle.spec_parts.specs.Strikes as strikes
use Rattle.spec_script.specs.Declarations.{Declaration}
use Rattle.spec_script.specs.Declarations as declared

-- a wait that was decided: it is named by its resume word and the stamp with which it was armed
pub record Decided : Type 0 where
  pub cell : ℕ
  pub armed : ℕ
  pub decision : Decision

-- the objects and the stamps of their last lines, in order of declaration; the decided waits, newest first; the messages that are left of what each domain has
-- sent to each other, by receiver and sender
pub record SharedState : Type 0 where
  pub rows : List Row
  pub stamps : List ℕ
  pub decided : List Decided
  pub posts : (receiver sender : ℕ) → List Message

-- ## Parts

-- what stands under a number that no object has
abbrev pub no_object : Row
no_object = opening (Semaphore 0)

abbrev pub row_at : List Row → ℕ → Row
row_at rows object = unwrap_or (slice_get rows object) no_object

abbrev pub stamp_at : List ℕ → ℕ → ℕ
stamp_at stamps object = unwrap_or (slice_get stamps object) 0

-- how a wait was decided, if it was
abbrev pub decision_of : List Decided → (cell armed : ℕ) → Option Decision
decision_of [] cell armed = None
decision_of (one ∷ others) cell armed = elim (one.cell == cell && one.armed == armed) [ true ↦ Some one.decision | false ↦ decision_of others cell armed ]

-- ## Calls

-- a call on an object, as a domain makes it: by which wait, whether the caller's context is off, and the number of the raise that it may make
pub record Asked : Type 0 where
  pub object : ℕ
  pub who : Waiter
  pub off : Bool
  pub serial : ℕ
  pub call : Call

abbrev pub stepped : SharedState → Asked → Stepped
stepped s asked = called (row_at s.rows asked.object) asked.who asked.off asked.serial asked.call

-- what is sent is a message with the line's stamp, to the domain of the fiber, or to that in which the job starts
abbrev pub message_of : (stamp : ℕ) → Sent → Message
message_of stamp (Resumes who outcome) = message.Resume who outcome stamp
message_of stamp (Starts start) = message.Start start.job start.number stamp

abbrev pub receiver_of : Sent → ℕ
receiver_of (Resumes who outcome) = who.domain
receiver_of (Starts start) = start.domain

-- the message for the caller's own domain
abbrev pub mine_of : (domain stamp : ℕ) → Option Sent → Option Message
mine_of domain stamp None = None
mine_of domain stamp (Some sent) = elim (receiver_of sent == domain) [ true ↦ Some (message_of stamp sent) | false ↦ None ]

-- a message for another domain goes last into its post
abbrev pub posted : (domain stamp : ℕ) → Option Sent → ((receiver sender : ℕ) → List Message) → (receiver sender : ℕ) → List Message
posted domain stamp None posts = posts
posted domain stamp (Some sent) posts = elim (receiver_of sent == domain) [
  | true ↦ posts
  | false ↦ λ receiver sender. elim (receiver == receiver_of sent && sender == domain) [
    | true ↦ posts receiver sender ++ message_of stamp sent ∷ []
    | false ↦ posts receiver sender
  ]
]

abbrev pub with_woken : Option Sent → List Decided → List Decided
with_woken None decided = decided
with_woken (Some (Starts start)) decided = decided
with_woken (Some (Resumes who outcome)) decided = record { cell = who.cell; armed = who.armed; decision = Woken } ∷ decided

-- after the call of a domain, whose line has this stamp
abbrev pub after_call : SharedState → (domain stamp : ℕ) → Asked → Stepped → SharedState
after_call s domain stamp asked step = record {
  rows = slice_set s.rows asked.object step.row;
  stamps = slice_set s.stamps asked.object stamp;
  decided = with_woken step.sent s.decided;
  posts = posted domain stamp step.sent s.posts;
}

-- ## Strikes

-- a strike wins exactly where the wait is undecided
abbrev pub strike_wins : SharedState → Waiter → Bool
strike_wins s who = elim (decision_of s.decided who.cell who.armed) [ None ↦ true | Some decision ↦ false ]

-- after a strike: where it wins, the wait is decided and stands in no list
abbrev pub after_strike : SharedState → Waiter → (won : Bool) → SharedState
after_strike s who false = s
after_strike s who true = record s {
  rows = map (λ row. strikes.struck row who) s.rows;
  decided = record { cell = who.cell; armed = who.armed; decision = Cancelled } ∷ s.decided;
}

-- ## Messages

-- after a domain has taken the message at this place of what a sender sent to it
abbrev pub after_take : SharedState → (receiver sender place : ℕ) → SharedState
after_take s receiver sender place = record s {
  posts = λ other from. elim (receiver == other && sender == from) [
    | true ↦ take place (s.posts other from) ++ drop (place + 1) (s.posts other from)
    | false ↦ s.posts other from
  ];
}

-- ## The opening state

-- an executor has room for this many queued jobs for each body of its script
abbrev pub jobs_of_each : ℕ
jobs_of_each = 1024

-- the row of a declaration. A flow and a directory are no shared objects
abbrev pub declared_row : (most_jobs : ℕ) → Declaration → Row
declared_row most_jobs (declared.Stream capacity) = stream capacity
declared_row most_jobs declared.Promise = promise
declared_row most_jobs (declared.Semaphore count) = semaphore count
declared_row most_jobs declared.Mutex = mutex
declared_row most_jobs (declared.Pool size) = pool size
declared_row most_jobs (declared.Executor workers) = executor most_jobs workers
declared_row most_jobs (declared.Flow steps) = no_object
declared_row most_jobs (declared.Dir items) = no_object

-- nothing was called, sent or decided
abbrev pub opening_shared : (most_jobs : ℕ) → List Declaration → SharedState
opening_shared most_jobs declarations = record {
  rows = map (declared_row most_jobs) declarations;
  stamps = map (λ declaration. 0) declarations;
  decided = [];
  posts = λ receiver sender. [];
}
