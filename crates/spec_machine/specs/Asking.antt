-- What a domain asks from outside for its next move. The calls on shared objects and on the mocked outside are those that a fiber makes; all else that a domain
-- does is its own.
use Rattle.std.specs.Prelude.{ℕ, ◌-◌, Bool, true, false, ◌||◌, List, ◌++◌, length, replicate, is_some}
use Rattle.eio_value.specs.declared.call.Call.{Call}
use Rattle.eio_value.specs.declared.call.Call.TheVariants as call
use Rattle.eio_value.specs.declared.message.Job.{Job}
use Rattle.eio_value.specs.declared.mock_call.MockCall.{MockCall}
use Rattle.eio_value.specs.declared.mock_call.MockCall.TheVariants as mock
use Rattle.eio_value.specs.declared.raised.Outcome.{Outcome}
use Rattle.eio_value.specs.declared.raised.Outcome.TheVariants as outcome
use Rattle.eio_value.specs.declared.value.TextId.{TextId}
use Rattle.eio_value.specs.declared.value.Value.{Value}
use Rattle.eio_value.specs.declared.value.Value.TheVariants as value
use Rattle.spec_parts.specs.Contexts.{is_full}
use Rattle.spec_script.specs.Syntax as syntax
use Rattle.spec_script.specs.Syntax.{Block, ObjectCall, ObjectCallWith, ReaderCall, PathCall}
use Rattle.spec_fiber.specs.Asks as ask
use Rattle.spec_fiber.specs.Asks.{Ask, DirectoryRef, Declared, Opened}
use Rattle.spec_fiber.specs.Numbered.{number_of}
use Rattle.spec_machine.specs.Domain.{Role, OfJob, OnObject, Standing, Parked, Duty, Strike, Wake, Start, DomainState, fiber_at, off_for, is_full_by, wait_of}
use Rattle.spec_machine.specs.Labels.{Asks, Idle, Own, Calls, Strikes, Mocks}
use Rattle.spec_machine.specs.Preparing as doing
use Rattle.spec_machine.specs.Preparing.{Prepared}

-- ## Calls on shared objects

abbrev pub object_call : ObjectCall → (object : ℕ) → Call
object_call syntax.Take object = call.Take object
object_call syntax.TakeNonblocking object = call.TakeNonblocking object
object_call syntax.Length object = call.Length object
object_call syntax.Await object = call.Await object
object_call syntax.Acquire object = call.Acquire object
object_call syntax.Release object = call.Release object
object_call syntax.Lock object = call.Lock object
object_call syntax.TryLock object = call.TryLock object
object_call syntax.Unlock object = call.Unlock object

abbrev pub object_call_with : ObjectCallWith → (object : ℕ) → Value → Call
object_call_with syntax.Add object it = call.Add object it
object_call_with syntax.Resolve object it = call.Resolve object (outcome.Ok it)
object_call_with syntax.TryResolve object it = call.TryResolve object it

-- a job has places for eight values; those that it doesn't need hold unit
abbrev pub job_of : (executor weight : ℕ) → List Value → Block → Job
job_of executor weight given block = record {
  executor = executor;
  node = number_of block;
  given = given ++ replicate (8 - length given) value.Unit;
  count = length given;
  weight = weight;
}

-- a call by the wait that this fiber would have
abbrev pub calls : DomainState → (fiber object : ℕ) → Call → Asks
calls l g object it = Calls (record { object = object; who = wait_of l g; off = is_some (off_for l g); serial = l.serial; call = it })

-- the end of a job is a call on its executor
abbrev pub end_of : Role → DomainState → (fiber : ℕ) → Outcome → Asks
end_of (OfJob executor number) l g it = calls l g executor (call.Done executor number it)
end_of role l g it = Own

-- ## Calls on the mocked outside

abbrev pub reader_call : ReaderCall → (reader : ℕ) → MockCall
reader_call syntax.Line reader = mock.Line reader
reader_call syntax.TakeAll reader = mock.TakeAll reader
reader_call syntax.Char reader = mock.Char reader
reader_call syntax.AtEnd reader = mock.AtEnd reader

-- the number of a directory, which a declared and an opened one have alike
abbrev pub place_number : DirectoryRef → ℕ
place_number (Declared number) = number
place_number (Opened number) = number

abbrev pub path_call : PathCall → (directory : ℕ) → TextId → MockCall
path_call syntax.Load directory path = mock.Load directory path
path_call syntax.Mkdir directory path = mock.Mkdir directory path
path_call syntax.ReadDir directory path = mock.ReadDir directory path
path_call syntax.Unlink directory path = mock.Unlink directory path
path_call syntax.Rmdir directory path = mock.Rmdir directory path
path_call syntax.Kind directory path = mock.Kind directory path

abbrev pub save_call : (only_new : Bool) → (directory : ℕ) → (path content : TextId) → MockCall
save_call true directory path content = mock.SaveNew directory path content
save_call false directory path content = mock.Save directory path content

abbrev pub has_failed : Outcome → Bool
has_failed (outcome.Ok it) = false
has_failed (outcome.Err raised) = true

-- whether there is no room for one more fiber in a context of its own
abbrev pub is_full_for_one : DomainState → Bool
is_full_for_one l = is_full_by 1 l.fibers || is_full l.contexts

-- a call by the table of texts and the number of the next raise
abbrev pub mocks : DomainState → MockCall → Asks
mocks l it = Mocks (record { call = it; texts = l.texts; serial = l.serial })

-- ## What is asked

-- for a call of this fiber. Where there is no room for a copier, a writer isn't opened
abbrev pub asks_for : Ask → (fiber : ℕ) → DomainState → Asks
asks_for (ask.OnObject it object) g l = calls l g object (object_call it object)
asks_for (ask.OnObjectWith it object operand) g l = calls l g object (object_call_with it object operand)
asks_for (ask.Use pool) g l = calls l g pool (call.Use pool)
asks_for (ask.Submit executor weight given block) g l = calls l g executor (call.Submit (job_of executor weight given block))
asks_for (ask.UnlockEnd mutex it) g l = calls l g mutex (call.Unlock mutex)
asks_for (ask.PoisonEnd mutex raised) g l = calls l g mutex (call.Poison mutex)
asks_for (ask.PutEnd pool resource it) g l = calls l g pool (call.Put pool resource)
asks_for (ask.ResolveEnd promise it) g l = calls l g promise (call.Resolve promise it)
asks_for (ask.End it) g l = end_of (fiber_at l.fibers g).role l g it
asks_for (ask.OpenReader flow limit block) g l = mocks l (mock.OpenReader flow limit)
asks_for (ask.OnReader it reader) g l = mocks l (reader_call it reader)
asks_for (ask.TakeBytes reader count) g l = mocks l (mock.TakeBytes reader count)
asks_for (ask.Copy from to) g l = mocks l (mock.Copy from to)
asks_for (ask.OpenWriter flow block) g l = elim (is_full_for_one l) [ true ↦ Own | false ↦ mocks l (mock.OpenWriter flow) ]
asks_for (ask.PutText writer text) g l = mocks l (mock.PutBytes writer text)
asks_for (ask.OpenDirectory place path block) g l = mocks l (mock.OpenDir (place_number place) path)
asks_for (ask.OnPath it place path) g l = mocks l (path_call it (place_number place) path)
asks_for (ask.Save only_new place path content) g l = mocks l (save_call only_new (place_number place) path content)
asks_for (ask.ShutReader reader it) g l = mocks l (mock.Shut reader (has_failed it))
asks_for (ask.ShutWriter writer it) g l = mocks l (mock.Shut writer (has_failed it))
asks_for other g l = Own

-- for a strike on a fiber: one that waits in a call on an object may have been woken, which is seen outside
abbrev pub strike_on : Standing → Asks
strike_on (Parked (OnObject who)) = Strikes who
strike_on standing = Own

-- for an obligation. Where there is no room for a job, none is started
abbrev pub asks_owed : Duty → DomainState → Asks
asks_owed duty l = elim duty.owed [
  | Strike g ↦ strike_on (fiber_at l.fibers g).standing
  | Wake object poisoned ↦ calls l duty.maker object (call.NextWake object)
  | Start executor ↦ elim (is_full_for_one l) [ true ↦ Own | false ↦ calls l duty.maker executor (call.NextStart executor) ]
]

abbrev pub asks_by : Prepared → Asks
asks_by it = elim it.doing [
  | doing.Rests ↦ Idle
  | doing.Owes duty ↦ asks_owed duty it.state
  | doing.Calls g wanted ↦ asks_for wanted g it.state
  | doing.Carries g writer ↦ mocks it.state (mock.Carry writer)
  | doing.Ticks ↦ Own
]
