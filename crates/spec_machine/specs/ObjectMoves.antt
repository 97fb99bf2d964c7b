-- How a fiber goes on by what its call on a shared object was answered, and what the domain then owes.
use Rattle.std.specs.Prelude.{ℕ, ◌==◌, true, false, [], ◌∷◌, ◌++◌, pos, Option, Some, None}
use Rattle.eio_value.specs.declared.call.Answer.{Answer}
use Rattle.eio_value.specs.declared.call.Answer.TheVariants as answer
use Rattle.eio_value.specs.declared.raised.Outcome.{Outcome}
use Rattle.eio_value.specs.declared.raised.Outcome.TheVariants as outcome
use Rattle.eio_value.specs.declared.raised.Raised.{Raised}
use Rattle.eio_value.specs.declared.value.Value.{Value}
use Rattle.eio_value.specs.declared.value.Value.TheVariants as value
use Rattle.spec_script.specs.Syntax as syntax
use Rattle.spec_script.specs.Syntax.{ObjectCall, ObjectCallWith}
use Rattle.spec_fiber.specs.Asks as ask
use Rattle.spec_fiber.specs.Asks.{Ask, passing}
use Rattle.trace_lines.specs.declared.line.Did.{Did}
use Rattle.trace_lines.specs.declared.line.Did.TheVariants as did
use Rattle.trace_lines.specs.declared.line.Said2.{Said2}
use Rattle.trace_lines.specs.declared.line.Said2.TheVariants as said
use Rattle.spec_machine.specs.Domain.{GoesOn, OnObject, Role, OfJob, Owed, Wake, Start, DomainState, fiber_at, to_head}
use Rattle.spec_machine.specs.Shared.{Asked}
use Rattle.spec_machine.specs.Steps.{Step, told, does, raises_again, raises_given, waits, goes_off, halts}
use Rattle.spec_machine.specs.EndMoves.{ends}

-- ## What the line tells

abbrev pub did_call : ObjectCall → (object : ℕ) → Did
did_call syntax.Take object = did.Take object
did_call syntax.TakeNonblocking object = did.TakeNonblocking object
did_call syntax.Length object = did.Length object
did_call syntax.Await object = did.Await object
did_call syntax.Acquire object = did.Acquire object
did_call syntax.Release object = did.Release object
did_call syntax.Lock object = did.Lock object
did_call syntax.TryLock object = did.TryLock object
did_call syntax.Unlock object = did.Unlock object

abbrev pub did_call_with : ObjectCallWith → (object : ℕ) → Value → Did
did_call_with syntax.Add object it = did.Add object it
did_call_with syntax.Resolve object it = did.Resolve object (outcome.Ok it)
did_call_with syntax.TryResolve object it = did.TryResolve object it

-- the end of a fiber is told as a `done` where it is that of a job
abbrev pub did_end : Role → Did
did_end (OfJob executor number) = did.Done executor number
did_end role = did.End

-- a call that is no call on a shared object isn't told by this
abbrev pub did_ask : Ask → Role → Did
did_ask (ask.OnObject it object) role = did_call it object
did_ask (ask.OnObjectWith it object operand) role = did_call_with it object operand
did_ask (ask.Use pool) role = did.Use pool
did_ask (ask.Submit executor weight given block) role = did.Submit executor weight
did_ask (ask.UnlockEnd mutex it) role = did.Unlock mutex
did_ask (ask.PoisonEnd mutex raised) role = did.Poison mutex
did_ask (ask.PutEnd pool resource it) role = did.Put pool resource
did_ask (ask.ResolveEnd promise it) role = did.Resolve promise it
did_ask other role = did_end role

-- ## Obligations

abbrev pub owes : (maker : ℕ) → Owed → DomainState → DomainState
owes maker it l = record l { duties = l.duties ++ record { maker = maker; owed = it } ∷ [] }

-- a `try-resolve` that answered 1 has resolved the promise
abbrev pub owes_if_resolved : (maker promise : ℕ) → Value → DomainState → DomainState
owes_if_resolved maker promise (value.Int (pos n)) l = elim (n == 1) [ true ↦ owes maker (Wake promise false) l | false ↦ l ]
owes_if_resolved maker promise it l = l

-- once a call was answered with a value: who waits for a promise is to be woken after it was resolved, and for a mutex after it was poisoned; and jobs may start after
-- one has ended
abbrev pub owing : Ask → Role → Value → (maker : ℕ) → DomainState → DomainState
owing (ask.OnObjectWith syntax.Resolve promise operand) role it maker l = owes maker (Wake promise false) l
owing (ask.OnObjectWith syntax.TryResolve promise operand) role it maker l = owes_if_resolved maker promise it l
owing (ask.ResolveEnd promise result) role it maker l = owes maker (Wake promise false) l
owing (ask.PoisonEnd mutex raised) role it maker l = owes maker (Wake mutex true) l
owing (ask.End result) (OfJob executor number) it maker l = owes maker (Start executor) l
owing other role it maker l = l

-- ## Going on

-- behind an end that was answered, what came to it passes on; else the answer does
abbrev pub goes_on_with : Option Outcome → Value → Outcome
goes_on_with (Some it) given = it
goes_on_with None given = outcome.Ok given

-- after an answer with a value
abbrev pub answered_with : Ask → Did → Said2 → Value → (fiber : ℕ) → DomainState → Step
answered_with (ask.End result) it reply given g l = told g it reply (ends result g l)
answered_with call it reply given g l = told g it reply (to_head (GoesOn (goes_on_with (passing call) given)) g l)

-- only `await` can raise what was raised before
abbrev pub raised_for : Ask → Did → Raised → (fiber : ℕ) → DomainState → Step
raised_for (ask.OnObject syntax.Await object) it raised g l = raises_again it raised g l
raised_for call it raised g l = raises_given it raised g l

-- where nothing was to be done, the fiber goes on as after `()`; a job for which there is no room in the queue meets the limit
abbrev pub nothing_done : Ask → Did → (fiber : ℕ) → DomainState → Step
nothing_done (ask.Submit executor weight given block) it g l = halts g l
nothing_done call it g l = answered_with call it said.Nothing value.Unit g l

-- a job that waits in its queue may start
abbrev pub owing_wait : Ask → (maker : ℕ) → DomainState → DomainState
owing_wait (ask.Submit executor weight given block) maker l = owes maker (Start executor) l
owing_wait call maker l = l

-- the two last answers come to obligations alone
abbrev pub answered_by : Ask → Role → Did → Asked → Answer → (fiber : ℕ) → DomainState → Step
answered_by call role it asked (answer.Done given) g l = answered_with call it (said.Done given) given g (owing call role given g l)
answered_by call role it asked answer.Waits g l = waits it (OnObject asked.who) g (owing_wait call g l)
answered_by call role it asked answer.Off g l = goes_off it g l
answered_by call role it asked answer.Nothing g l = nothing_done call it g l
answered_by call role it asked (answer.Raised raised) g l = raised_for call it raised g l
answered_by call role it asked (answer.Woke who) g l = does it g l
answered_by call role it asked (answer.Started domain number) g l = does it g l

-- a fiber's call on a shared object was answered
abbrev pub object_answered : Ask → Asked → Answer → (fiber : ℕ) → DomainState → Step
object_answered call asked answer g l = (let role : Role = (fiber_at l.fibers g).role in answered_by call role (did_ask call role) asked answer g l)
