-- Calls on switches.
-- A switch has a context of its own for its body and its fibers. `close` is called at the end of the body, by the fiber that opened the switch, and again by it whenever
-- it was woken there, until it gives the body's value or raises the switch's errors.
use Rattle.std.specs.Prelude.{ℕ, Bool, true, false, ◌&&◌, List, [], ◌∷◌, ◌++◌, length, Option, Some, None}
use Rattle.eio_value.specs.declared.plain.Misuse.TheVariants.{SwitchFinished}
use Rattle.eio_value.specs.declared.plain.Plain.TheVariants.{Failure, Invalid, Exit}
use Rattle.eio_value.specs.declared.raised.Outcome.{Outcome}
use Rattle.eio_value.specs.declared.raised.Outcome.TheVariants as outcome
use Rattle.eio_value.specs.declared.raised.Raised.{Raised}
use Rattle.eio_value.specs.declared.raised.Raised.TheVariants as raised
use Rattle.eio_value.specs.declared.value.TextId.{TextId}
use Rattle.eio_value.specs.declared.value.Value.{Value}
use Rattle.eio_value.specs.declared.value.Value.TheVariants as value
use Rattle.eio_value.specs.Exceptions.{reason}
use Rattle.spec_parts.specs.Contexts.{is_full}
use Rattle.spec_parts.specs.Switches as switches
use Rattle.spec_parts.specs.Switches.{Switch, Handler, Attached, Detached, CloseStep, Closed, opened, switch_at, with_switch, refuses_forks, attach, detach, on_release, close_step, runs_handler}
use Rattle.spec_script.specs.Scripts.{Script}
use Rattle.spec_script.specs.Syntax as syntax
use Rattle.spec_script.specs.Syntax.{Block, Forking}
use Rattle.spec_fiber.specs.Asks.{Ask, again}
use Rattle.spec_fiber.specs.Numbered.{number_of, block_numbered}
use Rattle.spec_fiber.specs.Replies.{Position, begun, begun_promising, handled}
use Rattle.trace_lines.specs.declared.line.Did.{Did}
use Rattle.trace_lines.specs.declared.line.Did.TheVariants as did
use Rattle.trace_lines.specs.declared.line.Said2.TheVariants as said
use Rattle.spec_machine.specs.Domain.{GoesOn, CallsAgain, OnObject, Asleep, ForCancel, ForOthers, Resting, Ready, Parked, Ended, OfSwitch, Fiber, DomainState, fiber_at, made, to_head, to_back, is_full_by}
use Rattle.spec_machine.specs.Steps.{Step, told, new_raise, does, raises, answers, waits, halts, in_new, unless_off, cancels}
use Rattle.spec_machine.specs.ContextMoves.{sub_of, protected_of, before_block, enters_context, leaves}

abbrev pub with_switch_at : (switch : ℕ) → Switch → DomainState → DomainState
with_switch_at n switch l = record l { switches = with_switch n switch l.switches }

-- a new switch over this context
abbrev pub opens : (context : ℕ) → DomainState → DomainState
opens c l = record l { switches = l.switches ++ opened c ∷ [] }

abbrev pub switch : Ask → (fiber : ℕ) → DomainState → Step
switch call g l =
    let n = length l.switches in
    unless_off did.Switch g l (λ _. in_new (sub_of l g) g l (λ c m. enters_context did.Switch (said.Done (value.Switch n)) c (before_block call n g m) g (opens c m)))

-- ## Fibers of a switch

abbrev pub did_fork : Forking → (switch : ℕ) → Did
did_fork syntax.Plain n = did.Fork n
did_fork syntax.Daemon n = did.ForkDaemon n
did_fork (syntax.Promising promise) n = did.ForkPromise n promise

abbrev pub is_daemon : Forking → Bool
is_daemon syntax.Plain = false
is_daemon syntax.Daemon = true
is_daemon (syntax.Promising promise) = false

abbrev pub forked : Forking → Block → List Value → Position
forked syntax.Plain block variables = begun block variables
forked syntax.Daemon block variables = begun block variables
forked (syntax.Promising promise) block variables = begun_promising promise block variables

-- the new fiber runs in the switch's context, with the caller's variables, and stands first in the ready list, the caller second
abbrev pub makes : Forking → (switch : ℕ) → Block → (fiber : ℕ) → DomainState → Step
makes forking n block g l =
    let new = length l.fibers in
    let s : Switch = switch_at l.switches n in
    let t : DomainState = made s.context (OfSwitch n (is_daemon forking)) (forked forking block (fiber_at l.fibers g).variables) l in
    let u : DomainState = with_switch_at n (attach new (is_daemon forking) s).switch t in
    told g (did_fork forking n) (said.Fiber l.number new) (to_head (GoesOn (outcome.Ok value.Unit)) new (to_head (GoesOn (outcome.Ok value.Unit)) g u))

abbrev pub fork : Forking → (switch : ℕ) → Block → (fiber : ℕ) → DomainState → Step
fork forking n block g l = elim (refuses_forks l.contexts (switch_at l.switches n)) [
  | true ↦ record (does (did_fork forking n) g l) { reply = said.Nothing }
  | false ↦ elim (is_full_by 1 l.fibers) [ true ↦ halts g l | false ↦ makes forking n block g l ]
]

-- ## Errors

-- what was raised joins the errors of a switch that hasn't finished, and cancels its context by its reason
abbrev pub fails : (maker switch : ℕ) → Raised → DomainState → DomainState
fails maker n what l = elim (switches.fail what (switch_at l.switches n)) [
  | None ↦ l
  | Some switch ↦ cancels maker switch.context (reason what) (with_switch_at n switch l)
]

abbrev pub fail : (switch : ℕ) → TextId → (fiber : ℕ) → DomainState → Step
fail n text g l = elim (switch_at l.switches n).finished [
  | true ↦ raises (did.Fail n text) (Invalid SwitchFinished) g l
  | false ↦ new_raise (Failure text) l (λ x m. does (did.Fail n text) g (fails g n (raised.One x) m))
]

-- ## The end of a fiber

-- a fiber that waits in `close`, `join` or `shut` is woken, and calls it again
abbrev pub woken : (fiber : ℕ) → DomainState → DomainState
woken g l = elim (fiber_at l.fibers g).standing [
  | Parked wait ↦ elim wait [ ForOthers call ↦ to_back (CallsAgain call) g l | OnObject who ↦ l | Asleep ↦ l | ForCancel ↦ l | Resting ↦ l ]
  | Ready next ↦ l
  | Ended it ↦ l
]

abbrev pub woken_if : Option ℕ → DomainState → DomainState
woken_if None l = l
woken_if (Some g) l = woken g l

-- what a fiber has raised is given to its switch; the cancellation of a daemon is dropped
abbrev pub given_up : (maker switch : ℕ) → (daemon : Bool) → Outcome → DomainState → DomainState
given_up maker n daemon (outcome.Ok it) l = l
given_up maker n true (outcome.Err (raised.Cancelled why)) l = l
given_up maker n daemon (outcome.Err what) l = fails maker n what l

-- an attached fiber has ended: it leaves the switch, and who waits there for it and for nobody else is woken
abbrev pub detached : (switch : ℕ) → (daemon : Bool) → Outcome → (fiber : ℕ) → DomainState → DomainState
detached n daemon result g l =
    let t : DomainState = given_up g n daemon result l in
    let left : Detached = detach g (switch_at t.switches n) in
    woken_if left.woken (with_switch_at n left.switch t)

-- ## Release handlers

-- on a switch that has finished the handler runs at once, in a protected context
abbrev pub release : Ask → (switch : ℕ) → Block → (fiber : ℕ) → DomainState → Step
release call n block g l = elim (on_release (record { block = number_of block; values = (fiber_at l.fibers g).variables }) (switch_at l.switches n)) [
  | Some switch ↦ does (did.OnRelease n) g (with_switch_at n switch l)
  | None ↦ in_new (protected_of l g) g l (λ c m. enters_context (did.OnRelease n) said.Handler c (before_block call c g m) g m)
]

-- ## Closing

-- the handler that is next runs in a protected context of the caller, with the variables of its registration
abbrev pub runs : Script → Ask → (switch : ℕ) → Handler → (fiber : ℕ) → DomainState → Step
runs script call n handler g l = in_new (protected_of l g) g l (λ c m. (
    let fiber : Fiber = fiber_at m.fibers g in
    enters_context (did.Close n) said.Handler c (handled call c (block_numbered script handler.block) handler.values fiber.work fiber.variables) g m))

-- the switch has finished: its context has ended, and this is what it comes to
abbrev pub returns : (switch : ℕ) → (context : ℕ) → Outcome → (fiber : ℕ) → DomainState → Step
returns n c result g l = answers (did.Close n) result g (leaves c g l)

abbrev pub closed_by : Script → Ask → (switch context : ℕ) → (kept : Value) → CloseStep → (fiber : ℕ) → DomainState → Step
closed_by script call n c kept switches.Wait g l = waits (did.Close n) (ForOthers (again call)) g l
closed_by script call n c kept switches.CancelDaemons g l = waits (did.Close n) (ForOthers (again call)) g (cancels g c Exit l)
closed_by script call n c kept (switches.RunHandler handler) g l = runs script call n handler g l
closed_by script call n c kept switches.Return g l = returns n c (outcome.Ok kept) g l
closed_by script call n c kept (switches.Raise errors) g l = returns n c (outcome.Err errors) g l

abbrev pub fails_with : (maker switch : ℕ) → Option Raised → DomainState → DomainState
fails_with maker n None l = l
fails_with maker n (Some what) l = fails maker n what l

-- an exception that came is given to the switch first
abbrev pub closes : Script → Ask → (switch : ℕ) → Option Raised → (kept : Value) → (fiber : ℕ) → DomainState → Step
closes script call n came kept g l =
    let t : DomainState = fails_with g n came l in
    let closed : Closed = close_step g (switch_at t.switches n) in
    closed_by script call n closed.switch.context kept closed.step g (with_switch_at n closed.switch t)

-- where a handler is next and there is no room for its context, the limit is met before anything else
abbrev pub close : Script → Ask → (switch : ℕ) → Option Raised → (kept : Value) → (fiber : ℕ) → DomainState → Step
close script call n came kept g l = elim (runs_handler (switch_at l.switches n) && is_full l.contexts) [
  | true ↦ halts g l
  | false ↦ closes script call n came kept g l
]
