-- A domain keeps its number in each move. All that a move does leaves the number as it stands; so only what goes by cases needs a word.
use Rattle.std.proofs.Common.{◌≡◌, ℕ, ◌-◌, ◌==◌, ◌&&◌, Bool, true, false, List, [], ◌∷◌, ◌++◌, length, Option, Some, None, refl}
use Rattle.std.specs.Prelude.{ℤ, pos, negsuc, ◌+ℤ◌, int_lt, filter, not}
use Rattle.std.specs.Option.{unwrap_or}
use Rattle.eio_value.specs.declared.call.Answer.{Answer}
use Rattle.eio_value.specs.declared.call.Answer.TheVariants as answer
use Rattle.eio_value.specs.declared.message.Job.{Job}
use Rattle.eio_value.specs.declared.message.Message.{Message}
use Rattle.eio_value.specs.declared.message.Message.TheVariants as message
use Rattle.eio_value.specs.declared.plain.Plain.{Plain}
use Rattle.eio_value.specs.declared.raised.Outcome.{Outcome}
use Rattle.eio_value.specs.declared.raised.Outcome.TheVariants as outcome
use Rattle.eio_value.specs.declared.raised.Raised.{Raised}
use Rattle.eio_value.specs.declared.raised.Raised.TheVariants.{One, Cancelled, Many}
use Rattle.eio_value.specs.declared.value.Value.{Value}
use Rattle.eio_value.specs.declared.value.Value.TheVariants as value
use Rattle.eio_value.specs.Exceptions.{reason}
use Rattle.spec_parts.specs.Contexts as contexts
use Rattle.spec_parts.specs.Groups as groups
use Rattle.spec_parts.specs.Groups.{BranchEnded, Joined}
use Rattle.spec_parts.specs.Switches as switches
use Rattle.spec_parts.specs.Switches.{Switch, Handler, Closed, CloseStep, Detached}
use Rattle.spec_parts.specs.Timers.{Timer, due_fibers, earliest, is_due}
use Rattle.spec_script.specs.Limits.{is_within}
use Rattle.spec_script.specs.Scripts.{Script}
use Rattle.spec_script.specs.Syntax as syntax
use Rattle.spec_script.specs.Syntax.{Block, Forking}
use Rattle.spec_fiber.specs.Asks as ask
use Rattle.spec_fiber.specs.Asks.{Ask, again, passing}
use Rattle.spec_fiber.specs.Numbered.{number_of, block_numbered}
use Rattle.spec_fiber.specs.Replies.{handled, other_branches}
use Rattle.trace_lines.specs.declared.line.Did.{Did}
use Rattle.trace_lines.specs.declared.line.Did.TheVariants as did
use Rattle.trace_lines.specs.declared.line.Said2.{Said2}
use Rattle.trace_lines.specs.declared.line.Said2.TheVariants as said
use Rattle.spec_machine.specs.Asking.{is_full_for_one}
use Rattle.spec_machine.specs.ClockMoves as on_clock
use Rattle.spec_machine.specs.ContextMoves as on_contexts
use Rattle.spec_machine.specs.Domain.{Role, OfBody, OfJob, OfSwitch, OfGroup, OfWriter, Next, CallsAgain, OnObject, Asleep, ForCancel, ForOthers, Resting, Standing, Ready, Parked, Ended, Fiber, Owed, Duty, Strike, Wake, Start, DomainState, fiber_at, off_for, is_full_by, ended, to_back}
use Rattle.spec_machine.specs.DutyMoves as on_duties
use Rattle.spec_machine.specs.EndMoves as on_ends
use Rattle.spec_machine.specs.GroupMoves as on_groups
use Rattle.spec_machine.specs.Labels.{Label, Inner, Called, Struck, Mocked, Took}
use Rattle.spec_machine.specs.Moves.{own_call, own_move, called_move, struck_move, with_message, stepped_by, after}
use Rattle.spec_machine.specs.ObjectMoves as on_objects
use Rattle.spec_machine.specs.Preparing as doing
use Rattle.spec_machine.specs.Preparing.{Doing, Prepared, at_once, prepared, prepared_ready, prepared_timers, moves_of, next_of}
use Rattle.spec_machine.specs.Shared.{Asked}
use Rattle.spec_machine.specs.Steps as steps
use Rattle.spec_machine.specs.Steps.{Step}
use Rattle.spec_machine.specs.SwitchMoves as on_switches

-- the mocked outside has no part in the move
abbrev pub IsntMocked : Label → Type 0
IsntMocked (Mocked call given texts) = ⊥
IsntMocked other = Unit {0}

module _ (n : ℕ) where
  abbrev Has : DomainState → Type 0
  Has l = l.number ≡ n

  record Ends (step : Step) : Type 0 where
    is : Has step.state

  -- ## Cases

  if_ends : (b : Bool) (one other : Step) → Ends one → Ends other → Ends (elim b as (λ _. Step) [ true ↦ one | false ↦ other ])
  if_ends true one other h k = h
  if_ends false one other h k = k

  if_off_ends : (off : Option Plain) (one : Plain → Step) (other : Step) → ((why : Plain) → Ends (one why)) → Ends other → Ends (elim off as (λ _. Step) [ Some why ↦ one why | None ↦ other ])
  if_off_ends None one other h k = k
  if_off_ends (Some why) one other h k = h why

  -- in a new context, or not at all
  in_new_ends : (made : contexts.Made) (g : ℕ) (l : DomainState) (then : ℕ → DomainState → Step) → Has l → ((c : ℕ) (m : DomainState) → Has m → Ends (then c m)) → Ends (steps.in_new made g l then)
  in_new_ends made g l then h ends = by made.number
    where
      by : (number : Option ℕ) → Ends (elim number as (λ _. Step) [ None ↦ steps.halts g l | Some context ↦ then context (record l { contexts = made.contexts }) ])
      by None = record { is = h }
      by (Some context) = ends context (record l { contexts = made.contexts }) h

  -- ## Switches

  fails_has : (maker s : ℕ) (what : Raised) (l : DomainState) → Has l → Has (on_switches.fails maker s what l)
  fails_has maker s what l h = by (switches.fail what (switches.switch_at l.switches s))
    where
      by : (changed : Option Switch) → Has (elim changed [ None ↦ l | Some switch ↦ steps.cancels maker switch.context (reason what) (on_switches.with_switch_at s switch l) ])
      by None = h
      by (Some switch) = h

  woken_has : (g : ℕ) (l : DomainState) → Has l → Has (on_switches.woken g l)
  woken_has g l h = by (fiber_at l.fibers g).standing
    where
      by : (standing : Standing) → Has (elim standing [
        | Parked wait ↦ elim wait [ ForOthers call ↦ to_back (CallsAgain call) g l | OnObject who ↦ l | Asleep ↦ l | ForCancel ↦ l | Resting ↦ l ]
        | Ready next ↦ l
        | Ended it ↦ l
      ])
      by (Parked (ForOthers call)) = h
      by (Parked (OnObject who)) = h
      by (Parked Asleep) = h
      by (Parked ForCancel) = h
      by (Parked Resting) = h
      by (Ready next) = h
      by (Ended result) = h

  woken_if_has : (who : Option ℕ) (l : DomainState) → Has l → Has (on_switches.woken_if who l)
  woken_if_has None l h = h
  woken_if_has (Some g) l h = woken_has g l h

  given_up_has : (maker s : ℕ) (daemon : Bool) (result : Outcome) (l : DomainState) → Has l → Has (on_switches.given_up maker s daemon result l)
  given_up_has maker s daemon (outcome.Ok it) l h = h
  given_up_has maker s true (outcome.Err (Cancelled why)) l h = h
  given_up_has maker s false (outcome.Err (Cancelled why)) l h = fails_has maker s (Cancelled why) l h
  given_up_has maker s true (outcome.Err (One why)) l h = fails_has maker s (One why) l h
  given_up_has maker s false (outcome.Err (One why)) l h = fails_has maker s (One why) l h
  given_up_has maker s true (outcome.Err (Many several)) l h = fails_has maker s (Many several) l h
  given_up_has maker s false (outcome.Err (Many several)) l h = fails_has maker s (Many several) l h

  detached_has : (s : ℕ) (daemon : Bool) (result : Outcome) (g : ℕ) (l : DomainState) → Has l → Has (on_switches.detached s daemon result g l)
  detached_has s daemon result g l h =
      let t : DomainState = on_switches.given_up g s daemon result l in
      let left : Detached = switches.detach g (switches.switch_at t.switches s) in
      woken_if_has left.woken (on_switches.with_switch_at s left.switch t) (given_up_has g s daemon result l h)

  release_ends : (call : Ask) (s : ℕ) (block : Block) (g : ℕ) (l : DomainState) → Has l → Ends (on_switches.release call s block g l)
  release_ends call s block g l h = by (switches.on_release (record { block = number_of block; values = (fiber_at l.fibers g).variables }) (switches.switch_at l.switches s))
    where
      by : (changed : Option Switch) → Ends (elim changed as (λ _. Step) [
        | Some switch ↦ steps.does (did.OnRelease s) g (on_switches.with_switch_at s switch l)
        | None ↦ steps.in_new (on_contexts.protected_of l g) g l (λ c m. on_contexts.enters_context (did.OnRelease s) said.Handler c (on_contexts.before_block call c g m) g m)
      ])
      by (Some switch) = record { is = h }
      by None = in_new_ends (on_contexts.protected_of l g) g l (λ c m. on_contexts.enters_context (did.OnRelease s) said.Handler c (on_contexts.before_block call c g m) g m) h (λ c m k. record { is = k })

  closed_ends : (script : Script) (call : Ask) (s c : ℕ) (kept : Value) (step : CloseStep) (g : ℕ) (l : DomainState) → Has l → Ends (on_switches.closed_by script call s c kept step g l)
  closed_ends script call s c kept switches.Wait g l h = record { is = h }
  closed_ends script call s c kept switches.CancelDaemons g l h = record { is = h }
  closed_ends script call s c kept (switches.RunHandler handler) g l h =
      in_new_ends (on_contexts.protected_of l g) g l (λ c m. (
      let fiber : Fiber = fiber_at m.fibers g in
      on_contexts.enters_context (did.Close s) said.Handler c (handled call c (block_numbered script handler.block) handler.values fiber.work fiber.variables) g m)) h (λ c m k. record { is = k })
  closed_ends script call s c kept switches.Return g l h = record { is = h }
  closed_ends script call s c kept (switches.Raise errors) g l h = record { is = h }

  fails_with_has : (maker s : ℕ) (came : Option Raised) (l : DomainState) → Has l → Has (on_switches.fails_with maker s came l)
  fails_with_has maker s None l h = h
  fails_with_has maker s (Some what) l h = fails_has maker s what l h

  close_ends : (script : Script) (call : Ask) (s : ℕ) (came : Option Raised) (kept : Value) (g : ℕ) (l : DomainState) → Has l → Ends (on_switches.close script call s came kept g l)
  close_ends script call s came kept g l h =
      let t : DomainState = on_switches.fails_with g s came l in
      let closed : Closed = switches.close_step g (switches.switch_at t.switches s) in
      if_ends (switches.runs_handler (switches.switch_at l.switches s) && contexts.is_full l.contexts) _ _ (record { is = h })
      (closed_ends script call s closed.switch.context kept closed.step g (on_switches.with_switch_at s closed.switch t) (fails_with_has g s came l h))

  -- ## Groups

  branched_has : (c k : ℕ) (variables : List Value) (blocks : List Block) (l : DomainState) → Has l → Has (on_groups.branched c k variables blocks l)
  unfolding on_groups.branched
  branched_has c k variables [] l h = h
  branched_has c k variables (block ∷ blocks) l h = branched_has c k variables blocks _ h

  branches_ends : (call : Ask) (kind : syntax.Group) (blocks : List Block) (g : ℕ) (l : DomainState) → Has l → Ends (on_groups.branches call kind blocks g l)
  branches_ends call kind blocks g l h =
      if_off_ends (off_for l g) _ _ (λ why. record { is = h })
      (if_ends (is_full_by (length blocks - 1) l.fibers) _ _ (record { is = h })
      (in_new_ends (on_contexts.sub_of l g) g l (λ c m. on_groups.branches_in call kind blocks c g m) h
      (λ c m k. record { is = branched_has c (length m.groups) (fiber_at m.fibers g).variables (other_branches blocks) (record m { groups = m.groups ++ groups.gathered (on_groups.kind_of kind) c (length blocks) ∷ [] }) k })))

  cancels_if_has : (maker c : ℕ) (why : Option Plain) (l : DomainState) → Has l → Has (on_groups.cancels_if maker c why l)
  cancels_if_has maker c None l h = h
  cancels_if_has maker c (Some why) l h = h

  branch_ended_has : (k : ℕ) (result : Outcome) (g : ℕ) (l : DomainState) → Has l → Has (on_groups.branch_ended k result g l)
  branch_ended_has k result g l h =
      let it : BranchEnded = groups.branch_ends result (groups.group_at l.groups k) in
      let t : DomainState = record l { groups = groups.with_group k it.group l.groups } in
      woken_if_has it.woken (on_groups.cancels_if g it.group.context it.cancels t) (cancels_if_has g it.group.context it.cancels t h)

  own_ended_has : (k : ℕ) (own : Option Outcome) (g : ℕ) (l : DomainState) → Has l → Has (on_groups.own_ended k own g l)
  own_ended_has k None g l h = h
  own_ended_has k (Some result) g l h = branch_ended_has k result g l h

  joined_ends : (call : Ask) (c : ℕ) (step : groups.JoinStep) (g : ℕ) (l : DomainState) → Has l → Ends (on_groups.joined_by call c step g l)
  joined_ends call c groups.Wait g l h = record { is = h }
  joined_ends call c (groups.Give it) g l h = record { is = h }
  joined_ends call c (groups.Raise raised) g l h = record { is = h }

  joins_ends : (call : Ask) (k : ℕ) (own : Option Outcome) (g : ℕ) (l : DomainState) → Has l → Ends (on_groups.joins call k own g l)
  joins_ends call k own g l h =
      let t : DomainState = on_groups.own_ended k own g l in
      let joined : Joined = groups.join g (groups.group_at t.groups k) in
      joined_ends call joined.group.context joined.step g (record t { groups = groups.with_group k joined.group t.groups }) (own_ended_has k own g l h)

  -- ## Ends

  after_end_has : (role : Role) (result : Outcome) (g : ℕ) (l : DomainState) → Has l → Has (on_ends.after_end role result g l)
  after_end_has OfBody result g l h = h
  after_end_has (OfJob executor number) result g l h = h
  after_end_has (OfSwitch s daemon) result g l h = detached_has s daemon result g l h
  after_end_has (OfGroup k) result g l h = branch_ended_has k result g l h
  after_end_has (OfWriter writer) result g l h = h

  ends_has : (result : Outcome) (g : ℕ) (l : DomainState) → Has l → Has (on_ends.ends result g l)
  ends_has result g l h = after_end_has (fiber_at l.fibers g).role result g (ended result g l) h

  -- ## The clock

  sleep_ends : (time : ℤ) (g : ℕ) (l : DomainState) → Has l → Ends (on_clock.sleep time g l)
  sleep_ends time g l h =
      if_ends (int_lt time (pos 1)) _ _ (record { is = h })
      (if_ends (is_within (l.now +ℤ time)) _ _ (if_off_ends (off_for l g) _ _ (λ why. record { is = h }) (record { is = h })) (record { is = h }))

  wakes_has : (fibers : List ℕ) (l : DomainState) → Has l → Has (on_clock.wakes fibers l)
  wakes_has [] l h = h
  wakes_has (g ∷ fibers) l h = wakes_has fibers _ h

  tick_ends : (l : DomainState) → Has l → Ends (on_clock.tick l)
  tick_ends l h =
      let time = unwrap_or (earliest l.timers) l.now in
      record { is = wakes_has (due_fibers time l.timers) (record l { now = time; timers = record (l.timers) { standing = filter (λ timer. not (is_due time timer)) l.timers.standing } }) h }

  -- ## A fiber's own call

  left_ends : (c : ℕ) (late : Bool) (it : Outcome) (g : ℕ) (l : DomainState) → Has l → Ends (on_contexts.left_with c late it g l)
  left_ends c true (outcome.Ok it) g l h = record { is = h }
  left_ends c false (outcome.Ok it) g l h = record { is = h }
  left_ends c true (outcome.Err raised) g l h = record { is = h }
  left_ends c false (outcome.Err raised) g l h = record { is = h }

  own_call_ends : (script : Script) (call : Ask) (g : ℕ) (l : DomainState) → Has l → Ends (own_call script call g l)
  unfolding own_call
  own_call_ends script ask.Check g l h = if_off_ends (off_for l g) _ _ (λ why. record { is = h }) (record { is = h })
  own_call_ends script ask.AwaitCancel g l h = if_off_ends (off_for l g) _ _ (λ why. record { is = h }) (record { is = h })
  own_call_ends script (ask.Sub block) g l h =
      if_off_ends (off_for l g) _ _ (λ why. record { is = h })
      (in_new_ends (on_contexts.sub_of l g) g l (λ c m. on_contexts.enters_context did.Sub (said.Done (value.Ctx c)) c (on_contexts.before_block (ask.Sub block) c g m) g m) h (λ c m k. record { is = k }))
  own_call_ends script (ask.Protect block) g l h =
      in_new_ends (on_contexts.protected_of l g) g l (λ c m. on_contexts.enters_context did.Protect (said.Done (value.Ctx c)) c (on_contexts.before_block (ask.Protect block) c g m) g m) h (λ c m k. record { is = k })
  own_call_ends script (ask.Cancel context text) g l h = if_ends (contexts.is_live l.contexts context) _ _ (record { is = h }) (record { is = h })
  own_call_ends script (ask.Switch block) g l h =
      if_off_ends (off_for l g) _ _ (λ why. record { is = h })
      (in_new_ends (on_contexts.sub_of l g) g l (λ c m. (
      let s = length l.switches in
      on_contexts.enters_context did.Switch (said.Done (value.Switch s)) c (on_contexts.before_block (ask.Switch block) s g m) g (on_switches.opens c m))) h (λ c m k. record { is = k }))
  own_call_ends script (ask.Fork forking s block) g l h =
      if_ends (switches.refuses_forks l.contexts (switches.switch_at l.switches s)) _ _ (record { is = h }) (if_ends (is_full_by 1 l.fibers) _ _ (record { is = h }) (record { is = h }))
  own_call_ends script (ask.Fail s text) g l h = if_ends (switches.switch_at l.switches s).finished _ _ (record { is = h }) (record { is = fails_has g s _ (steps.counted l) h })
  own_call_ends script (ask.OnRelease s block) g l h = release_ends (ask.OnRelease s block) s block g l h
  own_call_ends script (ask.Branches kind blocks) g l h = branches_ends (ask.Branches kind blocks) kind blocks g l h
  own_call_ends script (ask.Sleep time) g l h = sleep_ends time g l h
  own_call_ends script (ask.Leave context late it) g l h = left_ends context late it g (on_contexts.leaves context g l) h
  own_call_ends script (ask.Close s came kept) g l h = close_ends script (ask.Close s came kept) s came kept g l h
  own_call_ends script (ask.Join k own) g l h = joins_ends (ask.Join k own) k own g l h
  own_call_ends script (ask.End it) g l h = record { is = ends_has it g l h }
  own_call_ends script call g l h = record { is = h }

  -- ## Answers of objects

  answered_with_ends : (call : Ask) (it : Did) (reply : Said2) (given : Value) (g : ℕ) (l : DomainState) → Has l → Ends (on_objects.answered_with call it reply given g l)
  answered_with_ends (ask.End result) it reply given g l h = record { is = ends_has result g l h }
  answered_with_ends call it reply given g l h = record { is = h }

  nothing_done_ends : (call : Ask) (it : Did) (g : ℕ) (l : DomainState) → Has l → Ends (on_objects.nothing_done call it g l)
  nothing_done_ends (ask.Submit executor weight given block) it g l h = record { is = h }
  nothing_done_ends call it g l h = answered_with_ends call it said.Nothing value.Unit g l h

  if_resolved_has : (maker promise : ℕ) (it : Value) (l : DomainState) → Has l → Has (on_objects.owes_if_resolved maker promise it l)
  if_resolved_has maker promise (value.Int (pos k)) l h = by (k == 1)
    where
      by : (b : Bool) → Has (elim b [ true ↦ on_objects.owes maker (Wake promise false) l | false ↦ l ])
      by true = h
      by false = h
  if_resolved_has maker promise (value.Int (negsuc k)) l h = h
  if_resolved_has maker promise it l h = h

  end_owes_has : (role : Role) (result : Outcome) (it : Value) (maker : ℕ) (l : DomainState) → Has l → Has (on_objects.owing (ask.End result) role it maker l)
  end_owes_has (OfJob executor number) result it maker l h = h
  end_owes_has role result it maker l h = h

  owing_has : (call : Ask) (role : Role) (it : Value) (maker : ℕ) (l : DomainState) → Has l → Has (on_objects.owing call role it maker l)
  owing_has (ask.OnObjectWith syntax.Resolve promise operand) role it maker l h = h
  owing_has (ask.OnObjectWith syntax.TryResolve promise operand) role it maker l h = if_resolved_has maker promise it l h
  owing_has (ask.ResolveEnd promise result) role it maker l h = h
  owing_has (ask.PoisonEnd mutex raised) role it maker l h = h
  owing_has (ask.End result) role it maker l h = end_owes_has role result it maker l h
  owing_has call role it maker l h = h

  owing_wait_has : (call : Ask) (maker : ℕ) (l : DomainState) → Has l → Has (on_objects.owing_wait call maker l)
  owing_wait_has (ask.Submit executor weight given block) maker l h = h
  owing_wait_has call maker l h = h

  raised_ends : (call : Ask) (it : Did) (raised : Raised) (g : ℕ) (l : DomainState) → Has l → Ends (on_objects.raised_for call it raised g l)
  raised_ends (ask.OnObject syntax.Await object) it raised g l h = record { is = h }
  raised_ends call it raised g l h = record { is = h }

  answered_ends : (call : Ask) (role : Role) (it : Did) (asked : Asked) (given : Answer) (g : ℕ) (l : DomainState) → Has l → Ends (on_objects.answered_by call role it asked given g l)
  answered_ends call role it asked (answer.Done given) g l h = answered_with_ends call it (said.Done given) given g (on_objects.owing call role given g l) (owing_has call role given g l h)
  answered_ends call role it asked answer.Waits g l h = record { is = owing_wait_has call g l h }
  answered_ends call role it asked answer.Off g l h = record { is = h }
  answered_ends call role it asked answer.Nothing g l h = nothing_done_ends call it g l h
  answered_ends call role it asked (answer.Raised raised) g l h = raised_ends call it raised g l h
  answered_ends call role it asked (answer.Woke who) g l h = record { is = h }
  answered_ends call role it asked (answer.Started domain number) g l h = record { is = h }

  -- ## Obligations

  strike_ends : (duty : Duty) (g : ℕ) (won : Bool) (l : DomainState) → Has l → Ends (on_duties.strike_told duty g won l)
  strike_ends duty g true l h = record { is = h }
  strike_ends duty g false l h = record { is = h }

  own_strike_ends : (duty : Duty) (g : ℕ) (standing : Standing) (l : DomainState) → Has l → Ends (on_duties.own_strike duty g standing l)
  own_strike_ends duty g (Parked Asleep) l h = record { is = h }
  own_strike_ends duty g (Parked ForCancel) l h = record { is = h }
  own_strike_ends duty g standing l h = record { is = h }

  own_duty_ends : (maker : ℕ) (owed : Owed) (l : DomainState) → Has l → Ends (on_duties.own_duty (record { maker = maker; owed = owed }) l)
  own_duty_ends maker (Strike g) l h = own_strike_ends (record { maker = maker; owed = Strike g }) g (fiber_at l.fibers g).standing l h
  own_duty_ends maker (Wake object poisoned) l h = record { is = h }
  own_duty_ends maker (Start executor) l h = record { is = h }

  wake_ends : (duty : Duty) (object : ℕ) (poisoned : Bool) (given : Answer) (l : DomainState) → Has l → Ends (on_duties.wake_told duty object poisoned given l)
  wake_ends duty object true (answer.Woke who) l h = record { is = h }
  wake_ends duty object false (answer.Woke who) l h = record { is = h }
  wake_ends duty object poisoned other l h = record { is = h }

  start_ends : (duty : Duty) (executor : ℕ) (given : Answer) (l : DomainState) → Has l → Ends (on_duties.start_told duty executor given l)
  start_ends duty executor (answer.Started domain number) l h = record { is = h }
  start_ends duty executor other l h = record { is = h }

  duty_answered_ends : (maker : ℕ) (owed : Owed) (given : Answer) (l : DomainState) → Has l → Ends (on_duties.duty_answered (record { maker = maker; owed = owed }) given l)
  duty_answered_ends maker (Strike g) given l h = record { is = h }
  duty_answered_ends maker (Wake object poisoned) given l h = wake_ends (record { maker = maker; owed = Wake object poisoned }) object poisoned given l h
  duty_answered_ends maker (Start executor) given l h = start_ends (record { maker = maker; owed = Start executor }) executor given l h

  duty_struck_ends : (maker : ℕ) (owed : Owed) (won : Bool) (l : DomainState) → Has l → Ends (on_duties.duty_struck (record { maker = maker; owed = owed }) won l)
  duty_struck_ends maker (Strike g) won l h = strike_ends (record { maker = maker; owed = Strike g }) g won l h
  duty_struck_ends maker (Wake object poisoned) won l h = record { is = h }
  duty_struck_ends maker (Start executor) won l h = record { is = h }

  -- ## Messages

  begun_has : (script : Script) (job : Job) (number : ℕ) (l : DomainState) → Has l → Has (on_ends.job_begun script job number l)
  begun_has script job number l h = by (contexts.root l.contexts).number
    where
      by : (c : Option ℕ) → Has (elim c [ None ↦ l | Some c ↦ on_ends.job_made script job number c (record l { contexts = (contexts.root l.contexts).contexts }) ])
      by None = h
      by (Some c) = h

  with_message_ends : (script : Script) (mine : Option Message) (step : Step) → Ends step → Ends (with_message script mine step)
  with_message_ends script None step h = h
  with_message_ends script (Some (message.Resume who result stamp)) step h = record { is = h.is }
  with_message_ends script (Some (message.Start job number stamp)) step h = record { is = begun_has script job number step.state h.is }

  -- ## The move

  timers_has : (l : DomainState) (standing : List Timer) → Has l → Has (elim standing as (λ _. Prepared) [ [] ↦ at_once doing.Rests l | timer ∷ others ↦ at_once doing.Ticks l ]).state
  timers_has l [] h = h
  timers_has l (timer ∷ others) h = h

  moves_of_has : (role : Role) (g : ℕ) (fiber : Fiber) (next : Next) (l : DomainState) → Has l → Has (moves_of role g fiber next l).state
  moves_of_has (OfWriter writer) g fiber next l h = h
  moves_of_has role g fiber next l h = h

  ready_has : (l : DomainState) (ready : List ℕ) → Has l → Has (elim ready as (λ _. Prepared) [ [] ↦ prepared_timers l | g ∷ others ↦ doing.moves g (fiber_at l.fibers g) (record l { ready = others }) ]).state
  ready_has l [] h = timers_has l l.timers.standing h
  ready_has l (g ∷ others) h = moves_of_has (fiber_at l.fibers g).role g (fiber_at l.fibers g) (next_of (fiber_at l.fibers g).standing) (record l { ready = others }) h

  duties_has : (l : DomainState) (duties : List Duty) → Has l → Has (elim duties as (λ _. Prepared) [ [] ↦ prepared_ready l | duty ∷ others ↦ at_once (doing.Owes duty) (record l { duties = others }) ]).state
  duties_has l [] h = ready_has l l.ready h
  duties_has l (duty ∷ others) h = h

  prepared_has : (l : DomainState) → Has l → Has (prepared l).state
  unfolding prepared
  prepared_has l h = duties_has l l.duties h

  own_ends : (script : Script) (what : Doing) (l : DomainState) → Has l → Ends (own_move script (at_once what l))
  own_ends script doing.Rests l h = record { is = h }
  own_ends script (doing.Owes duty) l h = own_duty_ends duty.maker duty.owed l h
  own_ends script (doing.Calls g call) l h = own_call_ends script call g l h
  own_ends script (doing.Carries g writer) l h = record { is = h }
  own_ends script doing.Ticks l h = tick_ends l h

  called_ends : (what : Doing) (l : DomainState) (asked : Asked) (given : Answer) → Has l → Ends (called_move (at_once what l) asked given)
  called_ends doing.Rests l asked given h = record { is = h }
  called_ends (doing.Owes duty) l asked given h = duty_answered_ends duty.maker duty.owed given l h
  called_ends (doing.Calls g call) l asked given h = answered_ends call (fiber_at l.fibers g).role (on_objects.did_ask call (fiber_at l.fibers g).role) asked given g l h
  called_ends (doing.Carries g writer) l asked given h = record { is = h }
  called_ends doing.Ticks l asked given h = record { is = h }

  struck_ends : (what : Doing) (l : DomainState) (won : Bool) → Has l → Ends (struck_move (at_once what l) won)
  struck_ends doing.Rests l won h = record { is = h }
  struck_ends (doing.Owes duty) l won h = duty_struck_ends duty.maker duty.owed won l h
  struck_ends (doing.Calls g call) l won h = record { is = h }
  struck_ends (doing.Carries g writer) l won h = record { is = h }
  struck_ends doing.Ticks l won h = record { is = h }

  takes_ends : (script : Script) (it : Message) (l : DomainState) → Has l → Ends (on_ends.takes script it l)
  takes_ends script (message.Resume who result stamp) l h = record { is = h }
  takes_ends script (message.Start job number stamp) l h =
      if_ends (is_full_for_one l) (steps.halts (length l.fibers) l)
      (steps.told (length l.fibers) (did.GotJob job.executor number) (said.Done value.Unit) (on_ends.received script (message.Start job number stamp) l)) (record { is = h })
      (record { is = begun_has script job number l h })

  stepped_ends : (script : Script) (l : DomainState) (label : Label) → IsntMocked label → Has l → Ends (stepped_by script (prepared l) label l)
  stepped_ends script l Inner isnt h = own_ends script (prepared l).doing (prepared l).state (prepared_has l h)
  stepped_ends script l (Called asked given mine) isnt h =
      with_message_ends script mine (called_move (prepared l) asked given) (called_ends (prepared l).doing (prepared l).state asked given (prepared_has l h))
  stepped_ends script l (Struck who won) isnt h = struck_ends (prepared l).doing (prepared l).state won (prepared_has l h)
  stepped_ends script l (Mocked call given texts) isnt h = absurd isnt
  stepped_ends script l (Took it) isnt h = takes_ends script it l h

-- in each move but those that the mocked outside answers
pub keeps_number : (script : Script) (l : DomainState) (stamp : ℕ) (label : Label) → IsntMocked label → (after script l stamp label).number ≡ l.number
unfolding after
keeps_number script l stamp label isnt = (stepped_ends l.number script l label isnt refl).is
