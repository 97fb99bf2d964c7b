-- What each move does to one switch: the calls on it, and what the line tells of them.
use Rattle.std.proofs.Common.{◌≡◌, ℕ, ◌-◌, ◌<◌, ◌==◌, ◌&&◌, Bool, true, false, List, [], ◌∷◌, ◌++◌, length, Option, Some, None, refl, sym, ap, ◌∙◌, subst, arith, slice_set, eq-eqb}
use Rattle.std.specs.Prelude.{unwrap_or as or_else, ℤ, pos, ◌+ℤ◌, int_lt, filter, not}
use Rattle.std.specs.Option.{unwrap_or}
use Rattle.std.proofs.lemmas.Bool.{eqb-true, both_ways}
use Rattle.eio_value.specs.declared.call.Answer.{Answer}
use Rattle.eio_value.specs.declared.call.Answer.TheVariants as answer
use Rattle.eio_value.specs.declared.message.Job.{Job}
use Rattle.eio_value.specs.declared.message.Message.{Message}
use Rattle.eio_value.specs.declared.message.Message.TheVariants as message
use Rattle.eio_value.specs.declared.mock_call.Extra.{Extra}
use Rattle.eio_value.specs.declared.mock_call.Extra.TheVariants as extra
use Rattle.eio_value.specs.declared.mock_call.Said.{Said}
use Rattle.eio_value.specs.declared.plain.Plain.{Plain}
use Rattle.eio_value.specs.declared.plain.Plain.TheVariants.{Failure}
use Rattle.eio_value.specs.declared.raised.Outcome.{Outcome}
use Rattle.eio_value.specs.declared.raised.Outcome.TheVariants as outcome
use Rattle.eio_value.specs.declared.raised.Raised.{Raised}
use Rattle.eio_value.specs.declared.raised.Raised.TheVariants.{One, Cancelled, Many}
use Rattle.eio_value.specs.declared.value.TextId.{TextId}
use Rattle.eio_value.specs.declared.value.Value.{Value}
use Rattle.eio_value.specs.declared.value.Value.TheVariants as value
use Rattle.eio_value.specs.Exceptions.{reason}
use Rattle.eio_value.specs.Table.{text_at}
use Rattle.spec_parts.specs.Contexts as contexts
use Rattle.spec_parts.specs.Groups as groups
use Rattle.spec_parts.specs.Groups.{BranchEnded, Joined}
use Rattle.spec_parts.specs.Switches as switches
use Rattle.spec_parts.specs.Switches.{Switch, Handler, Closed, CloseStep, Detached, switch_at, never_opened, opened}
use Rattle.spec_parts.specs.Timers.{due_fibers, earliest, is_due}
use Rattle.spec_script.specs.Limits.{is_within}
use Rattle.spec_script.specs.Scripts.{Script}
use Rattle.spec_script.specs.Syntax as syntax
use Rattle.spec_script.specs.Syntax.{Block, Forking, ObjectCall, ObjectCallWith}
use Rattle.spec_fiber.specs.Asks as ask
use Rattle.spec_fiber.specs.Asks.{Ask, again, passing}
use Rattle.spec_fiber.specs.Evaluation.{number_in}
use Rattle.spec_fiber.specs.Numbered.{number_of, block_numbered}
use Rattle.spec_fiber.specs.Replies.{Position, begun, handled, other_branches}
use Rattle.law_parts.specs.SwitchCalls.{Register, after_call, registered_by}
use Rattle.trace_lines.specs.declared.line.Did.{Did}
use Rattle.trace_lines.specs.declared.line.Did.TheVariants as did
use Rattle.trace_lines.specs.declared.line.Said2.{Said2}
use Rattle.trace_lines.specs.declared.line.Said2.TheVariants as said
use Rattle.spec_machine.specs.Asking.{is_full_for_one}
use Rattle.spec_machine.specs.ClockMoves as on_clock
use Rattle.spec_machine.specs.ContextMoves as on_contexts
use Rattle.spec_machine.specs.Domain.{Role, OfBody, OfJob, OfSwitch, OfGroup, OfWriter, GoesOn, CallsAgain, OnObject, Asleep, ForCancel, ForOthers, Resting, Standing, Ready, Parked, Ended, Fiber, Owed, Duty, Strike, Wake, Start, DomainState, fiber_at, never_made, off_for, is_full_by, made, ended, to_head, to_back, placed, moved_to}
use Rattle.spec_machine.specs.DutyMoves as on_duties
use Rattle.spec_machine.specs.EndMoves as on_ends
use Rattle.spec_machine.specs.GroupMoves as on_groups
use Rattle.spec_machine.specs.MockMoves as on_mocks
use Rattle.spec_machine.specs.Moves.{own_call, own_move, called_move, struck_move, mocked_by, with_message}
use Rattle.spec_machine.specs.ObjectMoves as on_objects
use Rattle.spec_machine.specs.Preparing as doing
use Rattle.spec_machine.specs.Preparing.{Doing, at_once}
use Rattle.spec_machine.specs.Shared.{Asked}
use Rattle.spec_machine.specs.Steps as steps
use Rattle.spec_machine.specs.Steps.{Step}
use Rattle.spec_machine.specs.SwitchMoves as on_switches
use Rattle.law_domain.specs.Scopes.Released.{Telling, AcceptsHandler, RunsHandler, TellsElse, told_of, handler_of, handler_asked, StandsBefore}
use Rattle.law_domain.proofs.Scopes.Scopes.{View, set_same, set_other, set_length, within}
use Rattle.law_domain.proofs.Scopes.Calls.{closed_in, fails_fibers}
use Rattle.law_domain.proofs.Scopes.Changes.{is_result}
use Rattle.law_domain.proofs.Scopes.Moves.{owing_same, owing_wait_same}
use Rattle.law_domain.proofs.Scopes.Rows.{Quiet, no_calls, same_calls, two_calls, attach_call, detach_call, fail_call, hands, close_call}

module _ (n : ℕ) where
  -- ## Lines that tell of no handler and of no closed switch

  abbrev Plainly : Did → Said2 → Type 0
  Plainly it reply = (told_of n it reply ≡ TellsElse) × (closed_in it reply ≡ None)

  -- a step by which the switch takes no handler, hands none out, and doesn't finish
  pub record QuietStep (s : List Switch) (step : Step) : Type 0 where
    pub told : told_of n step.did step.reply ≡ TellsElse
    pub closed : closed_in step.did step.reply ≡ None
    pub quiet : Quiet n s step.state.switches

  plain : (s : List Switch) (step : Step) → Plainly step.did step.reply → step.state.switches ≡ s → QuietStep s step
  plain s step it same = record { told = it.0; closed = it.1; quiet = same_calls n s step.state.switches same }

  if_quiet : (b : Bool) (s : List Switch) (first second : Step) → QuietStep s first → QuietStep s second → QuietStep s (elim b as (λ _. Step) [ true ↦ first | false ↦ second ])
  if_quiet true s first second a b = a
  if_quiet false s first second a b = b

  if_off_quiet : (off : Option Plain) (s : List Switch) (first : Plain → Step) (second : Step) → ((why : Plain) → QuietStep s (first why)) → QuietStep s second
      → QuietStep s (elim off as (λ _. Step) [ Some why ↦ first why | None ↦ second ])
  if_off_quiet None s first second a b = b
  if_off_quiet (Some why) s first second a b = a why

  in_new_quiet : (made : contexts.Made) (g : ℕ) (l : DomainState) (then : ℕ → DomainState → Step) → ((c : ℕ) → QuietStep l.switches (then c (record l { contexts = made.contexts }))) → QuietStep l.switches (steps.in_new made g l then)
  in_new_quiet made g l then does = by made.number
    where
      by : (number : Option ℕ) → QuietStep l.switches (elim number as (λ _. Step) [ None ↦ steps.halts g l | Some context ↦ then context (record l { contexts = made.contexts }) ])
      by None = plain _ _ (refl, refl) refl
      by (Some context) = does context

  -- ## Parts of moves

  fails_calls : (maker m : ℕ) (what : Raised) (l : DomainState) → Quiet n l.switches (on_switches.fails maker m what l).switches
  fails_calls maker m what l = by (switches.fail what (switch_at l.switches m)) refl
    where
      by : (changed : Option Switch) → switches.fail what (switch_at l.switches m) ≡ changed
          → Quiet n l.switches (elim changed as (λ _. DomainState) [ None ↦ l | Some switch ↦ steps.cancels maker switch.context (reason what) (on_switches.with_switch_at m switch l) ]).switches
      by None is = no_calls n l.switches
      by (Some switch) is = fail_call n m what l.switches switch is

  woken_same : (x : ℕ) (l : DomainState) → (on_switches.woken x l).switches ≡ l.switches
  woken_same x l = by (fiber_at l.fibers x).standing
    where
      by : (standing : Standing) → (elim standing as (λ _. DomainState) [
        | Parked wait ↦ elim wait [ ForOthers call ↦ to_back (CallsAgain call) x l | OnObject who ↦ l | Asleep ↦ l | ForCancel ↦ l | Resting ↦ l ]
        | Ready next ↦ l
        | Ended it ↦ l
      ]).switches ≡ l.switches
      by (Parked (ForOthers call)) = refl
      by (Parked (OnObject who)) = refl
      by (Parked Asleep) = refl
      by (Parked ForCancel) = refl
      by (Parked Resting) = refl
      by (Ready next) = refl
      by (Ended it) = refl

  woken_if_same : (who : Option ℕ) (l : DomainState) → (on_switches.woken_if who l).switches ≡ l.switches
  woken_if_same None l = refl
  woken_if_same (Some x) l = woken_same x l

  given_up_calls : (maker m : ℕ) (daemon : Bool) (result : Outcome) (l : DomainState) → Quiet n l.switches (on_switches.given_up maker m daemon result l).switches
  given_up_calls maker m daemon (outcome.Ok it) l = no_calls n l.switches
  given_up_calls maker m true (outcome.Err (Cancelled why)) l = no_calls n l.switches
  given_up_calls maker m false (outcome.Err (Cancelled why)) l = fails_calls maker m (Cancelled why) l
  given_up_calls maker m true (outcome.Err (One why)) l = fails_calls maker m (One why) l
  given_up_calls maker m false (outcome.Err (One why)) l = fails_calls maker m (One why) l
  given_up_calls maker m true (outcome.Err (Many several)) l = fails_calls maker m (Many several) l
  given_up_calls maker m false (outcome.Err (Many several)) l = fails_calls maker m (Many several) l

  detached_calls : (m : ℕ) (daemon : Bool) (result : Outcome) (g : ℕ) (l : DomainState) → Quiet n l.switches (on_switches.detached m daemon result g l).switches
  detached_calls m daemon result g l =
      let t : DomainState = on_switches.given_up g m daemon result l in
      let left : Detached = switches.detach g (switch_at t.switches m) in
      let u : DomainState = on_switches.with_switch_at m left.switch t in
      two_calls n _ _ _ (given_up_calls g m daemon result l) (two_calls n _ _ _ (detach_call n m g t.switches) (same_calls n u.switches _ (woken_if_same left.woken u)))

  cancels_if_same : (maker c : ℕ) (why : Option Plain) (l : DomainState) → (on_groups.cancels_if maker c why l).switches ≡ l.switches
  cancels_if_same maker c None l = refl
  cancels_if_same maker c (Some why) l = refl

  branch_ended_same : (k : ℕ) (result : Outcome) (g : ℕ) (l : DomainState) → (on_groups.branch_ended k result g l).switches ≡ l.switches
  branch_ended_same k result g l =
      let it : BranchEnded = groups.branch_ends result (groups.group_at l.groups k) in
      let t : DomainState = record l { groups = groups.with_group k it.group l.groups } in
      woken_if_same it.woken (on_groups.cancels_if g it.group.context it.cancels t) ∙ cancels_if_same g it.group.context it.cancels t

  own_ended_same : (k : ℕ) (own : Option Outcome) (g : ℕ) (l : DomainState) → (on_groups.own_ended k own g l).switches ≡ l.switches
  own_ended_same k None g l = refl
  own_ended_same k (Some result) g l = branch_ended_same k result g l

  branched_same : (c k : ℕ) (variables : List Value) (blocks : List Block) (l : DomainState) → (on_groups.branched c k variables blocks l).switches ≡ l.switches
  unfolding on_groups.branched
  branched_same c k variables [] l = refl
  branched_same c k variables (block ∷ blocks) l = branched_same c k variables blocks (made c (OfGroup k) (begun block variables) l)

  after_end_calls : (role : Role) (result : Outcome) (g : ℕ) (l : DomainState) → Quiet n l.switches (on_ends.after_end role result g l).switches
  after_end_calls OfBody result g l = no_calls n l.switches
  after_end_calls (OfJob executor number) result g l = no_calls n l.switches
  after_end_calls (OfSwitch m daemon) result g l = detached_calls m daemon result g l
  after_end_calls (OfGroup k) result g l = same_calls n l.switches _ (branch_ended_same k result g l)
  after_end_calls (OfWriter writer) result g l = no_calls n l.switches

  ends_calls : (result : Outcome) (g : ℕ) (l : DomainState) → Quiet n l.switches (on_ends.ends result g l).switches
  ends_calls result g l = after_end_calls (fiber_at l.fibers g).role result g (ended result g l)

  wakes_same : (fibers : List ℕ) (l : DomainState) → (on_clock.wakes fibers l).switches ≡ l.switches
  wakes_same [] l = refl
  wakes_same (g ∷ fibers) l = wakes_same fibers (to_back (GoesOn (outcome.Ok value.Unit)) g l)

  job_same : (script : Script) (job : Job) (number : ℕ) (l : DomainState) → (on_ends.job_begun script job number l).switches ≡ l.switches
  job_same script job number l = by (contexts.root l.contexts).number
    where
      by : (c : Option ℕ) → (elim c as (λ _. DomainState) [ None ↦ l | Some c ↦ on_ends.job_made script job number c (record l { contexts = (contexts.root l.contexts).contexts }) ]).switches ≡ l.switches
      by None = refl
      by (Some c) = refl

  received_same : (script : Script) (mine : Option Message) (l : DomainState) → (on_ends.received_if script mine l).switches ≡ l.switches
  received_same script None l = refl
  received_same script (Some (message.Resume who result stamp)) l = refl
  received_same script (Some (message.Start job number stamp)) l = job_same script job number l

  -- ## Calls of a fiber

  fork_plain : (forking : Forking) (m : ℕ) (reply : Said2) → Plainly (on_switches.did_fork forking m) reply
  fork_plain syntax.Plain m reply = (refl, refl)
  fork_plain syntax.Daemon m reply = (refl, refl)
  fork_plain (syntax.Promising promise) m reply = (refl, refl)

  fork_quiet : (forking : Forking) (m : ℕ) (block : Block) (g : ℕ) (l : DomainState) → QuietStep l.switches (on_switches.fork forking m block g l)
  fork_quiet forking m block g l =
      let none = fork_plain forking m in
      if_quiet (switches.refuses_forks l.contexts (switch_at l.switches m)) l.switches _ _ (plain _ _ (none said.Nothing) refl)
      (if_quiet (is_full_by 1 l.fibers) l.switches _ _ (plain _ _ (refl, refl) refl)
      (record { told = (none _).0; closed = (none _).1; quiet = attach_call n m (length l.fibers) (on_switches.is_daemon forking) l.switches }))

  left_quiet : (c : ℕ) (late : Bool) (it : Outcome) (g : ℕ) (l : DomainState) → QuietStep l.switches (on_contexts.left_with c late it g l)
  left_quiet c true (outcome.Ok it) g l = plain _ _ (refl, refl) refl
  left_quiet c false (outcome.Ok it) g l = plain _ _ (refl, refl) refl
  left_quiet c true (outcome.Err raised) g l = plain _ _ (refl, refl) refl
  left_quiet c false (outcome.Err raised) g l = plain _ _ (refl, refl) refl

  branch_plain : (kind : syntax.Group) (c : ℕ) (reply : Said2) → Plainly (on_groups.did_branch kind c) reply
  branch_plain syntax.Both c reply = (refl, refl)
  branch_plain syntax.All c reply = (refl, refl)
  branch_plain syntax.First c reply = (refl, refl)
  branch_plain syntax.Any c reply = (refl, refl)

  branches_quiet : (call : Ask) (kind : syntax.Group) (blocks : List Block) (g : ℕ) (l : DomainState) → QuietStep l.switches (on_groups.branches call kind blocks g l)
  branches_quiet call kind blocks g l =
      if_off_quiet (off_for l g) l.switches (λ why. steps.raises_cancelled (on_groups.did_branch kind (on_contexts.context_of l g)) why g l) _ (λ why. plain _ _ (branch_plain kind (on_contexts.context_of l g) _) refl)
      (if_quiet (is_full_by (length blocks - 1) l.fibers) l.switches _ _ (plain _ _ (refl, refl) refl)
      (in_new_quiet (on_contexts.sub_of l g) g l (λ c m. on_groups.branches_in call kind blocks c g m)
      (λ c. plain _ _ (branch_plain kind c _)
      (branched_same c (length l.groups) (fiber_at l.fibers g).variables (other_branches blocks) (record l { contexts = (on_contexts.sub_of l g).contexts; groups = l.groups ++ groups.gathered (on_groups.kind_of kind) c (length blocks) ∷ [] })))))

  joined_quiet : (call : Ask) (c : ℕ) (step : groups.JoinStep) (g : ℕ) (l : DomainState) → QuietStep l.switches (on_groups.joined_by call c step g l)
  joined_quiet call c groups.Wait g l = plain _ _ (refl, refl) refl
  joined_quiet call c (groups.Give it) g l = plain _ _ (refl, refl) refl
  joined_quiet call c (groups.Raise raised) g l = plain _ _ (refl, refl) refl

  -- behind a part that leaves the switches
  quiet_after : (s t : List Switch) (step : Step) → Quiet n s t → QuietStep t step → QuietStep s step
  quiet_after s t step first it = record { told = it.told; closed = it.closed; quiet = two_calls n s t step.state.switches first it.quiet }

  joins_quiet : (call : Ask) (k : ℕ) (own : Option Outcome) (g : ℕ) (l : DomainState) → QuietStep l.switches (on_groups.joins call k own g l)
  joins_quiet call k own g l =
      let t : DomainState = on_groups.own_ended k own g l in
      let joined : Joined = groups.join g (groups.group_at t.groups k) in
      quiet_after l.switches t.switches _ (same_calls n l.switches t.switches (own_ended_same k own g l)) (joined_quiet call joined.group.context joined.step g (record t { groups = groups.with_group k joined.group t.groups }))

  sleep_quiet : (time : ℤ) (g : ℕ) (l : DomainState) → QuietStep l.switches (on_clock.sleep time g l)
  sleep_quiet time g l =
      if_quiet (int_lt time (pos 1)) l.switches _ _ (plain _ _ (refl, refl) refl)
      (if_quiet (is_within (l.now +ℤ time)) l.switches _ _ (if_off_quiet (off_for l g) l.switches (λ why. steps.goes_off on_clock.did_mock g l) _ (λ why. plain _ _ (refl, refl) refl) (plain _ _ (refl, refl) refl)) (plain _ _ (refl, refl) refl))

  end_plain : (it : Outcome) → Plainly did.End (steps.reply_of it)
  end_plain (outcome.Ok it) = (refl, refl)
  end_plain (outcome.Err raised) = (refl, refl)

  -- ## Answers of objects

  object_plain : (it : ObjectCall) (object : ℕ) (reply : Said2) → Plainly (on_objects.did_call it object) reply
  object_plain syntax.Take object reply = (refl, refl)
  object_plain syntax.TakeNonblocking object reply = (refl, refl)
  object_plain syntax.Length object reply = (refl, refl)
  object_plain syntax.Await object reply = (refl, refl)
  object_plain syntax.Acquire object reply = (refl, refl)
  object_plain syntax.Release object reply = (refl, refl)
  object_plain syntax.Lock object reply = (refl, refl)
  object_plain syntax.TryLock object reply = (refl, refl)
  object_plain syntax.Unlock object reply = (refl, refl)

  object_with_plain : (it : ObjectCallWith) (object : ℕ) (operand : Value) (reply : Said2) → Plainly (on_objects.did_call_with it object operand) reply
  object_with_plain syntax.Add object operand reply = (refl, refl)
  object_with_plain syntax.Resolve object operand reply = (refl, refl)
  object_with_plain syntax.TryResolve object operand reply = (refl, refl)

  role_plain : (role : Role) (reply : Said2) → Plainly (on_objects.did_end role) reply
  role_plain (OfJob executor number) reply = (refl, refl)
  role_plain role reply = (refl, refl)

  asked_plain : (call : Ask) (role : Role) (reply : Said2) → Plainly (on_objects.did_ask call role) reply
  asked_plain (ask.OnObject it object) role reply = object_plain it object reply
  asked_plain (ask.OnObjectWith it object operand) role reply = object_with_plain it object operand reply
  asked_plain (ask.Use pool) role reply = (refl, refl)
  asked_plain (ask.Submit executor weight given block) role reply = (refl, refl)
  asked_plain (ask.UnlockEnd mutex it) role reply = (refl, refl)
  asked_plain (ask.PoisonEnd mutex raised) role reply = (refl, refl)
  asked_plain (ask.PutEnd pool resource it) role reply = (refl, refl)
  asked_plain (ask.ResolveEnd promise it) role reply = (refl, refl)
  asked_plain call role reply = role_plain role reply

  abbrev IsPlain : Did → Type 0
  IsPlain it = (reply : Said2) → Plainly it reply

  answered_with_quiet : (call : Ask) (it : Did) (reply : Said2) (given : Value) (g : ℕ) (l : DomainState) → IsPlain it → QuietStep l.switches (on_objects.answered_with call it reply given g l)
  answered_with_quiet (ask.End result) it reply given g l none = record { told = (none reply).0; closed = (none reply).1; quiet = ends_calls result g l }
  answered_with_quiet call it reply given g l none = plain _ _ (none reply) refl

  nothing_done_quiet : (call : Ask) (it : Did) (g : ℕ) (l : DomainState) → IsPlain it → QuietStep l.switches (on_objects.nothing_done call it g l)
  nothing_done_quiet (ask.Submit executor weight given block) it g l none = plain _ _ (refl, refl) refl
  nothing_done_quiet call it g l none = answered_with_quiet call it said.Nothing value.Unit g l none

  raised_quiet : (call : Ask) (it : Did) (raised : Raised) (g : ℕ) (l : DomainState) → IsPlain it → QuietStep l.switches (on_objects.raised_for call it raised g l)
  raised_quiet (ask.OnObject syntax.Await object) it raised g l none = plain _ _ (none _) refl
  raised_quiet call it raised g l none = plain _ _ (none _) refl

  answered_quiet : (call : Ask) (role : Role) (it : Did) (asked : Asked) (given : Answer) (g : ℕ) (l : DomainState) → IsPlain it → QuietStep l.switches (on_objects.answered_by call role it asked given g l)
  answered_quiet call role it asked (answer.Done given) g l none =
      let m : DomainState = on_objects.owing call role given g l in
      quiet_after l.switches m.switches _ (same_calls n l.switches m.switches (ap (λ (v : View). v.switches) (owing_same call role given g l))) (answered_with_quiet call it (said.Done given) given g m none)
  answered_quiet call role it asked answer.Waits g l none = plain _ _ (none _) (ap (λ (v : View). v.switches) (owing_wait_same call g l))
  answered_quiet call role it asked answer.Off g l none = plain _ _ (none _) refl
  answered_quiet call role it asked answer.Nothing g l none = nothing_done_quiet call it g l none
  answered_quiet call role it asked (answer.Raised raised) g l none = raised_quiet call it raised g l none
  answered_quiet call role it asked (answer.Woke who) g l none = plain _ _ (none _) refl
  answered_quiet call role it asked (answer.Started domain number) g l none = plain _ _ (none _) refl

  -- ## Obligations

  strike_quiet : (duty : Duty) (g : ℕ) (won : Bool) (l : DomainState) → QuietStep l.switches (on_duties.strike_told duty g won l)
  strike_quiet duty g true l = plain _ _ (refl, refl) refl
  strike_quiet duty g false l = plain _ _ (refl, refl) refl

  own_strike_quiet : (duty : Duty) (g : ℕ) (standing : Standing) (l : DomainState) → QuietStep l.switches (on_duties.own_strike duty g standing l)
  own_strike_quiet duty g (Parked Asleep) l = plain _ _ (refl, refl) refl
  own_strike_quiet duty g (Parked ForCancel) l = plain _ _ (refl, refl) refl
  own_strike_quiet duty g standing l = plain _ _ (refl, refl) refl

  own_duty_quiet : (maker : ℕ) (owed : Owed) (l : DomainState) → QuietStep l.switches (on_duties.own_duty (record { maker = maker; owed = owed }) l)
  own_duty_quiet maker (Strike g) l = own_strike_quiet (record { maker = maker; owed = Strike g }) g (fiber_at l.fibers g).standing l
  own_duty_quiet maker (Wake object poisoned) l = plain _ _ (refl, refl) refl
  own_duty_quiet maker (Start executor) l = plain _ _ (refl, refl) refl

  wake_quiet : (duty : Duty) (object : ℕ) (poisoned : Bool) (given : Answer) (l : DomainState) → QuietStep l.switches (on_duties.wake_told duty object poisoned given l)
  wake_quiet duty object true (answer.Woke who) l = plain _ _ (refl, refl) refl
  wake_quiet duty object false (answer.Woke who) l = plain _ _ (refl, refl) refl
  wake_quiet duty object poisoned other l = plain _ _ (refl, refl) refl

  start_quiet : (duty : Duty) (executor : ℕ) (given : Answer) (l : DomainState) → QuietStep l.switches (on_duties.start_told duty executor given l)
  start_quiet duty executor (answer.Started domain number) l = plain _ _ (refl, refl) refl
  start_quiet duty executor other l = plain _ _ (refl, refl) refl

  duty_answered_quiet : (maker : ℕ) (owed : Owed) (given : Answer) (l : DomainState) → QuietStep l.switches (on_duties.duty_answered (record { maker = maker; owed = owed }) given l)
  duty_answered_quiet maker (Strike g) given l = plain _ _ (refl, refl) refl
  duty_answered_quiet maker (Wake object poisoned) given l = wake_quiet (record { maker = maker; owed = Wake object poisoned }) object poisoned given l
  duty_answered_quiet maker (Start executor) given l = start_quiet (record { maker = maker; owed = Start executor }) executor given l

  duty_struck_quiet : (maker : ℕ) (owed : Owed) (won : Bool) (l : DomainState) → QuietStep l.switches (on_duties.duty_struck (record { maker = maker; owed = owed }) won l)
  duty_struck_quiet maker (Strike g) won l = strike_quiet (record { maker = maker; owed = Strike g }) g won l
  duty_struck_quiet maker (Wake object poisoned) won l = plain _ _ (refl, refl) refl
  duty_struck_quiet maker (Start executor) won l = plain _ _ (refl, refl) refl

  -- ## The mocked outside

  copier_same : (writer : ℕ) (l : DomainState) → (on_mocks.wakes_copier writer l).switches ≡ l.switches
  copier_same writer l = by (on_mocks.resting_copier writer l.fibers)
    where
      by : (found : Option ℕ) → (elim found as (λ _. DomainState) [ None ↦ l | Some g ↦ to_back (GoesOn (outcome.Ok value.Unit)) g l ]).switches ≡ l.switches
      by None = refl
      by (Some g) = refl

  bytes_same : (writer : ℕ) (bytes : List ℕ) (l : DomainState) → (on_mocks.wakes_by_bytes writer bytes l).switches ≡ l.switches
  bytes_same writer [] l = refl
  bytes_same writer (b ∷ bytes) l = copier_same writer l

  passing_quiet : (result : Option Outcome) (given : Value) (it : Said) (g : ℕ) (l : DomainState) → QuietStep l.switches (elim result as (λ _. Step) [
    | Some result ↦ steps.told g (did.Mock it) (said.Done given) (to_head (GoesOn result) g l)
    | None ↦ steps.answers (did.Mock it) (outcome.Ok given) g l
  ])
  passing_quiet (Some result) given it g l = plain _ _ (refl, refl) refl
  passing_quiet None given it g l = plain _ _ (refl, refl) refl

  done_by_quiet : (call : Ask) (given : Value) (it : Said) (g : ℕ) (l : DomainState) → QuietStep l.switches (on_mocks.done_by call given it g l)
  done_by_quiet (ask.OpenReader flow limit block) given it g l = plain _ _ (refl, refl) refl
  done_by_quiet (ask.OpenDirectory place path block) given it g l = plain _ _ (refl, refl) refl
  done_by_quiet (ask.OpenWriter flow block) given it g l =
      let call : Ask = ask.OpenWriter flow block in
      let number = number_in given in
      in_new_quiet (on_contexts.protected_of l g) g l (λ c m. (
      let new = length m.fibers in
      let t : DomainState = made c (OfWriter number) (record { work = []; variables = [] }) m in
      let step : Step = on_mocks.goes_into call number it g t in
      record step { state = to_head (GoesOn (outcome.Ok value.Unit)) new step.state })) (λ c. plain _ _ (refl, refl) refl)
  done_by_quiet (ask.PutText writer text) given it g l = plain _ _ (refl, refl) (bytes_same writer (text_at l.texts text) l)
  done_by_quiet call given it g l = passing_quiet (passing call) given it g l

  waits_by_quiet : (call : Ask) (g : ℕ) (l : DomainState) → QuietStep l.switches (on_mocks.waits_by call g l)
  waits_by_quiet (ask.ShutWriter writer result) g l = plain _ _ (refl, refl) (copier_same writer l)
  waits_by_quiet call g l = plain _ _ (refl, refl) refl

  mock_answered_quiet : (call : Ask) (given : Extra) (g : ℕ) (l : DomainState) → QuietStep l.switches (on_mocks.mock_answered call given g l)
  mock_answered_quiet call (extra.Done given it) g l = done_by_quiet call given it g l
  mock_answered_quiet call (extra.More it) g l = plain _ _ (refl, refl) refl
  mock_answered_quiet call extra.Back g l = plain _ _ (refl, refl) refl
  mock_answered_quiet call extra.Waits g l = waits_by_quiet call g l
  mock_answered_quiet call (extra.Raised raised it) g l = plain _ _ (refl, refl) refl

  carried_quiet : (writer : ℕ) (given : Extra) (g : ℕ) (l : DomainState) → QuietStep l.switches (on_mocks.carried_by writer given g l)
  carried_quiet writer (extra.More it) g l = plain _ _ (refl, refl) refl
  carried_quiet writer (extra.Done given it) g l =
      let t : DomainState = on_ends.ends (outcome.Ok value.Unit) g l in
      record { told = refl; closed = refl; quiet = two_calls n l.switches t.switches _ (ends_calls (outcome.Ok value.Unit) g l) (same_calls n t.switches _ (woken_if_same (on_mocks.shutter writer t.fibers) t)) }
  carried_quiet writer other g l = plain _ _ (refl, refl) refl

  -- ## Moves that aren't a domain's own

  pub called_quiet : (script : Script) (what : Doing) (l : DomainState) (asked : Asked) (given : Answer) (mine : Option Message) → QuietStep l.switches (with_message script mine (called_move (at_once what l) asked given))
  called_quiet script what l asked given mine =
      let step : Step = called_move (at_once what l) asked given in
      let it : QuietStep l.switches step = by what in
      record { told = it.told; closed = it.closed; quiet = two_calls n l.switches step.state.switches _ it.quiet (same_calls n step.state.switches _ (received_same script mine step.state)) }
    where
      by : (what : Doing) → QuietStep l.switches (called_move (at_once what l) asked given)
      by doing.Rests = plain _ _ (refl, refl) refl
      by (doing.Owes duty) = duty_answered_quiet duty.maker duty.owed given l
      by (doing.Calls g call) = (let role : Role = (fiber_at l.fibers g).role in answered_quiet call role (on_objects.did_ask call role) asked given g l (asked_plain call role))
      by (doing.Carries g writer) = plain _ _ (refl, refl) refl
      by doing.Ticks = plain _ _ (refl, refl) refl

  pub struck_quiet : (what : Doing) (l : DomainState) (won : Bool) → QuietStep l.switches (struck_move (at_once what l) won)
  struck_quiet doing.Rests l won = plain _ _ (refl, refl) refl
  struck_quiet (doing.Owes duty) l won = duty_struck_quiet duty.maker duty.owed won l
  struck_quiet (doing.Calls g call) l won = plain _ _ (refl, refl) refl
  struck_quiet (doing.Carries g writer) l won = plain _ _ (refl, refl) refl
  struck_quiet doing.Ticks l won = plain _ _ (refl, refl) refl

  pub mocked_quiet : (what : Doing) (given : Extra) (l m : DomainState) → QuietStep m.switches (mocked_by (at_once what l) given m)
  mocked_quiet doing.Rests given l m = plain _ _ (refl, refl) refl
  mocked_quiet (doing.Owes duty) given l m = plain _ _ (refl, refl) refl
  mocked_quiet (doing.Calls g call) given l m = mock_answered_quiet call given g m
  mocked_quiet (doing.Carries g writer) given l m = carried_quiet writer given g m
  mocked_quiet doing.Ticks given l m = plain _ _ (refl, refl) refl

  pub takes_quiet : (script : Script) (it : Message) (l : DomainState) → QuietStep l.switches (on_ends.takes script it l)
  takes_quiet script (message.Resume who result stamp) l = plain _ _ (refl, refl) refl
  takes_quiet script (message.Start job number stamp) l =
      if_quiet (is_full_for_one l) l.switches (steps.halts (length l.fibers) l)
      (steps.told (length l.fibers) (did.GotJob job.executor number) (said.Done value.Unit) (on_ends.received script (message.Start job number stamp) l)) (plain _ _ (refl, refl) refl)
      (plain _ _ (refl, refl) (job_same script job number l))

  -- ## Own moves

  -- what a move does to the switch, and what its line tells of it
  pub data Turns (script : Script) (asked : List Handler) (s : List Switch) (step : Step) : Type 0 where
    Quietly : QuietStep s step → Turns script asked s step
    Opens : told_of n step.did step.reply ≡ TellsElse → closed_in step.did step.reply ≡ None → (context : ℕ) → step.state.switches ≡ s ++ opened context ∷ [] → Turns script asked s step
    Registers : told_of n step.did step.reply ≡ AcceptsHandler → closed_in step.did step.reply ≡ None → (handler : Handler) → asked ≡ handler ∷ [] → n < length s
        → registered_by (Register handler) (switch_at s n) ≡ handler ∷ [] → step.state.switches ≡ slice_set s n (after_call (Register handler) (switch_at s n)) → Turns script asked s step
    HandsOut : told_of n step.did step.reply ≡ RunsHandler → closed_in step.did step.reply ≡ None → (mid : List Switch) → Quiet n s mid → (g : ℕ) → (handler : Handler) → n < length mid
        → (switches.close_step g (switch_at mid n)).step ≡ switches.RunHandler handler → step.state.switches ≡ slice_set mid n (switches.close_step g (switch_at mid n)).switch
        → StandsBefore script n step.fiber handler step.state → Turns script asked s step
    Finishes : told_of n step.did step.reply ≡ TellsElse → (m : ℕ) → closed_in step.did step.reply ≡ Some m → (mid : List Switch) → Quiet n s mid → (g : ℕ)
        → is_result (switches.close_step g (switch_at mid m)).step ≡ true → step.state.switches ≡ slice_set mid m (switches.close_step g (switch_at mid m)).switch → Turns script asked s step
    -- no move follows
    Halts : closed_in step.did step.reply ≡ None → step.state.halted ≡ true → Turns script asked s step

  if_turns : (script : Script) (asked : List Handler) (b : Bool) (s : List Switch) (first second : Step) → Turns script asked s first → Turns script asked s second → Turns script asked s (elim b as (λ _. Step) [ true ↦ first | false ↦ second ])
  if_turns script asked true s first second a b = a
  if_turns script asked false s first second a b = b

  -- another switch changed
  other_call : (m : ℕ) (s : List Switch) (t : Switch) → (m ≡ n → ⊥) → Quiet n s (slice_set s m t)
  other_call m s t differs =
      let is : switch_at (slice_set s m t) n ≡ switch_at s n = set_other never_opened s m n t (λ e. differs (sym e)) in
      record { calls = []; is = is; registered = refl; begun = refl; run = refl; batch = ap (λ (u : Switch). u.batch) is; fresh = ap (λ (u : Switch). u.fresh) is; size = set_length s m t }

  differ : (m : ℕ) → (m == n) ≡ false → m ≡ n → ⊥
  differ m is same = both_ways (m == n) is (eq-eqb m n same)

  switch_turns : (script : Script) (asked : List Handler) (block : Block) (g : ℕ) (l : DomainState) → Turns script asked l.switches (on_switches.switch (ask.Switch block) g l)
  switch_turns script asked block g l = off_by (off_for l g)
    where
      new_by : (number : Option ℕ) → Turns script asked l.switches (elim number as (λ _. Step) [
        | None ↦ steps.halts g l
        | Some c ↦ (let m : DomainState = record l { contexts = (on_contexts.sub_of l g).contexts } in on_contexts.enters_context did.Switch (said.Done (value.Switch (length l.switches))) c (on_contexts.before_block (ask.Switch block) (length l.switches) g m) g (on_switches.opens c m))
      ])
      new_by None = Quietly (plain _ _ (refl, refl) refl)
      new_by (Some c) = Opens refl refl c refl

      off_by : (off : Option Plain) → Turns script asked l.switches (elim off as (λ _. Step) [
        | Some why ↦ steps.raises_cancelled did.Switch why g l
        | None ↦ steps.in_new (on_contexts.sub_of l g) g l (λ c m. on_contexts.enters_context did.Switch (said.Done (value.Switch (length l.switches))) c (on_contexts.before_block (ask.Switch block) (length l.switches) g m) g (on_switches.opens c m))
      ])
      off_by (Some why) = Quietly (plain _ _ (refl, refl) refl)
      off_by None = new_by (on_contexts.sub_of l g).number

  fail_turns : (script : Script) (asked : List Handler) (m : ℕ) (text : TextId) (g : ℕ) (l : DomainState) → QuietStep l.switches (on_switches.fail m text g l)
  fail_turns script asked m text g l =
      if_quiet (switch_at l.switches m).finished l.switches _ _ (plain _ _ (refl, refl) refl)
      (record { told = refl; closed = refl; quiet = fails_calls g m (One (steps.member (Failure text) l)) (steps.counted l) })

  -- ## Release handlers

  release_turns : (script : Script) (m : ℕ) (block : Block) (g : ℕ) (l : DomainState) → Turns script (handler_of (ask.OnRelease m block) g l) l.switches (on_switches.release (ask.OnRelease m block) m block g l)
  release_turns script m block g l = by (switches.on_release handler (switch_at l.switches m)) refl
    where
      handler : Handler
      handler = record { block = number_of block; values = (fiber_at l.fibers g).variables }

      took_by : (b : Bool) → (m == n) ≡ b → (switch : Switch) → switches.on_release handler (switch_at l.switches m) ≡ Some switch → Turns script (handler ∷ []) l.switches (steps.does (did.OnRelease m) g (on_switches.with_switch_at m switch l))
      took_by false is switch took =
          Quietly (record { told = ap (λ (b : Bool). elim b as (λ _. Telling) [ true ↦ AcceptsHandler | false ↦ TellsElse ]) is; closed = refl; quiet = other_call m l.switches switch (differ m is) })
      took_by true is switch took =
          let same : m ≡ n = eqb-true m n is in
          let took_n : switches.on_release handler (switch_at l.switches n) ≡ Some switch = subst (λ (k : ℕ). switches.on_release handler (switch_at l.switches k) ≡ Some switch) same took in
          Registers (ap (λ (b : Bool). elim b as (λ _. Telling) [ true ↦ AcceptsHandler | false ↦ TellsElse ]) is) refl handler refl
          (within (λ (s : Switch). switches.on_release handler s ≡ Some switch) never_opened l.switches n (λ e. (cc)) took_n)
          (ap (λ (o : Option Switch). elim o as (λ _. List Handler) [ None ↦ [] | Some next ↦ handler ∷ [] ]) took_n)
          (ap (λ (k : ℕ). slice_set l.switches k switch) same ∙ ap (slice_set l.switches n) (sym (ap (λ (o : Option Switch). or_else o (switch_at l.switches n)) took_n)))

      new_by : (number : Option ℕ) → Turns script (handler ∷ []) l.switches (elim number as (λ _. Step) [
        | None ↦ steps.halts g l
        | Some c ↦ (let k : DomainState = record l { contexts = (on_contexts.protected_of l g).contexts } in on_contexts.enters_context (did.OnRelease m) said.Handler c (on_contexts.before_block (ask.OnRelease m block) c g k) g k)
      ])
      new_by None = Quietly (plain _ _ (refl, refl) refl)
      new_by (Some c) = Quietly (plain _ _ (refl, refl) refl)

      by : (changed : Option Switch) → switches.on_release handler (switch_at l.switches m) ≡ changed
          → Turns script (handler ∷ []) l.switches (elim changed as (λ _. Step) [
            | Some switch ↦ steps.does (did.OnRelease m) g (on_switches.with_switch_at m switch l)
            | None ↦ steps.in_new (on_contexts.protected_of l g) g l (λ c k. on_contexts.enters_context (did.OnRelease m) said.Handler c (on_contexts.before_block (ask.OnRelease m block) c g k) g k)
          ])
      by (Some switch) is = took_by (m == n) refl switch is
      by None is = new_by (on_contexts.protected_of l g).number

  -- ## Closing

  fails_with_calls : (maker m : ℕ) (came : Option Raised) (l : DomainState) → Quiet n l.switches (on_switches.fails_with maker m came l).switches
  fails_with_calls maker m None l = no_calls n l.switches
  fails_with_calls maker m (Some what) l = fails_calls maker m what l

  pub fails_with_fibers : (maker m : ℕ) (came : Option Raised) (l : DomainState) → (on_switches.fails_with maker m came l).fibers ≡ l.fibers
  fails_with_fibers maker m None l = refl
  fails_with_fibers maker m (Some what) l = fails_fibers maker m what l

  -- where a fiber stands once it has gone into a block
  entered_work : (it : Did) (reply : Said2) (c : ℕ) (position : Position) (g : ℕ) (l : DomainState) → g < length l.fibers
      → let after : Fiber = fiber_at (steps.enters it reply position g (moved_to c g l)).state.fibers g in (after.work ≡ position.work) × (after.variables ≡ position.variables) × (after.context ≡ c) × (after.standing ≡ Ready (GoesOn (outcome.Ok value.Unit)))
  entered_work it reply c position g l inside =
      let m : DomainState = moved_to c g l in
      let first : g < length m.fibers = omega (arith, inside, set_length l.fibers g (record (fiber_at l.fibers g) { context = c })) in
      let u : DomainState = placed position g m in
      let second : g < length u.fibers = omega (arith, first, set_length m.fibers g (record (fiber_at m.fibers g) { work = position.work; variables = position.variables })) in
      let stood : fiber_at (to_head (GoesOn (outcome.Ok value.Unit)) g u).fibers g ≡ record (fiber_at u.fibers g) { standing = Ready (GoesOn (outcome.Ok value.Unit)) } = set_same never_made u.fibers g _ second in
      let put : fiber_at u.fibers g ≡ record (fiber_at m.fibers g) { work = position.work; variables = position.variables } = set_same never_made m.fibers g _ first in
      let moved : fiber_at m.fibers g ≡ record (fiber_at l.fibers g) { context = c } = set_same never_made l.fibers g _ inside in (
        ap (λ (f : Fiber). f.work) stood ∙ ap (λ (f : Fiber). f.work) put,
        ap (λ (f : Fiber). f.variables) stood ∙ ap (λ (f : Fiber). f.variables) put,
        ap (λ (f : Fiber). f.context) stood ∙ (ap (λ (f : Fiber). f.context) put ∙ ap (λ (f : Fiber). f.context) moved),
        ap (λ (f : Fiber). f.standing) stood,
      )

  close_turns : (script : Script) (asked : List Handler) (m : ℕ) (came : Option Raised) (kept : Value) (g : ℕ) (l : DomainState) → g < length l.fibers → Turns script asked l.switches (on_switches.close script (ask.Close m came kept) m came kept g l)
  close_turns script asked m came kept g l inside =
      if_turns script asked (switches.runs_handler (switch_at l.switches m) && contexts.is_full l.contexts) l.switches _ _ (Quietly (plain _ _ (refl, refl) refl)) (by closed.step refl)
    where
      call : Ask
      call = ask.Close m came kept

      t : DomainState
      t = on_switches.fails_with g m came l

      closed : Closed
      closed = switches.close_step g (switch_at t.switches m)

      u : DomainState
      u = on_switches.with_switch_at m closed.switch t

      first : Quiet n l.switches t.switches
      first = fails_with_calls g m came l

      inside_u : g < length u.fibers
      inside_u = subst (λ (fibers : List Fiber). g < length fibers) (sym (fails_with_fibers g m came l)) inside

      handed_by : (b : Bool) → (m == n) ≡ b → (handler : Handler) → closed.step ≡ switches.RunHandler handler → (number : ℕ)
          → let k : DomainState = record u { contexts = (on_contexts.protected_of u g).contexts } in
          Turns script asked l.switches (on_contexts.enters_context (did.Close m) said.Handler number (handled call number (block_numbered script handler.block) handler.values (fiber_at k.fibers g).work (fiber_at k.fibers g).variables) g k)
      handed_by false is handler handed number =
          Quietly (record { told = ap (λ (b : Bool). elim b as (λ _. Telling) [ true ↦ RunsHandler | false ↦ TellsElse ]) is; closed = refl; quiet = two_calls n _ _ _ first (other_call m t.switches closed.switch (differ m is)) })
      handed_by true is handler handed number =
          let same : m ≡ n = eqb-true m n is in
          let k : DomainState = record u { contexts = (on_contexts.protected_of u g).contexts } in
          let fiber : Fiber = fiber_at k.fibers g in
          let there = entered_work (did.Close m) said.Handler number (handled call number (block_numbered script handler.block) handler.values fiber.work fiber.variables) g k inside_u in
          let hands_n : (switches.close_step g (switch_at t.switches n)).step ≡ switches.RunHandler handler = subst (λ (j : ℕ). (switches.close_step g (switch_at t.switches j)).step ≡ switches.RunHandler handler) same handed in
          HandsOut (ap (λ (b : Bool). elim b as (λ _. Telling) [ true ↦ RunsHandler | false ↦ TellsElse ]) is) refl t.switches first g handler
          (within (λ (s : Switch). (switches.close_step g s).step ≡ switches.RunHandler handler) never_opened t.switches n (λ e. (cc)) hands_n)
          hands_n
          (subst (λ (j : ℕ). slice_set t.switches m closed.switch ≡ slice_set t.switches j (switches.close_step g (switch_at t.switches j)).switch) same refl)
          (subst (λ (j : ℕ). StandsBefore script j g handler (on_contexts.enters_context (did.Close m) said.Handler number (handled call number (block_numbered script handler.block) handler.values fiber.work fiber.variables) g k).state) same
          (record { context = number; own = fiber.variables; kept = kept; others = fiber.work; work = there.0; variables = there.1; inside = there.2; ready = there.3 }))

      new_by : (number : Option ℕ) → (handler : Handler) → closed.step ≡ switches.RunHandler handler → Turns script asked l.switches (elim number as (λ _. Step) [
        | None ↦ steps.halts g u
        | Some c ↦ (
            let k : DomainState = record u { contexts = (on_contexts.protected_of u g).contexts } in
            let fiber : Fiber = fiber_at k.fibers g in
            on_contexts.enters_context (did.Close m) said.Handler c (handled call c (block_numbered script handler.block) handler.values fiber.work fiber.variables) g k)
      ])
      new_by None handler is = Halts refl refl
      new_by (Some c) handler is = handed_by (m == n) refl handler is c

      by : (step : CloseStep) → closed.step ≡ step → Turns script asked l.switches (on_switches.closed_by script call m closed.switch.context kept step g u)
      by switches.Wait is = Quietly (record { told = refl; closed = refl; quiet = two_calls n _ _ _ first (close_call n m g t.switches (ap hands is)) })
      by switches.CancelDaemons is = Quietly (record { told = refl; closed = refl; quiet = two_calls n _ _ _ first (close_call n m g t.switches (ap hands is)) })
      by (switches.RunHandler handler) is = new_by (on_contexts.protected_of u g).number handler is
      by switches.Return is = Finishes refl m refl t.switches first g (ap is_result is) refl
      by (switches.Raise errors) is = Finishes refl m refl t.switches first g (ap is_result is) refl

  -- ## A fiber's own call

  own_call_turns : (script : Script) (call : Ask) (g : ℕ) (l : DomainState) → g < length l.fibers → Turns script (handler_of call g l) l.switches (own_call script call g l)
  unfolding own_call
  own_call_turns script ask.Check g l inside = Quietly (if_off_quiet (off_for l g) l.switches (λ why. steps.raises_cancelled did.Check why g l) _ (λ why. plain _ _ (refl, refl) refl) (plain _ _ (refl, refl) refl))
  own_call_turns script ask.AwaitCancel g l inside = Quietly (if_off_quiet (off_for l g) l.switches (λ why. steps.goes_off did.AwaitCancel g l) _ (λ why. plain _ _ (refl, refl) refl) (plain _ _ (refl, refl) refl))
  own_call_turns script (ask.Sub block) g l inside =
      Quietly (if_off_quiet (off_for l g) l.switches (λ why. steps.raises_cancelled did.Sub why g l) _ (λ why. plain _ _ (refl, refl) refl)
      (in_new_quiet (on_contexts.sub_of l g) g l (λ c m. on_contexts.enters_context did.Sub (said.Done (value.Ctx c)) c (on_contexts.before_block (ask.Sub block) c g m) g m) (λ c. plain _ _ (refl, refl) refl)))
  own_call_turns script (ask.Protect block) g l inside =
      Quietly (in_new_quiet (on_contexts.protected_of l g) g l (λ c m. on_contexts.enters_context did.Protect (said.Done (value.Ctx c)) c (on_contexts.before_block (ask.Protect block) c g m) g m) (λ c. plain _ _ (refl, refl) refl))
  own_call_turns script (ask.Cancel context text) g l inside = Quietly (if_quiet (contexts.is_live l.contexts context) l.switches _ _ (plain _ _ (refl, refl) refl) (plain _ _ (refl, refl) refl))
  own_call_turns script (ask.Switch block) g l inside = switch_turns script [] block g l
  own_call_turns script (ask.Fork forking m block) g l inside = Quietly (fork_quiet forking m block g l)
  own_call_turns script (ask.Fail m text) g l inside = Quietly (fail_turns script [] m text g l)
  own_call_turns script (ask.OnRelease m block) g l inside = release_turns script m block g l
  own_call_turns script (ask.Branches kind blocks) g l inside = Quietly (branches_quiet (ask.Branches kind blocks) kind blocks g l)
  own_call_turns script (ask.Sleep time) g l inside = Quietly (sleep_quiet time g l)
  own_call_turns script (ask.Leave context late it) g l inside = Quietly (left_quiet context late it g (on_contexts.leaves context g l))
  own_call_turns script (ask.Close m came kept) g l inside = close_turns script [] m came kept g l inside
  own_call_turns script (ask.Join k own) g l inside = Quietly (joins_quiet (ask.Join k own) k own g l)
  own_call_turns script (ask.End it) g l inside = Quietly (record { told = (end_plain it).0; closed = (end_plain it).1; quiet = ends_calls it g l })
  own_call_turns script call g l inside = Quietly (plain _ _ (refl, refl) refl)

  -- who calls was made
  abbrev pub IsInside : Doing → DomainState → Type 0
  IsInside (doing.Calls g call) l = g < length l.fibers
  IsInside what l = Unit {0}

  pub own_turns : (script : Script) (what : Doing) (l : DomainState) → IsInside what l → Turns script (handler_asked what l) l.switches (own_move script (at_once what l))
  own_turns script doing.Rests l inside = Quietly (plain _ _ (refl, refl) refl)
  own_turns script (doing.Owes duty) l inside = Quietly (own_duty_quiet duty.maker duty.owed l)
  own_turns script (doing.Calls g call) l inside = own_call_turns script call g l inside
  own_turns script (doing.Carries g writer) l inside = Quietly (plain _ _ (refl, refl) refl)
  own_turns script doing.Ticks l inside =
      let time = unwrap_or (earliest l.timers) l.now in
      Quietly (plain _ _ (refl, refl) (wakes_same (due_fibers time l.timers) (record l { now = time; timers = record (l.timers) { standing = filter (λ timer. not (is_due time timer)) l.timers.standing } })))
