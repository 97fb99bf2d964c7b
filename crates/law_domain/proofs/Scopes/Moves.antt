-- Each move of a domain keeps its scopes sound, as long as no message resumes a fiber that doesn't wait for one.
use Rattle.std.proofs.Common.{◌≡◌, ℕ, suc, ◌+◌, ◌≤◌, ◌<◌, ◌==◌, ◌&&◌, Bool, true, false, cond, List, [], ◌∷◌, length, Option, Some, None, refl, ap, subst, arith, slice_get}
use Rattle.std.specs.Prelude.{pos, negsuc, filter, not, nat_lt, take}
use Rattle.std.specs.List.{prefix_len}
use Rattle.std.specs.Option.{unwrap_or}
use Rattle.std.proofs.lemmas.Bool.{ltb-true}
use Rattle.eio_value.specs.declared.call.Answer.{Answer}
use Rattle.eio_value.specs.declared.call.Answer.TheVariants as answer
use Rattle.eio_value.specs.declared.message.Job.{Job}
use Rattle.eio_value.specs.declared.message.Message.{Message}
use Rattle.eio_value.specs.declared.message.Message.TheVariants as message
use Rattle.eio_value.specs.declared.message.Waiter.{Waiter}
use Rattle.eio_value.specs.declared.mock_call.Extra.{Extra}
use Rattle.eio_value.specs.declared.mock_call.Extra.TheVariants as extra
use Rattle.eio_value.specs.declared.mock_call.Said.{Said}
use Rattle.eio_value.specs.declared.plain.Plain.{Plain}
use Rattle.eio_value.specs.declared.plain.Plain.TheVariants.{Exit}
use Rattle.eio_value.specs.declared.raised.Outcome.{Outcome}
use Rattle.eio_value.specs.declared.raised.Outcome.TheVariants as outcome
use Rattle.eio_value.specs.declared.raised.Raised.{Raised}
use Rattle.eio_value.specs.declared.raised.Raised.TheVariants.{Cancelled}
use Rattle.eio_value.specs.declared.value.Value.{Value}
use Rattle.eio_value.specs.declared.value.Value.TheVariants as value
use Rattle.eio_value.specs.Table.{text_at}
use Rattle.spec_parts.specs.Contexts as contexts
use Rattle.spec_parts.specs.Timers.{Timer, due_fibers, earliest, is_due}
use Rattle.spec_script.specs.Scripts.{Script}
use Rattle.spec_script.specs.Syntax as syntax
use Rattle.spec_script.specs.Syntax.{Block, ObjectCall, ObjectCallWith}
use Rattle.spec_fiber.specs.Asks as ask
use Rattle.spec_fiber.specs.Asks.{Ask, again, passing}
use Rattle.spec_fiber.specs.Evaluation.{number_in}
use Rattle.spec_fiber.specs.Numbered.{block_numbered}
use Rattle.spec_fiber.specs.Replies.{Position, begun}
use Rattle.spec_fiber.specs.Settling.{Settled}
use Rattle.spec_fiber.specs.Work.{Carry}
use Rattle.trace_lines.specs.declared.line.Did.{Did}
use Rattle.trace_lines.specs.declared.line.Did.TheVariants as did
use Rattle.trace_lines.specs.declared.line.Said2.{Said2}
use Rattle.trace_lines.specs.declared.line.Said2.TheVariants as said
use Rattle.spec_machine.specs.Asking.{asks_by, asks_for, is_full_for_one}
use Rattle.spec_machine.specs.Labels.{MockAsked, Mocks}
use Rattle.spec_machine.specs.ClockMoves as on_clock
use Rattle.spec_machine.specs.ContextMoves as on_contexts
use Rattle.spec_machine.specs.Domain.{Role, OfJob, OfSwitch, OfWriter, Next, GoesOn, LooksUp, FindsOff, CallsAgain, OnObject, Asleep, ForCancel, ForOthers, Resting, Standing, Ready, Parked, Ended, Fiber, Owed, Duty, Strike, Wake, Start, DomainState, fiber_at, never_made, off_for, made, to_head, to_back, placed}
use Rattle.spec_machine.specs.DutyMoves as on_duties
use Rattle.spec_machine.specs.EndMoves as on_ends
use Rattle.spec_machine.specs.MockMoves as on_mocks
use Rattle.spec_machine.specs.Moves.{own_move, called_move, struck_move, mocked_by, with_message, unmoved}
use Rattle.spec_machine.specs.ObjectMoves as on_objects
use Rattle.spec_machine.specs.Preparing as doing
use Rattle.spec_machine.specs.Preparing.{Doing, Prepared, at_once, prepared, prepared_ready, prepared_timers, moves_of, next_of, next_call, found_off, called_by, carry_of}
use Rattle.spec_machine.specs.Shared.{Asked}
use Rattle.spec_machine.specs.Steps as steps
use Rattle.spec_machine.specs.Steps.{Step}
use Rattle.law_domain.specs.Scopes.Finished.{WaitsOnObject, ResumesWaiting}
use Rattle.law_domain.proofs.Scopes.Scopes.{Closes, ClosesCall, JoinsCall, ClosesNext, ClosesStanding, View, view, owing_view, Sound, IsFinished, OnSwitch, Tracked, IsOver, Goes, Leads, stays, both}
use Rattle.law_domain.proofs.Scopes.Counts.{times}
use Rattle.law_domain.proofs.Scopes.Gathered.{joining, owed_call, JoinsMade, uncredited}
use Rattle.law_domain.proofs.Scopes.Joining.{made_more, passed_joins, thrown_joins}
use Rattle.law_domain.proofs.Scopes.Settling.{Settles, passed_settles, thrown_closes}
use Rattle.law_domain.proofs.Scopes.Standings.{holds, taken, head, back, wakes, wakes_sound, rouses, AreDue, due_woken, due_leads, places, makes_other, forgives}
use Rattle.law_domain.proofs.Scopes.Calls.{closed_in, Ends, Does, quiet, dropped, halts_does, in_new_does, told_head, told_back, told_parked, others_awake, after_does, woken_if_leads, ends_leads, own_call_does, entered_closes, entered_joins}

-- ## How a move begins

abbrev pub hand_of : Doing → List ℕ
hand_of (doing.Calls g call) = g ∷ []
hand_of (doing.Carries g writer) = g ∷ []
hand_of other = []

abbrev pub ClosesDoing : (switches groups : ℕ) → Doing → Type 0
ClosesDoing s n (doing.Calls g call) = ClosesCall s call × JoinsMade n call
ClosesDoing s n other = Unit {0}

-- a call at the end of the caller's own branch owes that end to the group
abbrev pub debts_of : Doing → List ℕ
debts_of (doing.Calls g call) = owed_call call
debts_of other = []

abbrev pub view_by : Doing → DomainState → View
view_by what l = owing_view (debts_of what) l

abbrev pub view_of : Prepared → View
view_of it = view_by it.doing it.state

-- the fiber that calls is in hand, and closes only a switch that was opened
pub record Prepares (v : View) (it : Prepared) : Type 0 where
  pub goes : Goes v (hand_of it.doing) (view_of it)
  pub call : ClosesDoing (length it.state.switches) (length it.state.groups) it.doing

next_settles : (bound groups : ℕ) (next : Next) (off : Option Plain) (fiber : Fiber) (c : Carry) → Closes bound fiber.work → ClosesNext bound groups next → Settles bound (next_call next off fiber c)
next_settles bound groups (GoesOn it) off fiber c h call = passed_settles bound it fiber.work c h
next_settles bound groups LooksUp (Some why) fiber c h call = thrown_closes bound fiber.work _ _ h
next_settles bound groups LooksUp None fiber c h call = passed_settles bound (outcome.Ok value.Unit) fiber.work c h
next_settles bound groups FindsOff off fiber c h call = thrown_closes bound fiber.work _ _ h
next_settles bound groups (CallsAgain repeated) off fiber c h call = (call.0, h)

again_owes : (bound : ℕ) (call : Ask) → JoinsCall bound call → owed_call call ≡ []
again_owes bound (ask.Join group None) h = refl
again_owes bound (ask.Join group (Some result)) h = absurd h
again_owes bound call h = refl

again_made : (bound : ℕ) (call : Ask) → JoinsCall bound call → JoinsMade bound call
again_made bound (ask.Join group None) h = h
again_made bound (ask.Join group (Some result)) h = tt
again_made bound call h = tt

-- what the next call ends was marked in the fiber's work
next_joins : (n bound groups : ℕ) (next : Next) (off : Option Plain) (fiber : Fiber) (c : Carry) → ClosesNext bound groups next
    → (joining n (next_call next off fiber c).behind + times n (owed_call (next_call next off fiber c).call) ≤ joining n fiber.work) × JoinsMade groups (next_call next off fiber c).call
next_joins n bound groups (GoesOn it) off fiber c call = let joins = passed_joins n it fiber.work c in (joins.0, made_more 0 groups (omega arith) _ joins.1)
next_joins n bound groups LooksUp (Some why) fiber c call = let joins = thrown_joins n fiber.work _ _ in (joins.0, made_more 0 groups (omega arith) _ joins.1)
next_joins n bound groups LooksUp None fiber c call = let joins = passed_joins n (outcome.Ok value.Unit) fiber.work c in (joins.0, made_more 0 groups (omega arith) _ joins.1)
next_joins n bound groups FindsOff off fiber c call = let joins = thrown_joins n fiber.work _ _ in (joins.0, made_more 0 groups (omega arith) _ joins.1)
next_joins n bound groups (CallsAgain repeated) off fiber c call =
    let none : times n (owed_call repeated) ≡ 0 = ap (times n) (again_owes groups repeated call.1) in (omega (arith, none), again_made groups repeated call.1)

next_closes : (bound groups : ℕ) (standing : Standing) → ClosesStanding bound groups standing → ClosesNext bound groups (next_of standing)
next_closes bound groups (Ready next) h = h
next_closes bound groups (Parked wait) h = tt
next_closes bound groups (Ended it) h = tt

-- the head of the ready list, and the others behind it
module _ (g : ℕ) (others : List ℕ) (l : DomainState) (is : l.ready ≡ g ∷ others) (h : Sound [] (view l)) where
  abbrev without_it : DomainState
  without_it = record l { ready = others }

  in_hand : Goes (view l) (g ∷ []) (view without_it)
  in_hand = taken g others (view l) is h

  called_prepares : Prepares (view l) (called_by g (fiber_at l.fibers g) (next_call (next_of (fiber_at l.fibers g).standing) (off_for without_it g) (fiber_at l.fibers g) (carry_of (fiber_at l.fibers g) without_it)) without_it)
  called_prepares =
      let fiber : Fiber = fiber_at l.fibers g in
      let settled : Settled = next_call (next_of fiber.standing) (off_for without_it g) fiber (carry_of fiber without_it) in
      let closes : ClosesNext (length l.switches) (length l.groups) (next_of fiber.standing) = next_closes (length l.switches) (length l.groups) fiber.standing (h.calls g) in
      let it : Settles (length l.switches) settled = next_settles (length l.switches) (length l.groups) (next_of fiber.standing) (off_for without_it g) fiber (carry_of fiber without_it) (h.marks g) closes in
      let joins = λ (n : ℕ). next_joins n (length l.switches) (length l.groups) (next_of fiber.standing) (off_for without_it g) fiber (carry_of fiber without_it) closes in
      record {
        goes = both in_hand (λ k. places (record fiber { work = settled.behind; variables = settled.carry.variables }) g (g ∷ []) (view without_it) (owed_call settled.call) refl refl it.1 (λ n. omega (arith, (joins n).0)) k);
        call = (it.0, (joins 0).1);
      }

  moves_prepares : (role : Role) → Prepares (view l) (moves_of role g (fiber_at l.fibers g) (next_of (fiber_at l.fibers g).standing) without_it)
  moves_prepares (OfWriter writer) = record { goes = in_hand; call = tt }
  moves_prepares role = called_prepares

timers_prepares : (l : DomainState) (standing : List Timer) → Sound [] (view l) → Prepares (view l) (elim standing as (λ _. Prepared) [ [] ↦ at_once doing.Rests l | timer ∷ others ↦ at_once doing.Ticks l ])
timers_prepares l [] h = record { goes = stays [] (view l) h; call = tt }
timers_prepares l (timer ∷ others) h = record { goes = stays [] (view l) h; call = tt }

ready_prepares : (l : DomainState) (ready : List ℕ) → l.ready ≡ ready → Sound [] (view l)
    → Prepares (view l) (elim ready as (λ _. Prepared) [ [] ↦ prepared_timers l | g ∷ others ↦ doing.moves g (fiber_at l.fibers g) (record l { ready = others }) ])
ready_prepares l [] is h = timers_prepares l l.timers.standing h
ready_prepares l (g ∷ others) is h = moves_prepares g others l is h (fiber_at l.fibers g).role

duties_prepares : (l : DomainState) (duties : List Duty) → Sound [] (view l)
    → Prepares (view l) (elim duties as (λ _. Prepared) [ [] ↦ prepared_ready l | duty ∷ others ↦ at_once (doing.Owes duty) (record l { duties = others }) ])
duties_prepares l [] h = ready_prepares l l.ready refl h
duties_prepares l (duty ∷ others) h = record { goes = stays [] (view l) h; call = tt }

pub prepares : (l : DomainState) → Sound [] (view l) → Prepares (view l) (prepared l)
unfolding prepared
prepares l h = duties_prepares l l.duties h

-- ## Answers of objects

object_quiet : (it : ObjectCall) (object : ℕ) (reply : Said2) → closed_in (on_objects.did_call it object) reply ≡ None
object_quiet syntax.Take object reply = refl
object_quiet syntax.TakeNonblocking object reply = refl
object_quiet syntax.Length object reply = refl
object_quiet syntax.Await object reply = refl
object_quiet syntax.Acquire object reply = refl
object_quiet syntax.Release object reply = refl
object_quiet syntax.Lock object reply = refl
object_quiet syntax.TryLock object reply = refl
object_quiet syntax.Unlock object reply = refl

object_with_quiet : (it : ObjectCallWith) (object : ℕ) (operand : Value) (reply : Said2) → closed_in (on_objects.did_call_with it object operand) reply ≡ None
object_with_quiet syntax.Add object operand reply = refl
object_with_quiet syntax.Resolve object operand reply = refl
object_with_quiet syntax.TryResolve object operand reply = refl

end_quiet : (role : Role) (reply : Said2) → closed_in (on_objects.did_end role) reply ≡ None
end_quiet (OfJob executor number) reply = refl
end_quiet role reply = refl

asked_quiet : (call : Ask) (role : Role) (reply : Said2) → closed_in (on_objects.did_ask call role) reply ≡ None
asked_quiet (ask.OnObject it object) role reply = object_quiet it object reply
asked_quiet (ask.OnObjectWith it object operand) role reply = object_with_quiet it object operand reply
asked_quiet (ask.Use pool) role reply = refl
asked_quiet (ask.Submit executor weight given block) role reply = refl
asked_quiet (ask.UnlockEnd mutex it) role reply = refl
asked_quiet (ask.PoisonEnd mutex raised) role reply = refl
asked_quiet (ask.PutEnd pool resource it) role reply = refl
asked_quiet (ask.ResolveEnd promise it) role reply = refl
asked_quiet call role reply = end_quiet role reply

abbrev IsQuiet : Did → Type 0
IsQuiet it = (reply : Said2) → closed_in it reply ≡ None

answered_with_does : (call : Ask) (it : Did) (reply : Said2) (given : Value) (g : ℕ) (l : DomainState) → IsQuiet it → Does g (view l) (on_objects.answered_with call it reply given g l)
answered_with_does (ask.End result) it reply given g l none = λ h. quiet _ _ (none reply) (ends_leads result g [] l h)
answered_with_does call it reply given g l none = told_head it reply _ g l (none reply) tt

nothing_done_does : (call : Ask) (it : Did) (g : ℕ) (l : DomainState) → IsQuiet it → Does g (view l) (on_objects.nothing_done call it g l)
nothing_done_does (ask.Submit executor weight given block) it g l none = halts_does g l
nothing_done_does call it g l none = answered_with_does call it said.Nothing value.Unit g l none

if_resolved_same : (maker promise : ℕ) (it : Value) (l : DomainState) → view (on_objects.owes_if_resolved maker promise it l) ≡ view l
if_resolved_same maker promise (value.Int (pos k)) l = by (k == 1)
  where
    by : (b : Bool) → view (elim b as (λ _. DomainState) [ true ↦ on_objects.owes maker (Wake promise false) l | false ↦ l ]) ≡ view l
    by true = refl
    by false = refl
if_resolved_same maker promise (value.Int (negsuc k)) l = refl
if_resolved_same maker promise it l = refl

end_owes_same : (role : Role) (result : Outcome) (it : Value) (maker : ℕ) (l : DomainState) → view (on_objects.owing (ask.End result) role it maker l) ≡ view l
end_owes_same (OfJob executor number) result it maker l = refl
end_owes_same role result it maker l = refl

pub owing_same : (call : Ask) (role : Role) (it : Value) (maker : ℕ) (l : DomainState) → view (on_objects.owing call role it maker l) ≡ view l
owing_same (ask.OnObjectWith syntax.Resolve promise operand) role it maker l = refl
owing_same (ask.OnObjectWith syntax.TryResolve promise operand) role it maker l = if_resolved_same maker promise it l
owing_same (ask.ResolveEnd promise result) role it maker l = refl
owing_same (ask.PoisonEnd mutex raised) role it maker l = refl
owing_same (ask.End result) role it maker l = end_owes_same role result it maker l
owing_same call role it maker l = refl

pub owing_wait_same : (call : Ask) (maker : ℕ) (l : DomainState) → view (on_objects.owing_wait call maker l) ≡ view l
owing_wait_same (ask.Submit executor weight given block) maker l = refl
owing_wait_same call maker l = refl

raised_given_does : (it : Did) (raised : Raised) (g : ℕ) (l : DomainState) → IsQuiet it → Does g (view l) (steps.raises_given it raised g l)
raised_given_does it raised g l none h = quiet (view l) (steps.raises_given it raised g l) (none _) (head (GoesOn (outcome.Err raised)) g [] (view l) tt h)

raised_does : (call : Ask) (it : Did) (raised : Raised) (g : ℕ) (l : DomainState) → IsQuiet it → Does g (view l) (on_objects.raised_for call it raised g l)
raised_does (ask.OnObject syntax.Await object) it raised g l none = told_head it _ _ g l (none _) tt
raised_does call it raised g l none = raised_given_does it raised g l none

object_awake : (who : Waiter) → OnObject who ≡ Asleep → ⊥
object_awake who e = cc

answered_does : (call : Ask) (role : Role) (it : Did) (asked : Asked) (given : Answer) (g : ℕ) (l : DomainState) → IsQuiet it → Does g (view l) (on_objects.answered_by call role it asked given g l)
answered_does call role it asked (answer.Done given) g l none =
    subst (λ (v : View). Does g v (on_objects.answered_by call role it asked (answer.Done given) g l)) (owing_same call role given g l)
    (answered_with_does call it (said.Done given) given g (on_objects.owing call role given g l) none)
answered_does call role it asked answer.Waits g l none =
    subst (λ (v : View). Does g v (on_objects.answered_by call role it asked answer.Waits g l)) (owing_wait_same call g l)
    (told_parked it said.Waits (OnObject asked.who) g (on_objects.owing_wait call g l) (none said.Waits) (object_awake asked.who) tt)
answered_does call role it asked answer.Off g l none = told_back it said.Off FindsOff g l (none said.Off) tt
answered_does call role it asked answer.Nothing g l none = nothing_done_does call it g l none
answered_does call role it asked (answer.Raised raised) g l none = raised_does call it raised g l none
answered_does call role it asked (answer.Woke who) g l none = told_head it _ _ g l (none _) tt
answered_does call role it asked (answer.Started domain number) g l none = told_head it _ _ g l (none _) tt

-- ## Obligations

-- a step with nothing in hand
abbrev pub Moves : View → Step → Type 0
Moves v step = Sound [] v → Ends v step

told_stays : (g : ℕ) (it : Did) (reply : Said2) (l : DomainState) → closed_in it reply ≡ None → Moves (view l) (steps.told g it reply l)
told_stays g it reply l none h = quiet _ _ none (stays [] (view l) h)

pub halts_stays : (g : ℕ) (l : DomainState) → Moves (view l) (steps.halts g l)
halts_stays g l h = quiet _ _ refl (stays [] (view l) h)

own_strike_moves : (duty : Duty) (g : ℕ) (standing : Standing) (l : DomainState) → (fiber_at l.fibers g).standing ≡ standing → Moves (view l) (on_duties.own_strike duty g standing l)
own_strike_moves duty g (Parked Asleep) l is h = quiet _ _ refl (rouses (GoesOn (outcome.Err (Cancelled (steps.member (unwrap_or (off_for l g) Exit) l)))) g [] (view l) is tt h)
own_strike_moves duty g (Parked ForCancel) l is h =
    quiet _ _ refl (wakes (GoesOn (outcome.Err (Cancelled (steps.member (unwrap_or (off_for l g) Exit) l)))) g [] (view l) ForCancel is (λ e. (cc)) (λ who e. (cc)) tt h)
own_strike_moves duty g standing l is h = quiet _ _ refl (stays [] (view l) h)

own_duty_moves : (maker : ℕ) (owed : Owed) (l : DomainState) → Moves (view l) (on_duties.own_duty (record { maker = maker; owed = owed }) l)
own_duty_moves maker (Strike g) l = own_strike_moves (record { maker = maker; owed = Strike g }) g (fiber_at l.fibers g).standing l refl
own_duty_moves maker (Wake object poisoned) l = halts_stays maker l
own_duty_moves maker (Start executor) l = halts_stays maker l

wake_moves : (duty : Duty) (object : ℕ) (poisoned : Bool) (given : Answer) (l : DomainState) → Moves (view l) (on_duties.wake_told duty object poisoned given l)
wake_moves duty object true (answer.Woke who) l h = quiet _ _ refl (stays [] (view l) h)
wake_moves duty object false (answer.Woke who) l h = quiet _ _ refl (stays [] (view l) h)
wake_moves duty object poisoned other l h = quiet _ _ refl (stays [] (view l) h)

start_moves : (duty : Duty) (executor : ℕ) (given : Answer) (l : DomainState) → Moves (view l) (on_duties.start_told duty executor given l)
start_moves duty executor (answer.Started domain number) l h = quiet _ _ refl (stays [] (view l) h)
start_moves duty executor other l h = quiet _ _ refl (stays [] (view l) h)

duty_answered_moves : (maker : ℕ) (owed : Owed) (given : Answer) (l : DomainState) → Moves (view l) (on_duties.duty_answered (record { maker = maker; owed = owed }) given l)
duty_answered_moves maker (Strike g) given l = halts_stays maker l
duty_answered_moves maker (Wake object poisoned) given l = wake_moves (record { maker = maker; owed = Wake object poisoned }) object poisoned given l
duty_answered_moves maker (Start executor) given l = start_moves (record { maker = maker; owed = Start executor }) executor given l

-- ## The clock

wakes_leads : (fibers : List ℕ) (l : DomainState) → AreDue fibers (view l) → Leads [] (view l) [] (view (on_clock.wakes fibers l))
wakes_leads [] l due h = stays [] (view l) h
wakes_leads (g ∷ fibers) l due h =
    let nothing : Next = GoesOn (outcome.Ok value.Unit) in
    let first = due_woken nothing g fibers [] (view l) due tt h in
    both first.0 (λ k. wakes_leads fibers (to_back nothing g l) first.1 k)

tick_moves : (l : DomainState) → Moves (view l) (on_clock.tick l)
tick_moves l h =
    let time = unwrap_or (earliest l.timers) l.now in
    let m : DomainState = record l { now = time; timers = record (l.timers) { standing = filter (λ timer. not (is_due time timer)) l.timers.standing } } in
    let first = due_leads (is_due time) [] (view l) h in
    quiet _ _ refl (both first.0 (λ k. wakes_leads (due_fibers time l.timers) m first.1 k))

-- ## Messages

of_job : (executor number n : ℕ) (daemon : Bool) → OfJob executor number ≡ OfSwitch n daemon → ⊥
of_job executor number n daemon e = cc

pub job_leads : (script : Script) (job : Job) (number : ℕ) (l : DomainState) → Leads [] (view l) [] (view (on_ends.job_begun script job number l))
job_leads script job number l h = by (contexts.root l.contexts).number
  where
    by : (c : Option ℕ) → Goes (view l) [] (view (elim c as (λ _. DomainState) [ None ↦ l | Some c ↦ on_ends.job_made script job number c (record l { contexts = (contexts.root l.contexts).contexts }) ]))
    by None = stays [] (view l) h
    by (Some c) =
        let m : DomainState = made c (OfJob job.executor number) (begun (block_numbered script job.node) (take job.count job.given)) (record l { contexts = (contexts.root l.contexts).contexts }) in
        both (makes_other _ [] (view l) [] tt tt tt (of_job job.executor number) (uncredited _ l.fibers l.groups [] (λ n. refl) (λ n. refl)) h) (λ k. back (GoesOn (outcome.Ok value.Unit)) (length l.fibers) [] (view m) tt k)

-- what is left once a move has ended
pub record Keeps (v : View) (step : Step) : Type 0 where
  pub sound : Sound [] (view step.state)
  pub finished : (n : Tracked) → IsOver v.switches v.groups n → IsOver step.state.switches step.state.groups n
  pub closes : (n : ℕ) → closed_in step.did step.reply ≡ Some n → IsFinished step.state.switches n

pub kept : (v : View) (step : Step) → Ends v step → Keeps v step
kept v step it = record { sound = it.goes.sound; finished = it.goes.finished; closes = it.closes }

-- a fiber that waits for an object is resumed
resumes_sound : (next : Next) (g : ℕ) (l : DomainState) → WaitsOnObject (fiber_at l.fibers g).standing → ClosesNext (length l.switches) (length l.groups) next → Sound [] (view l) → Sound [] (view (to_back next g l))
resumes_sound next g l waits call h = wakes_sound next g [] (view l) (OnObject waits.0) waits.1 (object_awake waits.0) call h

pub received_keeps : (script : Script) (v : View) (mine : Option Message) (step : Step) → ResumesWaiting step.state mine → Ends v step → Keeps v (with_message script mine step)
received_keeps script v None step waits it = kept v step it
received_keeps script v (Some (message.Resume who result stamp)) step waits it =
    record { sound = resumes_sound (GoesOn result) who.fiber step.state waits tt it.goes.sound; finished = it.goes.finished; closes = it.closes }
received_keeps script v (Some (message.Start job number stamp)) step waits it =
    let more = job_leads script job number step.state it.goes.sound in
    record { sound = more.sound; finished = (λ n is. more.finished n (it.goes.finished n is)); closes = (λ n is. more.finished (OnSwitch n) (it.closes n is)) }

pub takes_keeps : (script : Script) (it : Message) (l : DomainState) → ResumesWaiting l (Some it) → Sound [] (view l) → Keeps (view l) (on_ends.takes script it l)
takes_keeps script (message.Resume who result stamp) l waits h =
    record { sound = resumes_sound (GoesOn result) who.fiber l waits tt h; finished = (λ n it. it); closes = (λ n is. absurd (cc)) }
takes_keeps script (message.Start job number stamp) l waits h = by (is_full_for_one l)
  where
    by : (b : Bool) → Keeps (view l) (elim b as (λ _. Step) [
      | true ↦ steps.halts (length l.fibers) l
      | false ↦ steps.told (length l.fibers) (did.GotJob job.executor number) (said.Done value.Unit) (on_ends.received script (message.Start job number stamp) l)
    ])
    by true = kept _ _ (halts_stays (length l.fibers) l h)
    by false = kept _ _ (quiet _ _ refl (job_leads script job number l h))

-- ## Strikes from outside

abbrev pub StrikesWaiting : DomainState → Owed → Type 0
StrikesWaiting l (Strike g) = WaitsOnObject (fiber_at l.fibers g).standing
StrikesWaiting l other = Unit {0}

duty_struck_keeps : (maker : ℕ) (owed : Owed) (won : Bool) (l : DomainState) → StrikesWaiting l owed → Sound [] (view l) → Keeps (view l) (on_duties.duty_struck (record { maker = maker; owed = owed }) won l)
duty_struck_keeps maker (Strike g) true l waits h =
    record { sound = resumes_sound _ g (steps.counted l) waits tt h; finished = (λ n it. it); closes = (λ n is. absurd (cc)) }
duty_struck_keeps maker (Strike g) false l waits h = kept _ _ (told_stays maker _ _ l refl h)
duty_struck_keeps maker (Wake object poisoned) won l waits h = kept _ _ (halts_stays maker l h)
duty_struck_keeps maker (Start executor) won l waits h = kept _ _ (halts_stays maker l h)

-- ## The mocked outside

-- what is found at a place passes the test
found_passes : {A : Type 0} (test : A → Bool) (d : A) (xs : List A) → prefix_len (λ x. not (test x)) xs < length xs → test (unwrap_or (slice_get xs (prefix_len (λ x. not (test x)) xs)) d) ≡ true
found_passes test d [] less = absurd (omega arith)
found_passes test d (x ∷ xs) less = by (test x) refl less (found_passes test d xs)
  where
    front : ℕ
    front = prefix_len (λ x. not (test x)) xs

    by : (b : Bool) → test x ≡ b → cond (not b) (1 + front) 0 < suc (length xs) → (front < length xs → test (unwrap_or (slice_get xs front) d) ≡ true)
        → test (unwrap_or (slice_get (x ∷ xs) (cond (not b) (1 + front) 0)) d) ≡ true
    by true is within rest = is
    by false is within rest =
        subst (λ (n : ℕ). test (unwrap_or (slice_get (x ∷ xs) n) d) ≡ true) (let e : suc front ≡ 1 + front = omega arith in e) (rest (omega (arith, within)))

both_true : (a b : Bool) → (a && b) ≡ true → b ≡ true
both_true true b is = is
both_true false b is = absurd (cc)

resting_is : (standing : Standing) → on_mocks.is_resting standing ≡ true → standing ≡ Parked Resting
resting_is (Parked Resting) is = refl
resting_is (Parked (OnObject who)) is = absurd (cc)
resting_is (Parked Asleep) is = absurd (cc)
resting_is (Parked ForCancel) is = absurd (cc)
resting_is (Parked (ForOthers call)) is = absurd (cc)
resting_is (Ready next) is = absurd (cc)
resting_is (Ended it) is = absurd (cc)

wakes_copier_leads : (writer : ℕ) (hand : List ℕ) (l : DomainState) → Leads hand (view l) hand (view (on_mocks.wakes_copier writer l))
wakes_copier_leads writer hand l h = by (nat_lt first (length l.fibers)) refl
  where
    test : Fiber → Bool
    test fiber = on_mocks.is_copier_of writer fiber.role && on_mocks.is_resting fiber.standing

    first : ℕ
    first = prefix_len (λ fiber. not (on_mocks.is_copier_of writer fiber.role && on_mocks.is_resting fiber.standing)) l.fibers

    by : (b : Bool) → nat_lt first (length l.fibers) ≡ b
        → Goes (view l) hand (view (elim (cond b (Some first) None) as (λ _. DomainState) [ None ↦ l | Some g ↦ to_back (GoesOn (outcome.Ok value.Unit)) g l ]))
    by false is = stays hand (view l) h
    by true is =
        let resting : (fiber_at l.fibers first).standing ≡ Parked Resting =
        resting_is _ (both_true (on_mocks.is_copier_of writer (fiber_at l.fibers first).role) _ (found_passes (λ (fiber : Fiber). on_mocks.is_copier_of writer fiber.role && on_mocks.is_resting fiber.standing) never_made l.fibers (ltb-true first (length l.fibers) is))) in
        wakes (GoesOn (outcome.Ok value.Unit)) first hand (view l) Resting resting (λ e. (cc)) (λ who e. (cc)) tt h

bytes_leads : (writer : ℕ) (bytes : List ℕ) (hand : List ℕ) (l : DomainState) → Leads hand (view l) hand (view (on_mocks.wakes_by_bytes writer bytes l))
bytes_leads writer [] hand l = stays hand (view l)
bytes_leads writer (b ∷ bytes) hand l = wakes_copier_leads writer hand l

-- a fiber goes into the block of its call, in the context in which it is
goes_into_leads : (call : Ask) (number : ℕ) (it : Said) (g : ℕ) (hand : List ℕ) (l : DomainState) → ((block : Block) → call ≡ ask.Switch block → ⊥) → ((group : syntax.Group) (blocks : List Block) → call ≡ ask.Branches group blocks → ⊥)
    → Leads (g ∷ hand) (view l) hand (view (on_mocks.goes_into call number it g l).state)
goes_into_leads call number it g hand l isnt branches h =
    let position : Position = on_contexts.before_block call number g l in
    both (places (record (fiber_at l.fibers g) { work = position.work; variables = position.variables }) g (g ∷ hand) (view l) [] refl refl
    (entered_closes (length l.switches) call number (fiber_at l.fibers g).work (fiber_at l.fibers g).variables (λ block is. absurd (isnt block is)) (h.marks g))
    (λ n. omega (arith, entered_joins n call number (fiber_at l.fibers g).work (fiber_at l.fibers g).variables branches)) h)
    (λ k. head (GoesOn (outcome.Ok value.Unit)) g hand (view (placed position g l)) tt k)

of_writer : (writer n : ℕ) (daemon : Bool) → OfWriter writer ≡ OfSwitch n daemon → ⊥
of_writer writer n daemon e = cc

opens_writer_does : (flow : ℕ) (block : Block) (number : ℕ) (it : Said) (g : ℕ) (l : DomainState) → Does g (view l) (on_mocks.opens_writer (ask.OpenWriter flow block) number it g l)
opens_writer_does flow block number it g l =
    let call : Ask = ask.OpenWriter flow block in
    in_new_does (on_contexts.protected_of l g) g l (λ c m. (
    let new = length m.fibers in
    let t : DomainState = made c (OfWriter number) (record { work = []; variables = [] }) m in
    let step : Step = on_mocks.goes_into call number it g t in
    record step { state = to_head (GoesOn (outcome.Ok value.Unit)) new step.state })) (λ c h. (
    let m : DomainState = record l { contexts = (on_contexts.protected_of l g).contexts } in
    let new : ℕ = length l.fibers in
    let t : DomainState = made c (OfWriter number) (record { work = []; variables = [] }) m in
    let step : Step = on_mocks.goes_into call number it g t in
    quiet _ _ refl (both (makes_other _ (g ∷ []) (view m) [] tt tt tt (of_writer number) (uncredited _ m.fibers m.groups [] (λ n. refl) (λ n. refl)) h)
    (λ k. both (holds (new ∷ g ∷ []) (g ∷ new ∷ []) (view t) (λ x. omega arith) k)
    (λ i. both (goes_into_leads call number it g (new ∷ []) t (λ b is. (cc)) (λ k bs is. (cc)) i) (λ j. head (GoesOn (outcome.Ok value.Unit)) new [] (view step.state) tt j))))))

passing_does : (result : Option Outcome) (given : Value) (it : Said) (g : ℕ) (l : DomainState) → Does g (view l) (elim result as (λ _. Step) [
  | Some result ↦ steps.told g (did.Mock it) (said.Done given) (to_head (GoesOn result) g l)
  | None ↦ steps.answers (did.Mock it) (outcome.Ok given) g l
])
passing_does (Some result) given it g l = told_head _ _ _ g l refl tt
passing_does None given it g l = told_head _ _ _ g l refl tt

done_by_does : (call : Ask) (given : Value) (it : Said) (g : ℕ) (l : DomainState) → Does g (view l) (on_mocks.done_by call given it g l)
done_by_does (ask.OpenReader flow limit block) given it g l = λ h. quiet _ _ refl (goes_into_leads (ask.OpenReader flow limit block) (number_in given) it g [] l (λ b is. (cc)) (λ k bs is. (cc)) h)
done_by_does (ask.OpenDirectory place path block) given it g l = λ h. quiet _ _ refl (goes_into_leads (ask.OpenDirectory place path block) (number_in given) it g [] l (λ b is. (cc)) (λ k bs is. (cc)) h)
done_by_does (ask.OpenWriter flow block) given it g l = opens_writer_does flow block (number_in given) it g l
done_by_does (ask.PutText writer text) given it g l =
    λ h. after_does (g ∷ []) (view l) _ _ (bytes_leads writer (text_at l.texts text) (g ∷ []) l h) (told_head _ _ _ g (on_mocks.wakes_by_bytes writer (text_at l.texts text) l) refl tt)
done_by_does call given it g l = passing_does (passing call) given it g l

-- no call at the end of a branch is one on the mocked outside
abbrev JoinsNone : Ask → Type 0
JoinsNone (ask.Join n own) = ⊥
JoinsNone call = Unit {0}

asked_joins_none : (call : Ask) (g : ℕ) (l : DomainState) (asked : MockAsked) → asks_for call g l ≡ Mocks asked → JoinsNone call
asked_joins_none (ask.Join n own) g l asked is = absurd (cc)
asked_joins_none call g l asked is = tt

none_again : (bound : ℕ) (call : Ask) → JoinsNone call → JoinsCall bound call
none_again bound (ask.Join n own) none = absurd none
none_again bound call none = tt

waits_by_does : (call : Ask) (g : ℕ) (l : DomainState) → ClosesCall (length l.switches) call → JoinsCall (length l.groups) call → Does g (view l) (on_mocks.waits_by call g l)
waits_by_does (ask.ShutWriter writer result) g l closes joins =
    λ h. after_does (g ∷ []) (view l) _ _ (wakes_copier_leads writer (g ∷ []) l h) (told_parked _ _ (ForOthers (ask.ShutWriter writer result)) g (on_mocks.wakes_copier writer l) refl (others_awake _) (tt, tt))
waits_by_does call g l closes joins = told_parked _ _ (ForOthers call) g l refl (others_awake call) (closes, joins)

mock_answered_does : (call : Ask) (given : Extra) (g : ℕ) (l : DomainState) → ClosesCall (length l.switches) call → JoinsCall (length l.groups) call → Does g (view l) (on_mocks.mock_answered call given g l)
mock_answered_does call (extra.Done given it) g l closes joins = done_by_does call given it g l
mock_answered_does call (extra.More it) g l closes joins = told_head _ _ (CallsAgain call) g l refl (closes, joins)
mock_answered_does call extra.Back g l closes joins = told_back _ _ (CallsAgain call) g l refl (closes, joins)
mock_answered_does call extra.Waits g l closes joins = waits_by_does call g l closes joins
mock_answered_does call (extra.Raised raised it) g l closes joins = raised_given_does (did.Mock it) raised g l (λ reply. refl)

resting_awake : Resting ≡ Asleep → ⊥
resting_awake e = cc

carried_does : (writer : ℕ) (given : Extra) (g : ℕ) (l : DomainState) → Does g (view l) (on_mocks.carried_by writer given g l)
carried_does writer (extra.More it) g l = told_head _ _ _ g l refl tt
carried_does writer (extra.Done given it) g l =
    let t : DomainState = on_ends.ends (outcome.Ok value.Unit) g l in
    λ h. quiet _ _ refl (both (ends_leads (outcome.Ok value.Unit) g [] l h) (λ k. woken_if_leads (on_mocks.shutter writer t.fibers) [] t k))
carried_does writer other g l = told_parked _ _ Resting g l refl resting_awake tt

-- ## The move

-- what was owed is dropped
pub forgotten : (what : Doing) (l : DomainState) → Leads (hand_of what) (view_by what l) (hand_of what) (view l)
forgotten what l = forgives [] (hand_of what) (view_by what l) (λ n. omega arith)

unmoved_does : (what : Doing) (l : DomainState) → Sound (hand_of what) (view_by what l) → Ends (view_by what l) (unmoved l)
unmoved_does what l h = quiet _ _ refl (both (forgotten what l h) (dropped (hand_of what) (view l)))

pub own_ends : (script : Script) (what : Doing) (l : DomainState) → ClosesDoing (length l.switches) (length l.groups) what → Sound (hand_of what) (view_by what l) → Ends (view_by what l) (own_move script (at_once what l))
own_ends script doing.Rests l closes h = unmoved_does doing.Rests l h
own_ends script (doing.Owes duty) l closes h = own_duty_moves duty.maker duty.owed l h
own_ends script (doing.Calls g call) l closes h = own_call_does script call g l closes.0 closes.1 h
own_ends script (doing.Carries g writer) l closes h = unmoved_does (doing.Carries g writer) l h
own_ends script doing.Ticks l closes h = tick_moves l h

pub called_ends : (what : Doing) (l : DomainState) (asked : Asked) (given : Answer) → Sound (hand_of what) (view_by what l) → Ends (view_by what l) (called_move (at_once what l) asked given)
called_ends doing.Rests l asked given h = unmoved_does doing.Rests l h
called_ends (doing.Owes duty) l asked given h = duty_answered_moves duty.maker duty.owed given l h
called_ends (doing.Calls g call) l asked given h =
    let role : Role = (fiber_at l.fibers g).role in
    after_does (g ∷ []) (view_by (doing.Calls g call) l) (view l) _ (forgotten (doing.Calls g call) l h) (answered_does call role (on_objects.did_ask call role) asked given g l (asked_quiet call role))
called_ends (doing.Carries g writer) l asked given h = unmoved_does (doing.Carries g writer) l h
called_ends doing.Ticks l asked given h = unmoved_does doing.Ticks l h

abbrev pub DoingStrikes : DomainState → Doing → Type 0
DoingStrikes l (doing.Owes duty) = StrikesWaiting l duty.owed
DoingStrikes l other = Unit {0}

pub struck_keeps : (what : Doing) (l : DomainState) (won : Bool) → DoingStrikes l what → Sound (hand_of what) (view_by what l) → Keeps (view_by what l) (struck_move (at_once what l) won)
struck_keeps doing.Rests l won waits h = kept _ _ (unmoved_does doing.Rests l h)
struck_keeps (doing.Owes duty) l won waits h = duty_struck_keeps duty.maker duty.owed won l waits h
struck_keeps (doing.Calls g call) l won waits h = kept _ _ (unmoved_does (doing.Calls g call) l h)
struck_keeps (doing.Carries g writer) l won waits h = kept _ _ (unmoved_does (doing.Carries g writer) l h)
struck_keeps doing.Ticks l won waits h = kept _ _ (unmoved_does doing.Ticks l h)

pub mocked_ends : (what : Doing) (l : DomainState) (given : Extra) (texts : List (List ℕ)) (asked : MockAsked) → asks_by (at_once what l) ≡ Mocks asked → ClosesDoing (length l.switches) (length l.groups) what → Sound (hand_of what) (view_by what l)
    → Ends (view_by what l) (mocked_by (at_once what l) given (record l { texts = texts }))
mocked_ends doing.Rests l given texts asked is closes h = unmoved_does doing.Rests (record l { texts = texts }) h
mocked_ends (doing.Owes duty) l given texts asked is closes h = unmoved_does (doing.Owes duty) (record l { texts = texts }) h
mocked_ends (doing.Calls g call) l given texts asked is closes h =
    let m : DomainState = record l { texts = texts } in
    after_does (g ∷ []) (view_by (doing.Calls g call) l) (view m) _ (forgotten (doing.Calls g call) m h)
    (mock_answered_does call given g m closes.0 (none_again (length l.groups) call (asked_joins_none call g l asked is)))
mocked_ends (doing.Carries g writer) l given texts asked is closes h = carried_does writer given g (record l { texts = texts }) h
mocked_ends doing.Ticks l given texts asked is closes h = unmoved_does doing.Ticks (record l { texts = texts }) h
