-- Runs on one mocked domain: who waits for an object there is resumed by its wake or its strike alone, so the law of runs of a domain holds of each of them.
use Rattle.std.proofs.Common.{◌≡◌, ℕ, zero, suc, ◌+◌, ◌≤◌, ◌<◌, ◌==◌, Bool, true, false, List, [], ◌∷◌, length, Option, Some, None, refl, sym, ap, ◌∙◌, subst, arith}
use Rattle.std.specs.Prelude.{map, find}
use Rattle.eio_value.specs.declared.call.Answer.{Answer}
use Rattle.eio_value.specs.declared.call.Answer.TheVariants as answer
use Rattle.eio_value.specs.declared.call.Call.{Call}
use Rattle.eio_value.specs.declared.call.Call.TheVariants as call
use Rattle.eio_value.specs.declared.message.Message.{Message}
use Rattle.eio_value.specs.declared.message.Waiter.{Waiter}
use Rattle.eio_value.specs.declared.mock_call.MockCall.TheVariants as mock
use Rattle.eio_value.specs.declared.plain.Plain.TheVariants as plain
use Rattle.eio_value.specs.declared.raised.Outcome.{Outcome}
use Rattle.eio_value.specs.declared.raised.Outcome.TheVariants as outcome
use Rattle.eio_value.specs.declared.value.Value.{Value}
use Rattle.eio_value.specs.Sending.{Sent, Resumes, Starts}
use Rattle.spec_parts.specs.Data.{Data, Stream, Promise, Semaphore, Mutex, Pool, Executor}
use Rattle.spec_parts.specs.Objects as objects
use Rattle.spec_parts.specs.Row.{Row, Stepped}
use Rattle.spec_script.specs.Declarations.{Declaration}
use Rattle.spec_script.specs.Declarations as declared
use Rattle.spec_script.specs.Opening.{opening_texts}
use Rattle.spec_script.specs.Scripts.{Script}
use Rattle.spec_fiber.specs.Asks as ask
use Rattle.spec_fiber.specs.Asks.{Ask}
use Rattle.trace_lines.specs.declared.line.Line.{Line}
use Rattle.spec_machine.specs.Asking as asking
use Rattle.spec_machine.specs.Asking.{asks_by, asks_for, asks_owed, strike_on, is_full_for_one, end_of}
use Rattle.spec_machine.specs.Domain.{Role, OfBody, OfJob, OfSwitch, OfGroup, OfWriter, Next, GoesOn, OnObject, Asleep, ForCancel, ForOthers, Resting, Standing, Ready, Parked, Ended, Owed, Strike, Wake, Start as StartOwed, Fiber, DomainState, fiber_at, never_made, wait_of, to_back}
use Rattle.spec_machine.specs.Labels.{Asks, Idle, Own, Calls, Strikes, Mocks, Inner, Called, Struck, Mocked}
use Rattle.spec_machine.specs.Mock.{Mock, Moved, Came, opening, first_body, most_jobs, comes, moved_by, move_by, move, moves}
use Rattle.spec_machine.specs.Moves.{called_move, mocked_move, struck_move, with_message, stepped_by}
use Rattle.spec_machine.specs.ObjectMoves as on_objects
use Rattle.spec_machine.specs.Outside.{OutsideStep, outside}
use Rattle.spec_machine.specs.Preparing as doing
use Rattle.spec_machine.specs.Preparing.{Doing, Prepared, at_once, prepared}
use Rattle.spec_machine.specs.Shared.{SharedState, Asked, row_at, declared_row, stepped, mine_of, message_of, receiver_of, after_call, strike_wins, after_strike}
use Rattle.spec_machine.specs.Steps.{Step}
use Rattle.spec_machine.specs.Trace.{last_after, run}
use Rattle.law_domain.specs.Scopes.Finished.{WaitsOnObject, LeavesNothingInRuns}
use Rattle.spec_parts.specs.declared.hold.Hold.TheVariants.{Free, Held as HeldBy, Poisoned}
use Rattle.spec_parts.specs.Data.{Submitted, Worker, Work}
use Rattle.spec_parts.specs.Executors as executors
use Rattle.spec_parts.specs.Row.{Queued, Side, Handed, found}
use Rattle.spec_parts.specs.Row as rows
use Rattle.law_domain.proofs.Scopes.Counts.{one}
use Rattle.law_domain.proofs.Scopes.Scopes.{View, view, standing_at, is_over, IsReady, Sound, IsFinished, Tracked, OnSwitch, IsOver, Goes, set_same, set_other, within}
use Rattle.law_domain.proofs.Scopes.Standings.{let_go, Loose}
use Rattle.law_domain.proofs.Scopes.Calls.{closed_in, Ends, after_does}
use Rattle.law_domain.proofs.Scopes.Moves.{hand_of, view_of, forgotten, Prepares, prepares, Keeps, kept, received_keeps, owing_wait_same, job_leads, own_ends, called_ends, struck_keeps, mocked_ends}
use Rattle.law_domain.proofs.Scopes.Runs.{keeps_after, strikes_waiting, resumes_later, none_is_left, answers_closed, opening_sound}
use Rattle.law_domain.proofs.Scopes.Objects.{Every, Stood, RowOf, Held, Fewer, WakesNobody, RowSteps, Left, Enters, Woke, row_steps, Key, fiber_of, in_row, in_rows, at_all, parked_in_rows, held_on, held_fewer, held_more, woken_none, held_without, held_struck}

pub the_move : {A : Type 0} (a b : A) → Some a ≡ Some b → a ≡ b
the_move {A = A} a b e = ap (λ (found : Option A). elim found as (λ _. A) [ None ↦ a | Some c ↦ c ]) e

-- ## Who calls

-- what is woken or started next
abbrev pub is_next : Call → Bool
is_next (call.NextWake object) = true
is_next (call.NextStart object) = true
is_next other = false

-- a call on an object is one of the fiber in hand, by the wait that it would have; or one that is owed
pub data Caller (what : Doing) (l : DomainState) (asked : Asked) : Type 0 where
  ByFiber : (g : ℕ) → (it : Ask) → what ≡ doing.Calls g it → asked.who ≡ wait_of l g → Caller what l asked
  ByDuty : is_next asked.call ≡ true → Caller what l asked

abbrev who_of : Waiter → Asks → Waiter
who_of other (Calls asked) = asked.who
who_of other asks = other

abbrev call_of : Call → Asks → Call
call_of other (Calls asked) = asked.call
call_of other asks = other

who_asks : (it : Ask) (g : ℕ) (l : DomainState) (asked : Asked) → asks_for it g l ≡ Calls asked → asked.who ≡ wait_of l g
who_asks (ask.OnObject it object) g l asked is = ap (who_of asked.who) (sym is)
who_asks (ask.OnObjectWith it object operand) g l asked is = ap (who_of asked.who) (sym is)
who_asks (ask.Use pool) g l asked is = ap (who_of asked.who) (sym is)
who_asks (ask.Submit executor weight given block) g l asked is = ap (who_of asked.who) (sym is)
who_asks (ask.UnlockEnd mutex it) g l asked is = ap (who_of asked.who) (sym is)
who_asks (ask.PoisonEnd mutex raised) g l asked is = ap (who_of asked.who) (sym is)
who_asks (ask.PutEnd pool resource it) g l asked is = ap (who_of asked.who) (sym is)
who_asks (ask.ResolveEnd promise it) g l asked is = ap (who_of asked.who) (sym is)
who_asks (ask.End it) g l asked is = by (fiber_at l.fibers g).role is
  where
    by : (role : Role) → end_of role l g it ≡ Calls asked → asked.who ≡ wait_of l g
    by (OfJob executor number) is = ap (who_of asked.who) (sym is)
    by OfBody is = absurd (cc)
    by (OfSwitch n daemon) is = absurd (cc)
    by (OfGroup n) is = absurd (cc)
    by (OfWriter writer) is = absurd (cc)
who_asks (ask.OpenWriter flow block) g l asked is = by (is_full_for_one l) is
  where
    by : (full : Bool) → elim full as (λ _. Asks) [ true ↦ Own | false ↦ asking.mocks l (mock.OpenWriter flow) ] ≡ Calls asked → asked.who ≡ wait_of l g
    by true is = absurd (cc)
    by false is = absurd (cc)
who_asks it g l asked is = absurd (cc)

pub caller : (what : Doing) (l : DomainState) (asked : Asked) → asks_by (at_once what l) ≡ Calls asked → Caller what l asked
caller doing.Rests l asked is = absurd (cc)
caller (doing.Owes duty) l asked is = owed_by duty.owed is
  where
    -- no strike is a call
    strike_isnt : (standing : Standing) → strike_on standing ≡ Calls asked → ⊥
    strike_isnt (Parked (OnObject other)) is = cc
    strike_isnt (Parked Asleep) is = cc
    strike_isnt (Parked ForCancel) is = cc
    strike_isnt (Parked (ForOthers call)) is = cc
    strike_isnt (Parked Resting) is = cc
    strike_isnt (Ready next) is = cc
    strike_isnt (Ended it) is = cc

    start_by : (executor : ℕ) (full : Bool) → elim full as (λ _. Asks) [ true ↦ Own | false ↦ asking.calls l duty.maker executor (call.NextStart executor) ] ≡ Calls asked → is_next asked.call ≡ true
    start_by executor true is = absurd (cc)
    start_by executor false is = ap (λ (asks : Asks). is_next (call_of asked.call asks)) (sym is)

    owed_by : (owed : Owed) → asks_owed (record { maker = duty.maker; owed = owed }) l ≡ Calls asked → Caller (doing.Owes duty) l asked
    owed_by (Strike g) is = absurd (strike_isnt (fiber_at l.fibers g).standing is)
    owed_by (Wake object poisoned) is = ByDuty (ap (λ (asks : Asks). is_next (call_of asked.call asks)) (sym is))
    owed_by (StartOwed executor) is = ByDuty (start_by executor (is_full_for_one l) is)
caller (doing.Calls g it) l asked is = ByFiber g it refl (who_asks it g l asked is)
caller (doing.Carries g writer) l asked is = absurd (cc)
caller doing.Ticks l asked is = absurd (cc)

-- ## What is owed doesn't wait

abbrev pub Never : Stepped → Type 0
Never step = step.answer ≡ answer.Waits → ⊥

looks_never : (row : Row) (side : Side) (pick : Queued → Bool) (hand : Queued → Handed) (other : Stepped) (it : Option Queued) → Never other → ((q : Queued) → (hand q).answer ≡ answer.Waits → ⊥) → Never (found row side pick hand other it)
looks_never row side pick hand other None never hands = never
looks_never row side pick hand other (Some q) never hands = hands q

start_never : (work : Work) (queued : List Submitted) (row : Row) (who : Waiter) (off : Bool) → Never (rows.stepped row who off (rows.Ignores (executors.start_head work queued)))
start_never work [] row who off = λ e. (cc)
start_never work (head ∷ others) row who off = by _
  where
    by : (worker : Option Worker) → Never (rows.stepped row who off (rows.Ignores (executors.start_on work head others worker)))
    by None = λ e. (cc)
    by (Some worker) = λ e. (cc)

pub never_waits : (values : Data) (serial : ℕ) (it : Call) (row : Row) (who : Waiter) (off : Bool) → is_next it ≡ true → Never (rows.stepped row who off (objects.does values serial it))
never_waits (Stream capacity items) serial (call.NextWake object) row who off is = λ e. (cc)
never_waits (Stream capacity items) serial (call.NextStart object) row who off is = λ e. (cc)
never_waits (Promise None) serial (call.NextWake object) row who off is = λ e. (cc)
never_waits (Promise (Some it)) serial (call.NextWake object) row who off is =
    looks_never row rows.Takers rows.anybody (λ waiter. record { values = Promise (Some it); answer = answer.Woke waiter.who; outcome = it }) (rows.otherwise row who off (rows.quiet (Promise (Some it)) answer.Nothing))
    (find rows.anybody row.takers) (λ e. (cc)) (λ q e. (cc))
never_waits (Promise it) serial (call.NextStart object) row who off is = λ e. (cc)
never_waits (Semaphore count) serial (call.NextWake object) row who off is = λ e. (cc)
never_waits (Semaphore count) serial (call.NextStart object) row who off is = λ e. (cc)
never_waits (Mutex Free) serial (call.NextWake object) row who off is = λ e. (cc)
never_waits (Mutex HeldBy) serial (call.NextWake object) row who off is = λ e. (cc)
never_waits (Mutex Poisoned) serial (call.NextWake object) row who off is =
    looks_never row rows.Takers rows.anybody (λ waiter. record { values = Mutex Poisoned; answer = answer.Woke waiter.who; outcome = outcome.Err (rows.raise serial plain.Poisoned) })
    (rows.otherwise row who off (rows.quiet (Mutex Poisoned) answer.Nothing)) (find rows.anybody row.takers) (λ e. (cc)) (λ q e. (cc))
never_waits (Mutex state) serial (call.NextStart object) row who off is = λ e. (cc)
never_waits (Pool size made idle) serial (call.NextWake object) row who off is = λ e. (cc)
never_waits (Pool size made idle) serial (call.NextStart object) row who off is = λ e. (cc)
never_waits (Executor work) serial (call.NextWake object) row who off is = λ e. (cc)
never_waits (Executor work) serial (call.NextStart object) row who off is = start_never work work.queued row who off
never_waits values serial it row who off is = absurd (cc)

-- ## A call

-- the outside and the domain together
pub record Fine (l : DomainState) (s : SharedState) : Type 0 where
  pub sound : Sound [] (view l)
  pub held : Held (view l) s.rows

-- what comes of a step
record Comes (l : DomainState) (step : Step) (s : SharedState) : Type 0 where
  keeps : Keeps (view l) step
  held : Held (view step.state) s.rows

-- a caller whose call waits is parked on it
pub parks_then : (g : ℕ) (it : Ask) (l : DomainState) (asked : Asked) → asked.who.fiber ≡ g → Sound (g ∷ []) (view l)
    → standing_at (view (called_move (at_once (doing.Calls g it) l) asked answer.Waits).state) asked.who.fiber ≡ Parked (OnObject asked.who)
parks_then g it l asked same h =
    let free = let_go g [] (view l) h in
    let loose : Loose [] (view l) g = free.1 in
    let inside : g < length l.fibers = within (λ (f : Fiber). is_over f.standing ≡ false) never_made l.fibers g (λ e. (cc)) loose.lives in
    let m : DomainState = on_objects.owing_wait it g l in
    let fibers_same : m.fibers ≡ l.fibers = ap (λ (v : View). v.fibers) (owing_wait_same it g l) in
    let still : g < length m.fibers = subst (λ (fibers : List Fiber). g < length fibers) (sym fibers_same) inside in
    subst (λ (x : ℕ). standing_at (view (called_move (at_once (doing.Calls g it) l) asked answer.Waits).state) x ≡ Parked (OnObject asked.who)) (sym same)
    (ap (λ (f : Fiber). f.standing) (set_same never_made m.fibers g (record (fiber_at m.fibers g) { standing = Parked (OnObject asked.who) }) still))

-- a ready fiber waits for nothing
pub ready_isnt_parked : (standing : Standing) → IsReady standing → WaitsOnObject standing → ⊥
ready_isnt_parked (Ready next) ready waits = let e : Ready next ≡ Parked (OnObject waits.0) = waits.1 in cc
ready_isnt_parked (Parked wait) ready waits = ready
ready_isnt_parked (Ended result) ready waits = ready

-- who is resumed leaves all others as they stood
pub resumed_stay : (next : Next) (g : ℕ) (l : DomainState) (x : ℕ) (who : Waiter) → (x ≡ g → ⊥) → standing_at (view l) x ≡ Parked (OnObject who) → standing_at (view (to_back next g l)) x ≡ Parked (OnObject who)
resumed_stay next g l x who differs is = ap (λ (f : Fiber). f.standing) (set_other never_made l.fibers g x _ differs) ∙ is

module _ (script : Script) (l : DomainState) (s : SharedState) (fine : Fine l s) where
  abbrev first : Prepares (view l) (prepared l)
  first = prepares l fine.sound

  -- what the domain's step leaves, from its beginning on
  whole : (step : Step) → (Sound (hand_of (prepared l).doing) (view_of (prepared l)) → Ends (view_of (prepared l)) step) → Ends (view l) step
  whole step it = after_does (hand_of (prepared l).doing) (view l) (view_of (prepared l)) step first.goes it

  ends_come : (step : Step) → Ends (view l) step → Comes l step s
  ends_come step it = record { keeps = kept (view l) step it; held = held_on (view l) (view step.state) s.rows it.goes.waits fine.held }

  module _ (asked : Asked) (stamp : ℕ) (is : asks_by (prepared l) ≡ Calls asked) where
    abbrev came : Stepped
    came = stepped s asked

    abbrev row : Row
    row = row_at s.rows asked.object

    abbrev own_step : Step
    own_step = called_move (prepared l) asked came.answer

    own_part : Ends (view l) own_step
    own_part = whole own_step (called_ends (prepared l).doing (prepared l).state asked came.answer)

    abbrev later : SharedState
    later = after_call s l.number stamp asked came

    held_then : Held (view own_step.state) s.rows
    held_then = held_on (view l) (view own_step.state) s.rows own_part.goes.waits fine.held

    -- nobody is woken
    quiet_message : (sent : Option Sent) → WakesNobody sent → Held (view own_step.state) later.rows → Comes l (with_message script (mine_of l.number stamp sent) own_step) later
    quiet_message None nobody held = record { keeps = kept (view l) own_step own_part; held = held }
    quiet_message (Some (Resumes who result)) nobody held = absurd nobody
    quiet_message (Some (Starts start)) nobody held = by (receiver_of (Starts start) == l.number)
      where
        by : (b : Bool) → Comes l (with_message script (elim b as (λ _. Option Message) [ true ↦ Some (message_of stamp (Starts start)) | false ↦ None ]) own_step) later
        by false = record { keeps = kept (view l) own_step own_part; held = held }
        by true =
            let more : Goes (view own_step.state) [] _ = job_leads script start.job start.number own_step.state own_part.goes.sound in
            record {
              keeps = received_keeps script (view l) (Some (message_of stamp (Starts start))) own_step tt own_part;
              held = held_on (view own_step.state) _ later.rows more.waits held;
            }

    woken_message : (q : Queued) (result : Outcome) → Stood (view l) q → Fewer row came.row → ((key : Key) → in_row key (key q.who) came.row + 1 ≤ in_row key (key q.who) row)
        → Comes l (with_message script (mine_of l.number stamp (Some (Resumes q.who result))) own_step) later
    woken_message q result stood fewer less = by (q.who.domain == l.number)
      where
        held : Held (view own_step.state) later.rows
        held = held_fewer (view own_step.state) s.rows asked.object came.row fewer held_then

        none : in_rows fiber_of q.who.fiber later.rows ≡ 0
        none = woken_none (view own_step.state) s.rows asked.object came.row q.who.fiber (less fiber_of) held_then

        by : (b : Bool) → Comes l (with_message script (elim b as (λ _. Option Message) [ true ↦ Some (message_of stamp (Resumes q.who result)) | false ↦ None ]) own_step) later
        by false = record { keeps = kept (view l) own_step own_part; held = held }
        by true =
            record {
              keeps = received_keeps script (view l) (Some (message_of stamp (Resumes q.who result))) own_step (resumes_later l own_step (Some (message_of stamp (Resumes q.who result))) own_part (q.who, stood)) own_part;
              held = held_without (view own_step.state) (view (to_back (GoesOn result) q.who.fiber own_step.state)) later.rows q.who.fiber (resumed_stay (GoesOn result) q.who.fiber own_step.state) none held;
            }

    -- the caller waits
    waits_message : came.answer ≡ answer.Waits
        → ((P : Queued → Type 0) → ((item : Value) (number : ℕ) → P (record { who = asked.who; item = item; number = number })) → RowOf P row → RowOf P came.row)
        → ((key : Key) (g : ℕ) → in_row key g came.row ≤ in_row key g row + one g (key asked.who)) → Held (view own_step.state) later.rows
    waits_message waits all count = by (caller (prepared l).doing (prepared l).state asked is)
      where
        by : Caller (prepared l).doing (prepared l).state asked → Held (view own_step.state) later.rows
        by (ByDuty next) = absurd (never_waits row.values asked.serial asked.call row asked.who asked.off next waits)
        by (ByFiber g it what who) = held_more (view own_step.state) s.rows asked.object asked.who came.row all count parked none held_then
          where
            m : DomainState
            m = (prepared l).state

            same : asked.who.fiber ≡ g
            same = ap (λ (w : Waiter). w.fiber) who

            in_hand : Sound (g ∷ []) (view m)
            in_hand = subst (λ (d : Doing). Sound (hand_of d) (view m)) what (forgotten (prepared l).doing m first.goes.sound).sound

            parked : standing_at (view own_step.state) asked.who.fiber ≡ Parked (OnObject asked.who)
            parked =
                subst (λ (a : Answer). standing_at (view (called_move (prepared l) asked a).state) asked.who.fiber ≡ Parked (OnObject asked.who)) (sym waits)
                (subst (λ (d : Doing). standing_at (view (called_move (at_once d m) asked answer.Waits).state) asked.who.fiber ≡ Parked (OnObject asked.who)) (sym what) (parks_then g it m asked same in_hand))

            none_by : (n : ℕ) → in_rows fiber_of asked.who.fiber s.rows ≡ n → n ≡ 0
            none_by zero e = refl
            none_by (suc n) e =
                let waits : WaitsOnObject (standing_at (view l) asked.who.fiber) = parked_in_rows (view l) asked.who.fiber s.rows fine.held.stand (omega (arith, e)) in
                absurd (ready_isnt_parked (standing_at (view m) g) (let_go g [] (view m) in_hand).2
                (subst (λ (x : ℕ). WaitsOnObject (standing_at (view m) x)) same (waits.0, first.goes.waits asked.who.fiber waits.0 waits.1)))

            none : in_rows fiber_of asked.who.fiber s.rows ≡ 0
            none = none_by (in_rows fiber_of asked.who.fiber s.rows) refl

    called_comes : Comes l (with_message script (mine_of l.number stamp came.sent) own_step) later
    called_comes = by (row_steps row asked.who asked.off (objects.does row.values asked.serial asked.call))
      where
        with_sent : (sent : Option Sent) → came.sent ≡ sent → Comes l (with_message script (mine_of l.number stamp sent) own_step) later → Comes l (with_message script (mine_of l.number stamp came.sent) own_step) later
        with_sent sent e it = subst (λ (o : Option Sent). Comes l (with_message script (mine_of l.number stamp o) own_step) later) (sym e) it

        by : RowSteps row asked.who came → Comes l (with_message script (mine_of l.number stamp came.sent) own_step) later
        by (Left fewer nobody) = quiet_message came.sent nobody (held_fewer (view own_step.state) s.rows asked.object came.row fewer held_then)
        by (Enters waits sent all count) = with_sent None sent (quiet_message None tt (waits_message waits all count))
        by (Woke q result sent stood fewer less) = with_sent (Some (Resumes q.who result)) sent (woken_message q result (stood (Stood (view l)) (at_all (Stood (view l)) s.rows asked.object fine.held.stand)) fewer less)

-- ## Strikes

-- a duty is to strike a fiber that is parked in this wait
pub record Striking (what : Doing) (l : DomainState) (who : Waiter) : Type 0 where
  pub maker : ℕ
  pub fiber : ℕ
  pub is : what ≡ doing.Owes (record { maker = maker; owed = Strike fiber })
  pub waits : standing_at (view l) fiber ≡ Parked (OnObject who)

the_wait : (a b : Waiter) → Strikes a ≡ Strikes b → a ≡ b
the_wait a b e = cc

pub striking : (what : Doing) (l : DomainState) (who : Waiter) → asks_by (at_once what l) ≡ Strikes who → Striking what l who
striking doing.Rests l who is = absurd (cc)
striking (doing.Owes duty) l who is = owed_by duty.maker duty.owed is
  where
    waits : (standing : Standing) → strike_on standing ≡ Strikes who → standing ≡ Parked (OnObject who)
    waits (Parked (OnObject other)) is = ap (λ (w : Waiter). Parked (OnObject w)) (the_wait other who is)
    waits (Parked Asleep) is = absurd (cc)
    waits (Parked ForCancel) is = absurd (cc)
    waits (Parked (ForOthers call)) is = absurd (cc)
    waits (Parked Resting) is = absurd (cc)
    waits (Ready next) is = absurd (cc)
    waits (Ended it) is = absurd (cc)

    starts : (maker executor : ℕ) (full : Bool) → elim full as (λ _. Asks) [ true ↦ Own | false ↦ asking.calls l maker executor (call.NextStart executor) ] ≡ Strikes who → ⊥
    starts maker executor true is = cc
    starts maker executor false is = cc

    owed_by : (maker : ℕ) (owed : Owed) → asks_owed (record { maker = maker; owed = owed }) l ≡ Strikes who → Striking (doing.Owes (record { maker = maker; owed = owed })) l who
    owed_by maker (Strike g) is = record { maker = maker; fiber = g; is = refl; waits = waits (fiber_at l.fibers g).standing is }
    owed_by maker (Wake object poisoned) is = absurd (cc)
    owed_by maker (StartOwed executor) is = absurd (starts maker executor (is_full_for_one l) is)
striking (doing.Calls g it) l who is = absurd (by it is)
  where
    ends_by : (role : Role) (result : Outcome) → end_of role l g result ≡ Strikes who → ⊥
    ends_by (OfJob executor number) result is = cc
    ends_by OfBody result is = cc
    ends_by (OfSwitch n daemon) result is = cc
    ends_by (OfGroup n) result is = cc
    ends_by (OfWriter writer) result is = cc

    writer_by : (full : Bool) (flow : ℕ) → elim full as (λ _. Asks) [ true ↦ Own | false ↦ asking.mocks l (mock.OpenWriter flow) ] ≡ Strikes who → ⊥
    writer_by true flow is = cc
    writer_by false flow is = cc

    by : (it : Ask) → asks_for it g l ≡ Strikes who → ⊥
    by (ask.End result) is = ends_by (fiber_at l.fibers g).role result is
    by (ask.OpenWriter flow block) is = writer_by (is_full_for_one l) flow is
    by it is = cc
striking (doing.Carries g writer) l who is = absurd (cc)
striking doing.Ticks l who is = absurd (cc)

module _ (script : Script) (l : DomainState) (s : SharedState) (fine : Fine l s) (who : Waiter) (is : asks_by (prepared l) ≡ Strikes who) where
  abbrev prepared_first : Prepares (view l) (prepared l)
  prepared_first = prepares l fine.sound

  struck_comes : (won : Bool) → Comes l (struck_move (prepared l) won) (after_strike s who won)
  struck_comes won = record {
    keeps = keeps_after (hand_of (prepared l).doing) (view l) (view_of (prepared l)) _ prepared_first.goes (struck_keeps (prepared l).doing (prepared l).state won (strikes_waiting (prepared l).doing (prepared l).state who is));
    held = by won (striking (prepared l).doing (prepared l).state who is);
  }
    where
      m : DomainState
      m = (prepared l).state

      held_m : Held (view m) s.rows
      held_m = held_on (view l) (view m) s.rows prepared_first.goes.waits fine.held

      by : (won : Bool) → Striking (prepared l).doing m who → Held (view (struck_move (prepared l) won).state) (after_strike s who won).rows
      by false it = subst (λ (d : Doing). Held (view (struck_move (at_once d m) false).state) s.rows) (sym it.is) held_m
      by true it =
          let after = held_struck (view m) s.rows it.fiber who it.waits held_m in
          subst (λ (d : Doing). Held (view (struck_move (at_once d m) true).state) (after_strike s who true).rows) (sym it.is)
          (held_without (view m) _ (after_strike s who true).rows it.fiber (resumed_stay _ it.fiber m) after.1 after.0)

-- ## The move

-- what is known after a move of a mocked run
pub record Going (l : DomainState) (line : Line) (next : Mock) : Type 0 where
  pub fine : Fine next.local next.shared
  pub finished : (n : Tracked) → IsOver l.switches l.groups n → IsOver next.local.switches next.local.groups n
  pub closes : (n : ℕ) → closed_in line.did line.reply ≡ Some n → IsFinished next.local.switches n

module _ (script : Script) (m : Mock) (fine : Fine m.local m.shared) where
  abbrev stamp_next : ℕ
  stamp_next = m.local.stamp + 1

  goes_by : (outside : Came) → Comes m.local (stepped_by script (prepared m.local) outside.label m.local) outside.shared
      → (moved : Moved) → moved_by m stamp_next (prepared m.local).raises outside (stepped_by script (prepared m.local) outside.label m.local) ≡ moved → Going m.local moved.line moved.next
  goes_by outside it moved is =
      subst (λ (y : Moved). Going m.local y.line y.next) is (record { fine = record { sound = it.keeps.sound; held = it.held }; finished = it.keeps.finished; closes = it.keeps.closes })

  by_asks : (moved : Moved) (it : Asks) → asks_by (prepared m.local) ≡ it
      → elim (comes m stamp_next it) as (λ _. Option Moved) [ None ↦ None | Some came ↦ Some (moved_by m stamp_next (prepared m.local).raises came (stepped_by script (prepared m.local) came.label m.local)) ] ≡ Some moved
      → Going m.local moved.line moved.next
  by_asks moved Idle asked is = absurd (cc)
  by_asks moved Own asked is =
      goes_by (record { label = Inner; shared = m.shared; world = m.world }) (ends_come script m.local m.shared fine _ (whole script m.local m.shared fine _ (own_ends script (prepared m.local).doing (prepared m.local).state (prepares m.local fine.sound).call)))
      moved (the_move _ moved is)
  by_asks moved (Calls call) asked is =
      let step : Stepped = stepped m.shared call in
      let number = m.local.number in
      goes_by (record { label = Called call step.answer (mine_of number stamp_next step.sent); shared = after_call m.shared number stamp_next call step; world = m.world })
      (called_comes script m.local m.shared fine call stamp_next asked) moved (the_move _ moved is)
  by_asks moved (Strikes who) asked is =
      let won = strike_wins m.shared who in
      goes_by (record { label = Struck who won; shared = after_strike m.shared who won; world = m.world }) (struck_comes script m.local m.shared fine who asked won) moved (the_move _ moved is)
  by_asks moved (Mocks call) asked is =
      let it : OutsideStep = outside m.world call.texts call.serial call.call in
      let state : DomainState = (prepared m.local).state in
      goes_by (record { label = Mocked call it.answer it.texts; shared = m.shared; world = it.world })
      (ends_come script m.local m.shared fine (mocked_move (prepared m.local) it.answer it.texts) (whole script m.local m.shared fine (mocked_move (prepared m.local) it.answer it.texts)
      (λ k. mocked_ends (prepared m.local).doing state it.answer it.texts call asked (prepares m.local fine.sound).call k)))
      moved (the_move _ moved is)

pub move_goes : (script : Script) (m : Mock) (moved : Moved) → Fine m.local m.shared → move script m ≡ Some moved → Going m.local moved.line moved.next
unfolding move
move_goes script m moved fine is = by m.local.halted is
  where
    by : (halted : Bool) → elim halted as (λ _. Option Moved) [ true ↦ None | false ↦ move_by script m (prepared m.local) ] ≡ Some moved → Going m.local moved.line moved.next
    by true is = absurd (cc)
    by false is = by_asks script m fine moved (asks_by (prepared m.local)) refl is

-- ## Runs

-- what holds of the last state of at most n moves
record Lasts (m last : Mock) : Type 0 where
  fine : Fine last.local last.shared
  finished : (n : Tracked) → IsOver m.local.switches m.local.groups n → IsOver last.local.switches last.local.groups n

abbrev pub moves_from : Script → (n : ℕ) → Option Moved → List Moved
moves_from script n first = elim first as (λ _. List Moved) [ None ↦ [] | Some moved ↦ moved ∷ moves script n moved.next ]

lasts : (script : Script) (n : ℕ) (m : Mock) → Fine m.local m.shared → Lasts m (last_after m (moves script n m))
unfolding moves
lasts script zero m fine = record { fine = fine; finished = (λ n it. it) }
lasts script (suc n) m fine = by (move script m) refl (lasts script n)
  where
    by : (first : Option Moved) → move script m ≡ first → ((next : Mock) → Fine next.local next.shared → Lasts next (last_after next (moves script n next))) → Lasts m (last_after m (moves_from script n first))
    by None none rest = record { fine = fine; finished = (λ n it. it) }
    by (Some moved) is rest =
        let next : Going m.local moved.line moved.next = move_goes script m moved fine is in
        let more : Lasts moved.next (last_after moved.next (moves script n moved.next)) = rest moved.next next.fine in
        record { fine = more.fine; finished = (λ n it. more.finished n (next.finished n it)) }

pub last_fine : (script : Script) (n : ℕ) (m : Mock) → Fine m.local m.shared → let last : Mock = last_after m (moves script n m) in Fine last.local last.shared
last_fine script n m fine = (lasts script n m fine).fine

-- after n moves, one after which a scope is over, and any number of others
pub later_over : (script : Script) (n later : ℕ) (scope : Tracked) (m : Mock) → Fine m.local m.shared → (moved : Moved) → let before : Mock = last_after m (moves script n m) in move script before ≡ Some moved
    → (Fine before.local before.shared → IsOver moved.next.local.switches moved.next.local.groups scope)
    → let last : Mock = last_after m (moves script (n + 1 + later) m) in Sound [] (view last.local) × IsOver last.local.switches last.local.groups scope
unfolding moves
later_over script zero later scope m fine moved is over =
    let next : Going m.local moved.line moved.next = move_goes script m moved fine is in
    let rest : Lasts moved.next (last_after moved.next (moves script later moved.next)) = lasts script later moved.next next.fine in
    let result : Mock → Type 0 = λ last. Sound [] (view last.local) × IsOver last.local.switches last.local.groups scope in
    subst (λ (k : ℕ). result (last_after m (moves script k m))) (let e : suc later ≡ 0 + 1 + later = omega arith in e)
    (subst (λ (first : Option Moved). result (last_after m (moves_from script later first))) (sym is) (rest.fine.sound, rest.finished scope (over fine)))
later_over script (suc n) later scope m fine moved is over =
    subst (λ (k : ℕ). let last : Mock = last_after m (moves script k m) in Sound [] (view last.local) × IsOver last.local.switches last.local.groups scope) (let e : suc (n + 1 + later) ≡ suc n + 1 + later = omega arith in e)
    (by (move script m) refl is over (λ next. later_over script n later scope next))
  where
    by : (first : Option Moved) → move script m ≡ first → let before : Mock = last_after m (moves_from script n first) in move script before ≡ Some moved
        → (Fine before.local before.shared → IsOver moved.next.local.switches moved.next.local.groups scope)
        → ((next : Mock) → Fine next.local next.shared → (moved : Moved) → let before : Mock = last_after next (moves script n next) in move script before ≡ Some moved
        → (Fine before.local before.shared → IsOver moved.next.local.switches moved.next.local.groups scope)
        → let last : Mock = last_after next (moves script (n + 1 + later) next) in Sound [] (view last.local) × IsOver last.local.switches last.local.groups scope)
        → let last : Mock = last_after m (moves_from script (n + 1 + later) first) in Sound [] (view last.local) × IsOver last.local.switches last.local.groups scope
    by None none is over rest = absurd (let e : ◌≡◌ {A = Option Moved} None (Some moved) = sym none ∙ is in cc)
    by (Some made) first is over rest = rest made.next (move_goes script m made fine first).fine moved is over

-- ## Where a run opens

pub opening_rows : (P : Queued → Type 0) (most : ℕ) (declarations : List Declaration) → Every (RowOf P) (map (declared_row most) declarations) × ((key : Key) (g : ℕ) → in_rows key g (map (declared_row most) declarations) ≡ 0)
opening_rows P most [] = (tt, λ key g. refl)
opening_rows P most (it ∷ others) = by it (opening_rows P most others)
  where
    by : (it : Declaration) → Every (RowOf P) (map (declared_row most) others) × ((key : Key) (g : ℕ) → in_rows key g (map (declared_row most) others) ≡ 0)
        → Every (RowOf P) (declared_row most it ∷ map (declared_row most) others) × ((key : Key) (g : ℕ) → in_rows key g (declared_row most it ∷ map (declared_row most) others) ≡ 0)
    by (declared.Stream capacity) rest = (((tt, tt), rest.0), λ key g. omega (arith, rest.1 key g))
    by declared.Promise rest = (((tt, tt), rest.0), λ key g. omega (arith, rest.1 key g))
    by (declared.Semaphore count) rest = (((tt, tt), rest.0), λ key g. omega (arith, rest.1 key g))
    by declared.Mutex rest = (((tt, tt), rest.0), λ key g. omega (arith, rest.1 key g))
    by (declared.Pool size) rest = (((tt, tt), rest.0), λ key g. omega (arith, rest.1 key g))
    by (declared.Executor workers) rest = (((tt, tt), rest.0), λ key g. omega (arith, rest.1 key g))
    by (declared.Flow steps) rest = (((tt, tt), rest.0), λ key g. omega (arith, rest.1 key g))
    by (declared.Dir items) rest = (((tt, tt), rest.0), λ key g. omega (arith, rest.1 key g))

pub opening_fine : (script : Script) → Fine (opening script).local (opening script).shared
opening_fine script =
    let rows = opening_rows (Stood (view (opening script).local)) (most_jobs script) script.declarations in
    record { sound = opening_sound 0 (opening_texts script) (first_body script.bodies); held = record { stand = rows.0; once = (λ g. omega (arith, rows.1 fiber_of g)) } }

pub leaves_nothing_in_runs : LeavesNothingInRuns
unfolding run
leaves_nothing_in_runs script n later switch moved is answers =
    let last : Mock = last_after (opening script) (moves script (n + 1 + later) (opening script)) in
    let before : Mock = last_after (opening script) (moves script n (opening script)) in
    let at_end = later_over script n later (OnSwitch switch) (opening script) (opening_fine script) moved is (λ fine. (move_goes script before moved fine is).closes switch (answers_closed switch moved.line answers)) in
    none_is_left switch last.local at_end.0 at_end.1
