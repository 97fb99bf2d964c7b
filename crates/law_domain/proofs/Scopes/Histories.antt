-- Legal histories of several domains: a message that resumes a fiber was sent to one that waits, and comes once. So the law of runs of a domain holds of each domain.
use Rattle.std.proofs.Common.{◌≡◌, ℕ, zero, suc, ◌+◌, ◌≤◌, ◌<◌, ◌==◌, Bool, true, false, List, [], ◌∷◌, ◌++◌, length, Option, Some, None, refl, sym, ap, ◌∙◌, subst, arith, slice_get, eq-eqb}
use Rattle.std.proofs.lemmas.Bool.{both_ways, eqb-true}
use Rattle.eio_value.specs.declared.call.Answer.{Answer}
use Rattle.eio_value.specs.declared.call.Answer.TheVariants as answer
use Rattle.eio_value.specs.declared.message.Message.{Message}
use Rattle.eio_value.specs.declared.message.Message.TheVariants as message
use Rattle.eio_value.specs.declared.message.Waiter.{Waiter}
use Rattle.eio_value.specs.declared.raised.Outcome.{Outcome}
use Rattle.eio_value.specs.declared.value.Value.{Value}
use Rattle.eio_value.specs.declared.value.Value.TheVariants as value
use Rattle.eio_value.specs.Sending.{Sent, Resumes, Starts}
use Rattle.spec_parts.specs.Objects as objects
use Rattle.spec_parts.specs.Row.{Queued, Stepped}
use Rattle.spec_script.specs.Scripts.{Script}
use Rattle.trace_lines.specs.declared.line.Did.TheVariants as did
use Rattle.trace_lines.specs.declared.line.Said2.TheVariants as said
use Rattle.spec_machine.specs.Asking.{asks_by, is_full_for_one}
use Rattle.spec_machine.specs.Domain.{GoesOn, OnObject, Parked, DomainState}
use Rattle.spec_machine.specs.EndMoves as on_ends
use Rattle.spec_machine.specs.Labels.{Calls, Strikes, Label, Inner, Called, Struck, Mocked, Took}
use Rattle.spec_machine.specs.Moves.{asks, after, line_of, called_move, struck_move, with_message, stepped_by, own_move}
use Rattle.spec_machine.specs.Preparing.{Doing, at_once, prepared}
use Rattle.spec_machine.specs.Runs.{Letter, Noted, domain_of, stamp_of, Fits, DomainMoves, SharedMoves, put}
use Rattle.spec_machine.specs.Shared.{SharedState, Decided, Asked, row_at, stepped, message_of, receiver_of, mine_of, posted, after_call, strike_wins, after_strike, after_take}
use Rattle.spec_machine.specs.Steps as steps
use Rattle.spec_machine.specs.Steps.{Step}
use Rattle.law_domain.specs.Scopes.Finished.{WaitsOnObject, ResumesWaiting, message_in}
use Rattle.law_domain.proofs.Scopes.Counts.{times, Compared, Same, Other, compared, one, one_self}
use Rattle.law_domain.proofs.Scopes.Scopes.{View, view, standing_at, Sound, Tracked, OnSwitch, IsOver}
use Rattle.law_domain.proofs.Scopes.Standings.{let_go}
use Rattle.law_domain.proofs.Scopes.Calls.{Ends, after_does}
use Rattle.law_domain.proofs.Scopes.Moves.{hand_of, view_of, forgotten, Prepares, prepares, job_leads, own_ends, called_ends}
use Rattle.law_domain.proofs.Scopes.Objects.{Every, RowOf, Key, in_row, in_rows, Fewer, WakesNobody, RowSteps, Left, Enters, Woke, row_steps, at_all, IsThere, found_in_rows}
use Rattle.law_domain.proofs.Scopes.Mocked.{ready_isnt_parked, Caller, ByFiber, ByDuty, caller, never_waits, parks_then, resumed_stay, Striking, striking}
use Rattle.law_domain.proofs.Scopes.Waiting.{key_of, key_is, resumed, Locals, StoodIn, SentIn, Waits, PutAt, Put, Remains, put_at, Stay, StayAll, waits_on, waits_freed, PostedAt, Posts, Stands, posted_at, quiet_waits, entered_waits, woken_gone, woken_unsent, woken_waits, StruckThen, struck_then, it_is_sent, took_waits, took_gone, took_unsent}
use Rattle.trace_lines.specs.declared.line.Line.{Line}
use Rattle.spec_machine.specs.Histories.{domain_at_first, shared_at_first, state_at_first}
use Rattle.spec_machine.specs.Mock.{most_jobs}
use Rattle.spec_machine.specs.Runs.{State, Legal, Moves as MovesAll, key_of as key_of_line}
use Rattle.law_domain.specs.Scopes.Finished.{Answers, Moves, LeavesNothingInHistories}
use Rattle.law_domain.specs.Scopes.Released.{Seen, seen_at, ReleasesOnceInHistories}
use Rattle.law_domain.proofs.Scopes.Mocked.{opening_rows}
use Rattle.law_domain.proofs.Scopes.Released.{prepared_same, Linked, turned, released, first_empty}
use Rattle.law_domain.proofs.Scopes.Runs.{moved, first_sound, answers_closed, none_is_left}

-- ## Moves of one domain

-- whoever is to be resumed waits
sent_waits : (locals : Locals) (decided : List Decided) (d g : ℕ) (list : List Message) → Every (SentIn locals decided d) list → 0 < times g (resumed list) → WaitsOnObject (standing_at (view (locals d)) g)
sent_waits locals decided d g [] h some = absurd (omega (arith, some))
sent_waits locals decided d g (message.Start job number stamp ∷ others) h some = sent_waits locals decided d g others h.1 some
sent_waits locals decided d g (message.Resume who result stamp ∷ others) h some = by (compared g who.fiber) (sent_waits locals decided d g others h.1)
  where
    by : Compared g who.fiber → (0 < times g (resumed others) → WaitsOnObject (standing_at (view (locals d)) g)) → WaitsOnObject (standing_at (view (locals d)) g)
    by (Same same is_one) rest = (who, subst (λ (x : ℕ). standing_at (view (locals d)) x ≡ Parked (OnObject who)) (sym same) h.0.0)
    by (Other differs zero_) rest = rest (omega (arith, some, zero_))

abbrev WaitsFor : View → ℕ → Waiter → Type 0
WaitsFor v x who = standing_at v x ≡ Parked (OnObject who)

module _ (locals : Locals) (d : ℕ) where
  put_here : (k : DomainState) → put d k locals d ≡ k
  put_here k = by (put_at d k locals d)
    where
      by : PutAt d k locals d → put d k locals d ≡ k
      by (Put same is) = is
      by (Remains differs is) = absurd (differs refl)

  stay_by : (k : DomainState) → ((x : ℕ) (who : Waiter) → WaitsFor (view (locals d)) x who → WaitsFor (view k) x who) → StayAll locals (put d k locals)
  stay_by k waits e x who is = by (put_at d k locals e)
    where
      by : PutAt d k locals e → WaitsFor (view (put d k locals e)) x who
      by (Put same at) = subst (λ (m : DomainState). WaitsFor (view m) x who) (sym at) (waits x who (subst (λ (f : ℕ). WaitsFor (view (locals f)) x who) (sym same) is))
      by (Remains differs at) = subst (λ (m : DomainState). WaitsFor (view m) x who) (sym at) is

  stay_but : (g : ℕ) (k : DomainState) → ((x : ℕ) (who : Waiter) → (x ≡ g → ⊥) → WaitsFor (view (locals d)) x who → WaitsFor (view k) x who) → Stay d g locals (put d k locals)
  stay_but g k waits e x who differs is = by (put_at d k locals e)
    where
      by : PutAt d k locals e → WaitsFor (view (put d k locals e)) x who
      by (Put same at) = subst (λ (m : DomainState). WaitsFor (view m) x who) (sym at) (waits x who (λ equal. differs (sym same, equal)) (subst (λ (f : ℕ). WaitsFor (view (locals f)) x who) (sym same) is))
      by (Remains other at) = subst (λ (m : DomainState). WaitsFor (view m) x who) (sym at) is

  -- the domain that was put is put again
  again_by : (first second : DomainState) (e : ℕ) → put d second (put d first locals) e ≡ put d second locals e
  again_by first second e = by (put_at d second (put d first locals) e) (put_at d second locals e) (put_at d first locals e)
    where
      by : PutAt d second (put d first locals) e → PutAt d second locals e → PutAt d first locals e → put d second (put d first locals) e ≡ put d second locals e
      by (Put same is) (Put same' is') any = is ∙ sym is'
      by (Put same is) (Remains differs is') any = absurd (differs same)
      by (Remains differs is) (Put same' is') any = absurd (differs same')
      by (Remains differs is) (Remains differs' is') (Put same at) = absurd (differs same)
      by (Remains differs is) (Remains differs' is') (Remains other at) = is ∙ (at ∙ sym is')

-- the same domains at each number
waits_same : (first second : Locals) (s : SharedState) → ((e : ℕ) → first e ≡ second e) → Waits first s → Waits second s
waits_same first second s same w = waits_on first second s (λ e x who is. subst (λ (m : DomainState). WaitsFor (view m) x who) (same e) is) w

module _ (script : Script) (locals : Locals) (s : SharedState) (w : Waits locals s) (d : ℕ) (h : Sound [] (view (locals d))) where
  abbrev l : DomainState
  l = locals d

  abbrev begun : Prepares (view l) (prepared l)
  begun = prepares l h

  abbrev m : DomainState
  m = (prepared l).state

  -- what is shared then
  abbrev WaitsAt : View → SharedState → Type 0
  WaitsAt v t = (k : DomainState) → view k ≡ v → Waits (put d k locals) t

  -- nobody's wait has ended
  waits_at : (v : View) (t : SharedState) → ((x : ℕ) (who : Waiter) → WaitsFor (view l) x who → WaitsFor v x who) → Waits locals t → WaitsAt v t
  waits_at v t waits it k same = waits_on locals (put d k locals) t (stay_by locals d k (λ x who is. subst (λ (u : View). WaitsFor u x who) (sym same) (waits x who is))) it

  -- behind a first part of the move
  behind : (first : DomainState) (v : View) (t : SharedState) → ((k : DomainState) → view k ≡ v → Waits (put d k (put d first locals)) t) → WaitsAt v t
  behind first v t it k same = waits_same (put d k (put d first locals)) (put d k locals) t (again_by locals d first k) (it k same)

  -- from the first part on
  on_from : (first : DomainState) (v : View) (t : SharedState) → ((x : ℕ) (who : Waiter) → WaitsFor (view first) x who → WaitsFor v x who) → Waits (put d first locals) t → WaitsAt v t
  on_from first v t waits it = behind first v t (λ k same. (
      let after_own : Locals = put d first locals in
      waits_on after_own (put d k after_own) t (stay_by after_own d k (λ x who is. subst (λ (u : View). WaitsFor u x who) (sym same) (waits x who (subst (λ (n : DomainState). WaitsFor (view n) x who) (put_here locals d first) is)))) it))

  freed_from : (first : DomainState) (g : ℕ) (v : View) (t : SharedState) → ((x : ℕ) (who : Waiter) → (x ≡ g → ⊥) → WaitsFor (view first) x who → WaitsFor v x who)
      → in_rows (key_of d) (suc g) t.rows ≡ 0 → ((e : ℕ) → times g (resumed (t.posts d e)) ≡ 0) → Waits (put d first locals) t → WaitsAt v t
  freed_from first g v t waits none unsent it = behind first v t (λ k same. (
      let after_own : Locals = put d first locals in
      waits_freed d g after_own (put d k after_own) t
      (stay_but after_own d g k (λ x who differs is. subst (λ (u : View). WaitsFor u x who) (sym same) (waits x who differs (subst (λ (n : DomainState). WaitsFor (view n) x who) (put_here locals d first) is)))) none unsent it))

  first_waits : (k : DomainState) → ((x : ℕ) (who : Waiter) → WaitsFor (view l) x who → WaitsFor (view k) x who) → Waits (put d k locals) s
  first_waits k waits = waits_on locals (put d k locals) s (stay_by locals d k waits) w

  -- ## A strike

  struck_came : (who : Waiter) (won : Bool) → asks_by (prepared l) ≡ Strikes who → won ≡ strike_wins s who → WaitsAt (view (struck_move (prepared l) won).state) (after_strike s who won)
  struck_came who won is wins = by won wins
    where
      st : Striking (prepared l).doing m who
      st = striking (prepared l).doing m who is

      by : (won : Bool) → won ≡ strike_wins s who → WaitsAt (view (struck_move (prepared l) won).state) (after_strike s who won)
      by false lost = subst (λ (what : Doing). WaitsAt (view (struck_move (at_once what m) false).state) s) (sym st.is) (waits_at (view m) s begun.goes.waits w)
      by true wins =
          let after_own : Locals = put d m locals in
          let there : WaitsFor (view (after_own d)) st.fiber who = subst (λ (n : DomainState). WaitsFor (view n) st.fiber who) (sym (put_here locals d m)) st.waits in
          let struck_there : StruckThen after_own s who d st.fiber = struck_then after_own s who d st.fiber (first_waits m begun.goes.waits) there (sym wins) in
          subst (λ (what : Doing). WaitsAt (view (struck_move (at_once what m) true).state) (after_strike s who true)) (sym st.is)
          (freed_from m st.fiber _ (after_strike s who true) (resumed_stay _ st.fiber m) struck_there.gone struck_there.unsent struck_there.waits)

  -- ## A message

  took_came : (from place : ℕ) (it : Message) → slice_get (s.posts d from) place ≡ Some it → ResumesWaiting l (Some it) × WaitsAt (view (on_ends.takes script it l).state) (after_take s d from place)
  took_came from place (message.Resume who result stamp) is =
      let its : times who.fiber (resumed (message.Resume who result stamp ∷ [])) ≡ 1 = omega (arith, one_self who.fiber) in (
        (who, (it_is_sent locals s w d from place (message.Resume who result stamp) is).0),
        (λ k same. waits_freed d who.fiber locals (put d k locals) (after_take s d from place)
            (stay_but locals d who.fiber k (λ x other differs at. subst (λ (u : View). WaitsFor u x other) (sym same) (resumed_stay (GoesOn result) who.fiber l x other differs at)))
            (took_gone locals s w d from place (message.Resume who result stamp) is who.fiber its) (took_unsent locals s w d from place (message.Resume who result stamp) is who.fiber its) (took_waits locals s w d from place (message.Resume who result stamp) is)),
      )
  took_came from place (message.Start job number stamp) is = (tt, by (is_full_for_one l))
    where
      struck_there : Waits locals (after_take s d from place)
      struck_there = took_waits locals s w d from place (message.Start job number stamp) is

      by : (b : Bool) → WaitsAt (view (elim b as (λ _. Step) [
        | true ↦ steps.halts (length l.fibers) l
        | false ↦ steps.told (length l.fibers) (did.GotJob job.executor number) (said.Done value.Unit) (on_ends.received script (message.Start job number stamp) l)
      ]).state) (after_take s d from place)
      by true = waits_at (view l) (after_take s d from place) (λ x who is. is) struck_there
      by false = waits_at _ (after_take s d from place) (job_leads script job number l h).waits struck_there

  -- ## A call

  module _ (asked : Asked) (stamp : ℕ) (is : asks_by (prepared l) ≡ Calls asked) (numbered : l.number ≡ d) where
    abbrev came : Stepped
    came = stepped s asked

    abbrev own_step : Step
    own_step = called_move (prepared l) asked came.answer

    own : Ends (view l) own_step
    own = after_does (hand_of (prepared l).doing) (view l) (view_of (prepared l)) own_step begun.goes (called_ends (prepared l).doing m asked came.answer)

    abbrev after_own : Locals
    after_own = put d own_step.state locals

    w1 : Waits after_own s
    w1 = first_waits own_step.state own.goes.waits

    abbrev later : SharedState
    later = after_call s d stamp asked came

    abbrev CameBy : Option Message → Type 0
    CameBy mine = ResumesWaiting l mine × WaitsAt (view (with_message script mine own_step).state) later

    calm : (sent : Option Sent) → WakesNobody sent → Waits after_own later → CameBy (mine_of d stamp sent)
    calm None nobody it = (tt, on_from own_step.state (view own_step.state) later (λ x who at. at) it)
    calm (Some (Resumes who result)) nobody it = absurd nobody
    calm (Some (Starts start)) nobody it = by (receiver_of (Starts start) == d)
      where
        by : (b : Bool) → CameBy (elim b as (λ _. Option Message) [ true ↦ Some (message_of stamp (Starts start)) | false ↦ None ])
        by false = (tt, on_from own_step.state (view own_step.state) later (λ x who at. at) it)
        by true = (tt, on_from own_step.state _ later (job_leads script start.job start.number own_step.state own.goes.sound).waits it)

    woke : (q : Queued) (result : Outcome) → came.sent ≡ Some (Resumes q.who result) → StoodIn locals q → StoodIn after_own q → Fewer (row_at s.rows asked.object) came.row
        → ((key : Key) → in_row key (key q.who) came.row + 1 ≤ in_row key (key q.who) (row_at s.rows asked.object)) → CameBy (mine_of d stamp (Some (Resumes q.who result)))
    woke q result sent stood stood1 fewer less = by (q.who.domain == d) refl
      where
        it : Waits after_own later
        it = woken_waits after_own s w1 d stamp asked came q result sent stood1 fewer less

        by : (b : Bool) → (q.who.domain == d) ≡ b → CameBy (elim b as (λ _. Option Message) [ true ↦ Some (message_of stamp (Resumes q.who result)) | false ↦ None ])
        by false other = (tt, on_from own_step.state (view own_step.state) later (λ x who at. at) it)
        by true equal =
            let same : q.who.domain ≡ d = eqb-true q.who.domain d equal in
            let gone : in_rows (key_of d) (suc q.who.fiber) later.rows ≡ 0 = subst (λ (e : ℕ). in_rows (key_of e) (suc q.who.fiber) later.rows ≡ 0) same (woken_gone after_own s w1 d stamp asked came q result sent stood1 fewer less) in
            let old : (e : ℕ) → times q.who.fiber (resumed (s.posts d e)) ≡ 0 =
            λ e. subst (λ (x : ℕ). times q.who.fiber (resumed (s.posts x e)) ≡ 0) same (woken_unsent after_own s w1 d stamp asked came q result sent stood1 fewer less e) in (
              (q.who, subst (λ (e : ℕ). WaitsFor (view (locals e)) q.who.fiber q.who) same stood),
              freed_from own_step.state q.who.fiber _ later (resumed_stay (GoesOn result) q.who.fiber own_step.state) gone (λ e. unsent_by same e (old e)) it,
            )
          where
            stays_by : q.who.domain ≡ d → (e : ℕ) → PostedAt d stamp (Resumes q.who result) s.posts d e → posted d stamp (Some (Resumes q.who result)) s.posts d e ≡ s.posts d e
            stays_by same e (Stands at) = at
            stays_by same e (Posts other r f at) = absurd (other same)

            unsent_by : q.who.domain ≡ d → (e : ℕ) → times q.who.fiber (resumed (s.posts d e)) ≡ 0 → times q.who.fiber (resumed (later.posts d e)) ≡ 0
            unsent_by same e old =
                subst (λ (o : Option Sent). times q.who.fiber (resumed (posted d stamp o s.posts d e)) ≡ 0) (sym sent)
                (subst (λ (list : List Message). times q.who.fiber (resumed list) ≡ 0) (sym (stays_by same e (posted_at d stamp (Resumes q.who result) s.posts d e))) old)

    enters : came.answer ≡ answer.Waits → came.sent ≡ None
        → ((P : Queued → Type 0) → ((item : Value) (number : ℕ) → P (record { who = asked.who; item = item; number = number })) → RowOf P (row_at s.rows asked.object) → RowOf P came.row)
        → ((key : Key) (g : ℕ) → in_row key g came.row ≤ in_row key g (row_at s.rows asked.object) + one g (key asked.who)) → Waits after_own later
    enters waits sent all count = by (caller (prepared l).doing m asked is)
      where
        by : Caller (prepared l).doing m asked → Waits after_own later
        by (ByDuty next) = absurd (never_waits (row_at s.rows asked.object).values asked.serial asked.call (row_at s.rows asked.object) asked.who asked.off next waits)
        by (ByFiber g it what who) = entered_waits after_own s w1 d stamp asked came sent all count parked (none_by _ refl) (λ e. no_message_by e _ refl)
          where
            home : asked.who.domain ≡ d
            home = ap (λ (x : Waiter). x.domain) who ∙ ((prepared_same l).1 ∙ numbered)

            same : asked.who.fiber ≡ g
            same = ap (λ (x : Waiter). x.fiber) who

            in_hand : Sound (g ∷ []) (view m)
            in_hand = subst (λ (what : Doing). Sound (hand_of what) (view m)) what (forgotten (prepared l).doing m begun.goes.sound).sound

            parked_here : WaitsFor (view own_step.state) asked.who.fiber asked.who
            parked_here =
                subst (λ (a : Answer). WaitsFor (view (called_move (prepared l) asked a).state) asked.who.fiber asked.who) (sym waits)
                (subst (λ (what : Doing). WaitsFor (view (called_move (at_once what m) asked answer.Waits).state) asked.who.fiber asked.who) (sym what) (parks_then g it m asked same in_hand))

            parked : WaitsFor (view (after_own asked.who.domain)) asked.who.fiber asked.who
            parked = subst (λ (e : ℕ). WaitsFor (view (after_own e)) asked.who.fiber asked.who) (sym home) (subst (λ (n : DomainState). WaitsFor (view n) asked.who.fiber asked.who) (sym (put_here locals d own_step.state)) parked_here)

            -- the caller is ready, and so waits nowhere
            free : WaitsOnObject (standing_at (view l) asked.who.fiber) → ⊥
            free it = ready_isnt_parked (standing_at (view m) g) (let_go g [] (view m) in_hand).2 (subst (λ (x : ℕ). WaitsOnObject (standing_at (view m) x)) same (it.0, begun.goes.waits asked.who.fiber it.0 it.1))

            none_by : (n : ℕ) → in_rows (key_of asked.who.domain) (suc asked.who.fiber) s.rows ≡ n → n ≡ 0
            none_by zero e = refl
            none_by (suc n) e =
                let there : IsThere (StoodIn locals) (key_of asked.who.domain) (suc asked.who.fiber) = found_in_rows (StoodIn locals) (key_of asked.who.domain) (suc asked.who.fiber) s.rows w.stand (omega (arith, e)) in
                let keys = key_is asked.who.domain asked.who.fiber there.queued.who there.key_is in
                absurd (free (there.queued.who, subst (λ (x : ℕ). WaitsFor (view l) x there.queued.who) keys.1 (subst (λ (e : ℕ). WaitsFor (view (locals e)) there.queued.who.fiber there.queued.who) (keys.0 ∙ home) there.holds)))

            no_message_by : (e n : ℕ) → times asked.who.fiber (resumed (s.posts asked.who.domain e)) ≡ n → n ≡ 0
            no_message_by e zero is = refl
            no_message_by e (suc n) is =
                absurd (free (subst (λ (x : ℕ). WaitsOnObject (standing_at (view (locals x)) asked.who.fiber)) home
                (sent_waits locals s.decided asked.who.domain asked.who.fiber (s.posts asked.who.domain e) (w.sent asked.who.domain e) (omega (arith, is)))))

    called_came : CameBy (mine_of d stamp came.sent)
    called_came = by (row_steps (row_at s.rows asked.object) asked.who asked.off (objects.does (row_at s.rows asked.object).values asked.serial asked.call))
      where
        with_sent : (sent : Option Sent) → came.sent ≡ sent → CameBy (mine_of d stamp sent) → CameBy (mine_of d stamp came.sent)
        with_sent sent e it = subst (λ (o : Option Sent). CameBy (mine_of d stamp o)) (sym e) it

        by : RowSteps (row_at s.rows asked.object) asked.who came → CameBy (mine_of d stamp came.sent)
        by (Left fewer nobody) = calm came.sent nobody (quiet_waits after_own s w1 d stamp asked came fewer nobody)
        by (Enters waits sent all count) = with_sent None sent (calm None tt (enters waits sent all count))
        by (Woke q result sent there fewer less) =
            with_sent (Some (Resumes q.who result)) sent
            (woke q result sent (there (StoodIn locals) (at_all (StoodIn locals) s.rows asked.object w.stand)) (there (StoodIn after_own) (at_all (StoodIn after_own) s.rows asked.object w1.stand)) fewer less)

  -- ## Any move

  abbrev Comes : Label → SharedState → Type 0
  Comes label t = ResumesWaiting l (message_in label) × WaitsAt (view (stepped_by script (prepared l) label l).state) t

  comes_by : (label : Label) (stamp : ℕ) (away : Option Letter) (from : ℕ) (t : SharedState) → Fits l label → l.number ≡ d → SharedMoves s d stamp label away from t → Comes label t
  unfolding asks
  comes_by Inner stamp away from t fits numbered it =
      let own : Ends (view l) (own_move script (prepared l)) = after_does (hand_of (prepared l).doing) (view l) (view_of (prepared l)) (own_move script (prepared l)) begun.goes (own_ends script (prepared l).doing m begun.call) in
      subst (Comes Inner) (sym it.1) (tt, waits_at (view (own_move script (prepared l)).state) s own.goes.waits w)
  comes_by (Called asked given mine) stamp away from t fits numbered it =
      subst (Comes (Called asked given mine)) (sym it.5)
      (subst (λ (a : Answer). Comes (Called asked a mine) (after_call s d stamp asked (stepped s asked))) (sym it.0)
      (subst (λ (o : Option Message). Comes (Called asked (stepped s asked).answer o) (after_call s d stamp asked (stepped s asked))) (sym it.1) (called_came asked stamp fits numbered)))
  comes_by (Struck who won) stamp away from t fits numbered it = subst (Comes (Struck who won)) (sym it.2) (tt, struck_came who won fits it.1)
  comes_by (Mocked call given texts) stamp away from t fits numbered it = absurd it
  comes_by (Took message) stamp away from t fits numbered it = subst (Comes (Took message)) (sym it.4) (took_came from it.0 message it.1)

-- ## Legal runs

-- each domain is sound, and what they share too
pub record AllSound (locals : Locals) (s : SharedState) : Type 0 where
  pub sound : (e : ℕ) → Sound [] (view (locals e))
  pub waits : Waits locals s

-- what a move of a legal run is for the domain that makes it, and what it leaves
pub record MovesOn (script : Script) (locals : Locals) (x : Noted) (next : Locals) (t : SharedState) : Type 0 where
  pub moves : Moves script (locals (domain_of x)) x (next (domain_of x))
  pub all : AllSound next t
  pub others : (e : ℕ) → (domain_of x ≡ e → ⊥) → next e ≡ locals e

one_move : (script : Script) (locals : Locals) (s : SharedState) (x : Noted) (k : DomainState) (t : SharedState) → AllSound locals s → DomainMoves script (locals (domain_of x)) x k
    → SharedMoves s (domain_of x) (stamp_of x) x.label x.away x.from t → MovesOn script locals x (put (domain_of x) k locals) t
unfolding after line_of
one_move script locals s x k t all it shared = record {
  moves = subst (λ (m : DomainState). Moves script (locals d) x m) (sym (put_here locals d k)) own;
  all = record { sound = (λ e. sound_by e (put_at d k locals e)); waits = comes.1 k (ap view it.next) };
  others = (λ e differs. other_by e differs (put_at d k locals e));
}
  where
    d : ℕ
    d = domain_of x

    numbered : (locals d).number ≡ d
    numbered = sym (ap (λ (line : Line). line.domain) it.told)

    comes : ResumesWaiting (locals d) (message_in x.label) × ((m : DomainState) → view m ≡ view (stepped_by script (prepared (locals d)) x.label (locals d)).state → Waits (put d m locals) t)
    comes = comes_by script locals s all.waits d (all.sound d) x.label (stamp_of x) x.away x.from t it.fits numbered shared

    own : Moves script (locals d) x k
    own = record { moves = it; waited = comes.0 }

    sound_by : (e : ℕ) → PutAt d k locals e → Sound [] (view (put d k locals e))
    sound_by e (Put same at) = subst (λ (m : DomainState). Sound [] (view m)) (sym at) (moved script (locals d) x k own (all.sound d)).sound
    sound_by e (Remains differs at) = subst (λ (m : DomainState). Sound [] (view m)) (sym at) (all.sound e)

    other_by : (e : ℕ) → (d ≡ e → ⊥) → PutAt d k locals e → put d k locals e ≡ locals e
    other_by e differs (Put same at) = absurd (differs same)
    other_by e differs (Remains other at) = at

pub legal_move : (script : Script) (s t : State (DomainMoves script)) (x : Noted) → AllSound s.locals s.shared → MovesAll (DomainMoves script) s x t → MovesOn script s.locals x t.locals t.shared
legal_move script s t x all it = subst (λ (next : Locals). MovesOn script s.locals x next t.shared) (sym it.locals) (one_move script s.locals s.shared x it.next t.shared all it.steps it.shared)

-- a scope of a domain stays over
over_on : (script : Script) (n : Tracked) (d : ℕ) (s t : State (DomainMoves script)) (x : Noted) → AllSound s.locals s.shared → MovesOn script s.locals x t.locals t.shared → IsOver (s.locals d).switches (s.locals d).groups n
    → IsOver (t.locals d).switches (t.locals d).groups n
over_on script n d s t x all it over = by (domain_of x == d) refl
  where
    by : (b : Bool) → (domain_of x == d) ≡ b → IsOver (t.locals d).switches (t.locals d).groups n
    by true is =
        let same : domain_of x ≡ d = eqb-true (domain_of x) d is in
        subst (λ (e : ℕ). IsOver (t.locals e).switches (t.locals e).groups n) same
        ((moved script (s.locals (domain_of x)) x (t.locals (domain_of x)) it.moves (all.sound (domain_of x))).finished n (subst (λ (e : ℕ). IsOver (s.locals e).switches (s.locals e).groups n) (sym same) over))
    by false is = subst (λ (m : DomainState). IsOver m.switches m.groups n) (sym (it.others d (λ same. both_ways (domain_of x == d) is (eq-eqb (domain_of x) d same)))) over

pub over_stays : (script : Script) (n : Tracked) (d : ℕ) (last : ℕ × ℕ) (s : State (DomainMoves script)) (lines : List Noted) (u : State (DomainMoves script)) → AllSound s.locals s.shared → Legal (DomainMoves script) last s lines u
    → IsOver (s.locals d).switches (s.locals d).groups n → Sound [] (view (u.locals d)) × IsOver (u.locals d).switches (u.locals d).groups n
over_stays script n d last s [] u all same over = subst (λ (t : State (DomainMoves script)). Sound [] (view (t.locals d)) × IsOver (t.locals d).switches (t.locals d).groups n) same (all.sound d, over)
over_stays script n d last s (x ∷ lines) u all it over =
    let next : MovesOn script s.locals x it.0.locals it.0.shared = legal_move script s it.0 x all it.3 in
    over_stays script n d (key_of_line x) it.0 lines u next.all it.4 (over_on script n d s it.0 x all next over)

closes_then : (script : Script) (n : ℕ) (x : Noted) (before later_lines : List Noted) (last : ℕ × ℕ) (s u : State (DomainMoves script)) → AllSound s.locals s.shared → Legal (DomainMoves script) last s (before ++ x ∷ later_lines) u → Answers n x.line
    → Sound [] (view (u.locals (domain_of x))) × IsOver (u.locals (domain_of x)).switches (u.locals (domain_of x)).groups (OnSwitch n)
closes_then script n x [] later_lines last s u all it answers =
    let next : MovesOn script s.locals x it.0.locals it.0.shared = legal_move script s it.0 x all it.3 in
    over_stays script (OnSwitch n) (domain_of x) (key_of_line x) it.0 later_lines u next.all it.4
    ((moved script (s.locals (domain_of x)) x (it.0.locals (domain_of x)) next.moves (all.sound (domain_of x))).closes n (answers_closed n x.line answers))
closes_then script n x (y ∷ before) later_lines last s u all it answers = closes_then script n x before later_lines (key_of_line y) it.0 u (legal_move script s it.0 y all it.3).all it.4 answers

pub first_all : (script : Script) → AllSound (domain_at_first script) (shared_at_first script)
first_all script =
    let rows = opening_rows (StoodIn (domain_at_first script)) (most_jobs script) script.declarations in
    record {
      sound = first_sound script;
      waits = record { stand = rows.0; sent = (λ d e. tt); once = (λ d g e. omega (arith, rows.1 (key_of d) (suc g))); apart = (λ d g e f differs. omega arith) };
    }

pub leaves_nothing_in_histories : LeavesNothingInHistories
leaves_nothing_in_histories script before later_lines x n s it answers =
    let at_end = closes_then script n x before later_lines (0, 0) (state_at_first script) s (first_all script) it answers in
    none_is_left n (s.locals (domain_of x)) at_end.0 at_end.1

-- ## Release handlers

seen_linked : (script : Script) (n d : ℕ) (last : ℕ × ℕ) (s : State (DomainMoves script)) (lines : List Noted) (u : State (DomainMoves script)) (it : Legal (DomainMoves script) last s lines u) → AllSound s.locals s.shared
    → Linked script n (s.locals d) (seen_at script d last s lines u it) (u.locals d)
seen_linked script n d last s [] u same all = ap (λ (t : State (DomainMoves script)). t.locals d) same
seen_linked script n d last s (x ∷ lines) u it all =
    let next : MovesOn script s.locals x it.0.locals it.0.shared = legal_move script s it.0 x all it.3 in
    by (domain_of x == d) refl next (seen_linked script n d (key_of_line x) it.0 lines u it.4 next.all)
  where
    by : (b : Bool) → (domain_of x == d) ≡ b → MovesOn script s.locals x it.0.locals it.0.shared → Linked script n (it.0.locals d) (seen_at script d (key_of_line x) it.0 lines u it.4) (u.locals d)
        → Linked script n (s.locals d) (elim b as (λ _. List Seen) [
          | true ↦ record { before = s.locals (domain_of x); line = x.line; after = it.0.locals (domain_of x) } ∷ seen_at script d (key_of_line x) it.0 lines u it.4
          | false ↦ seen_at script d (key_of_line x) it.0 lines u it.4
        ]) (u.locals d)
    by true is next rest =
        let same : domain_of x ≡ d = eqb-true (domain_of x) d is in (
          ap s.locals same,
          turned script n (s.locals (domain_of x)) x (it.0.locals (domain_of x)) next.moves (all.sound (domain_of x)),
          subst (λ (e : ℕ). Linked script n (it.0.locals e) (seen_at script d (key_of_line x) it.0 lines u it.4) (u.locals d)) (sym same) rest,
        )
    by false is next rest =
        subst (λ (m : DomainState). Linked script n m (seen_at script d (key_of_line x) it.0 lines u it.4) (u.locals d)) (next.others d (λ same. both_ways (domain_of x == d) is (eq-eqb (domain_of x) d same))) rest

pub all_on : (script : Script) (last : ℕ × ℕ) (s : State (DomainMoves script)) (lines : List Noted) (u : State (DomainMoves script)) → Legal (DomainMoves script) last s lines u → AllSound s.locals s.shared → AllSound u.locals u.shared
all_on script last s [] u same all = subst (λ (t : State (DomainMoves script)). AllSound t.locals t.shared) same all
all_on script last s (x ∷ lines) u it all = all_on script (key_of_line x) it.0 lines u it.4 (legal_move script s it.0 x all it.3).all

pub releases_once_in_histories : ReleasesOnceInHistories
releases_once_in_histories script before x n s u it last answers =
    let d = domain_of x in
    let all : AllSound s.locals s.shared = all_on script (0, 0) (state_at_first script) before s it (first_all script) in
    let next : MovesOn script s.locals x u.locals u.shared = legal_move script s u x all last in
    released script n (domain_at_first script d) (seen_at script d (0, 0) (state_at_first script) before s it) (record { before = s.locals d; line = x.line; after = u.locals d }) (first_empty script d)
    (seen_linked script n d (0, 0) (state_at_first script) before s it (first_all script)) (turned script n (s.locals d) x (u.locals d) next.moves (all.sound d)) (answers_closed n x.line answers)
