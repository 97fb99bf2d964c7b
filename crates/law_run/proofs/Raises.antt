-- One move: what it raises. The silent statements before its call raise at most one exception that stays, and the rest of the move at most one more.
use Rattle.std.proofs.Common.{◌≡◌, ℕ, ◌+◌, ◌⊎◌, inl, inr, Bool, true, false, List, [], ◌∷◌, ◌++◌, Option, Some, None, refl, sym, ap, ◌∙◌, subst, true≢false}
use Rattle.std.specs.Prelude.{is_some}
use Rattle.std.proofs.lemmas.List.Elements.{All-append}
use Rattle.eio_value.specs.declared.call.Answer.{Answer}
use Rattle.eio_value.specs.declared.call.Answer.TheVariants as answer
use Rattle.eio_value.specs.declared.call.Call.{Call}
use Rattle.eio_value.specs.declared.call.Call.TheVariants as call
use Rattle.eio_value.specs.declared.message.Message.{Message}
use Rattle.eio_value.specs.declared.message.Waiter.{Waiter}
use Rattle.eio_value.specs.declared.mock_call.MockCall.{MockCall}
use Rattle.eio_value.specs.declared.mock_call.MockCall.TheVariants as mock
use Rattle.eio_value.specs.declared.plain.Member.{Member}
use Rattle.eio_value.specs.declared.plain.Plain.TheVariants.{Poisoned}
use Rattle.eio_value.specs.declared.raised.Raised.{Raised}
use Rattle.eio_value.specs.declared.raised.Raised.TheVariants.{One}
use Rattle.spec_parts.specs.Data.{Mutex}
use Rattle.spec_parts.specs.declared.hold.Hold.TheVariants as hold
use Rattle.eio_value.specs.Sending.{Sent, Resumes, Starts}
use Rattle.spec_parts.specs.Row.{Stepped}
use Rattle.spec_script.specs.Scripts.{Script}
use Rattle.spec_fiber.specs.Asks.{Ask}
use Rattle.spec_machine.specs.Asking as asking
use Rattle.spec_machine.specs.Domain.{OnObject, Asleep, ForCancel, ForOthers, Resting, Standing, Ready, Parked, Ended, Owed, Strike, Wake, Start, Duty, DomainState, fiber_at, off_for, wait_of}
use Rattle.spec_machine.specs.DutyMoves as on_duties
use Rattle.spec_machine.specs.ObjectMoves.{did_ask, object_answered}
use Rattle.spec_machine.specs.Labels.{Asks, Own, Inner, Called, Struck, Mocked}
use Rattle.spec_machine.specs.Mock.{Mock, Came, Moved, comes, moved_by, move_by, move}
use Rattle.spec_machine.specs.Moves.{stepped_by, raises_by, with_message}
use Rattle.spec_machine.specs.Outside.{OutsideStep, outside}
use Rattle.spec_machine.specs.Preparing as doing
use Rattle.spec_machine.specs.Preparing.{Doing, Prepared, prepared}
use Rattle.spec_machine.specs.Shared.{SharedState, Asked, row_at, stepped, mine_of, after_call, strike_wins, after_strike}
use Rattle.spec_machine.specs.Steps.{Step, member, counted}
use Rattle.law_run.specs.Serials.{AreNumbered}
use Rattle.law_run.proofs.Places.{none, AllRaised, AllDid, AllReply, all_but, AllCall, AllMessage}
use Rattle.law_run.proofs.Settling.{BornIn, With}
use Rattle.law_run.proofs.Rows.{is_mutex, is_await, is_wake, raises_of, raise_of, InBrought, AllAnswer, Finds, StepIs, called_is}
use Rattle.law_run.proofs.Outside.{outside_is}
use Rattle.law_run.proofs.Standings.{DutyFits, Stands, all_single}
use Rattle.law_run.proofs.Raising.{StepKeeps, telling, more, new_stands, is_born, own_call_kept, tick_kept}
use Rattle.law_run.proofs.Answering.{ask_is, awaits, resolves, ResolvesNoMutex, IfDone, answered_kept, AllMine, received_stands, mock_answered_kept, carried_kept, strike_kept, own_strike_kept}
use Rattle.law_run.proofs.Preparing.{Prepares, DoingIs, prepared_prepares}
use Rattle.law_run.proofs.Sharing.{kinds_of, set_kinds, strike_kinds, ResolvesAt, OnThis, AskedBy, AsksNothing, AsksObject, AsksOutside, fiber_asks, resolves_no_mutex, is_woken, wakes_or_is_silent, RowIs, Shares, row_is, Sends, mine_is, call_shares, strike_shares}

pub shares_more : (P : Member → Type 0) (born : Option Member) (shared : SharedState) → Shares P shared → Shares (With P born) shared
shares_more P born shared h = (
  all_but (RowIs P) {Q = RowIs (With P born)} shared.rows (λ row all x i. more P born x (all x i)) h.0,
  λ receiver sender. all_but (AllMessage P) {Q = AllMessage (With P born)} (shared.posts receiver sender) (λ it all x i. more P born x (all x i)) (h.1 receiver sender),
)

-- the rest of a move, once it is prepared: the domain is l, these raises were made, and what is outside is still as in m
module _ (P : Member → Type 0) (kinds : ℕ → Bool) (script : Script) (m : Mock) (l : DomainState) (before : List Member) where
  -- an object that is meant to be no mutex is none, unless P holds of everything anyway
  abbrev pub Agrees : Type 0
  Agrees = (object : ℕ) → kinds object ≡ false → (kinds_of m.shared.rows object ≡ false) ⊎ ((x : Member) → P x)

  -- at most one exception is raised, and P holds of all others that stand there then or that the line tells
  pub record Ends (moved : Moved) : Type 0 where
    pub raises : List Member
    pub born : Option Member
    pub all : moved.raises ≡ before ++ raises
    pub range : BornIn l.serial raises moved.next.local.serial born
    pub stands : Stands (With P born) kinds moved.next.local.serial moved.next.local
    pub shares : Shares (With P born) moved.next.shared
    pub call : AllDid (With P born) moved.line.did
    pub reply : AllReply (With P born) moved.line.reply
    pub same_kinds : (n : ℕ) → kinds_of moved.next.shared.rows n ≡ kinds_of m.shared.rows n

  ends_with : (stamp : ℕ) (came : Came) (step : Step) → raises_by before came.label step ≡ before ++ step.raises → (kept : StepKeeps P kinds l.serial step) → Shares (With P kept.born) came.shared → ((n : ℕ) → kinds_of came.shared.rows n ≡ kinds_of m.shared.rows n)
      → Ends (moved_by m stamp before came step)
  ends_with stamp came step all kept shares same = record {
    raises = step.raises;
    born = kept.born;
    all = all;
    range = subst (λ t. BornIn l.serial step.raises t kept.born) (sym kept.stands.0) kept.range;
    stands = (refl, kept.stands.1, kept.stands.2, kept.stands.3, kept.stands.4);
    shares = shares;
    call = kept.call;
    reply = kept.reply;
    same_kinds = same;
  }

  -- nothing that is shared changes
  ends_alone : (stamp : ℕ) (came : Came) (step : Step) → raises_by before came.label step ≡ before ++ step.raises → came.shared ≡ m.shared → StepKeeps P kinds l.serial step → Shares P m.shared → Ends (moved_by m stamp before came step)
  ends_alone stamp came step all same kept shares =
      ends_with stamp came step all kept (subst (Shares (With P kept.born)) (sym same) (shares_more P kept.born m.shared shares)) (λ n. ap (λ (shared : SharedState). kinds_of shared.rows n) same)

  abbrev with_message_kept : (mine : Option Message) (step : Step) (kept : StepKeeps P kinds l.serial step) → AllMine (With P kept.born) kinds kept.to mine → StepKeeps P kinds l.serial (with_message script mine step)
  with_message_kept mine step kept all =
      record { born = kept.born; to = kept.to; range = kept.range; stands = received_stands (With P kept.born) kinds kept.to script mine step.state all kept.stands; call = kept.call; reply = kept.reply }

  -- ## Calls on objects

  abbrev step_of : Asked → Stepped
  step_of asked = stepped m.shared asked

  abbrev came_of : (stamp : ℕ) → Asked → Came
  came_of stamp asked = record {
    label = Called asked (step_of asked).answer (mine_of m.local.number stamp (step_of asked).sent);
    shared = after_call m.shared m.local.number stamp asked (step_of asked);
    world = m.world;
  }

  sends_more : (born : Option Member) (sent : Option Sent) → Sends P sent → Sends (With P born) sent
  sends_more born None all = tt
  sends_more born (Some (Starts start)) all = tt
  sends_more born (Some (Resumes who outcome)) all = λ x i. more P born x (all x i)

  -- by what is known of the object's step, and of the domain's before the message
  call_ends : (stamp : ℕ) (asked : Asked) (step : Step) (kept : StepKeeps P kinds l.serial step) → RowIs P (step_of asked).row → is_mutex (step_of asked).row.values ≡ kinds_of m.shared.rows asked.object
      → Sends (With P kept.born) (step_of asked).sent → Shares P m.shared
      → Ends (moved_by m stamp before (came_of stamp asked) (with_message script (mine_of m.local.number stamp (step_of asked).sent) step))
  call_ends stamp asked step kept row same sent shares =
      ends_with stamp (came_of stamp asked) (with_message script (mine_of m.local.number stamp (step_of asked).sent) step) refl
      (with_message_kept (mine_of m.local.number stamp (step_of asked).sent) step kept (mine_is (With P kept.born) kinds kept.to m.local.number stamp (step_of asked).sent sent))
      (call_shares (With P kept.born) m.shared m.local.number stamp asked (step_of asked) (λ x i. more P kept.born x (row x i)) sent (shares_more P kept.born m.shared shares))
      (set_kinds m.shared.rows asked.object (step_of asked).row same)

  -- ### Of a fiber

  finds_by : (A : Raised → Type 0) (asked : Ask) (object : ℕ) (it : Call) → OnThis asked object it → AllCall P asked → Shares P m.shared
      → (is_await it ≡ true → (raised : Raised) → AllRaised P raised → A raised) → (is_await it ≡ false → A (One (raise_of l.serial (row_at m.shared.rows object).values))) → Finds P A P (row_at m.shared.rows object).values l.serial it
  finds_by A asked object it on all shares old new = record {
    kept = row_is P m.shared.rows object shares.0;
    brought = (λ x i. all x (on.brings x i));
    awaited = old;
    answered = new;
    handed = (λ x i. i);
    woken = (λ wake is. absurd (true≢false (sym wake ∙ on.no_wake)));
  }

  abbrev asked_of : (g object : ℕ) → Call → Asked
  asked_of g object it = record { object = object; who = wait_of l g; off = is_some (off_for l g); serial = l.serial; call = it }

  abbrev step_at : (g object : ℕ) → Call → Stepped
  step_at g object it = step_of (asked_of g object it)

  all_answered : (asked : Ask) (g object : ℕ) (it : Call) → OnThis asked object it → AllCall P asked → Shares P m.shared → awaits asked ≡ true → AllAnswer P (AllRaised P) P (step_at g object it).answer
  all_answered asked g object it on all shares await =
      (called_is P (AllRaised P) P (row_at m.shared.rows object) (wait_of l g) (is_some (off_for l g)) l.serial it
      (finds_by (AllRaised P) asked object it on all shares (λ e raised old. old) (λ e. absurd (true≢false (sym await ∙ sym on.same_await ∙ e))))).answer

  new_answered : (asked : Ask) (g object : ℕ) (it : Call) → OnThis asked object it → AllCall P asked → Shares P m.shared → awaits asked ≡ false
      → AllAnswer P (λ raised. raised ≡ One (raise_of l.serial (row_at m.shared.rows object).values)) P (step_at g object it).answer
  new_answered asked g object it on all shares await =
      let A : Raised → Type 0 = λ raised. raised ≡ One (raise_of l.serial (row_at m.shared.rows object).values) in
      (called_is P A P (row_at m.shared.rows object) (wait_of l g) (is_some (off_for l g)) l.serial it
      (finds_by A asked object it on all shares (λ e. absurd (true≢false (sym e ∙ on.same_await ∙ await))) (λ e. refl))).answer

  silent_step : (asked : Ask) (g object : ℕ) (it : Call) → OnThis asked object it → AllCall P asked → Shares P m.shared
      → StepIs P (λ raised. Unit {0}) P (is_mutex (row_at m.shared.rows object).values) (step_at g object it)
  silent_step asked g object it on all shares =
      called_is P (λ raised. Unit {0}) P (row_at m.shared.rows object) (wait_of l g) (is_some (off_for l g)) l.serial it
      (finds_by (λ raised. Unit {0}) asked object it on all shares (λ e raised old. tt) (λ e. tt))

  -- a promise is no mutex where a wake of those that wait for it is owed then. So the kinds that are meant have to be those of the objects
  abbrev pub KindsAre : Type 0
  KindsAre = (object : ℕ) → kinds_of m.shared.rows object ≡ false → kinds object ≡ false

  done_fits : (asked : Ask) (g object : ℕ) (it : Call) → OnThis asked object it → KindsAre → (given : Answer) → (step_at g object it).answer ≡ given → IfDone P kinds l.serial given (ResolvesNoMutex P kinds l.serial (resolves asked))
  done_fits asked g object it on are (answer.Done given) done = by (resolves asked) on.resolving
    where
      by : (promise : Option ℕ) → ResolvesAt promise object it → ResolvesNoMutex P kinds l.serial promise
      by None on = tt
      by (Some promise) on =
          subst (λ n. kinds n ≡ false) (sym on.0)
          (are object (resolves_no_mutex (row_at m.shared.rows object).values (row_at m.shared.rows object).takers (row_at m.shared.rows object).adders (wait_of l g) (is_some (off_for l g)) l.serial it given on.1 done))
  done_fits asked g object it on are answer.Waits done = tt
  done_fits asked g object it on are answer.Off done = tt
  done_fits asked g object it on are answer.Nothing done = tt
  done_fits asked g object it on are (answer.Raised raised) done = tt
  done_fits asked g object it on are (answer.Woke who) done = tt
  done_fits asked g object it on are (answer.Started domain number) done = tt

  fiber_call_ends : (stamp : ℕ) (asked : Ask) (g object : ℕ) (it : Call) → OnThis asked object it → KindsAre → AllCall P asked → Stands P kinds l.serial l → Shares P m.shared
      → Ends (moved_by m stamp before (came_of stamp (asked_of g object it)) (stepped_by script (record { doing = doing.Calls g asked; state = l; raises = before }) (came_of stamp (asked_of g object it)).label m.local))
  fiber_call_ends stamp asked g object it on are all h shares =
      let kept : StepKeeps P kinds l.serial (object_answered asked (asked_of g object it) (step_at g object it).answer g l) =
      answered_kept P kinds l.serial asked (fiber_at l.fibers g).role (did_ask asked (fiber_at l.fibers g).role) (ask_is P kinds l.serial asked (fiber_at l.fibers g).role all) (asked_of g object it) (raises_of (row_at m.shared.rows object).values) (step_at g object it).answer g l all
      (all_answered asked g object it on all shares) (new_answered asked g object it on all shares) (done_fits asked g object it on are (step_at g object it).answer refl) h
      in
      let is : StepIs P (λ raised. Unit {0}) P (is_mutex (row_at m.shared.rows object).values) (step_at g object it) = silent_step asked g object it on all shares in
      call_ends stamp (asked_of g object it) (object_answered asked (asked_of g object it) (step_at g object it).answer g l) kept is.values is.same_kind (sends_more kept.born (step_at g object it).sent is.sent) shares

  -- ### Of an obligation

  -- the obligation stays
  stays_stands : (Q : Member → Type 0) (s : ℕ) (duty : Duty) (k : DomainState) → DutyFits Q kinds s duty → Stands Q kinds s k → Stands Q kinds s (on_duties.stays duty k)
  stays_stands Q s duty k fits h = (h.0, All-append (DutyFits Q kinds s) (duty ∷ []) k.duties (all_single (DutyFits Q kinds s) duty fits) h.1, h.2, h.3, h.4)

  duty_finds : (H : Member → Type 0) (object : ℕ) (it : Call) → ((x : Member) → InBrought x it → ⊥) → is_await it ≡ false → ((x : Member) → P x → H x)
      → (is_wake it ≡ true → is_mutex (row_at m.shared.rows object).values ≡ true → H (raise_of l.serial (Mutex hold.Poisoned))) → Shares P m.shared
      → Finds P (λ raised. Unit {0}) H (row_at m.shared.rows object).values l.serial it
  duty_finds H object it brings await hands wakes shares = record {
    kept = row_is P m.shared.rows object shares.0;
    brought = (λ x i. absurd (brings x i));
    awaited = (λ e raised old. tt);
    answered = (λ e. tt);
    handed = hands;
    woken = wakes;
  }

  abbrev mine_at : (stamp g object : ℕ) → Call → Option Message
  mine_at stamp g object it = mine_of m.local.number stamp (step_at g object it).sent

  silent_sends : (Q : Member → Type 0) (sent : Option Sent) → sent ≡ None → Sends Q sent
  silent_sends Q sent e = subst (Sends Q) (sym e) tt

  -- of those that wait for a promise
  promise_wake_ends : (stamp maker object : ℕ) → kinds object ≡ false → Agrees → Stands P kinds l.serial l → Shares P m.shared → (given : Answer)
      → Ends (moved_by m stamp before (came_of stamp (asked_of maker object (call.NextWake object)))
      (with_message script (mine_at stamp maker object (call.NextWake object)) (on_duties.wake_told (record { maker = maker; owed = Wake object false }) object false given l)))
  promise_wake_ends stamp maker object fits agrees h shares given =
      let is : StepIs P (λ raised. Unit {0}) P (is_mutex (row_at m.shared.rows object).values) (step_at maker object (call.NextWake object)) =
      called_is P (λ raised. Unit {0}) P (row_at m.shared.rows object) (wait_of l maker) (is_some (off_for l maker)) l.serial (call.NextWake object)
      (duty_finds P object (call.NextWake object) (λ x i. i) refl (λ x i. i) (λ wake kind. no_mutex (agrees object fits) kind) shares)
      in
      let kept : StepKeeps P kinds l.serial (on_duties.wake_told (record { maker = maker; owed = Wake object false }) object false given l) = told given in
      call_ends stamp (asked_of maker object (call.NextWake object)) _ kept is.values is.same_kind (sends_more kept.born (step_at maker object (call.NextWake object)).sent is.sent) shares
    where
      no_mutex : (kinds_of m.shared.rows object ≡ false) ⊎ ((x : Member) → P x) → is_mutex (row_at m.shared.rows object).values ≡ true → P (raise_of l.serial (Mutex hold.Poisoned))
      no_mutex (inl none) mutex = absurd (true≢false (sym mutex ∙ none))
      no_mutex (inr all) mutex = all (raise_of l.serial (Mutex hold.Poisoned))

      told : (given : Answer) → StepKeeps P kinds l.serial (on_duties.wake_told (record { maker = maker; owed = Wake object false }) object false given l)
      told (answer.Woke who) = telling P kinds l.serial _ refl (none P) (none P) (stays_stands P l.serial (record { maker = maker; owed = Wake object false }) l fits h)
      told other = telling P kinds l.serial _ refl (none P) (none P) h

  -- of those that wait for a poisoned mutex, of whom each has a raise of its own

  abbrev wake_step : (maker object : ℕ) → Stepped
  wake_step maker object = step_at maker object (call.NextWake object)

  abbrev mutex_told : (maker object : ℕ) → Answer → Step
  mutex_told maker object given = on_duties.wake_told (record { maker = maker; owed = Wake object true }) object true given l

  wake_is : (maker object : ℕ) → Shares P m.shared → StepIs P (λ raised. Unit {0}) (With P (Some (member Poisoned l))) (is_mutex (row_at m.shared.rows object).values) (wake_step maker object)
  wake_is maker object shares =
      called_is P (λ raised. Unit {0}) (With P (Some (member Poisoned l))) (row_at m.shared.rows object) (wait_of l maker) (is_some (off_for l maker)) l.serial (call.NextWake object)
      (duty_finds (With P (Some (member Poisoned l))) object (call.NextWake object) (λ x i. i) refl (λ x i. inl i) (λ wake kind. inr refl) shares)

  somebody_woken : (stamp maker object : ℕ) (who : Waiter) → Stands P kinds l.serial l → Shares P m.shared
      → Ends (moved_by m stamp before (came_of stamp (asked_of maker object (call.NextWake object))) (with_message script (mine_at stamp maker object (call.NextWake object)) (mutex_told maker object (answer.Woke who))))
  somebody_woken stamp maker object who h shares =
      let x : Member = member Poisoned l in
      let is : StepIs P (λ raised. Unit {0}) (With P (Some x)) (is_mutex (row_at m.shared.rows object).values) (wake_step maker object) = wake_is maker object shares in
      call_ends stamp (asked_of maker object (call.NextWake object)) (mutex_told maker object (answer.Woke who))
      (record {
        born = Some x;
        to = l.serial + 1;
        range = is_born P kinds l.serial Poisoned l h;
        stands = stays_stands (With P (Some x)) (l.serial + 1) (record { maker = maker; owed = Wake object true }) (counted l) tt (new_stands P kinds l.serial Poisoned l h);
        call = none (With P (Some x));
        reply = none (With P (Some x));
      })
      is.values is.same_kind is.sent shares

  nobody_woken : (stamp maker object : ℕ) (given : Answer) → (mutex_told maker object given).raises ≡ [] → AllDid P (mutex_told maker object given).did → AllReply P (mutex_told maker object given).reply → Stands P kinds l.serial (mutex_told maker object given).state → (wake_step maker object).sent ≡ None → Shares P m.shared
      → Ends (moved_by m stamp before (came_of stamp (asked_of maker object (call.NextWake object))) (with_message script (mine_at stamp maker object (call.NextWake object)) (mutex_told maker object given)))
  nobody_woken stamp maker object given quiet told reply h silent shares =
      let is : StepIs P (λ raised. Unit {0}) (With P (Some (member Poisoned l))) (is_mutex (row_at m.shared.rows object).values) (wake_step maker object) = wake_is maker object shares in
      call_ends stamp (asked_of maker object (call.NextWake object)) (mutex_told maker object given) (record { born = None; to = l.serial; range = (subst (λ raises. AreNumbered l.serial raises l.serial) (sym quiet) refl, tt); stands = h; call = told; reply = reply })
      is.values is.same_kind (silent_sends P (wake_step maker object).sent silent) shares

  mutex_wake_ends : (stamp maker object : ℕ) → Stands P kinds l.serial l → Shares P m.shared → (given : Answer) → (is_woken given ≡ false → (wake_step maker object).sent ≡ None)
      → Ends (moved_by m stamp before (came_of stamp (asked_of maker object (call.NextWake object))) (with_message script (mine_at stamp maker object (call.NextWake object)) (mutex_told maker object given)))
  mutex_wake_ends stamp maker object h shares (answer.Woke who) silent = somebody_woken stamp maker object who h shares
  mutex_wake_ends stamp maker object h shares given silent = nobody_woken stamp maker object given refl (none P) (none P) h (silent refl) shares

  start_ends : (stamp maker executor : ℕ) → Stands P kinds l.serial l → Shares P m.shared → (given : Answer)
      → Ends (moved_by m stamp before (came_of stamp (asked_of maker executor (call.NextStart executor)))
      (with_message script (mine_at stamp maker executor (call.NextStart executor)) (on_duties.start_told (record { maker = maker; owed = Start executor }) executor given l)))
  start_ends stamp maker executor h shares given =
      let is : StepIs P (λ raised. Unit {0}) P (is_mutex (row_at m.shared.rows executor).values) (step_at maker executor (call.NextStart executor)) =
      called_is P (λ raised. Unit {0}) P (row_at m.shared.rows executor) (wait_of l maker) (is_some (off_for l maker)) l.serial (call.NextStart executor)
      (duty_finds P executor (call.NextStart executor) (λ x i. i) refl (λ x i. i) (λ wake kind. absurd (true≢false (sym wake))) shares)
      in
      let kept : StepKeeps P kinds l.serial (on_duties.start_told (record { maker = maker; owed = Start executor }) executor given l) = told given in
      call_ends stamp (asked_of maker executor (call.NextStart executor)) (on_duties.start_told (record { maker = maker; owed = Start executor }) executor given l) kept is.values is.same_kind
      (sends_more kept.born (step_at maker executor (call.NextStart executor)).sent is.sent) shares
    where
      told : (given : Answer) → StepKeeps P kinds l.serial (on_duties.start_told (record { maker = maker; owed = Start executor }) executor given l)
      told (answer.Started domain number) = telling P kinds l.serial _ refl (none P) (none P) (stays_stands P l.serial (record { maker = maker; owed = Start executor }) l tt h)
      told other = telling P kinds l.serial _ refl (none P) (none P) h

  -- ## The whole move

  abbrev own_came : Came
  own_came = record { label = Inner; shared = m.shared; world = m.world }

  abbrev mock_came : MockCall → Came
  mock_came it =
      let step : OutsideStep = outside m.world l.texts l.serial it in
      record { label = Mocked (record { call = it; texts = l.texts; serial = l.serial }) step.answer step.texts; shared = m.shared; world = step.world }

  abbrev pub EndsIf : Option Moved → Type 0
  EndsIf None = Unit {0}
  EndsIf (Some moved) = Ends moved

  abbrev moved_if : Prepared → Asks → Option Moved
  moved_if it asks = elim (comes m (m.local.stamp + 1) asks) [ None ↦ None | Some came ↦ Some (moved_by m (m.local.stamp + 1) it.raises came (stepped_by script it came.label m.local)) ]

  abbrev strike_of : (maker g : ℕ) → Prepared
  strike_of maker g = record { doing = doing.Owes (record { maker = maker; owed = Strike g }); state = l; raises = before }

  own_strike_ends : (maker g : ℕ) → Stands P kinds l.serial l → Shares P m.shared → EndsIf (moved_if (strike_of maker g) Own)
  own_strike_ends maker g h shares = ends_alone (m.local.stamp + 1) own_came _ refl refl (own_strike_kept P kinds l.serial (record { maker = maker; owed = Strike g }) g (fiber_at l.fibers g).standing l h) shares

  strike_ends : (maker g : ℕ) (standing : Standing) → Stands P kinds l.serial l → Shares P m.shared → EndsIf (moved_if (strike_of maker g) (asking.strike_on standing))
  strike_ends maker g (Parked (OnObject who)) h shares =
      let won : Bool = strike_wins m.shared who in
      let kept : StepKeeps P kinds l.serial (on_duties.strike_told (record { maker = maker; owed = Strike g }) g won l) = strike_kept P kinds l.serial (record { maker = maker; owed = Strike g }) g won l h in
      ends_with (m.local.stamp + 1) (record { label = Struck who won; shared = after_strike m.shared who won; world = m.world }) _ refl kept
      (strike_shares (With P kept.born) m.shared who won (shares_more P kept.born m.shared shares)) (strike_kinds m.shared who won)
  strike_ends maker g (Parked Asleep) h shares = own_strike_ends maker g h shares
  strike_ends maker g (Parked ForCancel) h shares = own_strike_ends maker g h shares
  strike_ends maker g (Parked (ForOthers asked)) h shares = own_strike_ends maker g h shares
  strike_ends maker g (Parked Resting) h shares = own_strike_ends maker g h shares
  strike_ends maker g (Ready next) h shares = own_strike_ends maker g h shares
  strike_ends maker g (Ended result) h shares = own_strike_ends maker g h shares

  owed_ends : (maker : ℕ) (owed : Owed) → DutyFits P kinds l.serial (record { maker = maker; owed = owed }) → Agrees → Stands P kinds l.serial l → Shares P m.shared
      → EndsIf (move_by script m (record { doing = doing.Owes (record { maker = maker; owed = owed }); state = l; raises = before }))
  owed_ends maker (Strike g) fits agrees h shares = strike_ends maker g (fiber_at l.fibers g).standing h shares
  owed_ends maker (Wake object false) fits agrees h shares = promise_wake_ends (m.local.stamp + 1) maker object fits agrees h shares (wake_step maker object).answer
  owed_ends maker (Wake object true) fits agrees h shares =
      mutex_wake_ends (m.local.stamp + 1) maker object h shares (wake_step maker object).answer
      (wakes_or_is_silent (row_at m.shared.rows object).values (row_at m.shared.rows object).takers (row_at m.shared.rows object).adders (wait_of l maker) (is_some (off_for l maker)) l.serial object)
  owed_ends maker (Start executor) fits agrees h shares = by (asking.is_full_for_one l)
    where
      by : (full : Bool) → EndsIf (moved_if (record { doing = doing.Owes (record { maker = maker; owed = Start executor }); state = l; raises = before }) (elim full [ true ↦ Own | false ↦ asking.calls l maker executor (call.NextStart executor) ]))
      by true = ends_alone (m.local.stamp + 1) own_came (on_duties.own_duty (record { maker = maker; owed = Start executor }) l) refl refl (telling P kinds l.serial (on_duties.own_duty (record { maker = maker; owed = Start executor }) l) refl (none P) (none P) h) shares
      by false = start_ends (m.local.stamp + 1) maker executor h shares (step_at maker executor (call.NextStart executor)).answer

  fiber_ends : (asked : Ask) (g : ℕ) → AllCall P asked → KindsAre → Stands P kinds l.serial l → Shares P m.shared → EndsIf (move_by script m (record { doing = doing.Calls g asked; state = l; raises = before }))
  fiber_ends asked g all are h shares = by (asking.asks_for asked g l) (fiber_asks asked g l)
    where
      by : (asks : Asks) → AskedBy asked g l asks → EndsIf (moved_if (record { doing = doing.Calls g asked; state = l; raises = before }) asks)
      by asks (AsksNothing is) = subst (λ a. EndsIf (moved_if (record { doing = doing.Calls g asked; state = l; raises = before }) a)) (sym is) (ends_alone (m.local.stamp + 1) own_came _ refl refl (own_call_kept P kinds l.serial script asked g l all h) shares)
      by asks (AsksObject object it is on) =
          subst (λ a. EndsIf (moved_if (record { doing = doing.Calls g asked; state = l; raises = before }) a)) (sym is) (fiber_call_ends (m.local.stamp + 1) asked g object it on are all h shares)
      by asks (AsksOutside it is) =
          let step : OutsideStep = outside m.world l.texts l.serial it in
          subst (λ a. EndsIf (moved_if (record { doing = doing.Calls g asked; state = l; raises = before }) a)) (sym is)
          (ends_alone (m.local.stamp + 1) (mock_came it) _ refl refl (mock_answered_kept P kinds l.serial asked step.answer g (record l { texts = step.texts }) all (outside_is m.world l.texts l.serial it) h) shares)

  pub doing_ends : (d : Doing) → DoingIs P kinds l.serial None d → KindsAre → Agrees → Stands P kinds l.serial l → Shares P m.shared → EndsIf (move_by script m (record { doing = d; state = l; raises = before }))
  doing_ends doing.Rests is are agrees h shares = tt
  doing_ends (doing.Owes duty) is are agrees h shares = owed_ends duty.maker duty.owed is agrees h shares
  doing_ends (doing.Calls g asked) is are agrees h shares = fiber_ends asked g is are h shares
  doing_ends (doing.Carries g writer) is are agrees h shares =
      let step : OutsideStep = outside m.world l.texts l.serial (mock.Carry writer) in
      ends_alone (m.local.stamp + 1) (mock_came (mock.Carry writer)) _ refl refl (carried_kept P kinds l.serial writer step.answer g (record l { texts = step.texts }) h) shares
  doing_ends doing.Ticks is are agrees h shares = ends_alone (m.local.stamp + 1) own_came _ refl refl (tick_kept P kinds l.serial l h) shares

-- ## Both parts

module _ (P : Member → Type 0) (kinds : ℕ → Bool) (script : Script) (m : Mock) where
  -- at most two exceptions are raised, one after the other, and P holds of all others that stand there then or that the line tells
  pub record Raises (moved : Moved) : Type 0 where
    pub first : Option Member
    pub second : Option Member
    pub middle : ℕ
    pub before : List Member
    pub behind : List Member
    pub all : moved.raises ≡ before ++ behind
    pub first_range : BornIn m.local.serial before middle first
    pub second_range : BornIn middle behind moved.next.local.serial second
    pub stands : Stands (With (With P first) second) kinds moved.next.local.serial moved.next.local
    pub shares : Shares (With (With P first) second) moved.next.shared
    pub call : AllDid (With (With P first) second) moved.line.did
    pub reply : AllReply (With (With P first) second) moved.line.reply
    pub same_kinds : (n : ℕ) → kinds_of moved.next.shared.rows n ≡ kinds_of m.shared.rows n

  abbrev RaisesIf : Option Moved → Type 0
  RaisesIf None = Unit {0}
  RaisesIf (Some moved) = Raises moved

  doing_is : (born : Option Member) (from to : ℕ) (d : Doing) → DoingIs P kinds from born d → DoingIs (With P born) kinds to None d
  doing_is born from to doing.Rests is = tt
  doing_is born from to (doing.Owes duty) is = is
  doing_is born from to (doing.Calls g asked) is = is
  doing_is born from to (doing.Carries g writer) is = tt
  doing_is born from to doing.Ticks is = tt

  both_parts : (it : Prepared) (prepares : Prepares P kinds m.local.serial it) (next : Option Moved) → EndsIf (With P prepares.born) kinds script m it.state it.raises next → RaisesIf next
  both_parts it prepares None ends = tt
  both_parts it prepares (Some moved) ends = record {
    first = prepares.born;
    second = ends.born;
    middle = it.state.serial;
    before = it.raises;
    behind = ends.raises;
    all = ends.all;
    first_range = prepares.range;
    second_range = ends.range;
    stands = ends.stands;
    shares = ends.shares;
    call = ends.call;
    reply = ends.reply;
    same_kinds = ends.same_kinds;
  }

  prepared_raises : (it : Prepared) → Prepares P kinds m.local.serial it → KindsAre P kinds script m it.state it.raises → Agrees P kinds script m it.state it.raises → Shares P m.shared → RaisesIf (move_by script m it)
  prepared_raises it prepares are agrees shares =
      both_parts it prepares (move_by script m it)
      (doing_ends (With P prepares.born) kinds script m it.state it.raises it.doing (doing_is prepares.born m.local.serial it.state.serial it.doing prepares.doing) are
      (λ object fits. agree_more (agrees object fits)) prepares.stands (shares_more P prepares.born m.shared shares))
    where
      agree_more : {X : Type 0} → X ⊎ ((x : Member) → P x) → X ⊎ ((x : Member) → With P prepares.born x)
      agree_more (inl is) = inl is
      agree_more (inr all) = inr (λ x. more P prepares.born x (all x))

  pub move_raises : KindsAre P kinds script m m.local [] → Agrees P kinds script m m.local [] → Stands P kinds m.local.serial m.local → Shares P m.shared → (moved : Moved) → move script m ≡ Some moved → Raises moved
  unfolding move
  move_raises are agrees h shares moved is = subst RaisesIf is (by m.local.halted)
    where
      by : (halted : Bool) → RaisesIf (elim halted [ true ↦ None | false ↦ move_by script m (prepared m.local) ])
      by true = tt
      by false = prepared_raises (prepared m.local) (prepared_prepares P kinds m.local.serial m.local refl h) are agrees shares
