-- What the parts of a move keep: the counter, and what holds of all exceptions that stand in a domain.
-- Beside it stands that a wake of a mutex is owed as one of a poisoned mutex, which makes the counter rise.
use Rattle.std.proofs.Common.{◌≡◌, ℕ, ◌-◌, ◌==◌, Bool, true, false, List, [], ◌∷◌, Option, Some, None, sym, subst}
use Rattle.std.specs.List.{All}
use Rattle.std.proofs.lemmas.List.Elements.{All-set, All-append, All-map}
use Rattle.eio_value.specs.declared.plain.Member.{Member}
use Rattle.eio_value.specs.declared.plain.Plain.{Plain}
use Rattle.eio_value.specs.declared.plain.Plain.TheVariants.{NotFirst}
use Rattle.eio_value.specs.declared.raised.Outcome.{Outcome}
use Rattle.eio_value.specs.declared.raised.Outcome.TheVariants as outcome
use Rattle.eio_value.specs.declared.raised.Raised.{Raised}
use Rattle.eio_value.specs.declared.raised.Raised.TheVariants.{One, Cancelled, Many}
use Rattle.eio_value.specs.declared.value.Value.{Value}
use Rattle.eio_value.specs.declared.value.Value.TheVariants as value
use Rattle.eio_value.specs.Exceptions.{reason}
use Rattle.spec_parts.specs.Contexts.{to_be_struck}
use Rattle.spec_parts.specs.Errors as collected
use Rattle.spec_parts.specs.Groups as groups
use Rattle.spec_parts.specs.Groups.{Group, GroupKind, BranchEnded, JoinStep}
use Rattle.spec_parts.specs.Switches as switches
use Rattle.spec_parts.specs.Switches.{Switch, Handler, Closer, Detached, CloseStep, Closed}
use Rattle.spec_fiber.specs.Replies.{Position}
use Rattle.spec_machine.specs.Domain.{Role, OfBody, OfJob, OfSwitch, OfGroup, OfWriter, Next, CallsAgain, Wait, OnObject, Asleep, ForCancel, ForOthers, Resting, Standing, Ready, Parked, Ended, Fiber, Owed, Wake, Duty, DomainState, fiber_at, never_made, with_fiber, stands, to_head, to_back, placed, moved_to, made, ended}
use Rattle.spec_machine.specs.Steps.{cancels, strike_by, waiting_from}
use Rattle.spec_machine.specs.ContextMoves.{leaves}
use Rattle.spec_machine.specs.SwitchMoves as on_switches
use Rattle.spec_machine.specs.GroupMoves as on_groups
use Rattle.spec_machine.specs.EndMoves as on_ends
use Rattle.law_run.proofs.Places.{at_is, each_to_all, only_one, AllRaised, AllOutcome, AllErrors, AllNext, AllWait, AllStanding, none, all_joined}

pub all_single : {X : Type 0} (P : X → Type 0) (x : X) → P x → All P (x ∷ [])
all_single P x it = each_to_all P (x ∷ []) (λ y i. subst P (sym (only_one x y i)) it)

-- P of all exceptions, which objects are mutexes, and the counter
module _ (P : Member → Type 0) (kinds : ℕ → Bool) (s : ℕ) where
  abbrev pub OwedFits : Owed → Type 0
  OwedFits (Wake object false) = kinds object ≡ false
  OwedFits other = Unit {0}

  abbrev pub DutyFits : Duty → Type 0
  DutyFits duty = OwedFits duty.owed

  abbrev pub FiberIs : Fiber → Type 0
  FiberIs fiber = AllStanding P fiber.standing

  abbrev pub SwitchIs : Switch → Type 0
  SwitchIs switch = AllErrors P switch.errors

  abbrev pub GroupIs : Group → Type 0
  GroupIs group = AllErrors P group.errors

  -- the counter is s, the wakes that are owed fit, and P holds of all exceptions that stand in the domain
  abbrev pub Stands : DomainState → Type 0
  Stands l = (l.serial ≡ s) × All DutyFits l.duties × All FiberIs l.fibers × All SwitchIs l.switches × All GroupIs l.groups

  -- ## Fibers

  pub fiber_is : (g : ℕ) (l : DomainState) → Stands l → FiberIs (fiber_at l.fibers g)
  fiber_is g l h = at_is FiberIs l.fibers g never_made h.2 (none P)

  pub with_fiber_stands : (g : ℕ) (fiber : Fiber) (l : DomainState) → FiberIs fiber → Stands l → Stands (with_fiber g fiber l)
  with_fiber_stands g fiber l it h = (h.0, h.1, All-set FiberIs l.fibers g fiber it h.2, h.3, h.4)

  pub head_stands : (next : Next) (g : ℕ) (l : DomainState) → AllNext P next → Stands l → Stands (to_head next g l)
  head_stands next g l it h = with_fiber_stands g (record (fiber_at l.fibers g) { standing = Ready next }) l it h

  pub back_stands : (next : Next) (g : ℕ) (l : DomainState) → AllNext P next → Stands l → Stands (to_back next g l)
  back_stands next g l it h = with_fiber_stands g (record (fiber_at l.fibers g) { standing = Ready next }) l it h

  pub parked_stands : (wait : Wait) (g : ℕ) (l : DomainState) → AllWait P wait → Stands l → Stands (stands (Parked wait) g l)
  parked_stands wait g l it h = with_fiber_stands g (record (fiber_at l.fibers g) { standing = Parked wait }) l it h

  pub placed_stands : (position : Position) (g : ℕ) (l : DomainState) → Stands l → Stands (placed position g l)
  placed_stands position g l h = with_fiber_stands g _ l (fiber_is g l h) h

  pub moved_stands : (context g : ℕ) (l : DomainState) → Stands l → Stands (moved_to context g l)
  moved_stands context g l h = with_fiber_stands g _ l (fiber_is g l h) h

  pub made_stands : (context : ℕ) (role : Role) (position : Position) (l : DomainState) → Stands l → Stands (made context role position l)
  made_stands context role position l h = (h.0, h.1, All-append FiberIs l.fibers _ h.2 (all_single FiberIs _ (none P)), h.3, h.4)

  pub ended_stands : (result : Outcome) (g : ℕ) (l : DomainState) → AllOutcome P result → Stands l → Stands (ended result g l)
  ended_stands result g l it h = with_fiber_stands g (record (fiber_at l.fibers g) { work = []; variables = []; standing = Ended result }) l it h

  pub leaves_stands : (context g : ℕ) (l : DomainState) → Stands l → Stands (leaves context g l)
  leaves_stands context g l h = with_fiber_stands g _ l (fiber_is g l h) h

  -- ## Cancelling

  pub cancels_stands : (maker context : ℕ) (why : Plain) (l : DomainState) → Stands l → Stands (cancels maker context why l)
  cancels_stands maker context why l h =
      (h.0, All-append DutyFits l.duties _ h.1 (All-map DutyFits (strike_by maker) (to_be_struck l.contexts (waiting_from 0 l.fibers) context) (λ k d below. tt)), h.2, h.3, h.4)

  -- ## Switches

  pub switch_is : (n : ℕ) (l : DomainState) → Stands l → SwitchIs (switches.switch_at l.switches n)
  switch_is n l h = at_is SwitchIs l.switches n switches.never_opened h.3 (none P)

  pub with_switch_stands : (n : ℕ) (switch : Switch) (l : DomainState) → SwitchIs switch → Stands l → Stands (on_switches.with_switch_at n switch l)
  with_switch_stands n switch l it h = (h.0, h.1, h.2, All-set SwitchIs l.switches n switch it h.3, h.4)

  pub fails_stands : (maker n : ℕ) (what : Raised) (l : DomainState) → AllRaised P what → Stands l → Stands (on_switches.fails maker n what l)
  fails_stands maker n what l it h = by (switches.switch_at l.switches n) (switch_is n l h)
    where
      by_finished : (switch : Switch) (finished : Bool) → SwitchIs switch
          → Stands (elim (elim finished as (λ _. Option Switch) [ true ↦ None | false ↦ Some (record switch { errors = Some (collected.joined switch.errors what) }) ]) [
            | None ↦ l
            | Some changed ↦ cancels maker changed.context (reason what) (on_switches.with_switch_at n changed l)
          ])
      by_finished switch true is = h
      by_finished switch false is =
          cancels_stands maker switch.context (reason what) (on_switches.with_switch_at n (record switch { errors = Some (collected.joined switch.errors what) }) l)
          (with_switch_stands n (record switch { errors = Some (collected.joined switch.errors what) }) l (all_joined P switch.errors what is it) h)

      by : (switch : Switch) → SwitchIs switch → Stands (elim (switches.fail what switch) [ None ↦ l | Some changed ↦ cancels maker changed.context (reason what) (on_switches.with_switch_at n changed l) ])
      by switch is = by_finished switch switch.finished is

  pub woken_stands : (g : ℕ) (l : DomainState) → Stands l → Stands (on_switches.woken g l)
  woken_stands g l h = by (fiber_at l.fibers g).standing (fiber_is g l h)
    where
      by : (standing : Standing) → AllStanding P standing → Stands (elim standing [
        | Parked wait ↦ elim wait [ ForOthers call ↦ to_back (CallsAgain call) g l | OnObject who ↦ l | Asleep ↦ l | ForCancel ↦ l | Resting ↦ l ]
        | Ready next ↦ l
        | Ended it ↦ l
      ])
      by (Parked (ForOthers call)) it = back_stands (CallsAgain call) g l it h
      by (Parked (OnObject who)) it = h
      by (Parked Asleep) it = h
      by (Parked ForCancel) it = h
      by (Parked Resting) it = h
      by (Ready next) it = h
      by (Ended result) it = h

  pub woken_if_stands : (who : Option ℕ) (l : DomainState) → Stands l → Stands (on_switches.woken_if who l)
  woken_if_stands None l h = h
  woken_if_stands (Some g) l h = woken_stands g l h

  pub given_up_stands : (maker n : ℕ) (daemon : Bool) (result : Outcome) (l : DomainState) → AllOutcome P result → Stands l → Stands (on_switches.given_up maker n daemon result l)
  given_up_stands maker n daemon (outcome.Ok value) l it h = h
  given_up_stands maker n true (outcome.Err (Cancelled why)) l it h = h
  given_up_stands maker n false (outcome.Err (Cancelled why)) l it h = fails_stands maker n (Cancelled why) l it h
  given_up_stands maker n true (outcome.Err (One why)) l it h = fails_stands maker n (One why) l it h
  given_up_stands maker n true (outcome.Err (Many several)) l it h = fails_stands maker n (Many several) l it h
  given_up_stands maker n false (outcome.Err (One why)) l it h = fails_stands maker n (One why) l it h
  given_up_stands maker n false (outcome.Err (Many several)) l it h = fails_stands maker n (Many several) l it h

  woken_by_is : (left : List ℕ) (closer : ℕ) (switch : Switch) → SwitchIs switch → SwitchIs (switches.woken_by left closer switch).switch
  woken_by_is [] closer switch is = is
  woken_by_is (f ∷ fs) closer switch is = is

  wake_closer_is : (closer : Closer) (switch : Switch) → SwitchIs switch → SwitchIs (switches.wake_closer closer switch).switch
  wake_closer_is switches.Nobody switch is = is
  wake_closer_is (switches.ForFibers closer) switch is = woken_by_is switch.fibers closer switch is
  wake_closer_is (switches.ForDaemons closer) switch is = woken_by_is switch.daemons closer switch is

  detach_is : (g : ℕ) (switch : Switch) → SwitchIs switch → SwitchIs (switches.detach g switch).switch
  detach_is g switch is = wake_closer_is switch.closer _ is

  pub detached_stands : (n : ℕ) (daemon : Bool) (result : Outcome) (g : ℕ) (l : DomainState) → AllOutcome P result → Stands l → Stands (on_switches.detached n daemon result g l)
  detached_stands n daemon result g l it h =
      let t : DomainState = on_switches.given_up g n daemon result l in
      let k : Stands t = given_up_stands g n daemon result l it h in
      let left : Detached = switches.detach g (switches.switch_at t.switches n) in
      woken_if_stands left.woken (on_switches.with_switch_at n left.switch t) (with_switch_stands n left.switch t (detach_is g (switches.switch_at t.switches n) (switch_is n t k)) k)

  pub attached_is : (fiber : ℕ) (daemon : Bool) (switch : Switch) → SwitchIs switch → SwitchIs (switches.attach fiber daemon switch).switch
  attached_is fiber daemon switch is = by (switches.refuses_fibers switch) daemon
    where
      by : (refuses daemon : Bool) → SwitchIs (elim refuses as (λ _. switches.Attached) [ true ↦ record { taken = false; switch = switch } | false ↦ record { taken = true; switch = switches.with_fiber fiber daemon switch } ]).switch
      by true daemon = is
      by false true = is
      by false false = is

  -- ## Closing

  abbrev pub CloseIs : CloseStep → Type 0
  CloseIs (switches.Raise errors) = AllRaised P errors
  CloseIs other = Unit {0}

  abbrev pub ClosedIs : Closed → Type 0
  ClosedIs closed = CloseIs closed.step × SwitchIs closed.switch

  finish_is : (switch : Switch) → SwitchIs switch → ClosedIs (switches.finish switch)
  finish_is switch is = (by switch.errors is, is)
    where
      by : (errors : Option Raised) → AllErrors P errors → CloseIs (elim errors [ Some all ↦ switches.Raise all | None ↦ switches.Return ])
      by None is = tt
      by (Some errors) is = is

  release_is : (handler : Option Handler) (switch : Switch) → SwitchIs switch → ClosedIs (switches.release handler switch)
  release_is None switch is = finish_is switch is
  release_is (Some handler) switch is = (tt, is)

  pub close_step_is : (closer : ℕ) (switch : Switch) → SwitchIs switch → ClosedIs (switches.close_step closer switch)
  close_step_is closer switch is = by switch.fibers switch.daemons
    where
      by : (fibers daemons : List ℕ) → ClosedIs (elim fibers [
        | f ∷ fs ↦ record { step = switches.Wait; switch = record switch { closer = switches.ForFibers closer } }
        | [] ↦ elim daemons [
          | d ∷ ds ↦ record { step = switches.CancelDaemons; switch = record switch { closer = switches.ForDaemons closer } }
          | [] ↦ switches.release (switches.last_handler (switches.due_batch switch)) switch
        ]
      ])
      by (f ∷ fs) daemons = (tt, is)
      by [] (d ∷ ds) = (tt, is)
      by [] [] = release_is (switches.last_handler (switches.due_batch switch)) switch is

  -- ## Groups

  pub group_is : (n : ℕ) (l : DomainState) → Stands l → GroupIs (groups.group_at l.groups n)
  group_is n l h = at_is GroupIs l.groups n groups.never_gathered h.4 (none P)

  pub with_group_stands : (n : ℕ) (group : Group) (l : DomainState) → GroupIs group → Stands l → Stands (record l { groups = groups.with_group n group l.groups })
  with_group_stands n group l it h = (h.0, h.1, h.2, h.3, All-set GroupIs l.groups n group it h.4)

  outcome_is : (result : Outcome) (group : Group) → AllOutcome P result → GroupIs group → GroupIs (groups.outcome_in result group).group
  outcome_is (outcome.Err raised) group it is = all_joined P group.errors raised is it
  outcome_is (outcome.Ok value) group it is = by (groups.keeps_a_value group.kind) group.kept
    where
      by : (keeps : Bool) (kept : Option Value) → GroupIs (elim keeps as (λ _. BranchEnded) [
        | true ↦ elim kept [
          | None ↦ record { group = record group { kept = Some value }; cancels = Some NotFirst; woken = None }
          | Some first ↦ record { group = group; cancels = None; woken = None }
        ]
        | false ↦ record { group = group; cancels = None; woken = None }
      ]).group
      by true None = is
      by true (Some first) = is
      by false kept = is

  wake_joiner_is : (it : BranchEnded) → GroupIs it.group → GroupIs (groups.wake_joiner it).group
  wake_joiner_is it is = by (it.group.left == 0)
    where
      by : (none_left : Bool) → GroupIs (elim none_left as (λ _. BranchEnded) [
        | true ↦ (let group : Group = record (it.group) { joiner = None } in record { group = group; cancels = it.cancels; woken = it.group.joiner })
        | false ↦ it
      ]).group
      by true = is
      by false = is

  cancels_if_stands : (maker c : ℕ) (why : Option Plain) (l : DomainState) → Stands l → Stands (on_groups.cancels_if maker c why l)
  cancels_if_stands maker c None l h = h
  cancels_if_stands maker c (Some why) l h = cancels_stands maker c why l h

  pub branch_ended_stands : (n : ℕ) (result : Outcome) (g : ℕ) (l : DomainState) → AllOutcome P result → Stands l → Stands (on_groups.branch_ended n result g l)
  branch_ended_stands n result g l it h =
      let ended_by : BranchEnded = groups.branch_ends result (groups.group_at l.groups n) in
      woken_if_stands ended_by.woken _ (cancels_if_stands g ended_by.group.context ended_by.cancels _ (with_group_stands n ended_by.group l
      (wake_joiner_is (groups.outcome_in result (record (groups.group_at l.groups n) { left = (groups.group_at l.groups n).left - 1 })) (outcome_is result _ it (group_is n l h))) h))

  abbrev pub JoinIs : JoinStep → Type 0
  JoinIs (groups.Raise errors) = AllRaised P errors
  JoinIs other = Unit {0}

  raised_or_is : (errors : Option Raised) (step : JoinStep) → AllErrors P errors → JoinIs step → JoinIs (groups.raised_or errors step)
  raised_or_is None step is it = it
  raised_or_is (Some errors) step is it = is

  weighty_is : (errors : Option Raised) → AllErrors P errors → AllErrors P (groups.weighty errors)
  weighty_is None is = is
  weighty_is (Some (One member)) is = is
  weighty_is (Some (Many several)) is = is
  weighty_is (Some (Cancelled member)) is = none P

  given_or_is : (kept : Option Value) (step : JoinStep) → JoinIs step → JoinIs (groups.given_or kept step)
  given_or_is None step it = it
  given_or_is (Some value) step it = tt

  result_is : (group : Group) (keeps : Bool) → GroupIs group → JoinIs (elim keeps [
    | false ↦ groups.raised_or group.errors (groups.Give value.Unit)
    | true ↦ groups.raised_or (groups.weighty group.errors) (groups.given_or group.kept (groups.raised_or group.errors (groups.Give value.Unit)))
  ])
  result_is group false is = raised_or_is group.errors _ is tt
  result_is group true is = raised_or_is (groups.weighty group.errors) _ (weighty_is group.errors is) (given_or_is group.kept _ (raised_or_is group.errors _ is tt))

  abbrev pub JoinedIs : groups.Joined → Type 0
  JoinedIs joined = JoinIs joined.step × GroupIs joined.group

  pub joined_is : (g : ℕ) (group : Group) → GroupIs group → JoinedIs (groups.join g group)
  joined_is g group is = by (group.left == 0)
    where
      by : (none_left : Bool) → JoinedIs (elim none_left [ false ↦ record { step = groups.Wait; group = record group { joiner = Some g } } | true ↦ record { step = groups.result_of group; group = group } ])
      by false = (tt, is)
      by true = (result_is group (groups.keeps_a_value group.kind) is, is)

  -- ## Ends

  after_end_stands : (role : Role) (result : Outcome) (g : ℕ) (l : DomainState) → AllOutcome P result → Stands l → Stands (on_ends.after_end role result g l)
  after_end_stands OfBody result g l it h = h
  after_end_stands (OfJob executor number) result g l it h = h
  after_end_stands (OfSwitch n daemon) result g l it h = detached_stands n daemon result g l it h
  after_end_stands (OfGroup n) result g l it h = branch_ended_stands n result g l it h
  after_end_stands (OfWriter writer) result g l it h = h

  pub ends_stands : (result : Outcome) (g : ℕ) (l : DomainState) → AllOutcome P result → Stands l → Stands (on_ends.ends result g l)
  ends_stands result g l it h = after_end_stands (fiber_at l.fibers g).role result g (ended result g l) it (ended_stands result g l it h)
