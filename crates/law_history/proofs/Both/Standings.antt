-- What the parts of a move keep: plain work in each fiber, plain calls that wait or are made again, obligations to objects that are declared, no copier, and no timer.
use Rattle.std.proofs.Common.{◌≡◌, ℕ, ◌<◌, Bool, true, false, [], Option, Some, None}
use Rattle.std.specs.List.{All}
use Rattle.std.proofs.lemmas.List.Elements.{All-set, All-append, All-map}
use Rattle.eio_value.specs.declared.plain.Plain.{Plain}
use Rattle.eio_value.specs.declared.raised.Outcome.{Outcome}
use Rattle.eio_value.specs.declared.raised.Outcome.TheVariants as outcome
use Rattle.eio_value.specs.declared.raised.Raised.{Raised}
use Rattle.eio_value.specs.declared.raised.Raised.TheVariants.{One, Cancelled, Many}
use Rattle.eio_value.specs.Exceptions.{reason}
use Rattle.spec_parts.specs.Contexts.{to_be_struck}
use Rattle.spec_parts.specs.Groups as groups
use Rattle.spec_parts.specs.Groups.{BranchEnded}
use Rattle.spec_parts.specs.Switches as switches
use Rattle.spec_parts.specs.Switches.{Switch, Detached}
use Rattle.spec_fiber.specs.Replies.{Position}
use Rattle.spec_machine.specs.Domain.{Role, OfBody, OfJob, OfSwitch, OfGroup, OfWriter, Next, CallsAgain, Wait, OnObject, Asleep, ForCancel, ForOthers, Resting, Standing, Ready, Parked, Ended, Fiber, Owed, Strike, Wake, Start, Duty, DomainState, fiber_at, never_made, with_fiber, stands, to_head, to_back, placed, moved_to, made, ended}
use Rattle.spec_machine.specs.Steps.{cancels, strike_by, waiting_from}
use Rattle.spec_machine.specs.ContextMoves.{leaves}
use Rattle.spec_machine.specs.SwitchMoves as on_switches
use Rattle.spec_machine.specs.GroupMoves as on_groups
use Rattle.spec_machine.specs.EndMoves as on_ends
use Rattle.law_run.proofs.Places.{at_is}
use Rattle.law_run.proofs.Standings.{all_single}
use Rattle.law_history.proofs.Both.Settling.{CallIs, IsWork}

-- of so many objects
module _ (objects : ℕ) where
  abbrev pub OwedIs : Owed → Type 0
  OwedIs (Strike g) = Unit {0}
  OwedIs (Wake object poisoned) = object < objects
  OwedIs (Start executor) = executor < objects

  abbrev pub DutyIs : Duty → Type 0
  DutyIs duty = OwedIs duty.owed

  abbrev pub RoleIs : Role → Type 0
  RoleIs (OfJob executor number) = executor < objects
  RoleIs (OfWriter writer) = ⊥
  RoleIs role = Unit {0}

  abbrev pub NextIs : Next → Type 0
  NextIs (CallsAgain call) = CallIs objects call
  NextIs next = Unit {0}

  abbrev pub WaitIs : Wait → Type 0
  WaitIs (ForOthers call) = CallIs objects call
  WaitIs wait = Unit {0}

  abbrev pub StandingIs : Standing → Type 0
  StandingIs (Ready next) = NextIs next
  StandingIs (Parked wait) = WaitIs wait
  StandingIs (Ended result) = Unit {0}

  abbrev pub FiberIs : Fiber → Type 0
  FiberIs fiber = RoleIs fiber.role × IsWork objects fiber.work × StandingIs fiber.standing

  abbrev pub Stands : DomainState → Type 0
  Stands l = All DutyIs l.duties × All FiberIs l.fibers × (l.timers.standing ≡ [])

  -- ## Fibers

  pub fiber_is : (g : ℕ) (l : DomainState) → Stands l → FiberIs (fiber_at l.fibers g)
  fiber_is g l h = at_is FiberIs l.fibers g never_made h.1 (tt, tt, tt)

  pub with_fiber_stands : (g : ℕ) (fiber : Fiber) (l : DomainState) → FiberIs fiber → Stands l → Stands (with_fiber g fiber l)
  with_fiber_stands g fiber l it h = (h.0, All-set FiberIs l.fibers g fiber it h.1, h.2)

  pub head_stands : (next : Next) (g : ℕ) (l : DomainState) → NextIs next → Stands l → Stands (to_head next g l)
  head_stands next g l it h = (let is = fiber_is g l h in with_fiber_stands g (record (fiber_at l.fibers g) { standing = Ready next }) l (is.0, is.1, it) h)

  pub back_stands : (next : Next) (g : ℕ) (l : DomainState) → NextIs next → Stands l → Stands (to_back next g l)
  back_stands next g l it h = (let is = fiber_is g l h in with_fiber_stands g (record (fiber_at l.fibers g) { standing = Ready next }) l (is.0, is.1, it) h)

  pub parked_stands : (wait : Wait) (g : ℕ) (l : DomainState) → WaitIs wait → Stands l → Stands (stands (Parked wait) g l)
  parked_stands wait g l it h = (let is = fiber_is g l h in with_fiber_stands g (record (fiber_at l.fibers g) { standing = Parked wait }) l (is.0, is.1, it) h)

  pub placed_stands : (position : Position) (g : ℕ) (l : DomainState) → IsWork objects position.work → Stands l → Stands (placed position g l)
  placed_stands position g l it h = (let is = fiber_is g l h in with_fiber_stands g _ l (is.0, it, is.2) h)

  pub moved_stands : (context g : ℕ) (l : DomainState) → Stands l → Stands (moved_to context g l)
  moved_stands context g l h = with_fiber_stands g _ l (fiber_is g l h) h

  pub made_stands : (context : ℕ) (role : Role) (position : Position) (l : DomainState) → RoleIs role → IsWork objects position.work → Stands l → Stands (made context role position l)
  made_stands context role position l is it h = (h.0, All-append FiberIs l.fibers _ h.1 (all_single FiberIs _ (is, it, tt)), h.2)

  pub ended_stands : (result : Outcome) (g : ℕ) (l : DomainState) → Stands l → Stands (ended result g l)
  ended_stands result g l h = with_fiber_stands g (record (fiber_at l.fibers g) { work = []; variables = []; standing = Ended result }) l ((fiber_is g l h).0, tt, tt) h

  pub leaves_stands : (context g : ℕ) (l : DomainState) → Stands l → Stands (leaves context g l)
  leaves_stands context g l h = with_fiber_stands g _ l (fiber_is g l h) h

  -- ## Cancelling

  pub cancels_stands : (maker context : ℕ) (why : Plain) (l : DomainState) → Stands l → Stands (cancels maker context why l)
  cancels_stands maker context why l h =
      (All-append DutyIs l.duties _ h.0 (All-map DutyIs (strike_by maker) (to_be_struck l.contexts (waiting_from 0 l.fibers) context) (λ k d below. tt)), h.1, h.2)

  -- ## Switches

  pub fails_stands : (maker n : ℕ) (what : Raised) (l : DomainState) → Stands l → Stands (on_switches.fails maker n what l)
  fails_stands maker n what l h = by (switches.fail what (switches.switch_at l.switches n))
    where
      by : (failed : Option Switch) → Stands (elim failed [ None ↦ l | Some changed ↦ cancels maker changed.context (reason what) (on_switches.with_switch_at n changed l) ])
      by None = h
      by (Some changed) = cancels_stands maker changed.context (reason what) (on_switches.with_switch_at n changed l) h

  pub woken_stands : (g : ℕ) (l : DomainState) → Stands l → Stands (on_switches.woken g l)
  woken_stands g l h = by (fiber_at l.fibers g).standing (fiber_is g l h).2
    where
      by : (standing : Standing) → StandingIs standing → Stands (elim standing [
        | Parked wait ↦ elim wait [ ForOthers call ↦ to_back (CallsAgain call) g l | OnObject who ↦ l | Asleep ↦ l | ForCancel ↦ l | Resting ↦ l ]
        | Ready next ↦ l
        | Ended it ↦ l
      ])
      by (Parked (ForOthers call)) it = back_stands (CallsAgain call) g l it h
      by (Parked (OnObject who)) it = h
      by (Parked Asleep) it = h
      by (Parked ForCancel) it = h
      by (Parked Resting) it = h
      by (Ready next) it = h
      by (Ended result) it = h

  pub woken_if_stands : (who : Option ℕ) (l : DomainState) → Stands l → Stands (on_switches.woken_if who l)
  woken_if_stands None l h = h
  woken_if_stands (Some g) l h = woken_stands g l h

  given_up_stands : (maker n : ℕ) (daemon : Bool) (result : Outcome) (l : DomainState) → Stands l → Stands (on_switches.given_up maker n daemon result l)
  given_up_stands maker n daemon (outcome.Ok value) l h = h
  given_up_stands maker n true (outcome.Err (Cancelled why)) l h = h
  given_up_stands maker n false (outcome.Err (Cancelled why)) l h = fails_stands maker n (Cancelled why) l h
  given_up_stands maker n true (outcome.Err (One why)) l h = fails_stands maker n (One why) l h
  given_up_stands maker n true (outcome.Err (Many several)) l h = fails_stands maker n (Many several) l h
  given_up_stands maker n false (outcome.Err (One why)) l h = fails_stands maker n (One why) l h
  given_up_stands maker n false (outcome.Err (Many several)) l h = fails_stands maker n (Many several) l h

  detached_stands : (n : ℕ) (daemon : Bool) (result : Outcome) (g : ℕ) (l : DomainState) → Stands l → Stands (on_switches.detached n daemon result g l)
  detached_stands n daemon result g l h =
      let t : DomainState = on_switches.given_up g n daemon result l in
      let left : Detached = switches.detach g (switches.switch_at t.switches n) in
      woken_if_stands left.woken (on_switches.with_switch_at n left.switch t) (given_up_stands g n daemon result l h)

  -- ## Groups

  cancels_if_stands : (maker c : ℕ) (why : Option Plain) (l : DomainState) → Stands l → Stands (on_groups.cancels_if maker c why l)
  cancels_if_stands maker c None l h = h
  cancels_if_stands maker c (Some why) l h = cancels_stands maker c why l h

  pub branch_ended_stands : (n : ℕ) (result : Outcome) (g : ℕ) (l : DomainState) → Stands l → Stands (on_groups.branch_ended n result g l)
  branch_ended_stands n result g l h =
      let by : BranchEnded = groups.branch_ends result (groups.group_at l.groups n) in
      let t : DomainState = record l { groups = groups.with_group n by.group l.groups } in
      woken_if_stands by.woken (on_groups.cancels_if g by.group.context by.cancels t) (cancels_if_stands g by.group.context by.cancels t h)

  -- ## Ends

  after_end_stands : (role : Role) (result : Outcome) (g : ℕ) (l : DomainState) → Stands l → Stands (on_ends.after_end role result g l)
  after_end_stands OfBody result g l h = h
  after_end_stands (OfJob executor number) result g l h = h
  after_end_stands (OfSwitch n daemon) result g l h = detached_stands n daemon result g l h
  after_end_stands (OfGroup n) result g l h = branch_ended_stands n result g l h
  after_end_stands (OfWriter writer) result g l h = h

  pub ends_stands : (result : Outcome) (g : ℕ) (l : DomainState) → Stands l → Stands (on_ends.ends result g l)
  ends_stands result g l h = after_end_stands (fiber_at l.fibers g).role result g (ended result g l) (ended_stands result g l h)
