-- How a move begins: what a domain does next is plain, and so it asks nothing of the mocked outside, and calls only declared objects.
use Rattle.std.proofs.Common.{◌≡◌, ℕ, ◌<◌, Bool, true, false, List, [], ◌∷◌, Option, Some, None}
use Rattle.std.specs.Prelude.{unwrap_or}
use Rattle.std.specs.List.{All}
use Rattle.std.proofs.lemmas.List.Elements.{All-set}
use Rattle.eio_value.specs.declared.call.Call.TheVariants as call
use Rattle.eio_value.specs.declared.plain.Plain.{Plain}
use Rattle.eio_value.specs.declared.plain.Plain.TheVariants.{Exit}
use Rattle.eio_value.specs.declared.raised.Outcome.{Outcome}
use Rattle.eio_value.specs.declared.raised.Outcome.TheVariants as outcome
use Rattle.eio_value.specs.declared.raised.Raised.TheVariants.{Cancelled}
use Rattle.eio_value.specs.declared.value.Value.{Value}
use Rattle.eio_value.specs.declared.value.Value.TheVariants as value
use Rattle.spec_parts.specs.Timers.{Timer}
use Rattle.spec_script.specs.Syntax as syntax
use Rattle.spec_script.specs.Syntax.{ObjectCall, ObjectCallWith}
use Rattle.spec_fiber.specs.Asks as ask
use Rattle.spec_fiber.specs.Asks.{Ask}
use Rattle.spec_fiber.specs.Settling.{Settled}
use Rattle.spec_fiber.specs.Work.{Carry, member, counted}
use Rattle.spec_machine.specs.Asking as asking
use Rattle.spec_machine.specs.Asking.{asks_by, asks_for, object_call, object_call_with}
use Rattle.spec_machine.specs.Domain.{Role, OfBody, OfJob, OfSwitch, OfGroup, OfWriter, Next, GoesOn, LooksUp, FindsOff, CallsAgain, OnObject, Standing, Ready, Parked, Ended, Fiber, Owed, Strike, Wake, Start, Duty, DomainState, fiber_at, off_for}
use Rattle.spec_machine.specs.Labels.{Asks, Idle, Own, Calls, Strikes, Mocks}
use Rattle.spec_machine.specs.Moves.{asks}
use Rattle.spec_machine.specs.Preparing as doing
use Rattle.spec_machine.specs.Preparing.{Doing, Prepared, at_once, prepared, next_of, next_call, found_off, carry_of, called_by, moves_of}
use Rattle.law_run.proofs.Moves.{by_timers, by_ready, by_duties}
use Rattle.law_run.proofs.Places.{all_head, all_tail}
use Rattle.law_history.specs.Waits.Mocked.{IsShared}
use Rattle.law_history.proofs.Both.Settling.{CallIs, IsWork, SettledIs, passed_is, thrown_is}
use Rattle.law_history.proofs.Both.Standings.{OwedIs, DutyIs, RoleIs, NextIs, StandingIs, FiberIs, Stands, fiber_is}
use Rattle.law_history.proofs.Both.Rows.{BringsIs}

-- of so many objects
module _ (objects : ℕ) where
  -- ## What is done next

  -- a plain call or an obligation; no copier moves, and the clock doesn't
  abbrev pub DoingIs : Doing → Type 0
  DoingIs doing.Rests = Unit {0}
  DoingIs (doing.Owes duty) = DutyIs objects duty
  DoingIs (doing.Calls g wanted) = CallIs objects wanted
  DoingIs (doing.Carries g writer) = ⊥
  DoingIs doing.Ticks = ⊥

  abbrev pub Prepares : Prepared → Type 0
  Prepares it = DoingIs it.doing × Stands objects it.state

  off_is : (why : Plain) (fiber : Fiber) (c : Carry) → IsWork objects fiber.work → SettledIs objects (found_off why fiber c)
  off_is why fiber c h = thrown_is objects fiber.work (Cancelled (member why c)) (counted why c) h

  next_is : (next : Next) (off : Option Plain) (fiber : Fiber) (c : Carry) → NextIs objects next → IsWork objects fiber.work → SettledIs objects (next_call next off fiber c)
  next_is (GoesOn it) off fiber c is h = passed_is objects it fiber.work c h
  next_is LooksUp (Some why) fiber c is h = off_is why fiber c h
  next_is LooksUp None fiber c is h = passed_is objects (outcome.Ok value.Unit) fiber.work c h
  next_is FindsOff off fiber c is h = off_is (unwrap_or off Exit) fiber c h
  next_is (CallsAgain wanted) off fiber c is h = (is, h)

  standing_is : (standing : Standing) → StandingIs objects standing → NextIs objects (next_of standing)
  standing_is (Ready next) is = is
  standing_is (Parked wait) is = tt
  standing_is (Ended it) is = tt

  called_prepares : (g : ℕ) (fiber : Fiber) (settled : Settled) (l : DomainState) → FiberIs objects fiber → SettledIs objects settled → Stands objects l → Prepares (called_by g fiber settled l)
  called_prepares g fiber settled l is it h =
      (it.0, (h.0, All-set (FiberIs objects) l.fibers g (record fiber { work = settled.behind; variables = settled.carry.variables }) (is.0, it.1, is.2) h.1, h.2))

  moves_prepares : (role : Role) (g : ℕ) (fiber : Fiber) (l : DomainState) → RoleIs objects role → FiberIs objects fiber → Stands objects l → Prepares (moves_of role g fiber (next_of fiber.standing) l)
  moves_prepares (OfWriter writer) g fiber l none is h = absurd none
  moves_prepares role g fiber l own is h =
      called_prepares g fiber (next_call (next_of fiber.standing) (off_for l g) fiber (carry_of fiber l)) l is
      (next_is (next_of fiber.standing) (off_for l g) fiber (carry_of fiber l) (standing_is fiber.standing is.2) is.1) h

  timers_prepare : (l : DomainState) (standing : List Timer) → standing ≡ [] → Stands objects l → Prepares (by_timers l standing)
  timers_prepare l [] none h = (tt, h)
  timers_prepare l (timer ∷ others) none h = absurd (cc)

  ready_prepare : (l : DomainState) (ready : List ℕ) → Stands objects l → Prepares (by_ready l ready)
  ready_prepare l [] h = timers_prepare l l.timers.standing h.2 h
  ready_prepare l (g ∷ others) h =
      moves_prepares (fiber_at l.fibers g).role g (fiber_at l.fibers g) (record l { ready = others }) (fiber_is objects g l h).0 (fiber_is objects g l h) h

  duties_prepare : (l : DomainState) (duties : List Duty) → All (DutyIs objects) duties → Stands objects l → Prepares (by_duties l duties)
  duties_prepare l [] are h = ready_prepare l l.ready h
  duties_prepare l (duty ∷ others) are h = (all_head (DutyIs objects) duty others are, (all_tail (DutyIs objects) duty others are, h.1, h.2))

  pub prepared_prepares : (l : DomainState) → Stands objects l → Prepares (prepared l)
  unfolding prepared
  prepared_prepares l h = duties_prepare l l.duties h.0 h

  -- ## What is asked

  -- nothing of the mocked outside, and a call only on a declared object, which brings no job but such as name declared executors
  abbrev pub AsksIs : Asks → Type 0
  AsksIs Idle = Unit {0}
  AsksIs Own = Unit {0}
  AsksIs (Calls asked) = (asked.object < objects) × BringsIs objects asked.call
  AsksIs (Strikes who) = Unit {0}
  AsksIs (Mocks asked) = ⊥

  call_brings : (it : ObjectCall) (object : ℕ) → BringsIs objects (object_call it object)
  call_brings syntax.Take object = tt
  call_brings syntax.TakeNonblocking object = tt
  call_brings syntax.Length object = tt
  call_brings syntax.Await object = tt
  call_brings syntax.Acquire object = tt
  call_brings syntax.Release object = tt
  call_brings syntax.Lock object = tt
  call_brings syntax.TryLock object = tt
  call_brings syntax.Unlock object = tt

  call_with_brings : (it : ObjectCallWith) (object : ℕ) (operand : Value) → BringsIs objects (object_call_with it object operand)
  call_with_brings syntax.Add object operand = tt
  call_with_brings syntax.Resolve object operand = tt
  call_with_brings syntax.TryResolve object operand = tt

  end_asks : (role : Role) (g : ℕ) (l : DomainState) (it : Outcome) → RoleIs objects role → AsksIs (asking.end_of role l g it)
  end_asks (OfJob executor number) g l it is = (is, tt)
  end_asks OfBody g l it is = tt
  end_asks (OfSwitch n daemon) g l it is = tt
  end_asks (OfGroup n) g l it is = tt
  end_asks (OfWriter writer) g l it is = tt

  fiber_asks : (wanted : Ask) (g : ℕ) (l : DomainState) → CallIs objects wanted → Stands objects l → AsksIs (asks_for wanted g l)
  fiber_asks (ask.OnObject it object) g l plain h = (plain, call_brings it object)
  fiber_asks (ask.OnObjectWith it object operand) g l plain h = (plain, call_with_brings it object operand)
  fiber_asks (ask.Use pool) g l plain h = (plain, tt)
  fiber_asks (ask.Submit executor weight given block) g l plain h = (plain, plain)
  fiber_asks (ask.UnlockEnd mutex it) g l plain h = (plain, tt)
  fiber_asks (ask.PoisonEnd mutex raised) g l plain h = (plain, tt)
  fiber_asks (ask.PutEnd pool resource it) g l plain h = (plain, tt)
  fiber_asks (ask.ResolveEnd promise it) g l plain h = (plain, tt)
  fiber_asks (ask.End it) g l plain h = end_asks (fiber_at l.fibers g).role g l it (fiber_is objects g l h).0
  fiber_asks (ask.OpenReader flow limit block) g l plain h = absurd plain
  fiber_asks (ask.OnReader it reader) g l plain h = absurd plain
  fiber_asks (ask.TakeBytes reader count) g l plain h = absurd plain
  fiber_asks (ask.Copy from to) g l plain h = absurd plain
  fiber_asks (ask.OpenWriter flow block) g l plain h = absurd plain
  fiber_asks (ask.PutText writer text) g l plain h = absurd plain
  fiber_asks (ask.OpenDirectory place path block) g l plain h = absurd plain
  fiber_asks (ask.OnPath it place path) g l plain h = absurd plain
  fiber_asks (ask.Save only_new place path content) g l plain h = absurd plain
  fiber_asks (ask.ShutReader reader it) g l plain h = absurd plain
  fiber_asks (ask.ShutWriter writer it) g l plain h = absurd plain
  fiber_asks other g l plain h = tt

  strikes_ask : (standing : Standing) → AsksIs (asking.strike_on standing)
  strikes_ask (Parked (OnObject who)) = tt
  strikes_ask standing = tt

  if_full_asks : (full : Bool) (other : Asks) → AsksIs other → AsksIs (elim full [ true ↦ Own | false ↦ other ])
  if_full_asks true other is = tt
  if_full_asks false other is = is

  owed_asks : (maker : ℕ) (owed : Owed) (l : DomainState) → OwedIs objects owed → AsksIs (asking.asks_owed (record { maker = maker; owed = owed }) l)
  owed_asks maker (Strike g) l is = strikes_ask (fiber_at l.fibers g).standing
  owed_asks maker (Wake object poisoned) l is = (is, tt)
  owed_asks maker (Start executor) l is = if_full_asks (asking.is_full_for_one l) (asking.calls l maker executor (call.NextStart executor)) (is, tt)

  doing_asks : (it : Doing) (l : DomainState) → DoingIs it → Stands objects l → AsksIs (asks_by (at_once it l))
  doing_asks doing.Rests l is h = tt
  doing_asks (doing.Owes duty) l is h = owed_asks duty.maker duty.owed l is
  doing_asks (doing.Calls g wanted) l is h = fiber_asks wanted g l is h
  doing_asks (doing.Carries g writer) l is h = absurd is
  doing_asks doing.Ticks l is h = absurd is

  pub prepared_asks : (it : Prepared) → Prepares it → AsksIs (asks_by it)
  prepared_asks it prepares = doing_asks it.doing it.state prepares.0 prepares.1

  is_shared : (it : Asks) → AsksIs it → IsShared objects it
  is_shared Idle is = tt
  is_shared Own is = tt
  is_shared (Calls asked) is = is.0
  is_shared (Strikes who) is = tt
  is_shared (Mocks asked) is = absurd is

  pub asks_shared : (l : DomainState) → Stands objects l → IsShared objects (asks l)
  unfolding asks
  asks_shared l h = is_shared (asks_by (prepared l)) (prepared_asks (prepared l) (prepared_prepares l h))
