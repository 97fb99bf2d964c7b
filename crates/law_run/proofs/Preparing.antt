-- How a move begins: the silent statements of a fiber raise at most one exception that its call holds.
use Rattle.std.proofs.Common.{◌≡◌, ℕ, inr, Bool, List, [], ◌∷◌, Option, Some, None, refl, sym}
use Rattle.std.specs.Prelude.{unwrap_or}
use Rattle.std.specs.List.{All}
use Rattle.std.proofs.lemmas.List.Elements.{All-set, Contains-push}
use Rattle.eio_value.specs.declared.plain.Member.{Member}
use Rattle.eio_value.specs.declared.plain.Plain.{Plain}
use Rattle.eio_value.specs.declared.plain.Plain.TheVariants.{Exit}
use Rattle.eio_value.specs.declared.raised.Outcome.TheVariants as outcome
use Rattle.eio_value.specs.declared.raised.Raised.TheVariants.{Cancelled}
use Rattle.eio_value.specs.declared.value.Value.TheVariants as value
use Rattle.spec_fiber.specs.Settling.{Settled}
use Rattle.spec_fiber.specs.Work.{Carry, member, counted}
use Rattle.spec_machine.specs.Domain.{Role, OfWriter, Next, GoesOn, LooksUp, FindsOff, CallsAgain, Standing, Ready, Parked, Ended, Fiber, Duty, DomainState, fiber_at, off_for}
use Rattle.spec_machine.specs.Preparing as doing
use Rattle.spec_machine.specs.Preparing.{Doing, Prepared, at_once, prepared, prepared_ready, prepared_timers, next_of, next_call, found_off, carry_of, called_by, moves_of}
use Rattle.spec_parts.specs.Timers.{Timer}
use Rattle.law_run.proofs.Places.{all_head, all_tail, AllCall, AllNext, AllStanding, none, all_cancelled}
use Rattle.law_run.proofs.Settling.{BornIn, With, Since, counted_since, Settles, passed_settles, thrown_settles}
use Rattle.law_run.proofs.Standings.{DutyFits, FiberIs, Stands, fiber_is}
use Rattle.law_run.proofs.Raising.{more, stands_more}
use Rattle.law_run.proofs.Moves.{by_timers, by_ready, by_duties}

module _ (P : Member → Type 0) where
  off_settles : (from : ℕ) (why : Plain) (fiber : Fiber) (c : Carry) → Since from c → Settles P from (found_off why fiber c)
  off_settles from why fiber c since =
      thrown_settles P fiber.work (Cancelled (member why c)) (counted why c) from (Some (member why c)) (counted_since from why c since, Contains-push c.raises (member why c))
      (all_cancelled (With P (Some (member why c))) (member why c) (inr refl))

  next_settles : (from : ℕ) (next : Next) (off : Option Plain) (fiber : Fiber) (c : Carry) → Since from c → AllNext P next → Settles P from (next_call next off fiber c)
  next_settles from (GoesOn it) off fiber c since all = passed_settles P from it fiber.work c since all
  next_settles from LooksUp (Some why) fiber c since all = off_settles from why fiber c since
  next_settles from LooksUp None fiber c since all = passed_settles P from (outcome.Ok value.Unit) fiber.work c since (none P)
  next_settles from FindsOff off fiber c since all = off_settles from (unwrap_or off Exit) fiber c since
  next_settles from (CallsAgain call) off fiber c since all = record { born = None; range = (since, tt); call = all }

  next_is : (standing : Standing) → AllStanding P standing → AllNext P (next_of standing)
  next_is (Ready next) all = all
  next_is (Parked wait) all = none P
  next_is (Ended it) all = all

module _ (P : Member → Type 0) (kinds : ℕ → Bool) (from : ℕ) where
  abbrev pub DoingIs : (born : Option Member) → Doing → Type 0
  DoingIs born (doing.Owes duty) = DutyFits P kinds from duty
  DoingIs born (doing.Calls g call) = AllCall (With P born) call
  DoingIs born other = Unit {0}

  pub record Prepares (it : Prepared) : Type 0 where
    pub born : Option Member
    pub range : BornIn from it.raises it.state.serial born
    pub stands : Stands (With P born) kinds it.state.serial it.state
    pub doing : DoingIs born it.doing

  prepares_quietly : (doing : Doing) (l : DomainState) → l.serial ≡ from → Stands P kinds l.serial l → DoingIs None doing → Prepares (at_once doing l)
  prepares_quietly doing l e h is = record { born = None; range = (sym e, tt); stands = h; doing = is }

  called_prepares : (g : ℕ) (fiber : Fiber) (settled : Settled) (l : DomainState) → AllStanding P fiber.standing → Stands P kinds l.serial l → Settles P from settled → Prepares (called_by g fiber settled l)
  called_prepares g fiber settled l all h it =
      let t : Stands (With P it.born) kinds l.serial l = stands_more P kinds l.serial it.born l h in
      record {
        born = it.born;
        range = it.range;
        stands = (refl, t.1, All-set (FiberIs (With P it.born) kinds l.serial) l.fibers g (record fiber { work = settled.behind; variables = settled.carry.variables }) (λ x i. more P it.born x (all x i)) t.2, t.3, t.4);
        doing = it.call;
      }

  moves_prepares : (role : Role) (g : ℕ) (fiber : Fiber) (l : DomainState) → l.serial ≡ from → AllStanding P fiber.standing → Stands P kinds l.serial l → Prepares (moves_of role g fiber (next_of fiber.standing) l)
  moves_prepares (OfWriter writer) g fiber l e all h = prepares_quietly (doing.Carries g writer) l e h tt
  moves_prepares role g fiber l e all h =
      called_prepares g fiber _ l all h
      (next_settles P from (next_of fiber.standing) (off_for l g) fiber (carry_of fiber l) (sym e) (next_is P fiber.standing all))

  timers_prepare : (l : DomainState) (standing : List Timer) → l.serial ≡ from → Stands P kinds l.serial l → Prepares (by_timers l standing)
  timers_prepare l [] e h = prepares_quietly doing.Rests l e h tt
  timers_prepare l (timer ∷ others) e h = prepares_quietly doing.Ticks l e h tt

  ready_prepare : (l : DomainState) (ready : List ℕ) → l.serial ≡ from → Stands P kinds l.serial l → Prepares (by_ready l ready)
  ready_prepare l [] e h = timers_prepare l l.timers.standing e h
  ready_prepare l (g ∷ others) e h = moves_prepares (fiber_at l.fibers g).role g (fiber_at l.fibers g) (record l { ready = others }) e (fiber_is P kinds l.serial g l h) h

  duties_prepare : (l : DomainState) (duties : List Duty) → l.serial ≡ from → All (DutyFits P kinds from) duties → Stands P kinds l.serial l → Prepares (by_duties l duties)
  duties_prepare l [] e fit h = ready_prepare l l.ready e h
  duties_prepare l (duty ∷ others) e fit h =
      prepares_quietly (doing.Owes duty) (record l { duties = others }) e (h.0, all_tail (DutyFits P kinds from) duty others fit, h.2, h.3, h.4) (all_head (DutyFits P kinds from) duty others fit)

  pub prepared_prepares : (l : DomainState) → l.serial ≡ from → Stands P kinds l.serial l → Prepares (prepared l)
  unfolding prepared
  prepared_prepares l e h = duties_prepare l l.duties e h.1 h
