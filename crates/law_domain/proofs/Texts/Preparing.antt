-- What a domain does next, with the table as it was.
use Rattle.std.proofs.Common.{ℕ, List, [], ◌∷◌, Option, Some, None, sym, ◌∙◌}
use Rattle.std.specs.Option.{unwrap_or}
use Rattle.eio_value.specs.declared.plain.Plain.{Plain}
use Rattle.eio_value.specs.declared.plain.Plain.TheVariants.{Exit}
use Rattle.eio_value.specs.declared.raised.Outcome.{Outcome}
use Rattle.eio_value.specs.declared.raised.Outcome.TheVariants as outcome
use Rattle.eio_value.specs.declared.raised.Raised.TheVariants.{Cancelled}
use Rattle.eio_value.specs.declared.value.Value.TheVariants as value
use Rattle.spec_parts.specs.Timers.{Timer}
use Rattle.spec_script.specs.Scripts.{Script}
use Rattle.spec_fiber.specs.Settling.{Settled}
use Rattle.spec_fiber.specs.Work.{Carry, member, counted}
use Rattle.spec_machine.specs.Domain.{Role, OfBody, OfJob, OfSwitch, OfGroup, OfWriter, Next, GoesOn, LooksUp, FindsOff, CallsAgain, Standing, Ready, Parked, Ended, Fiber, Duty, DomainState, fiber_at, off_for}
use Rattle.spec_machine.specs.Preparing as doing
use Rattle.spec_machine.specs.Preparing.{Prepared, at_once, found_off, next_call, called_by, carry_of, moves_of, next_of, moves, prepared_timers, prepared_ready, prepared}
use Rattle.law_fiber.specs.Texts.Texts.{IsHeldOutcome, known_in}
use Rattle.law_fiber.specs.Texts.Laws.{HasFailureTexts}
use Rattle.law_domain.specs.Texts.Domains.{IsTextedNext, IsTextedStanding, IsTextedFiber, IsKnownReason, IsTexted, IsTextedDoing}
use Rattle.law_domain.specs.Texts.DomainLaws.{PreparesKeepTexted}
use Rattle.law_fiber.proofs.Texts.Going.{IsTextedCarry, carry_counted}
use Rattle.law_fiber.proofs.Texts.Lists.{or_default}
use Rattle.law_domain.proofs.Texts.Parts.{with_fiber_texted, with_texts}
use Rattle.law_fiber.proofs.Texts.Passing.{staying, exit_known}
use Rattle.law_fiber.proofs.Texts.Settling.{SettlesTexted, passes_texted, throws_texted}
use Rattle.law_domain.proofs.Texts.Steps.{off_texted}

-- what is prepared
pub record IsTextedPrepared (script : Script) (it : Prepared) : Type 0 where
  pub state : IsTexted script it.state
  pub call : IsTextedDoing script it.doing

module _ (script : Script) (has : HasFailureTexts script) where
  -- ## The next call

  module _ (fiber : Fiber) (is : IsTextedFiber script fiber) (c : Carry) (carry : IsTextedCarry (staying script has) c.texts c) where
    passed_texted : (came : Outcome) → IsHeldOutcome (known_in script) came → SettlesTexted (staying script has) c.texts (next_call (GoesOn came) None fiber c)
    passed_texted came held = passes_texted (staying script has) came fiber.work c carry held is.place.behind

    found_texted : (why : Plain) → (known_in script).exception why → SettlesTexted (staying script has) c.texts (found_off why fiber c)
    found_texted why known =
        throws_texted (staying script has) fiber.work (Cancelled (member why c)) (counted why c) (carry_counted (staying script has) carry why) known
        is.place.behind

    next_texted : (next : Next) (off : Option Plain) → IsTextedNext script next → IsKnownReason script off
        → SettlesTexted (staying script has) c.texts (next_call next off fiber c)
    next_texted (GoesOn came) off so known = passed_texted came so
    next_texted LooksUp (Some why) so known = found_texted why known
    next_texted LooksUp None so known = passed_texted (outcome.Ok value.Unit) tt
    next_texted FindsOff off so known = found_texted (unwrap_or off Exit) (or_default (known_in script).exception off Exit known (exit_known script))
    next_texted (CallsAgain call) off so known = record { carry = carry; call = so; behind = is.place.behind }

  called_texted : (g : ℕ) (fiber : Fiber) (settled : Settled) (l : DomainState) → IsTexted script l → IsTextedFiber script fiber
      → SettlesTexted (staying script has) l.texts settled → IsTextedPrepared script (called_by g fiber settled l)
  called_texted g fiber settled l is fiber_is so = record {
    state =
        with_texts script
        (with_fiber_texted script is g (record fiber { work = settled.behind; variables = settled.carry.variables })
        (record { place = record { behind = so.behind; values = so.carry.variables }; stands = fiber_is.stands }))
        settled.carry.texts so.carry.stands;
    call = so.call;
  }

  moves_texted : (role : Role) (g : ℕ) (fiber : Fiber) (next : Next) (l : DomainState) → IsTexted script l → IsTextedFiber script fiber
      → IsTextedNext script next → IsTextedPrepared script (moves_of role g fiber next l)
  moves_texted role g fiber next l is fiber_is so = by role
    where
      calls : IsTextedPrepared script (called_by g fiber (next_call next (off_for l g) fiber (carry_of fiber l)) l)
      calls =
          called_texted g fiber (next_call next (off_for l g) fiber (carry_of fiber l)) l is fiber_is
          (next_texted fiber fiber_is (carry_of fiber l) (record { grows = tt; stands = is.table; variables = fiber_is.place.values }) next (off_for l g) so
          (off_texted script l is g))

      by : (r : Role) → IsTextedPrepared script (moves_of r g fiber next l)
      by (OfWriter writer) = record { state = is; call = tt }
      by OfBody = calls
      by (OfJob executor number) = calls
      by (OfSwitch n daemon) = calls
      by (OfGroup n) = calls

  next_stands : (standing : Standing) → IsTextedStanding script standing → IsTextedNext script (next_of standing)
  next_stands (Ready next) so = so
  next_stands (Parked wait) so = tt
  next_stands (Ended it) so = so

  -- ## The move

  timers_texted : (l : DomainState) → IsTexted script l → IsTextedPrepared script (prepared_timers l)
  timers_texted l is = by l.timers.standing
    where
      by : (timers : List Timer) → IsTextedPrepared script (elim timers [ [] ↦ at_once doing.Rests l | timer ∷ others ↦ at_once doing.Ticks l ])
      by [] = record { state = is; call = tt }
      by (timer ∷ others) = record { state = is; call = tt }

  ready_texted : (l : DomainState) → IsTexted script l → IsTextedPrepared script (prepared_ready l)
  ready_texted l is = by l.ready
    where
      by : (ready : List ℕ) → IsTextedPrepared script (elim ready [
        | [] ↦ prepared_timers l
        | g ∷ others ↦ moves g (fiber_at l.fibers g) (record l { ready = others })
      ])
      by [] = timers_texted l is
      by (g ∷ others) =
          let fiber = fiber_at l.fibers g in
          let fiber_is = is.each_fiber g in
          moves_texted fiber.role g fiber (next_of fiber.standing) (record l { ready = others }) is fiber_is (next_stands fiber.standing fiber_is.stands)

  pub prepared_texted : (l : DomainState) → IsTexted script l → IsTextedPrepared script (prepared l)
  unfolding prepared
  prepared_texted l is = by l.duties
    where
      by : (duties : List Duty) → IsTextedPrepared script (elim duties [
        | [] ↦ prepared_ready l
        | duty ∷ others ↦ at_once (doing.Owes duty) (record l { duties = others })
      ])
      by [] = ready_texted l is
      by (duty ∷ others) = record { state = is; call = tt }

pub prepares_keep_texted : PreparesKeepTexted
prepares_keep_texted script l has is =
    let it = prepared_texted script has l is in
    record { state = it.state; call = it.call; same = it.state.table ∙ sym is.table }
