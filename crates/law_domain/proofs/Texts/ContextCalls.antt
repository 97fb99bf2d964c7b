-- Calls on contexts, strikes and the clock.
use Rattle.std.proofs.Common.{ℕ, Bool, true, false, List, [], ◌∷◌, Option, Some, None}
use Rattle.std.specs.Prelude.{ℤ, pos, int_lt, ◌+ℤ◌, filter, not}
use Rattle.std.specs.Option.{unwrap_or}
use Rattle.eio_value.specs.declared.plain.Misuse.TheVariants.{SwitchFinished, Overflow, ContextFinished}
use Rattle.eio_value.specs.declared.plain.Plain.{Plain}
use Rattle.eio_value.specs.declared.plain.Plain.TheVariants.{Failure, Invalid, Exit}
use Rattle.eio_value.specs.declared.raised.Outcome.{Outcome}
use Rattle.eio_value.specs.declared.raised.Outcome.TheVariants as outcome
use Rattle.eio_value.specs.declared.raised.Raised.TheVariants.{Cancelled}
use Rattle.eio_value.specs.declared.value.TextId.{TextId}
use Rattle.eio_value.specs.declared.value.Value.TheVariants as value
use Rattle.spec_parts.specs.Contexts.{is_live}
use Rattle.spec_parts.specs.Timers.{Timer, remove, add, earliest, is_due, due_fibers}
use Rattle.spec_script.specs.Limits.{is_within}
use Rattle.spec_script.specs.Scripts.{Script}
use Rattle.spec_fiber.specs.Asks.{Ask}
use Rattle.trace_lines.specs.declared.line.Did.TheVariants as did
use Rattle.trace_lines.specs.declared.line.Said2.TheVariants as said
use Rattle.spec_machine.specs.Domain.{GoesOn, OnObject, Asleep, ForCancel, ForOthers, Resting, Standing, Ready, Parked, Ended, Duty, Owed, Strike, Wake, Start, DomainState, fiber_at, off_for, to_back}
use Rattle.spec_machine.specs.Steps.{member, counted, does, raises, raises_cancelled, goes_off, waits, yields, halts, in_new, cancels}
use Rattle.spec_machine.specs.ContextMoves.{context_of, sub_of, before_block, enters_context, leaves, subs, protects, left_with, leave, cancel, check}
use Rattle.spec_machine.specs.ClockMoves.{did_mock, sleeps_until, sleep, now, wakes, tick}
use Rattle.spec_machine.specs.DutyMoves.{strike_told, own_strike, own_duty}
use Rattle.law_fiber.specs.Texts.Texts.{IsHeldOutcome, IsTextedCall, written_in, known_in}
use Rattle.law_domain.specs.Texts.Domains.{IsTextedPosition, IsKnownReason, IsTexted}
use Rattle.law_fiber.proofs.Texts.Lists.{or_default}
use Rattle.law_fiber.proofs.Texts.Passing.{exit_known, failure_known}
use Rattle.law_domain.proofs.Texts.Positions.{entered_texted}
use Rattle.law_domain.proofs.Texts.Steps.{IsTextedStep, back_texted, leaves_texted, answers_texted, does_texted, refuses_texted, cancelled_texted, yields_texted, waits_texted, goes_off_texted, halts_texted, off_texted, unless_off_texted, cancels_texted, in_new_texted, enters_context_texted}

module _ (script : Script) where
  -- before the block of a call
  pub before_texted : (call : Ask) (number g : ℕ) (l : DomainState) → IsTexted script l → IsTextedCall (written_in script) (known_in script) call
      → IsTextedPosition script (before_block call number g l)
  before_texted call number g l is asked =
      let place = (is.each_fiber g).place in
      entered_texted script (fiber_at l.fibers g).work (fiber_at l.fibers g).variables place.behind place.values call number asked

  module _ (l : DomainState) (is : IsTexted script l) (g : ℕ) where
    -- ## Contexts

    pub subs_texted : (call : Ask) → IsTextedCall (written_in script) (known_in script) call → IsTextedStep script (subs call g l)
    subs_texted call asked =
        unless_off_texted script l is did.Sub g
        (λ _. in_new (sub_of l g) g l (λ c m. enters_context did.Sub (said.Done (value.Ctx c)) c (before_block call c g m) g m)) tt
        (in_new_texted script l is (Some (context_of l g)) false g
        (λ c m. enters_context did.Sub (said.Done (value.Ctx c)) c (before_block call c g m) g m)
        (λ c m so.
        enters_context_texted script did.Sub (said.Done (value.Ctx c)) c (before_block call c g m) g m so tt tt (before_texted call c g m so asked)))

    pub protects_texted : (call : Ask) → IsTextedCall (written_in script) (known_in script) call → IsTextedStep script (protects call g l)
    protects_texted call asked =
        in_new_texted script l is (Some (context_of l g)) true g
        (λ c m. enters_context did.Protect (said.Done (value.Ctx c)) c (before_block call c g m) g m)
        (λ c m so.
        enters_context_texted script did.Protect (said.Done (value.Ctx c)) c (before_block call c g m) g m so tt tt (before_texted call c g m so asked))

    pub cancel_call_texted : (c : ℕ) (text : TextId) → (written_in script).failure text → IsTextedStep script (cancel c text g l)
    cancel_call_texted c text listed = by (is_live l.contexts c)
      where
        by : (lives : Bool) → IsTextedStep script (elim lives [
          | true ↦ does (did.Cancel c text) g (cancels g c (Failure text) l)
          | false ↦ raises (did.Cancel c text) (Invalid ContextFinished) g l
        ])
        by true =
            does_texted script (cancels g c (Failure text) l) (cancels_texted script l is g c (Failure text) (failure_known script text listed))
            (did.Cancel c text) g listed
        by false = refuses_texted script l is (did.Cancel c text) ContextFinished g listed

    pub check_texted : IsTextedStep script (check g l)
    check_texted = by (off_for l g) (off_texted script l is g)
      where
        by : (found : Option Plain) → IsKnownReason script found
            → IsTextedStep script (elim found [ Some why ↦ raises_cancelled did.Check why g l | None ↦ does did.Check g l ])
        by (Some why) known = cancelled_texted script l is did.Check why g tt known
        by None known = does_texted script l is did.Check g tt

    left_texted : (c : ℕ) (late : Bool) (it : Outcome) → IsHeldOutcome (known_in script) it → IsTextedStep script (left_with c late it g l)
    left_texted c true (outcome.Ok it) so = refuses_texted script l is (did.Leave c) SwitchFinished g tt
    left_texted c false (outcome.Ok it) so =
        let step = answers_texted script l is (did.Leave c) (outcome.Ok it) g tt so in record { state = step.state; call = tt; answer = tt }
    left_texted c true (outcome.Err raised) so = answers_texted script l is (did.Leave c) (outcome.Err raised) g tt so
    left_texted c false (outcome.Err raised) so = answers_texted script l is (did.Leave c) (outcome.Err raised) g tt so

    -- ## The clock

    sleeps_texted : (due : ℤ) → IsTextedStep script (sleeps_until due g l)
    sleeps_texted due = by (off_for l g)
      where
        by : (found : Option Plain) → IsTextedStep script (elim found [
          | Some why ↦ goes_off did_mock g l
          | None ↦ waits did_mock Asleep g (record l { timers = add due g l.timers })
        ])
        by (Some why) = goes_off_texted script l is did_mock g tt
        by None = waits_texted script (record l { timers = add due g l.timers }) is did_mock Asleep g tt tt

    pub sleep_texted : (time : ℤ) → IsTextedStep script (sleep time g l)
    sleep_texted time = by (int_lt time (pos 1)) (is_within (l.now +ℤ time))
      where
        by : (past within : Bool) → IsTextedStep script (elim past [
          | true ↦ yields did_mock g l
          | false ↦ elim within [ true ↦ sleeps_until (l.now +ℤ time) g l | false ↦ raises did_mock (Invalid Overflow) g l ]
        ])
        by true within = yields_texted script l is did_mock g tt
        by false true = sleeps_texted (l.now +ℤ time)
        by false false = refuses_texted script l is did_mock Overflow g tt

    pub now_texted : IsTextedStep script (now g l)
    now_texted = answers_texted script l is did_mock (outcome.Ok (value.Int l.now)) g tt tt

  pub leave_texted : (l : DomainState) → IsTexted script l → (g c : ℕ) (late : Bool) (it : Outcome) → IsHeldOutcome (known_in script) it
      → IsTextedStep script (leave c late it g l)
  leave_texted l is g c late it so = left_texted (leaves c g l) (leaves_texted script l is c g) g c late it so

  wakes_texted : (fibers : List ℕ) (l : DomainState) → IsTexted script l → IsTexted script (wakes fibers l)
  wakes_texted [] l is = is
  wakes_texted (g ∷ fibers) l is =
      wakes_texted fibers (to_back (GoesOn (outcome.Ok value.Unit)) g l) (back_texted script l is (GoesOn (outcome.Ok value.Unit)) g tt)

  pub tick_texted : (l : DomainState) → IsTexted script l → IsTextedStep script (tick l)
  tick_texted l is =
      let time = unwrap_or (earliest l.timers) l.now in
      let left = filter (λ (timer : Timer). not (is_due time timer)) l.timers.standing in
      let later : DomainState = record l { now = time; timers = record (l.timers) { standing = left } } in
      record { state = wakes_texted (due_fibers time l.timers) later is; call = tt; answer = tt }

  -- ## Strikes

  strike_texted : (duty : Duty) (g : ℕ) (won : Bool) (l : DomainState) → IsTexted script l → IsTextedStep script (strike_told duty g won l)
  strike_texted duty g true l is =
      let why = unwrap_or (off_for l g) Exit in
      let known = or_default (known_in script).exception (off_for l g) Exit (off_texted script l is g) (exit_known script) in
      record { state = back_texted script (counted l) is (GoesOn (outcome.Err (Cancelled (member why l)))) g known; call = tt; answer = tt }
  strike_texted duty g false l is = record { state = is; call = tt; answer = tt }

  own_strike_texted : (duty : Duty) (g : ℕ) (standing : Standing) (l : DomainState) → IsTexted script l → IsTextedStep script (own_strike duty g standing l)
  own_strike_texted duty g (Parked Asleep) l is = strike_texted duty g true (record l { timers = remove g l.timers }) is
  own_strike_texted duty g (Parked ForCancel) l is = strike_texted duty g true l is
  own_strike_texted duty g (Parked (OnObject who)) l is = strike_texted duty g false l is
  own_strike_texted duty g (Parked (ForOthers call)) l is = strike_texted duty g false l is
  own_strike_texted duty g (Parked Resting) l is = strike_texted duty g false l is
  own_strike_texted duty g (Ready next) l is = strike_texted duty g false l is
  own_strike_texted duty g (Ended it) l is = strike_texted duty g false l is

  pub duty_texted : (duty : Duty) (l : DomainState) → IsTexted script l → IsTextedStep script (own_duty duty l)
  duty_texted duty l is = by duty.owed
    where
      by : (owed : Owed) → IsTextedStep script (elim owed [
        | Strike g ↦ own_strike duty g (fiber_at l.fibers g).standing l
        | Wake object poisoned ↦ halts duty.maker l
        | Start executor ↦ halts duty.maker l
      ])
      by (Strike g) = own_strike_texted duty g (fiber_at l.fibers g).standing l is
      by (Wake object poisoned) = halts_texted script l is duty.maker
      by (Start executor) = halts_texted script l is duty.maker
