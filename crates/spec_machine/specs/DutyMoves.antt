-- Obligations: strikes, wakes and starts, which a domain makes before anything else.
use Rattle.std.specs.Prelude.{ℕ, Bool, true, false, ◌∷◌}
use Rattle.std.specs.Option.{unwrap_or}
use Rattle.eio_value.specs.declared.call.Answer.{Answer}
use Rattle.eio_value.specs.declared.call.Answer.TheVariants as answer
use Rattle.eio_value.specs.declared.message.Waiter.{Waiter}
use Rattle.eio_value.specs.declared.plain.Plain.TheVariants.{Exit, Poisoned}
use Rattle.eio_value.specs.declared.raised.Outcome.TheVariants as outcome
use Rattle.eio_value.specs.declared.raised.Raised.TheVariants.{Cancelled}
use Rattle.spec_parts.specs.Timers.{remove}
use Rattle.trace_lines.specs.declared.line.Did.TheVariants as did
use Rattle.trace_lines.specs.declared.line.Said2.TheVariants as said
use Rattle.spec_machine.specs.Domain.{GoesOn, Asleep, ForCancel, Standing, Parked, Duty, Strike, Wake, Start, DomainState, fiber_at, off_for, to_back}
use Rattle.spec_machine.specs.Steps.{Step, told, new_raise, halts}

-- ## Strikes

-- a fiber that still waits goes to the back with a new `Cancelled`, for the reason by which its context is off
abbrev pub strike_told : Duty → (fiber : ℕ) → (won : Bool) → DomainState → Step
strike_told duty g true l = new_raise (unwrap_or (off_for l g) Exit) l (λ x m. told duty.maker (did.Strike l.number g) said.Won (to_back (GoesOn (outcome.Err (Cancelled x))) g m))
strike_told duty g false l = told duty.maker (did.Strike l.number g) said.Lost l

-- a strike that the domain makes by itself: a fiber that waits for the clock, or in `await-cancel`, waits still; one that is ready was woken
abbrev pub own_strike : Duty → (fiber : ℕ) → Standing → DomainState → Step
own_strike duty g (Parked Asleep) l = strike_told duty g true (record l { timers = remove g l.timers })
own_strike duty g (Parked ForCancel) l = strike_told duty g true l
own_strike duty g standing l = strike_told duty g false l

-- an obligation for which nothing came from outside: a strike, or a start for which there is no room
abbrev pub own_duty : Duty → DomainState → Step
own_duty duty l = elim duty.owed [
  | Strike g ↦ own_strike duty g (fiber_at l.fibers g).standing l
  | Wake object poisoned ↦ halts duty.maker l
  | Start executor ↦ halts duty.maker l
]

abbrev pub duty_struck : Duty → (won : Bool) → DomainState → Step
duty_struck duty won l = elim duty.owed [
  | Strike g ↦ strike_told duty g won l
  | Wake object poisoned ↦ halts duty.maker l
  | Start executor ↦ halts duty.maker l
]

-- ## Wakes and starts

-- the obligation stays until nothing is left to be done
abbrev pub stays : Duty → DomainState → DomainState
stays duty l = record l { duties = duty ∷ l.duties }

abbrev pub woke_told : Duty → (object : ℕ) → Waiter → DomainState → Step
woke_told duty object who l = told duty.maker (did.Wake object) (said.Fiber who.domain who.fiber) (stays duty l)

-- each fiber that waits for a poisoned mutex has a raise of its own
abbrev pub wake_told : Duty → (object : ℕ) → (poisoned : Bool) → Answer → DomainState → Step
wake_told duty object true (answer.Woke who) l = new_raise Poisoned l (λ x m. woke_told duty object who m)
wake_told duty object false (answer.Woke who) l = woke_told duty object who l
wake_told duty object poisoned other l = told duty.maker (did.Wake object) said.Nothing l

abbrev pub start_told : Duty → (executor : ℕ) → Answer → DomainState → Step
start_told duty executor (answer.Started domain number) l = told duty.maker (did.Start executor) (said.Started domain number) (stays duty l)
start_told duty executor other l = told duty.maker (did.Start executor) said.Nothing l

abbrev pub duty_answered : Duty → Answer → DomainState → Step
duty_answered duty it l = elim duty.owed [
  | Strike g ↦ halts duty.maker l
  | Wake object poisoned ↦ wake_told duty object poisoned it l
  | Start executor ↦ start_told duty executor it l
]
