-- The mock clock: `sleep`, `now`, and the jump to the time at which the next fiber is due.
use Rattle.std.specs.Prelude.{ℕ, true, false, int_lt, List, [], ◌∷◌, ℤ, pos, ◌+ℤ◌, Some, None}
use Rattle.std.specs.Option.{unwrap_or}
use Rattle.eio_value.specs.declared.mock_call.Said.TheVariants.{Nothing}
use Rattle.eio_value.specs.declared.plain.Misuse.TheVariants.{Overflow}
use Rattle.eio_value.specs.declared.plain.Plain.TheVariants.{Invalid}
use Rattle.eio_value.specs.declared.raised.Outcome.TheVariants as outcome
use Rattle.eio_value.specs.declared.value.Value.TheVariants as value
use Rattle.spec_parts.specs.Timers.{add, earliest, is_due, due_fibers}
use Rattle.spec_script.specs.Limits.{is_within}
use Rattle.std.specs.Prelude.{filter, not}
use Rattle.trace_lines.specs.declared.line.Did.{Did}
use Rattle.trace_lines.specs.declared.line.Did.TheVariants as did
use Rattle.trace_lines.specs.declared.line.Said2.TheVariants as said
use Rattle.spec_machine.specs.Domain.{GoesOn, Asleep, DomainState, off_for, to_back}
use Rattle.spec_machine.specs.Steps.{Step, told, gives, raises, yields, waits, goes_off}

-- calls on the clock are told in no history
abbrev pub did_mock : Did
did_mock = did.Mock Nothing

-- the fiber is due at this time
abbrev pub sleeps_until : (due : ℤ) → (fiber : ℕ) → DomainState → Step
sleeps_until due g l = elim (off_for l g) [
  | Some why ↦ goes_off did_mock g l
  | None ↦ waits did_mock Asleep g (record l { timers = add due g l.timers })
]

-- a time below 1 is a `yield`; one that leaves 64 bits is raised, whether the context is off or not
abbrev pub sleep : (time : ℤ) → (fiber : ℕ) → DomainState → Step
sleep time g l = elim (int_lt time (pos 1)) [
  | true ↦ yields did_mock g l
  | false ↦ elim (is_within (l.now +ℤ time)) [
    | true ↦ sleeps_until (l.now +ℤ time) g l
    | false ↦ raises did_mock (Invalid Overflow) g l
  ]
]

abbrev pub now : (fiber : ℕ) → DomainState → Step
now g l = gives did_mock (value.Int l.now) g l

-- these fibers have slept long enough, and stand in this order at the end of the ready list
abbrev pub wakes : List ℕ → DomainState → DomainState
wakes [] l = l
wakes (g ∷ fibers) l = wakes fibers (to_back (GoesOn (outcome.Ok value.Unit)) g l)

-- the time goes on to the earliest due time, and all that are due then are woken
abbrev pub ticks_to : (time : ℤ) → DomainState → DomainState
ticks_to time l = wakes (due_fibers time l.timers) (record l { now = time; timers = record (l.timers) { standing = filter (λ timer. not (is_due time timer)) l.timers.standing } })

abbrev pub tick : DomainState → Step
tick l = (let time = unwrap_or (earliest l.timers) l.now in told 0 (did.Tick time) (said.Done value.Unit) (ticks_to time l))
