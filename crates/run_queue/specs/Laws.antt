-- A law of the timers under any list of calls.
use Rattle.std.specs.Prelude.{◌≡◌, ◌⊎◌, ℕ, ◌<◌, ℤ, ◌<ℤ◌, List, [], ◌∷◌}
use Rattle.std.specs.List.{All, AllPairs}
use Rattle.spec_parts.specs.Timers.{Timer, Timers, no_timers, add, pop_due, remove}

-- calls on the timers of one domain
pub data TimerCall : Type 0 where
  Adds : (due : ℤ) → (fiber : ℕ) → TimerCall
  Pops : (now : ℤ) → TimerCall
  Removes : (fiber : ℕ) → TimerCall

abbrev pub after_call : TimerCall → Timers → Timers
after_call (Adds due fiber) timers = add due fiber timers
after_call (Pops now) timers = (pop_due now timers).timers
after_call (Removes fiber) timers = remove fiber timers

abbrev pub after : List TimerCall → Timers → Timers
after [] timers = timers
after (call ∷ calls) timers = after calls (after_call call timers)

-- one is due earlier, or at the same time and was made earlier
abbrev pub IsBefore : Timer → Timer → Type 0
IsBefore a b = (a.due <ℤ b.due) ⊎ ((a.due ≡ b.due) × (a.number < b.number))

-- each is before all behind it
abbrev pub AreInOrder : List Timer → Type 0
AreInOrder timers = AllPairs IsBefore timers

-- each was made before the next that will be
abbrev pub AreMade : Timers → Type 0
AreMade timers = All (λ timer. timer.number < timers.made) timers.standing

-- after any calls
abbrev pub TimersGoOffInOrder : Type 0
TimersGoOffInOrder = (calls : List TimerCall) → AreInOrder (after calls no_timers).standing × AreMade (after calls no_timers)
