-- The timers as the code keeps them.
use Rattle.std.specs.Prelude.{ℤ, ◌≤ℤ◌, List, [], ◌∷◌}
use Rattle.spec_parts.specs.Timers.{Timer as Defined}
use Rattle.run_queue.specs.declared.timers.Timer.{Timer}

-- the definition's timer
abbrev pub timer_of : Timer → Defined
timer_of timer = record { due = timer.due; number = timer.number; fiber = timer.fiber }

-- each of them is due no earlier
abbrev pub AreDueFrom : ℤ → List Timer → Type 0
AreDueFrom due [] = Unit {0}
AreDueFrom due (timer ∷ timers) = (due ≤ℤ timer.due) × AreDueFrom due timers

-- each is due no later than those behind it
abbrev pub IsInOrder : List Timer → Type 0
IsInOrder [] = Unit {0}
IsInOrder (timer ∷ timers) = AreDueFrom timer.due timers × IsInOrder timers
