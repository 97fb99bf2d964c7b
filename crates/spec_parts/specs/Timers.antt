-- The timers of the mock clock: when each sleeping fiber is due.
-- They stand in order of due time and, where that is the same, in order of making, so the first is the next to go off.
use Rattle.std.specs.Prelude.{ℕ, ◌+◌, Bool, true, false, ◌==◌, not, nat_le, ℤ, int_lt, int_le, List, [], ◌∷◌, length, map, filter, take_while, Option, Some, None}
use Rattle.std.specs.List.{list_any}

-- when it is due, its number in order of making, and the fiber that sleeps
pub record Timer : Type 0 where
  pub due : ℤ
  pub number : ℕ
  pub fiber : ℕ

-- the timers that stand, and how many were made
pub record Timers : Type 0 where
  pub standing : List Timer
  pub made : ℕ

abbrev pub no_timers : Timers
no_timers = record { standing = []; made = 0 }

-- as many stand as may
abbrev pub is_full : (most : ℕ) → Timers → Bool
is_full most timers = nat_le most (length timers.standing)

-- a timer is put in before the first that is due later
abbrev pub put_in : Timer → List Timer → List Timer
put_in timer [] = timer ∷ []
put_in timer (other ∷ others) = elim (int_lt timer.due other.due) [ true ↦ timer ∷ other ∷ others | false ↦ other ∷ put_in timer others ]

abbrev pub add : (due : ℤ) → (fiber : ℕ) → Timers → Timers
add due fiber timers = record { standing = put_in (record { due = due; number = timers.made; fiber = fiber }) timers.standing; made = timers.made + 1 }

-- the earliest due time
abbrev pub earliest : Timers → Option ℤ
earliest timers = elim timers.standing [ [] ↦ None | timer ∷ others ↦ Some timer.due ]

abbrev pub is_due : (now : ℤ) → Timer → Bool
is_due now timer = int_le timer.due now

-- the fibers that are due at this time, in the order in which they are woken
abbrev pub due_fibers : (now : ℤ) → Timers → List ℕ
due_fibers now timers = map (λ timer. timer.fiber) (take_while (is_due now) timers.standing)

-- the first of them, if there is one, and the timers without its own
pub record DuePopped : Type 0 where
  pub fiber : Option ℕ
  pub timers : Timers

abbrev pub pop_due : (now : ℤ) → Timers → DuePopped
pop_due now timers = elim timers.standing [
  | [] ↦ record { fiber = None; timers = timers }
  | timer ∷ others ↦ elim (is_due now timer) [
    | true ↦ record { fiber = Some timer.fiber; timers = record { standing = others; made = timers.made } }
    | false ↦ record { fiber = None; timers = timers }
  ]
]

-- whether the fiber has a timer
abbrev pub sleeps : (fiber : ℕ) → Timers → Bool
sleeps fiber timers = list_any (λ timer. timer.fiber == fiber) timers.standing

-- the timer of the fiber goes; where it has none, nothing changes
abbrev pub remove : (fiber : ℕ) → Timers → Timers
remove fiber timers = record { standing = filter (λ timer. not (timer.fiber == fiber)) timers.standing; made = timers.made }
