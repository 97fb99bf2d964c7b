-- Sequences of calls on semaphores.
use Rattle.std.proofs.Common.{◌≡◌, ℕ, [], ◌∷◌, refl}
use Rattle.eio_value.specs.declared.call.Call.TheVariants.{Acquire, Release, NextWake}
use Rattle.spec_parts.specs.Data.{Semaphore}
use Rattle.spec_parts.specs.Semaphores.{semaphore}
use Rattle.test_spec_parts.proofs.Moves.{Move, by, off_by, strike, Won, Lost, fine, waits, is_off, none, fine_and, unit, waiting, row, run, ran}

abbrev acquiring : ℕ → Move
acquiring fiber = by fiber (Acquire 0)

abbrev releasing : ℕ → Move
releasing fiber = by fiber (Release 0)

-- a release is handed to who waits
handed_on : run (semaphore 0) (acquiring 1 ∷ releasing 0 ∷ []) ≡ ran (waits ∷ fine_and 1 unit ∷ []) (semaphore 0)
handed_on = refl

counted : run (semaphore 2) (acquiring 0 ∷ acquiring 1 ∷ acquiring 2 ∷ releasing 0 ∷ releasing 1 ∷ releasing 2 ∷ []) ≡ ran (fine ∷ fine ∷ waits ∷ fine_and 2 unit ∷ fine ∷ fine ∷ []) (semaphore 2)
counted = refl

first_in_first_out : run (semaphore 0) (acquiring 1 ∷ acquiring 2 ∷ acquiring 3 ∷ releasing 0 ∷ releasing 0 ∷ []) ≡ ran (waits ∷ waits ∷ waits ∷ fine_and 1 unit ∷ fine_and 2 unit ∷ []) (row (Semaphore 0) (waiting 3 ∷ []) [])
first_in_first_out = refl

off_leaves_the_semaphore : run (semaphore 1) (off_by 1 (Acquire 0) ∷ off_by 1 (Acquire 0) ∷ []) ≡ ran (fine ∷ is_off ∷ []) (semaphore 0)
off_leaves_the_semaphore = refl

struck_waiter : run (semaphore 0) (acquiring 1 ∷ acquiring 2 ∷ strike 1 ∷ releasing 0 ∷ releasing 0 ∷ []) ≡ ran (waits ∷ waits ∷ Won ∷ fine_and 2 unit ∷ fine ∷ []) (semaphore 1)
struck_waiter = refl

-- a cancelled acquire has acquired nothing
struck_acquired_nothing : run (semaphore 0) (acquiring 1 ∷ strike 1 ∷ releasing 0 ∷ acquiring 2 ∷ []) ≡ ran (waits ∷ Won ∷ fine ∷ fine ∷ []) (semaphore 0)
struck_acquired_nothing = refl

woken_before_the_strike : run (semaphore 0) (acquiring 1 ∷ releasing 0 ∷ strike 1 ∷ []) ≡ ran (waits ∷ fine_and 1 unit ∷ Lost ∷ []) (semaphore 0)
woken_before_the_strike = refl

greatest_count : run (semaphore 4294967294) (releasing 0 ∷ releasing 0 ∷ releasing 0 ∷ []) ≡ ran (fine ∷ none ∷ none ∷ []) (semaphore 4294967295)
greatest_count = refl

nobody_is_woken : run (semaphore 0) (acquiring 1 ∷ by 0 (NextWake 0) ∷ []) ≡ ran (waits ∷ none ∷ []) (row (Semaphore 0) (waiting 1 ∷ []) [])
nobody_is_woken = refl
