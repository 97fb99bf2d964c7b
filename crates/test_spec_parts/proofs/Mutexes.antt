-- Sequences of calls on mutexes.
use Rattle.std.proofs.Common.{◌≡◌, ℕ, [], ◌∷◌, refl}
use Rattle.eio_value.specs.declared.call.Call.TheVariants.{Lock, TryLock, Unlock, Poison, NextWake, Use}
use Rattle.eio_value.specs.declared.plain.Misuse.TheVariants as misuse
use Rattle.eio_value.specs.declared.plain.Plain.TheVariants as plain
use Rattle.eio_value.specs.declared.raised.Outcome.{Outcome}
use Rattle.eio_value.specs.declared.raised.Outcome.TheVariants.{Err}
use Rattle.spec_parts.specs.declared.hold.Hold.{Hold}
use Rattle.spec_parts.specs.declared.hold.Hold.TheVariants.{Held, Poisoned}
use Rattle.spec_parts.specs.Data.{Mutex}
use Rattle.spec_parts.specs.Mutexes.{mutex}
use Rattle.spec_parts.specs.Row.{Row, int, raise}
use Rattle.test_spec_parts.proofs.Moves.{Move, by, off_by, strike, Won, Lost, gives, fine, waits, is_off, none, raises, fine_and, woke, unit, waiting, row, run, ran}

abbrev locking : ℕ → Move
locking fiber = by fiber (Lock 0)

abbrev unlocking : ℕ → Move
unlocking fiber = by fiber (Unlock 0)

abbrev poisoning : ℕ → Move
poisoning fiber = by fiber (Poison 0)

abbrev waking : Move
waking = by 0 (NextWake 0)

abbrev quiet_one : Hold → Row
quiet_one state = row (Mutex state) [] []

abbrev poisoned : ℕ → Outcome
poisoned serial = Err (raise serial plain.Poisoned)

-- an exception inside poisons the mutex, and the next lock raises
poisoned_inside : run mutex (locking 0 ∷ poisoning 0 ∷ waking ∷ locking 0 ∷ []) ≡ ran (fine ∷ fine ∷ none ∷ raises 3 plain.Poisoned ∷ []) (quiet_one Poisoned)
poisoned_inside = refl

not_locked : run mutex (unlocking 0 ∷ []) ≡ ran (raises 0 (plain.Invalid misuse.NotLocked) ∷ []) mutex
not_locked = refl

passed_on : run mutex (locking 0 ∷ locking 1 ∷ locking 2 ∷ unlocking 0 ∷ unlocking 1 ∷ unlocking 2 ∷ unlocking 2 ∷ []) ≡ ran (fine ∷ waits ∷ waits ∷ fine_and 1 unit ∷ fine_and 2 unit ∷ fine ∷ raises 6 (plain.Invalid misuse.NotLocked) ∷ []) mutex
passed_on = refl

-- whoever waits is woken with an exception of its own
poisoned_waiters :
    run mutex (locking 0 ∷ locking 1 ∷ locking 2 ∷ locking 3 ∷ strike 2 ∷ poisoning 0 ∷ waking ∷ waking ∷ waking ∷ strike 3 ∷ [])
    ≡ ran (fine ∷ waits ∷ waits ∷ waits ∷ Won ∷ fine ∷ woke 1 (poisoned 6) ∷ woke 3 (poisoned 7) ∷ none ∷ Lost ∷ []) (quiet_one Poisoned)
poisoned_waiters = refl

poisoned_for_all : run mutex (poisoning 0 ∷ by 0 (TryLock 0) ∷ unlocking 0 ∷ locking 0 ∷ poisoning 0 ∷ []) ≡ ran (fine ∷ raises 1 plain.Poisoned ∷ raises 2 plain.Poisoned ∷ raises 3 plain.Poisoned ∷ fine ∷ []) (quiet_one Poisoned)
poisoned_for_all = refl

tried : run mutex (by 0 (TryLock 0) ∷ by 1 (TryLock 0) ∷ unlocking 0 ∷ by 1 (TryLock 0) ∷ []) ≡ ran (gives (int 1) ∷ gives (int 0) ∷ fine ∷ gives (int 1) ∷ []) (quiet_one Held)
tried = refl

off_leaves_the_mutex : run mutex (off_by 1 (Lock 0) ∷ off_by 2 (Lock 0) ∷ poisoning 1 ∷ off_by 2 (Lock 0) ∷ []) ≡ ran (fine ∷ is_off ∷ fine ∷ raises 3 plain.Poisoned ∷ []) (quiet_one Poisoned)
off_leaves_the_mutex = refl

struck_waiter : run mutex (locking 0 ∷ locking 1 ∷ locking 2 ∷ strike 1 ∷ unlocking 0 ∷ strike 2 ∷ unlocking 2 ∷ []) ≡ ran (fine ∷ waits ∷ waits ∷ Won ∷ fine_and 2 unit ∷ Lost ∷ fine ∷ []) mutex
struck_waiter = refl

nobody_is_woken : run mutex (waking ∷ locking 0 ∷ locking 1 ∷ waking ∷ by 0 (Use 0) ∷ []) ≡ ran (none ∷ fine ∷ waits ∷ none ∷ none ∷ []) (row (Mutex Held) (waiting 1 ∷ []) [])
nobody_is_woken = refl
