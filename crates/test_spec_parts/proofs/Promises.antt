-- Sequences of calls on promises.
use Rattle.std.proofs.Common.{◌≡◌, [], ◌∷◌, refl}
use Rattle.std.specs.Prelude.{Some, None}
use Rattle.eio_value.specs.declared.call.Call.TheVariants.{Resolve, TryResolve, Await, NextWake, Take}
use Rattle.eio_value.specs.declared.plain.Misuse.TheVariants as misuse
use Rattle.eio_value.specs.declared.plain.Plain.TheVariants as plain
use Rattle.eio_value.specs.declared.raised.Outcome.{Outcome}
use Rattle.eio_value.specs.declared.raised.Outcome.TheVariants.{Ok, Err}
use Rattle.eio_value.specs.declared.value.Value.TheVariants as value
use Rattle.spec_parts.specs.Data.{Promise}
use Rattle.spec_parts.specs.Promises.{promise}
use Rattle.spec_parts.specs.Row.{Row, int, raise}
use Rattle.test_spec_parts.proofs.Moves.{by, off_by, strike, Won, Lost, gives, fine, waits, is_off, none, raises, woke, number, waiting, row, run, ran}

abbrev resolved : Outcome → Row
resolved given = row (Promise (Some given)) [] []

abbrev failed : Outcome
failed = Err (raise 50 plain.EndOfFile)

-- a promise is resolved once
resolved_once : run promise (by 0 (Resolve 0 (number 1)) ∷ by 0 (TryResolve 0 (int 2)) ∷ by 0 (Resolve 0 (number 3)) ∷ []) ≡ ran (fine ∷ gives (int 0) ∷ raises 2 (plain.Invalid misuse.Resolved) ∷ []) (resolved (number 1))
resolved_once = refl

tried_once : run promise (by 0 (TryResolve 0 (int 4)) ∷ by 0 (TryResolve 0 (int 5)) ∷ by 0 (Await 0) ∷ []) ≡ ran (gives (int 1) ∷ gives (int 0) ∷ gives (int 4) ∷ []) (resolved (number 4))
tried_once = refl

waiter_is_woken : run promise (by 0 (Await 0) ∷ by 1 (Resolve 0 (number 1)) ∷ by 1 (NextWake 0) ∷ by 1 (NextWake 0) ∷ []) ≡ ran (waits ∷ fine ∷ woke 0 (number 1) ∷ none ∷ []) (resolved (number 1))
waiter_is_woken = refl

-- one a call, in order, less those that were struck
woken_in_order :
    run promise (by 1 (Await 0) ∷ by 2 (Await 0) ∷ by 3 (Await 0) ∷ by 0 (Resolve 0 (number 8)) ∷ by 0 (NextWake 0) ∷ strike 2 ∷ strike 1 ∷ by 0 (NextWake 0) ∷ by 0 (NextWake 0) ∷ [])
    ≡ ran (waits ∷ waits ∷ waits ∷ fine ∷ woke 1 (number 8) ∷ Won ∷ Lost ∷ woke 3 (number 8) ∷ none ∷ []) (resolved (number 8))
woken_in_order = refl

nobody_is_woken_before : run promise (by 1 (Await 0) ∷ by 0 (NextWake 0) ∷ []) ≡ ran (waits ∷ none ∷ []) (row (Promise None) (waiting 1 ∷ []) [])
nobody_is_woken_before = refl

off_leaves_the_promise : run promise (off_by 1 (Await 0) ∷ by 0 (Resolve 0 (number 2)) ∷ off_by 1 (Await 0) ∷ []) ≡ ran (is_off ∷ fine ∷ gives (int 2) ∷ []) (resolved (number 2))
off_leaves_the_promise = refl

-- an exception comes out of a promise with its own serial
exception_is_kept : run promise (by 1 (Await 0) ∷ by 0 (Resolve 0 failed) ∷ by 0 (NextWake 0) ∷ by 2 (Await 0) ∷ by 2 (Await 0) ∷ []) ≡ ran (waits ∷ fine ∷ woke 1 failed ∷ raises 50 plain.EndOfFile ∷ raises 50 plain.EndOfFile ∷ []) (resolved failed)
exception_is_kept = refl

struck_alone : run promise (by 1 (Await 0) ∷ strike 1 ∷ strike 1 ∷ by 0 (TryResolve 0 value.Unit) ∷ by 0 (NextWake 0) ∷ []) ≡ ran (waits ∷ Won ∷ Lost ∷ gives (int 1) ∷ none ∷ []) (resolved (Ok value.Unit))
struck_alone = refl

not_its_call : run promise (by 0 (Take 0) ∷ []) ≡ ran (none ∷ []) promise
not_its_call = refl
