-- The ends of blocks of contexts and of branches: what comes to `leave` and `join`, and what goes on behind them.
use Rattle.std.proofs.Common.{◌≡◌, [], ◌∷◌, Some, None, false, refl}
use Rattle.std.specs.Prelude.{ℕ, codes, pos}
use Rattle.eio_value.specs.Table.{text_id}
use Rattle.eio_value.specs.declared.value.Value.TheVariants.{Unit, Int, Text}
use Rattle.eio_value.specs.declared.plain.Plain.{Plain}
use Rattle.eio_value.specs.declared.plain.Plain.TheVariants.{Failure, Exit, NotFirst}
use Rattle.eio_value.specs.declared.raised.Raised.TheVariants.{Cancelled}
use Rattle.eio_value.specs.declared.raised.Outcome.TheVariants.{Ok, Err}
use Rattle.spec_script.specs.Syntax.{Both, First, All, Any}
use Rattle.spec_fiber.specs.Asks.{Ask, Trace, Yield, Sub, Protect, Cancel, Leave, AwaitCancel, Branches, Join, End}
use Rattle.test_spec_fiber.specs.Replied.{Gives, ThrowsAgain, Cancels, Enters, Passes, Waits, done, raise, ends, fails, block}
use Rattle.test_spec_fiber.specs.Runs.{calls}

abbrev traces : ℕ → Ask
traces n = Trace (Int (pos n) ∷ [])

abbrev failure : ℕ → Plain
failure n = Failure (text_id n)

-- main ends with the first raise, a Cancelled
abbrev cancelled_at_end : Plain → Ask
cancelled_at_end reason = End (Err (Cancelled (record { serial = 0; what = reason })))

-- Contexts

-- the name stands for the context of that number
context_is_bound : calls (codes "(eio 1 (main (let x 1) (sub c (let y 2) (cancel c \"a\")) (trace x)))") (Enters 5 ∷ done ∷ Passes ∷ done ∷ []) ≡ Sub (block 3) ∷ Cancel 5 (text_id 0) ∷ Leave 5 false (Ok Unit) ∷ traces 1 ∷ ends Unit ∷ []
unfolding calls
context_is_bound = refl

outer_context : calls (codes "(eio 1 (main (sub c (sub d (cancel c \"a\") (cancel d \"b\")))))") (Enters 5 ∷ Enters 6 ∷ done ∷ done ∷ Passes ∷ Passes ∷ []) ≡ Sub (block 1) ∷ Sub (block 2) ∷ Cancel 5 (text_id 0) ∷ Cancel 6 (text_id 1) ∷ Leave 6 false (Ok Unit) ∷ Leave 5 false (Ok Unit) ∷ ends Unit ∷ []
unfolding calls
outer_context = refl

-- an exception stops at each `leave`, and goes on behind it with its number
exception_through_leaves : calls (codes "(eio 1 (main (try ((sub c (protect (raise \"a\") (trace 1)) (trace 2))) e ((trace e)))))") (Enters 5 ∷ Enters 6 ∷ Passes ∷ Passes ∷ done ∷ []) ≡ Sub (block 2) ∷ Protect (block 3) ∷ Leave 6 false (Err (raise 0 (failure 0))) ∷ Leave 5 false (Err (raise 0 (failure 0))) ∷ Trace (Text (text_id 1) ∷ []) ∷ ends Unit ∷ []
unfolding calls
exception_through_leaves = refl

-- the call itself raises: there is no block to leave
sub_raises : calls (codes "(eio 1 (main (try ((sub c (yield))) e ((trace 1)))))") (Cancels Exit ∷ done ∷ []) ≡ Sub (block 2) ∷ traces 1 ∷ ends Unit ∷ []
unfolding calls
sub_raises = refl

-- a `try` inside the block takes it before `leave`
try_inside : calls (codes "(eio 1 (main (protect (try ((yield)) e ()))))") (Enters 1 ∷ Cancels Exit ∷ Passes ∷ []) ≡ Protect (block 1) ∷ Yield ∷ Leave 1 false (Ok Unit) ∷ ends Unit ∷ []
unfolding calls
try_inside = refl

-- names of the block are gone behind it
behind_block : calls (codes "(eio 1 (main (sub c (let y 2)) (let z 7) (trace z)))") (Enters 5 ∷ Passes ∷ done ∷ []) ≡ Sub (block 1) ∷ Leave 5 false (Ok Unit) ∷ traces 7 ∷ ends Unit ∷ []
unfolding calls
behind_block = refl

-- Branches

-- the caller runs the last block, and comes to `join` with its outcome; a further `join` brings nothing
caller_runs_last : calls (codes "(eio 1 (main (both ((trace 1)) ((let y 2) (trace y))) (trace 3)))") (Enters 2 ∷ done ∷ Waits ∷ Waits ∷ done ∷ done ∷ []) ≡ Branches Both (block 1 ∷ block 4 ∷ []) ∷ traces 2 ∷ Join 2 (Some (Ok Unit)) ∷ Join 2 None ∷ Join 2 None ∷ traces 3 ∷ ends Unit ∷ []
unfolding calls
caller_runs_last = refl

-- what `join` gives is the value of the form, whatever the caller's own branch gave
join_gives : calls (codes "(eio 1 (main (let x (first ((give 1)) ((give 2)))) (trace x)))") (Enters 2 ∷ Gives (Int (pos 1)) ∷ done ∷ []) ≡ Branches First (block 2 ∷ block 5 ∷ []) ∷ Join 2 (Some (Ok (Int (pos 2)))) ∷ traces 1 ∷ ends Unit ∷ []
unfolding calls
join_gives = refl

-- what `join` raises goes on, whatever the caller's own branch raised
join_raises : calls (codes "(eio 1 (main (all ((yield)) ((yield)) ((raise \"a\")))))") (Enters 2 ∷ Waits ∷ ThrowsAgain (raise 7 Exit) ∷ []) ≡ Branches All (block 1 ∷ block 3 ∷ block 5 ∷ []) ∷ Join 2 (Some (Err (raise 0 (failure 0)))) ∷ Join 2 None ∷ fails 7 Exit ∷ []
unfolding calls
join_raises = refl

one_branch : calls (codes "(eio 1 (main (any ((raise \"a\")))))") (Enters 1 ∷ []) ≡ Branches Any (block 1 ∷ []) ∷ Join 1 (Some (Err (raise 0 (failure 0)))) ∷ []
unfolding calls
one_branch = refl

-- without branches `all` is silent, and `any` awaits its cancellation
no_branches : calls (codes "(eio 1 (main (all) (trace 1) (any) (trace 2)))") (done ∷ Cancels NotFirst ∷ []) ≡ traces 1 ∷ AwaitCancel ∷ cancelled_at_end NotFirst ∷ []
unfolding calls
no_branches = refl
