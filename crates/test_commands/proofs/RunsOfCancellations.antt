-- Contexts and cancellations.
use Rattle.std.proofs.Common.{◌≡◌, refl}
use Rattle.test_commands.specs.Run.{mocks, ok, raised, deadlock}

a_cancelled_yield : mocks "(eio 1 (main (sub c (cancel c \"stop\") (trace \"t\") (yield))))" ≡ raised "+t\n!Cancelled: Failure \"stop\"\n"
unfolding mocks
a_cancelled_yield = refl

a_cancelled_check : mocks "(eio 1 (main (sub c (check) (cancel c \"stop\") (check))))" ≡ raised "!Cancelled: Failure \"stop\"\n"
unfolding mocks
a_cancelled_check = refl

nothing_looks_behind_a_cancellation : mocks "(eio 1 (main (sub c (cancel c \"stop\")) (trace \"a\")))" ≡ ok "+a\n"
unfolding mocks
nothing_looks_behind_a_cancellation = refl

a_context_that_has_ended : mocks "(eio 1 (main (switch s (sub c (fork s (yield) (cancel c \"x\"))))))" ≡ raised "!Invalid_argument \"Cancellation context finished!\"\n"
unfolding mocks
a_context_that_has_ended = refl

nobody_cancels_main : mocks "(eio 1 (main (await-cancel)))" ≡ deadlock "!Deadlock_detected\n"
unfolding mocks
nobody_cancels_main = refl

the_first_of_two_cancellations : mocks "(eio 1 (main (sub c (cancel c \"one\") (cancel c \"two\") (check))))" ≡ raised "!Cancelled: Failure \"one\"\n"
unfolding mocks
the_first_of_two_cancellations = refl

a_cancellation_below_one : mocks "(eio 1 (main (sub c (sub d (cancel c \"outer\") (cancel d \"inner\") (check)))))" ≡ raised "!Cancelled: Failure \"outer\"\n"
unfolding mocks
a_cancellation_below_one = refl

a_cancellation_above_one : mocks "(eio 1 (main (sub c (try ((sub d (cancel d \"inner\") (cancel c \"outer\") (check))) x ((trace x))) (check))))" ≡ raised "+Cancelled: Failure \"inner\"\n!Cancelled: Failure \"outer\"\n"
unfolding mocks
a_cancellation_above_one = refl

two_cancellations_of_a_waiting_fiber : mocks "(eio 1 (main (sub c (both ((try ((await-cancel)) x ((trace x)))) ((cancel c \"one\") (cancel c \"two\"))))))" ≡ ok "+Cancelled: Failure \"one\"\n"
unfolding mocks
two_cancellations_of_a_waiting_fiber = refl

waiting_fibers_are_struck_in_order : mocks "(eio 1 (main (sub c (all ((try ((await-cancel)) x ((trace \"1\")))) ((try ((await-cancel)) x ((trace \"2\")))) ((yield) (cancel c \"x\") (trace \"3\"))))))" ≡ ok "+3\n+1\n+2\n"
unfolding mocks
waiting_fibers_are_struck_in_order = refl

-- who is protected takes, and so the adder needn't wait
a_protected_wait_is_not_struck : mocks "(eio 1 (stream q 0) (main (sub c (both ((protect (let x (take q)) (trace x))) ((cancel c \"x\") (try ((add q 1)) e ((trace e))))))))" ≡ ok "+1\n"
unfolding mocks
a_protected_wait_is_not_struck = refl

protect_in_a_context_that_is_off : mocks "(eio 1 (main (sub c (cancel c \"x\") (protect (check) (yield) (trace \"p\")) (trace \"q\") (check))))" ≡ raised "+p\n+q\n!Cancelled: Failure \"x\"\n"
unfolding mocks
protect_in_a_context_that_is_off = refl

sub_in_a_context_that_is_off : mocks "(eio 1 (main (sub c (cancel c \"x\") (sub d (trace \"n\")))))" ≡ raised "!Cancelled: Failure \"x\"\n"
unfolding mocks
sub_in_a_context_that_is_off = refl

a_wait_in_a_context_that_is_off : mocks "(eio 1 (stream q 0) (main (sub c (cancel c \"x\") (try ((take q)) e ((trace e))) (try ((await-cancel)) e ((trace e))))))" ≡ ok "+Cancelled: Failure \"x\"\n+Cancelled: Failure \"x\"\n"
unfolding mocks
a_wait_in_a_context_that_is_off = refl

-- it is made in a context that is off too
a_call_that_need_not_wait : mocks "(eio 1 (stream q 1) (main (sub c (cancel c \"x\") (add q 1) (let x (take q)) (trace x))))" ≡ ok "+1\n"
unfolding mocks
a_call_that_need_not_wait = refl

a_close_is_not_cancelled : mocks "(eio 1 (main (sub c (both ((switch t (fork t (protect (yield) (yield) (trace \"t\")))) (trace \"after\")) ((cancel c \"x\") (trace \"m\"))))))" ≡ ok "+m\n+t\n+after\n"
unfolding mocks
a_close_is_not_cancelled = refl
