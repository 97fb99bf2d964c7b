-- Switches: their values, their errors, and what closing them waits for.
use Rattle.std.proofs.Common.{◌≡◌, refl}
use Rattle.test_commands.specs.Run.{mocks, ok, raised, deadlock}

the_value_of_a_switch : mocks "(eio 1 (main (let v (switch s (fork s (yield) (trace \"f\")) (give 4))) (trace v)))" ≡ ok "+f\n+4\n"
unfolding mocks
the_value_of_a_switch = refl

a_body_raises : mocks "(eio 1 (main (switch s (fork s (try ((await-cancel)) x ((trace \"c\")))) (raise \"boom\"))))" ≡ raised "+c\n!Failure \"boom\"\n"
unfolding mocks
a_body_raises = refl

errors_of_two_forks : mocks "(eio 1 (main (switch s (fork s (yield) (raise \"one\")) (fork s (try ((await-cancel)) x ((raise \"two\")))))))" ≡ raised "!Multiple [Failure \"one\"; Failure \"two\"]\n"
unfolding mocks
errors_of_two_forks = refl

-- a Cancelled adds nothing
a_body_is_cancelled_by_its_fork : mocks "(eio 1 (main (switch s (fork s (yield) (raise \"f\")) (await-cancel))))" ≡ raised "!Failure \"f\"\n"
unfolding mocks
a_body_is_cancelled_by_its_fork = refl

the_reason_that_a_body_sees : mocks "(eio 1 (main (switch s (fork s (yield) (raise \"f\")) (try ((await-cancel)) x ((trace x))) (trace \"b\"))))" ≡ raised "+Cancelled: Failure \"f\"\n+b\n!Failure \"f\"\n"
unfolding mocks
the_reason_that_a_body_sees = refl

fail_goes_on : mocks "(eio 1 (main (switch s (fail s \"x\") (trace \"a\") (fail s \"y\") (trace \"b\"))))" ≡ raised "+a\n+b\n!Multiple [Failure \"x\"; Failure \"y\"]\n"
unfolding mocks
fail_goes_on = refl

fail_on_a_finished_switch : mocks "(eio 1 (main (switch o (switch s (fork o (yield) (fail s \"late\"))))))" ≡ raised "!Invalid_argument \"Switch finished!\"\n"
unfolding mocks
fail_on_a_finished_switch = refl

a_cancelled_body_alone : mocks "(eio 1 (main (sub c (switch s (cancel c \"x\") (check)))))" ≡ raised "!Cancelled: Failure \"x\"\n"
unfolding mocks
a_cancelled_body_alone = refl

a_switch_in_a_context_that_is_off : mocks "(eio 1 (main (sub c (cancel c \"x\") (switch s (trace \"n\")))))" ≡ raised "!Cancelled: Failure \"x\"\n"
unfolding mocks
a_switch_in_a_context_that_is_off = refl

what_is_protected_keeps_a_switch_open : mocks "(eio 1 (main (switch s (fork s (protect (await-cancel))) (fail s \"x\"))))" ≡ deadlock "!Deadlock_detected\n"
unfolding mocks
what_is_protected_keeps_a_switch_open = refl
