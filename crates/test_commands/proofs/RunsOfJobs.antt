-- Executors and their jobs.
use Rattle.std.proofs.Common.{◌≡◌, refl}
use Rattle.test_commands.specs.Run.{mocks, ok, raised, deadlock}

a_job_with_a_variable : mocks "(eio 1 (executor e 0 0) (main (let x 5) (let y (submit e 60 (x) (give (plus x 2)))) (trace y)))" ≡ ok "+7\n"
unfolding mocks
a_job_with_a_variable = refl

weights_that_do_not_fit : mocks "(eio 1 (executor e 0) (main (both ((submit e 60 () (trace \"a\") (yield) (trace \"b\"))) ((submit e 60 () (trace \"c\"))))))" ≡ ok "+a\n+b\n+c\n"
unfolding mocks
weights_that_do_not_fit = refl

weights_that_fit : mocks "(eio 1 (executor e 0) (main (both ((submit e 40 () (trace \"a\") (yield) (trace \"b\"))) ((submit e 40 () (trace \"c\"))))))" ≡ ok "+a\n+c\n+b\n"
unfolding mocks
weights_that_fit = refl

two_workers : mocks "(eio 1 (executor e 0 0) (main (both ((submit e 60 () (trace \"a\") (yield) (trace \"b\"))) ((submit e 60 () (trace \"c\"))))))" ≡ ok "+a\n+c\n+b\n"
unfolding mocks
two_workers = refl

a_job_raises : mocks "(eio 1 (executor e 0) (main (try ((submit e 10 () (raise \"j\"))) x ((trace x)))))" ≡ ok "+Failure \"j\"\n"
unfolding mocks
a_job_raises = refl

-- it has a context of its own
a_job_stays_that_nobody_waits_for : mocks "(eio 1 (executor e 0) (main (try ((sub c (both ((submit e 50 () (yield) (yield) (yield) (check) (trace \"job\"))) ((cancel c \"x\"))))) x ((trace x)))))" ≡ ok "+Cancelled: Failure \"x\"\n+job\n"
unfolding mocks
a_job_stays_that_nobody_waits_for = refl

-- nothing was queued
a_submit_in_a_context_that_is_off : mocks "(eio 1 (executor e 0) (main (sub c (cancel c \"x\") (try ((submit e 50 () (trace \"job\"))) x ((trace x))))))" ≡ ok "+Cancelled: Failure \"x\"\n"
unfolding mocks
a_submit_in_a_context_that_is_off = refl

-- one that fits doesn't go before one that doesn't
jobs_in_order : mocks "(eio 1 (executor e 0) (main (all ((submit e 100 () (yield) (trace \"a\"))) ((submit e 100 () (yield) (trace \"b\"))) ((submit e 10 () (trace \"c\"))))))" ≡ ok "+a\n+b\n+c\n"
unfolding mocks
jobs_in_order = refl

a_job_that_raises_for_nobody : mocks "(eio 1 (executor e 0) (main (first ((submit e 50 () (yield) (yield) (raise \"j\"))) ()) (trace \"m\")))" ≡ ok "+m\n"
unfolding mocks
a_job_that_raises_for_nobody = refl

a_job_in_a_job : mocks "(eio 1 (executor e 0) (main (let z (submit e 50 () (let y (submit e 50 () (give 1))) (give (plus y 1)))) (trace z)))" ≡ ok "+2\n"
unfolding mocks
a_job_in_a_job = refl

a_job_in_a_job_that_does_not_fit : mocks "(eio 1 (executor e 0) (main (submit e 60 () (submit e 60 () (trace \"n\")))))" ≡ deadlock "!Deadlock_detected\n"
unfolding mocks
a_job_in_a_job_that_does_not_fit = refl

-- who waits for a is cancelled; who waited for b was woken before
jobs_on_three_workers : mocks "(eio 1 (executor e 0 0 0) (main (all ((let a (submit e 70 () (yield) (yield) (give \"a\"))) (trace a)) ((let b (submit e 40 () (yield) (give \"b\"))) (trace b)) ((let c (submit e 90 () (give \"c\"))) (trace c)) ((let d (submit e 30 () (raise \"d\"))) (trace d)))))" ≡ raised "+c\n+b\n!Failure \"d\"\n"
unfolding mocks
jobs_on_three_workers = refl
