-- Semaphores, mutexes and pools.
use Rattle.std.proofs.Common.{◌≡◌, refl}
use Rattle.test_commands.specs.Run.{mocks, ok, raised}

a_resource_is_passed_on : mocks "(eio 1 (pool r 1) (main (both ((use-pool r x (trace \"a\" x) (yield) (trace \"b\" x))) ((use-pool r x (trace \"c\" x))))))" ≡ ok "+a0\n+b0\n+c0\n"
unfolding mocks
a_resource_is_passed_on = refl

-- the one put back last is used first
resources_are_made_as_needed : mocks "(eio 1 (pool r 2) (main (all ((use-pool r x (trace \"a\" x) (yield) (trace \"d\" x))) ((use-pool r x (trace \"b\" x) (yield) (trace \"e\" x))) ((use-pool r x (trace \"f\" x)))) (use-pool r x (trace \"g\" x))))" ≡ ok "+a0\n+b1\n+d0\n+e1\n+f0\n+g0\n"
unfolding mocks
resources_are_made_as_needed = refl

a_raise_puts_its_resource_back : mocks "(eio 1 (pool r 1) (main (try ((use-pool r x (raise \"u\"))) e ((trace e))) (use-pool r x (trace x))))" ≡ ok "+Failure \"u\"\n+0\n"
unfolding mocks
a_raise_puts_its_resource_back = refl

a_raise_poisons : mocks "(eio 1 (mutex m) (main (try ((use-rw m (raise \"bad\"))) x ((trace x))) (try ((lock m)) x ((trace x)))))" ≡ ok "+Failure \"bad\"\n+Poisoned\n"
unfolding mocks
a_raise_poisons = refl

who_waits_is_poisoned : mocks "(eio 1 (mutex m) (main (both ((try ((use-rw m (yield) (raise \"bad\"))) e ((trace e)))) ((try ((lock m)) e ((trace e)))))))" ≡ ok "+Failure \"bad\"\n+Poisoned\n"
unfolding mocks
who_waits_is_poisoned = refl

an_unlock_too_many : mocks "(eio 1 (mutex m) (main (unlock m)))" ≡ raised "!Invalid_argument \"Mutex not locked\"\n"
unfolding mocks
an_unlock_too_many = refl

an_unlock_of_a_poisoned_mutex : mocks "(eio 1 (mutex m) (main (try ((use-rw m (raise \"bad\"))) x ()) (try ((unlock m)) x ((trace x))) (try-lock m)))" ≡ raised "+Poisoned\n!Poisoned\n"
unfolding mocks
an_unlock_of_a_poisoned_mutex = refl

tried_locks : mocks "(eio 1 (mutex m) (main (let a (try-lock m)) (let b (try-lock m)) (trace a b) (unlock m) (let c (try-lock m)) (trace c)))" ≡ ok "+10\n+1\n"
unfolding mocks
tried_locks = refl

a_mutex_is_passed_on : mocks "(eio 1 (mutex m) (main (both ((use-rw m (yield) (trace \"a\"))) ((use-rw m (trace \"b\"))))))" ≡ ok "+a\n+b\n"
unfolding mocks
a_mutex_is_passed_on = refl

a_release_wakes : mocks "(eio 1 (semaphore m 0) (main (both ((acquire m) (trace \"a\")) ((trace \"b\") (release m) (trace \"c\")))))" ≡ ok "+b\n+c\n+a\n"
unfolding mocks
a_release_wakes = refl

a_cancelled_acquire_takes_nothing : mocks "(eio 1 (semaphore m 0) (main (first ((acquire m)) ()) (release m) (acquire m) (trace \"a\")))" ≡ ok "+a\n"
unfolding mocks
a_cancelled_acquire_takes_nothing = refl

a_cancelled_lock_takes_nothing : mocks "(eio 1 (mutex m) (main (lock m) (first ((lock m)) ()) (unlock m) (let a (try-lock m)) (trace a)))" ≡ ok "+1\n"
unfolding mocks
a_cancelled_lock_takes_nothing = refl

a_cancelled_use_uses_nothing : mocks "(eio 1 (pool r 1) (main (use-pool r x (first ((use-pool r y (trace \"n\"))) ()) (trace x)) (use-pool r z (trace z))))" ≡ ok "+0\n+0\n"
unfolding mocks
a_cancelled_use_uses_nothing = refl

one_at_a_time : mocks "(eio 1 (semaphore m 1) (main (switch s (repeat k 3 (fork s (acquire m) (trace \"in\" k) (yield) (trace \"out\" k) (release m))))))" ≡ ok "+in0\n+out0\n+in1\n+out1\n+in2\n+out2\n"
unfolding mocks
one_at_a_time = refl

passed_on_and_then_poisoned : mocks "(eio 1 (mutex m) (main (switch s (repeat k 3 (fork s (try ((use-rw m (trace \"in\" k) (yield) (if (same k 1) ((raise \"p\")) ()) (trace \"out\" k))) e ((trace k e))))))))" ≡ ok "+in0\n+out0\n+in1\n+1Failure \"p\"\n+2Poisoned\n"
unfolding mocks
passed_on_and_then_poisoned = refl
