-- Promises.
use Rattle.std.proofs.Common.{◌≡◌, refl}
use Rattle.test_commands.specs.Run.{mocks, ok, raised, deadlock}

resolved_once : mocks "(eio 1 (promise p) (main (resolve p 1) (let a (try-resolve p 2)) (trace a) (resolve p 3)))" ≡ raised "+0\n!Invalid_argument \"Promise already resolved\"\n"
unfolding mocks
resolved_once = refl

the_value_of_a_fork : mocks "(eio 1 (promise p) (main (switch s (fork-promise s p (give 5)) (let v (await p)) (trace v))))" ≡ ok "+5\n"
unfolding mocks
the_value_of_a_fork = refl

-- its switch isn't failed
a_fork_with_a_promise_raises : mocks "(eio 1 (promise p) (main (switch s (fork-promise s p (raise \"x\")) (try ((await p)) e ((trace e))) (trace \"m\"))))" ≡ ok "+Failure \"x\"\n+m\n"
unfolding mocks
a_fork_with_a_promise_raises = refl

its_promise_was_resolved : mocks "(eio 1 (promise p) (main (resolve p 1) (switch s (fork-promise s p (give 2)))))" ≡ raised "!Invalid_argument \"Promise already resolved\"\n"
unfolding mocks
its_promise_was_resolved = refl

no_fork_to_resolve : mocks "(eio 1 (promise p) (main (try ((switch s (fail s \"x\") (fork-promise s p (give 1)))) e ((trace e))) (await p)))" ≡ deadlock "+Failure \"x\"\n!Deadlock_detected\n"
unfolding mocks
no_fork_to_resolve = refl

-- two raises of one text are two
one_exception_met_twice : mocks "(eio 1 (promise p) (main (switch s (fork-promise s p (raise \"x\"))) (both ((await p)) ((await p)))))" ≡ raised "!Failure \"x\"\n"
unfolding mocks
one_exception_met_twice = refl

two_raises_of_one_text : mocks "(eio 1 (main (both ((raise \"x\")) ((raise \"x\")))))" ≡ raised "!Multiple [Failure \"x\"; Failure \"x\"]\n"
unfolding mocks
two_raises_of_one_text = refl

all_who_await_are_woken : mocks "(eio 1 (promise p) (main (all ((let v (await p)) (trace \"a\" v)) ((let v (await p)) (trace \"b\" v)) ((resolve p 7) (trace \"c\")))))" ≡ ok "+c\n+a7\n+b7\n"
unfolding mocks
all_who_await_are_woken = refl

who_awaits_was_woken_before : mocks "(eio 1 (promise p) (main (sub c (both ((let v (await p)) (trace v)) ((resolve p 1) (cancel c \"x\"))))))" ≡ ok "+1\n"
unfolding mocks
who_awaits_was_woken_before = refl

a_cancelled_fork_resolves : mocks "(eio 1 (promise p) (main (try ((switch s (fork-promise s p (await-cancel)) (fail s \"x\"))) e ((trace e))) (try ((await p)) e ((trace e)))))" ≡ ok "+Failure \"x\"\n+Cancelled: Failure \"x\"\n"
unfolding mocks
a_cancelled_fork_resolves = refl
