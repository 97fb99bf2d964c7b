-- The mocked clock.
use Rattle.std.proofs.Common.{◌≡◌, refl}
use Rattle.test_commands.specs.Run.{mocks, ok, raised}

a_promise_after_a_while : mocks "(eio 1 (promise p) (main (switch s (fork s (sleep 5) (resolve p 1)) (let v (await p)) (trace v))))" ≡ ok "+mock time is now 5\n+1\n"
unfolding mocks
a_promise_after_a_while = refl

-- a cancelled sleep makes no jump
a_take_with_a_timeout : mocks "(eio 1 (stream q 2) (main (switch s (fork s (sleep 3) (add q 42)) (let v (first ((sleep 10) (give -1)) ((let x (take q)) (give x)))) (trace \"got \" v))))" ≡ ok "+mock time is now 3\n+got 42\n"
unfolding mocks
a_take_with_a_timeout = refl

its_timeout_comes : mocks "(eio 1 (stream q 2) (main (switch s (fork s (sleep 13) (add q 42)) (let v (first ((sleep 10) (give -1)) ((let x (take q)) (give x)))) (trace \"got \" v))))" ≡ ok "+mock time is now 10\n+got -1\n+mock time is now 13\n"
unfolding mocks
its_timeout_comes = refl

no_sleep_at_all : mocks "(eio 1 (main (sleep 0) (let t (now)) (trace t)))" ≡ ok "+0\n"
unfolding mocks
no_sleep_at_all = refl

a_sleep_below_0 : mocks "(eio 1 (main (both ((sleep -5) (trace \"a\")) ((let t (now)) (trace t)))))" ≡ ok "+0\n+a\n"
unfolding mocks
a_sleep_below_0 = refl

two_due_at_once : mocks "(eio 1 (main (both ((sleep 2) (trace \"a\")) ((sleep 2) (trace \"b\")))))" ≡ ok "+mock time is now 2\n+a\n+b\n"
unfolding mocks
two_due_at_once = refl

due_at_once_by_order_of_making : mocks "(eio 1 (main (all ((sleep 3) (trace \"a\")) ((sleep 1) (sleep 2) (trace \"b\")) ((sleep 3) (trace \"c\")))))" ≡ ok "+mock time is now 1\n+mock time is now 3\n+a\n+c\n+b\n"
unfolding mocks
due_at_once_by_order_of_making = refl

a_cancelled_sleep : mocks "(eio 1 (main (first ((sleep 5)) ((sleep 2))) (sleep 1) (let t (now)) (trace t)))" ≡ ok "+mock time is now 2\n+mock time is now 3\n+3\n"
unfolding mocks
a_cancelled_sleep = refl

the_latest_time : mocks "(eio 1 (main (sleep 9223372036854775807)))" ≡ ok "+mock time is now 9223372036854775807\n"
unfolding mocks
the_latest_time = refl

a_sleep_past_it : mocks "(eio 1 (main (sleep 1) (sleep 9223372036854775807)))" ≡ raised "+mock time is now 1\n!Invalid_argument \"Overflow\"\n"
unfolding mocks
a_sleep_past_it = refl

a_sleep_in_a_context_that_is_off : mocks "(eio 1 (main (sub c (cancel c \"x\") (sleep 5))))" ≡ raised "!Cancelled: Failure \"x\"\n"
unfolding mocks
a_sleep_in_a_context_that_is_off = refl

a_sleep_of_a_text : mocks "(eio 1 (main (sleep \"a\")))" ≡ raised "!Invalid_argument \"Not a number\"\n"
unfolding mocks
a_sleep_of_a_text = refl

the_clock_stands_while_a_fiber_is_ready : mocks "(eio 1 (main (both ((sleep 1) (trace \"a\")) ((repeat i 4 (yield)) (trace \"b\")))))" ≡ ok "+b\n+mock time is now 1\n+a\n"
unfolding mocks
the_clock_stands_while_a_fiber_is_ready = refl

a_sleep_past_it_in_a_context_that_is_off : mocks "(eio 1 (main (sub c (sleep 1) (cancel c \"x\") (sleep 9223372036854775807))))" ≡ raised "+mock time is now 1\n!Invalid_argument \"Overflow\"\n"
unfolding mocks
a_sleep_past_it_in_a_context_that_is_off = refl

a_protected_daemon_is_waited_for : mocks "(eio 1 (main (switch s (fork-daemon s (protect (sleep 3) (trace \"d\"))) (trace \"m\")) (let t (now)) (trace t)))" ≡ ok "+m\n+mock time is now 3\n+d\n+3\n"
unfolding mocks
a_protected_daemon_is_waited_for = refl

sleeps_in_two_fibers : mocks "(eio 1 (main (both ((sleep 2) (trace \"a\") (sleep 2) (trace \"c\")) ((sleep 3) (trace \"b\") (sleep 1) (trace \"d\"))) (sleep (minus 0 1)) (let t (now)) (trace t)))" ≡ ok "+mock time is now 2\n+a\n+mock time is now 3\n+b\n+mock time is now 4\n+c\n+d\n+4\n"
unfolding mocks
sleeps_in_two_fibers = refl

a_sleep_is_cancelled_by_a_fork : mocks "(eio 1 (main (switch s (fork s (sleep 5) (raise \"t\")) (try ((sleep 9)) e ((trace e) (let n (now)) (trace n) (sleep 0) (sleep 2))))))" ≡ raised "+mock time is now 5\n+Cancelled: Failure \"t\"\n+5\n!Failure \"t\"\n"
unfolding mocks
a_sleep_is_cancelled_by_a_fork = refl
