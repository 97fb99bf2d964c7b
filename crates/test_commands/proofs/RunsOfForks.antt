-- Forks, daemons, and their order.
use Rattle.std.proofs.Common.{◌≡◌, refl}
use Rattle.test_commands.specs.Run.{mocks, ok, raised}

a_fork_runs_first : mocks "(eio 1 (main (switch s (fork s (trace \"x\") (yield) (trace \"z\")) (trace \"y\"))))" ≡ ok "+x\n+y\n+z\n"
unfolding mocks
a_fork_runs_first = refl

a_fork_in_a_fork_runs_first : mocks "(eio 1 (main (switch s (fork s (fork s (trace \"b\")) (trace \"c\")) (trace \"d\"))))" ≡ ok "+b\n+c\n+d\n"
unfolding mocks
a_fork_in_a_fork_runs_first = refl

-- those of that moment
a_fork_has_the_variables : mocks "(eio 1 (main (let x 1) (switch s (fork s (yield) (let y (plus x 1)) (trace y)) (let x 5) (trace x))))" ≡ ok "+5\n+2\n"
unfolding mocks
a_fork_has_the_variables = refl

a_fork_on_a_finished_switch : mocks "(eio 1 (main (switch o (switch s (fork o (yield) (yield) (fork s (trace \"n\")) (trace \"h\"))))))" ≡ ok "+h\n"
unfolding mocks
a_fork_on_a_finished_switch = refl

a_fork_on_a_switch_that_is_off : mocks "(eio 1 (main (switch s (fail s \"x\") (fork s (trace \"n\")) (trace \"m\"))))" ≡ raised "+m\n!Failure \"x\"\n"
unfolding mocks
a_fork_on_a_switch_that_is_off = refl

-- nothing was forked, and nothing raised
a_fork_below_a_cancelled_context : mocks "(eio 1 (main (sub c (switch s (cancel c \"x\") (fork s (trace \"n\")) (trace \"m\")) (trace \"e\"))))" ≡ ok "+m\n+e\n"
unfolding mocks
a_fork_below_a_cancelled_context = refl

-- a switch that runs its handlers takes no fiber
a_fork_in_a_handler : mocks "(eio 1 (main (switch s (on-release s (fork s (trace \"n\")) (trace \"h\")))))" ≡ ok "+h\n"
unfolding mocks
a_fork_in_a_handler = refl

a_fork_raises : mocks "(eio 1 (main (switch s (fork s (raise \"f\")) (trace \"a\") (yield) (trace \"b\"))))" ≡ raised "+a\n!Failure \"f\"\n"
unfolding mocks
a_fork_raises = refl

a_daemon_ends_before_its_switch : mocks "(eio 1 (main (switch s (fork-daemon s (try ((await-cancel)) x ((trace \"d\")))) (trace \"m\")) (trace \"e\")))" ≡ ok "+m\n+d\n+e\n"
unfolding mocks
a_daemon_ends_before_its_switch = refl

a_daemon_is_cancelled_with_exit : mocks "(eio 1 (main (switch s (fork-daemon s (try ((await-cancel)) x ((trace x)))) (trace \"m\")) (trace \"e\")))" ≡ ok "+m\n+Cancelled: Exit\n+e\n"
unfolding mocks
a_daemon_is_cancelled_with_exit = refl

a_daemon_without_end : mocks "(eio 1 (main (switch s (fork-daemon s (loop (yield))) (trace \"m\")) (trace \"e\")))" ≡ ok "+m\n+e\n"
unfolding mocks
a_daemon_without_end = refl

a_cancelled_daemon_raises : mocks "(eio 1 (main (switch s (fork-daemon s (try ((await-cancel)) x ((raise \"d\")))) (trace \"m\")) (trace \"e\")))" ≡ raised "+m\n!Failure \"d\"\n"
unfolding mocks
a_cancelled_daemon_raises = refl

a_daemon_raises : mocks "(eio 1 (main (switch s (fork-daemon s (yield) (raise \"d\")) (await-cancel))))" ≡ raised "!Failure \"d\"\n"
unfolding mocks
a_daemon_raises = refl

daemons_go_after_forks : mocks "(eio 1 (main (switch s (fork-daemon s (try ((await-cancel)) x ((trace \"d\")))) (fork s (yield) (yield) (trace \"f\")) (trace \"m\"))))" ≡ ok "+m\n+f\n+d\n"
unfolding mocks
daemons_go_after_forks = refl

a_fork_while_its_switch_waits : mocks "(eio 1 (main (switch s (fork s (yield) (fork s (trace \"in\")) (trace \"f\")) (trace \"m\"))))" ≡ ok "+m\n+in\n+f\n"
unfolding mocks
a_fork_while_its_switch_waits = refl

-- nothing is forked any more, but the handler is taken
a_cancelled_daemon_calls_on_its_switch : mocks "(eio 1 (main (switch s (fork-daemon s (try ((await-cancel)) e ((fork s (trace \"n\")) (on-release s (trace \"r\")) (trace e)))) (on-release s (trace \"h\")) (trace \"m\"))))" ≡ ok "+m\n+Cancelled: Exit\n+r\n+h\n"
unfolding mocks
a_cancelled_daemon_calls_on_its_switch = refl
