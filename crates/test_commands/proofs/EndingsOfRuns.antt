-- How runs end, with which text and which status.
use Rattle.std.proofs.Common.{◌≡◌, refl}
use Rattle.test_commands.specs.Run.{mocks, mocks_in, ok, raised, deadlock, out_of_steps}

an_empty_main : mocks "(eio 1 (main))" ≡ ok ""
unfolding mocks
an_empty_main = refl

the_end_of_main_is_a_move : mocks_in 1 "(eio 1 (main))" ≡ ok ""
unfolding mocks_in
the_end_of_main_is_a_move = refl

main_raises : mocks "(eio 1 (main (trace \"a\") (raise \"x\") (trace \"b\")))" ≡ raised "+a\n!Failure \"x\"\n"
unfolding mocks
main_raises = refl

a_raise_is_no_move : mocks_in 1 "(eio 1 (main (raise \"x\")))" ≡ raised "!Failure \"x\"\n"
unfolding mocks_in
a_raise_is_no_move = refl

yields_without_end : mocks_in 10 "(eio 1 (main (loop (yield))))" ≡ out_of_steps "!Out_of_steps\n"
unfolding mocks_in
yields_without_end = refl

the_last_move_is_the_end : mocks_in 10 "(eio 1 (main (trace \"1\") (trace \"2\") (trace \"3\") (trace \"4\") (trace \"5\") (trace \"6\") (trace \"7\") (trace \"8\") (trace \"9\")))" ≡ ok "+1\n+2\n+3\n+4\n+5\n+6\n+7\n+8\n+9\n"
unfolding mocks_in
the_last_move_is_the_end = refl

only_the_end_is_left : mocks_in 9 "(eio 1 (main (trace \"1\") (trace \"2\") (trace \"3\") (trace \"4\") (trace \"5\") (trace \"6\") (trace \"7\") (trace \"8\") (trace \"9\")))" ≡ out_of_steps "+1\n+2\n+3\n+4\n+5\n+6\n+7\n+8\n+9\n!Out_of_steps\n"
unfolding mocks_in
only_the_end_is_left = refl

-- nothing more is possible, so that it isn't for want of steps
waiting_after_the_last_step : mocks_in 1 "(eio 1 (main (await-cancel)))" ≡ deadlock "!Deadlock_detected\n"
unfolding mocks_in
waiting_after_the_last_step = refl

a_tick_is_left : mocks_in 1 "(eio 1 (main (sleep 5)))" ≡ out_of_steps "!Out_of_steps\n"
unfolding mocks_in
a_tick_is_left = refl

a_fork_waits_for_ever : mocks "(eio 1 (stream q 0) (main (switch s (fork s (take q)) (trace \"a\"))))" ≡ deadlock "+a\n!Deadlock_detected\n"
unfolding mocks
a_fork_waits_for_ever = refl

a_daemon_that_cannot_be_cancelled : mocks "(eio 1 (main (switch s (fork-daemon s (protect (await-cancel))) (trace \"a\"))))" ≡ deadlock "+a\n!Deadlock_detected\n"
unfolding mocks
a_daemon_that_cannot_be_cancelled = refl

-- the run is over where nothing can move
a_job_goes_on_behind_main : mocks "(eio 1 (executor e 0) (main (first ((submit e 50 () (yield) (yield) (trace \"job\"))) ()) (trace \"m\")))" ≡ ok "+m\n+job\n"
unfolding mocks
a_job_goes_on_behind_main = refl

out_of_steps_behind_main : mocks_in 12 "(eio 1 (executor e 0) (main (first ((submit e 50 () (yield) (yield) (trace \"job\"))) ()) (trace \"m\")))" ≡ out_of_steps "+m\n!Out_of_steps\n"
unfolding mocks_in
out_of_steps_behind_main = refl

one_obligation_is_left : mocks_in 14 "(eio 1 (executor e 0) (main (first ((submit e 50 () (yield) (yield) (trace \"job\"))) ()) (trace \"m\")))" ≡ out_of_steps "+m\n+job\n!Out_of_steps\n"
unfolding mocks_in
one_obligation_is_left = refl

no_obligation_is_left : mocks_in 15 "(eio 1 (executor e 0) (main (first ((submit e 50 () (yield) (yield) (trace \"job\"))) ()) (trace \"m\")))" ≡ ok "+m\n+job\n"
unfolding mocks_in
no_obligation_is_left = refl

-- main's end decides
a_job_waits_behind_main : mocks "(eio 1 (stream q 0) (executor e 0) (main (first ((submit e 50 () (take q))) ()) (raise \"x\")))" ≡ raised "!Failure \"x\"\n"
unfolding mocks
a_job_waits_behind_main = refl
