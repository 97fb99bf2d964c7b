-- Release handlers.
use Rattle.std.proofs.Common.{◌≡◌, refl}
use Rattle.test_commands.specs.Run.{mocks, ok, raised}

the_last_handler_runs_first : mocks "(eio 1 (main (switch s (on-release s (trace \"1\")) (on-release s (trace \"2\")) (trace \"b\"))))" ≡ ok "+b\n+2\n+1\n"
unfolding mocks
the_last_handler_runs_first = refl

-- the fresh batch comes after the first
a_handler_adds_a_handler : mocks "(eio 1 (main (switch s (on-release s (trace \"o\")) (on-release s (on-release s (trace \"n\"))))))" ≡ ok "+o\n+n\n"
unfolding mocks
a_handler_adds_a_handler = refl

on_release_on_a_finished_switch : mocks "(eio 1 (main (switch o (switch s (fork o (yield) (yield) (on-release s (trace \"h\")))))))" ≡ raised "+h\n!Invalid_argument \"Switch finished!\"\n"
unfolding mocks
on_release_on_a_finished_switch = refl

-- in place of that the switch has finished
its_handler_raises : mocks "(eio 1 (main (switch o (switch s (fork o (yield) (yield) (try ((on-release s (raise \"h\"))) x ((trace x))))))))" ≡ ok "+Failure \"h\"\n"
unfolding mocks
its_handler_raises = refl

a_body_and_a_handler_raise : mocks "(eio 1 (main (switch s (on-release s (raise \"h\")) (raise \"b\"))))" ≡ raised "!Multiple [Failure \"b\"; Failure \"h\"]\n"
unfolding mocks
a_body_and_a_handler_raise = refl

handlers_go_on_behind_a_raise : mocks "(eio 1 (main (switch s (on-release s (trace \"1\")) (on-release s (raise \"h\")) (trace \"b\"))))" ≡ raised "+b\n+1\n!Failure \"h\"\n"
unfolding mocks
handlers_go_on_behind_a_raise = refl

a_handler_is_protected : mocks "(eio 1 (main (switch s (on-release s (check) (yield) (trace \"h\")) (raise \"b\"))))" ≡ raised "+h\n!Failure \"b\"\n"
unfolding mocks
a_handler_is_protected = refl

-- those with which it was added
a_handler_has_the_variables : mocks "(eio 1 (main (let x 1) (switch s (on-release s (trace x)) (let x 2) (on-release s (trace x)))))" ≡ ok "+2\n+1\n"
unfolding mocks
a_handler_has_the_variables = refl

the_value_behind_handlers : mocks "(eio 1 (main (let v (switch s (on-release s (trace \"h\")) (give 4))) (trace v)))" ≡ ok "+h\n+4\n"
unfolding mocks
the_value_behind_handlers = refl

handlers_wait_for_forks : mocks "(eio 1 (main (switch s (on-release s (trace \"h\")) (fork s (yield) (trace \"f\")) (fork-daemon s (try ((await-cancel)) x ((trace \"d\")))))))" ≡ ok "+f\n+d\n+h\n"
unfolding mocks
handlers_wait_for_forks = refl

handlers_that_fail_and_open_a_switch : mocks "(eio 1 (main (switch s (on-release s (fail s \"f\") (trace \"h\")) (on-release s (switch t (fork t (yield) (trace \"in\")) (trace \"t\"))) (trace \"b\"))))" ≡ raised "+b\n+t\n+in\n+h\n!Failure \"f\"\n"
unfolding mocks
handlers_that_fail_and_open_a_switch = refl
