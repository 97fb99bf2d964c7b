-- Groups: both, all, first, any.
use Rattle.std.proofs.Common.{◌≡◌, refl}
use Rattle.test_commands.specs.Run.{mocks, ok, raised, deadlock}

both_go_on : mocks "(eio 1 (main (both ((trace \"a\") (yield) (trace \"b\")) ((trace \"c\")))))" ≡ ok "+a\n+c\n+b\n"
unfolding mocks
both_go_on = refl

-- the end of `protect` doesn't look at its parent
a_protected_branch : mocks "(eio 1 (main (first ((protect (yield) (yield) (trace \"p\")) (trace \"q\")) ((trace \"g\")))))" ≡ ok "+g\n+p\n+q\n"
unfolding mocks
a_protected_branch = refl

the_first_of_two_values : mocks "(eio 1 (main (let v (first ((give 1)) ((give 2)))) (trace v)))" ≡ ok "+1\n"
unfolding mocks
the_first_of_two_values = refl

no_branches : mocks "(eio 1 (main (all) (trace \"a\") (any)))" ≡ deadlock "+a\n!Deadlock_detected\n"
unfolding mocks
no_branches = refl

nine_errors : mocks "(eio 1 (main (all ((raise \"1\")) ((raise \"2\")) ((raise \"3\")) ((raise \"4\")) ((raise \"5\")) ((raise \"6\")) ((raise \"7\")) ((raise \"8\")) ((raise \"9\")))))" ≡ raised "!Multiple [Failure \"1\"; Failure \"2\"; Failure \"3\"; Failure \"4\"; Failure \"5\"; Failure \"6\"; Failure \"7\"; Failure \"8\"; ...]\n"
unfolding mocks
nine_errors = refl

eight_errors : mocks "(eio 1 (main (all ((raise \"1\")) ((raise \"2\")) ((raise \"3\")) ((raise \"4\")) ((raise \"5\")) ((raise \"6\")) ((raise \"7\")) ((raise \"8\")))))" ≡ raised "!Multiple [Failure \"1\"; Failure \"2\"; Failure \"3\"; Failure \"4\"; Failure \"5\"; Failure \"6\"; Failure \"7\"; Failure \"8\"]\n"
unfolding mocks
eight_errors = refl

two_errors_bound : mocks "(eio 1 (main (try ((both ((raise \"1\")) ((raise \"2\")))) e ((trace e)))))" ≡ ok "+Multiple [Failure \"1\"; ...]\n"
unfolding mocks
two_errors_bound = refl

a_branch_that_yields_is_cancelled : mocks "(eio 1 (main (both ((yield) (raise \"1\")) ((raise \"2\")))))" ≡ raised "!Failure \"2\"\n"
unfolding mocks
a_branch_that_yields_is_cancelled = refl

-- a value that comes later isn't kept
a_value_and_then_the_cancelled : mocks "(eio 1 (main (let v (first ((try ((await-cancel)) x ((trace x) (give 2)))) ((give 1)))) (trace v)))" ≡ ok "+Cancelled: Not_first\n+1\n"
unfolding mocks
a_value_and_then_the_cancelled = refl

an_error_behind_a_value : mocks "(eio 1 (main (let v (first ((try ((await-cancel)) x ((raise \"late\")))) ((give 1)))) (trace v)))" ≡ raised "!Failure \"late\"\n"
unfolding mocks
an_error_behind_a_value = refl

both_branches_are_cancelled : mocks "(eio 1 (main (sub c (first ((await-cancel)) ((cancel c \"x\") (await-cancel))))))" ≡ raised "!Cancelled: Failure \"x\"\n"
unfolding mocks
both_branches_are_cancelled = refl

a_value_in_a_cancelled_context : mocks "(eio 1 (main (sub c (let v (first ((await-cancel)) ((cancel c \"x\") (give 3)))) (trace v))))" ≡ ok "+3\n"
unfolding mocks
a_value_in_a_cancelled_context = refl

one_branch : mocks "(eio 1 (main (all ((trace \"a\"))) (any ((trace \"b\")))))" ≡ ok "+a\n+b\n"
unfolding mocks
one_branch = refl

branches_stand_in_order : mocks "(eio 1 (main (all ((trace \"a\")) ((trace \"b\") (yield) (trace \"e\")) ((trace \"c\")) ((trace \"d\")))))" ≡ ok "+a\n+b\n+c\n+d\n+e\n"
unfolding mocks
branches_stand_in_order = refl

a_group_in_a_context_that_is_off : mocks "(eio 1 (main (sub c (cancel c \"x\") (both ((trace \"n\")) ((trace \"n\"))))))" ≡ raised "!Cancelled: Failure \"x\"\n"
unfolding mocks
a_group_in_a_context_that_is_off = refl

any_with_an_error : mocks "(eio 1 (main (any ((raise \"a\")) ((give 1)))))" ≡ raised "!Failure \"a\"\n"
unfolding mocks
any_with_an_error = refl

any_of_three : mocks "(eio 1 (main (let v (any ((await-cancel)) ((yield) (give 2)) ((yield) (yield) (give 3)))) (trace v)))" ≡ ok "+2\n"
unfolding mocks
any_of_three = refl

errors_of_a_group_in_another : mocks "(eio 1 (main (all ((all ((raise \"1\")) ((raise \"2\")))) ((raise \"3\")))))" ≡ raised "!Multiple [Failure \"1\"; Failure \"2\"; Failure \"3\"]\n"
unfolding mocks
errors_of_a_group_in_another = refl

the_first_of_several_is_the_reason : mocks "(eio 1 (main (both ((try ((await-cancel)) x ((trace x)))) ((all ((raise \"1\")) ((raise \"2\")))))))" ≡ raised "+Cancelled: Failure \"1\"\n!Multiple [Failure \"1\"; Failure \"2\"]\n"
unfolding mocks
the_first_of_several_is_the_reason = refl
