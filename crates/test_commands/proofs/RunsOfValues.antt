-- Values, what is raised where they don't fit, and how they are shown.
use Rattle.std.proofs.Common.{◌≡◌, refl}
use Rattle.test_commands.specs.Run.{mocks, mocks_in, ok, raised, out_of_steps}

a_sum_that_is_too_great : mocks "(eio 1 (main (let x (try ((let y (plus 9223372036854775807 1)) (give y)) e ((give e)))) (trace x)))" ≡ ok "+Invalid_argument \"Overflow\"\n"
unfolding mocks
a_sum_that_is_too_great = refl

a_difference_that_is_too_small : mocks "(eio 1 (main (trace (minus -9223372036854775808 0)) (trace (minus -9223372036854775808 1))))" ≡ raised "+-9223372036854775808\n!Invalid_argument \"Overflow\"\n"
unfolding mocks
a_difference_that_is_too_small = refl

a_sum_with_a_text : mocks "(eio 1 (main (trace (plus 1 \"1\"))))" ≡ raised "!Invalid_argument \"Not a number\"\n"
unfolding mocks
a_sum_with_a_text = refl

operands_from_the_left : mocks "(eio 1 (main (trace (plus (plus 9223372036854775807 1) (unit)))))" ≡ raised "!Invalid_argument \"Overflow\"\n"
unfolding mocks
operands_from_the_left = refl

shown_values : mocks "(eio 1 (main (trace) (trace 1 \"a\\t\\\"b\\\"\" (unit) -5) (trace \"\")))" ≡ ok "+\n+1a\\t\"b\"()-5\n+\n"
unfolding mocks
shown_values = refl

compared_values : mocks "(eio 1 (main (trace (same 1 1) (same 1 \"1\") (same (unit) (unit)) (same \"a\" \"b\") (less -1 0) (less 0 0))))" ≡ ok "+101010\n"
unfolding mocks
compared_values = refl

the_text_of_a_failure : mocks "(eio 1 (main (raise \"a\\\"\\n\\\\\")))" ≡ raised "!Failure \"a\\\"\\n\\\\\"\n"
unfolding mocks
the_text_of_a_failure = refl

conditions : mocks "(eio 1 (main (if 0 ((trace \"a\")) ((trace \"b\"))) (if -1 ((trace \"c\")) ((trace \"d\"))) (if \"x\" () ())))" ≡ raised "+b\n+c\n!Invalid_argument \"Not a number\"\n"
unfolding mocks
conditions = refl

turns : mocks "(eio 1 (main (let n 2) (repeat k n (trace k) (let n 9)) (repeat k -1 (trace \"n\")) (repeat k 0 (trace \"n\")) (trace n)))" ≡ ok "+0\n+1\n+2\n"
unfolding mocks
turns = refl

turns_of_a_text : mocks "(eio 1 (main (repeat k \"2\" (trace k))))" ≡ raised "!Invalid_argument \"Not a number\"\n"
unfolding mocks
turns_of_a_text = refl

each_turn_is_a_move : mocks_in 3 "(eio 1 (main (repeat k 3)))" ≡ out_of_steps "!Out_of_steps\n"
unfolding mocks_in
each_turn_is_a_move = refl

a_handled_raise_is_silent : mocks_in 2 "(eio 1 (main (let x (try ((try ((raise \"a\")) e ((raise \"b\")))) e ((give e)))) (trace x)))" ≡ ok "+Failure \"b\"\n"
unfolding mocks_in
a_handled_raise_is_silent = refl

bytes_that_were_read_are_a_text : mocks "(eio 1 (flow f (data \"ab\") (data \"c\")) (main (buf-read b f 8 (let x (take-all b)) (trace (same x \"abc\")))))" ≡ ok "+f: read \"ab\"\n+f: read \"c\"\n+1\n"
unfolding mocks
bytes_that_were_read_are_a_text = refl

a_bound_exception_is_a_text : mocks "(eio 1 (dir c) (main (try ((raise \"x\")) e ((trace (same e \"Failure \\\"x\\\"\")) (save c \"f\" e))) (let t (load c \"f\")) (trace t)))" ≡ ok "+1\n+Failure \"x\"\n"
unfolding mocks
a_bound_exception_is_a_text = refl
