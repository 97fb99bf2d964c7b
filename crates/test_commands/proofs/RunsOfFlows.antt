-- Flows, their readers and writers.
use Rattle.std.proofs.Common.{◌≡◌, refl}
use Rattle.test_commands.specs.Run.{mocks, ok, raised}

lines : mocks "(eio 1 (flow f (data \"a\\r\") (data \"\\nb\")) (main (buf-read b f 16 (let x (line b)) (trace x) (let y (line b)) (trace y) (try ((line b)) e ((trace e))))))" ≡ ok "+f: read \"a\\r\"\n+f: read \"\\nb\"\n+a\n+b\n+End_of_file\n"
unfolding mocks
lines = refl

what_was_put_is_written_at_once : mocks "(eio 1 (flow f) (main (buf-write w f (put w \"a\") (put w \"b\") (yield) (put w \"c\"))))" ≡ ok "+f: wrote \"ab\"\n+f: wrote \"c\"\n"
unfolding mocks
what_was_put_is_written_at_once = refl

a_line_past_the_limit : mocks "(eio 1 (flow f (data \"abcdef\")) (main (buf-read b f 3 (try ((line b)) e ((trace e))))))" ≡ ok "+f: read \"abcdef\"\n+Buffer_limit_exceeded\n"
unfolding mocks
a_line_past_the_limit = refl

a_line_at_the_limit : mocks "(eio 1 (flow f (data \"abc\\nd\")) (main (buf-read b f 3 (let x (line b)) (trace x) (let y (line b)) (trace y))))" ≡ ok "+f: read \"abc\\nd\"\n+abc\n+d\n"
unfolding mocks
a_line_at_the_limit = refl

a_copy_up_to_a_fault : mocks "(eio 1 (flow f (data \"ab\") (pause) (fault \"net\")) (flow g) (main (try ((copy f g)) e ((trace e)))))" ≡ ok "+f: read \"ab\"\n+g: wrote \"ab\"\n+Failure \"net\"\n"
unfolding mocks
a_copy_up_to_a_fault = refl

a_copy_to_the_end : mocks "(eio 1 (flow f (data \"ab\") (data \"c\")) (flow g) (main (copy f g) (trace \"e\")))" ≡ ok "+f: read \"ab\"\n+g: wrote \"ab\"\n+f: read \"c\"\n+g: wrote \"c\"\n+e\n"
unfolding mocks
a_copy_to_the_end = refl

a_pause_lets_another_run : mocks "(eio 1 (flow f (pause) (data \"x\\n\")) (main (both ((buf-read b f 8 (let l (line b)) (trace l))) ((trace \"o\")))))" ≡ ok "+o\n+f: read \"x\\n\"\n+x\n"
unfolding mocks
a_pause_lets_another_run = refl

a_fault_keeps_the_bytes_before_it : mocks "(eio 1 (flow f (data \"abc\") (fault \"net\") (data \"d\")) (main (buf-read b f 8 (let x (take-bytes b 2)) (trace x) (try ((take-all b)) e ((trace e))) (let z (take-all b)) (trace z) (let n (at-end b)) (trace n))))" ≡ ok "+f: read \"abc\"\n+ab\n+Failure \"net\"\n+f: read \"d\"\n+cd\n+1\n"
unfolding mocks
a_fault_keeps_the_bytes_before_it = refl

bytes_and_chars : mocks "(eio 1 (flow f (data \"abc\")) (main (buf-read b f 4 (let n (at-end b)) (let x (char b)) (let y (take-bytes b -1)) (trace n x y) (try ((take-bytes b 3)) e ((trace e))) (try ((take-bytes b 5)) e ((trace e))) (let z (take-bytes b 2)) (trace z) (try ((char b)) e ((trace e))))))" ≡ ok "+f: read \"abc\"\n+0a\n+End_of_file\n+Buffer_limit_exceeded\n+bc\n+End_of_file\n"
unfolding mocks
bytes_and_chars = refl

a_read_behind_a_shut : mocks "(eio 1 (flow f (data \"x\")) (main (switch s (buf-read b f 4 (fork s (yield) (try ((take-all b)) e ((trace e))))))))" ≡ ok "+Invalid_argument \"Closed\"\n"
unfolding mocks
a_read_behind_a_shut = refl

a_put_behind_a_shut : mocks "(eio 1 (flow f) (main (switch s (buf-write w f (put w \"a\") (fork s (yield) (yield) (try ((put w \"b\")) e ((trace e))))))))" ≡ ok "+f: wrote \"a\"\n+Invalid_argument \"Closed\"\n"
unfolding mocks
a_put_behind_a_shut = refl

a_copier_that_ends : mocks "(eio 1 (flow f) (main (buf-write w f) (buf-write w f (put w \"\")) (trace \"e\")))" ≡ ok "+e\n"
unfolding mocks
a_copier_that_ends = refl

a_raise_drops_what_was_put : mocks "(eio 1 (flow f) (main (try ((buf-write w f (put w \"a\") (raise \"x\"))) e ((trace e)))))" ≡ ok "+Failure \"x\"\n"
unfolding mocks
a_raise_drops_what_was_put = refl

a_raise_after_it_was_written : mocks "(eio 1 (flow f) (main (try ((buf-write w f (put w \"a\") (yield) (put w \"b\") (raise \"x\"))) e ((trace e)))))" ≡ ok "+f: wrote \"a\"\n+Failure \"x\"\n"
unfolding mocks
a_raise_after_it_was_written = refl

a_put_of_a_number : mocks "(eio 1 (flow f) (main (buf-write w f (try ((put w 5)) e ((trace e))))))" ≡ ok "+Invalid_argument \"Not a text\"\n"
unfolding mocks
a_put_of_a_number = refl

-- its copier is protected
a_writer_in_a_context_that_is_off : mocks "(eio 1 (flow f) (main (sub c (cancel c \"x\") (buf-write w f (put w \"a\")) (trace \"e\"))))" ≡ ok "+f: wrote \"a\"\n+e\n"
unfolding mocks
a_writer_in_a_context_that_is_off = refl

a_copy_in_a_context_that_is_off : mocks "(eio 1 (flow f (data \"a\") (pause) (data \"b\")) (flow g) (main (sub c (cancel c \"x\") (copy f g) (trace \"e\"))))" ≡ ok "+f: read \"a\"\n+g: wrote \"a\"\n+f: read \"b\"\n+g: wrote \"b\"\n+e\n"
unfolding mocks
a_copy_in_a_context_that_is_off = refl

a_pause_in_a_context_that_is_off : mocks "(eio 1 (flow f (pause) (data \"a\")) (main (sub c (cancel c \"x\") (buf-read b f 4 (let x (take-all b)) (trace x)))))" ≡ ok "+f: read \"a\"\n+a\n"
unfolding mocks
a_pause_in_a_context_that_is_off = refl

a_read_that_goes_on_behind_a_shut : mocks "(eio 1 (flow f (pause) (data \"a\")) (main (switch s (buf-read b f 8 (fork s (try ((take-all b)) e ((trace e))))))))" ≡ ok "+Invalid_argument \"Closed\"\n"
unfolding mocks
a_read_that_goes_on_behind_a_shut = refl

a_put_while_a_shut_waits : mocks "(eio 1 (flow f) (main (switch s (buf-write w f (fork s (yield) (try ((put w \"b\")) e ((trace e)))) (put w \"a\")))))" ≡ ok "+Invalid_argument \"Closed\"\n+f: wrote \"a\"\n"
unfolding mocks
a_put_while_a_shut_waits = refl

two_readers_of_a_flow : mocks "(eio 1 (flow f (data \"ab\") (data \"cd\")) (main (buf-read a f 8 (let x (char a)) (buf-read b f 8 (let y (take-all b)) (trace x y)) (let z (take-all a)) (trace z))))" ≡ ok "+f: read \"ab\"\n+f: read \"cd\"\n+acd\n+b\n"
unfolding mocks
two_readers_of_a_flow = refl

two_fibers_read_lines : mocks "(eio 1 (flow f (data \"a\\nb\") (pause) (data \"c\\r\\n\") (fault \"z\") (data \"d\")) (main (switch s (buf-read b f 4 (fork s (try ((loop (let l (line b)) (trace \"1\" l))) e ((trace \"1\" e)))) (try ((loop (let l (line b)) (trace \"2\" l))) e ((trace \"2\" e))) (try ((let l (line b)) (trace l)) e ((trace e)))))))" ≡ ok "+f: read \"a\\nb\"\n+1a\n+f: read \"c\\r\\n\"\n+2bc\n+2Failure \"z\"\n+f: read \"d\"\n+d\n+1Invalid_argument \"Closed\"\n"
unfolding mocks
two_fibers_read_lines = refl

writers_one_after_the_other : mocks "(eio 1 (flow g) (main (switch s (buf-write w g (fork s (put w \"1\") (yield) (put w \"2\")) (put w \"3\") (yield) (put w \"4\")) (buf-write v g (put v \"5\") (fail s \"x\") (yield) (put v \"6\")))))" ≡ raised "+g: wrote \"13\"\n+g: wrote \"24\"\n+g: wrote \"5\"\n!Failure \"x\"\n"
unfolding mocks
writers_one_after_the_other = refl
