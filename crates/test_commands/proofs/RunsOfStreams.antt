-- Streams.
use Rattle.std.proofs.Common.{◌≡◌, refl}
use Rattle.test_commands.specs.Run.{mocks, ok, deadlock}

-- it keeps its item whatever is cancelled afterwards
a_taker_was_woken_before : mocks "(eio 1 (stream s 1) (main (first ((let x (take s)) (trace \"t\" x)) ((add s 1))) (let n (length s)) (trace n)))" ≡ ok "+t1\n+0\n"
unfolding mocks
a_taker_was_woken_before = refl

a_cancelled_take_takes_nothing : mocks "(eio 1 (stream s 1) (main (first ((take s)) ((yield))) (add s 7) (let x (take s)) (trace x)))" ≡ ok "+7\n"
unfolding mocks
a_cancelled_take_takes_nothing = refl

nobody_takes : mocks "(eio 1 (stream s 0) (main (add s 1)))" ≡ deadlock "!Deadlock_detected\n"
unfolding mocks
nobody_takes = refl

items_in_order : mocks "(eio 1 (stream q 1) (main (switch s (fork s (add q 1) (add q 2) (add q 3)) (repeat i 3 (let x (take q)) (trace x)))))" ≡ ok "+1\n+2\n+3\n"
unfolding mocks
items_in_order = refl

a_cancelled_add_adds_nothing : mocks "(eio 1 (stream q 0) (main (first ((add q 1)) ()) (let n (length q)) (trace n) (let x (take-nonblocking q)) (trace x)))" ≡ ok "+0\n+()\n"
unfolding mocks
a_cancelled_add_adds_nothing = refl

takes_that_never_wait : mocks "(eio 1 (stream q 1) (main (let x (take-nonblocking q)) (trace x) (add q \"v\") (let n (length q)) (trace n) (let y (take-nonblocking q)) (trace y)))" ≡ ok "+()\n+1\n+v\n"
unfolding mocks
takes_that_never_wait = refl

takers_in_order : mocks "(eio 1 (stream q 0) (main (switch s (fork s (let x (take q)) (trace \"a\" x)) (fork s (let x (take q)) (trace \"b\" x)) (add q 1) (add q 2))))" ≡ ok "+a1\n+b2\n"
unfolding mocks
takers_in_order = refl

an_adder_at_no_capacity : mocks "(eio 1 (stream q 0) (main (both ((add q 1) (trace \"added\")) ((let n (length q)) (trace n) (let x (take q)) (trace x)))))" ≡ ok "+0\n+1\n+added\n"
unfolding mocks
an_adder_at_no_capacity = refl

waiting_adders_move_up : mocks "(eio 1 (stream q 2) (main (switch s (repeat k 4 (fork s (add q k))) (let n (length q)) (trace n) (repeat k 4 (let x (take q)) (let n (length q)) (trace x n)))))" ≡ ok "+2\n+02\n+12\n+21\n+30\n"
unfolding mocks
waiting_adders_move_up = refl
