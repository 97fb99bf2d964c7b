-- Sequences of calls on streams.
use Rattle.std.proofs.Common.{◌≡◌, ℕ, [], ◌∷◌, refl}
use Rattle.eio_value.specs.declared.call.Call.TheVariants.{Add, Take, TakeNonblocking, Length, Acquire, NextWake}
use Rattle.eio_value.specs.declared.value.Value.TheVariants as value
use Rattle.spec_parts.specs.Data.{Stream}
use Rattle.spec_parts.specs.Row.{Queued, int}
use Rattle.spec_parts.specs.Streams.{stream}
use Rattle.test_spec_parts.proofs.Moves.{Move, wait, waiter, Calls, by, off_by, strike, Strikes, Won, Lost, gives, fine, waits, is_off, none, fine_and, gives_and, unit, number, queued, waiting, row, run, ran}
use Rattle.std.specs.Prelude.{false}

abbrev adding : ℕ → ℕ → Move
adding fiber item = by fiber (Add 0 (int item))

abbrev taking : ℕ → Move
taking fiber = by fiber (Take 0)

abbrev length : Move
length = by 0 (Length 0)

abbrev adder : ℕ → ℕ → Queued
adder fiber item = queued (waiter fiber) (int item) 0

-- a taker that was woken keeps its item, though its context is cancelled afterwards
woken_before_the_strike : run (stream 1) (taking 1 ∷ adding 0 1 ∷ strike 1 ∷ length ∷ []) ≡ ran (waits ∷ fine_and 1 (number 1) ∷ Lost ∷ gives (int 0) ∷ []) (stream 1)
woken_before_the_strike = refl

-- a cancelled take takes nothing
struck_before_the_item : run (stream 1) (taking 1 ∷ strike 1 ∷ adding 0 7 ∷ taking 0 ∷ []) ≡ ran (waits ∷ Won ∷ fine ∷ gives (int 7) ∷ []) (stream 1)
struck_before_the_item = refl

-- with capacity 0 an adder waits until its item is taken
no_room_at_all : run (stream 0) (adding 0 1 ∷ []) ≡ ran (waits ∷ []) (row (Stream 0 []) [] (adder 0 1 ∷ []))
no_room_at_all = refl

taken_from_the_adder : run (stream 0) (adding 1 4 ∷ length ∷ taking 0 ∷ by 0 (TakeNonblocking 0) ∷ []) ≡ ran (waits ∷ gives (int 0) ∷ gives_and (int 4) 1 unit ∷ none ∷ []) (stream 0)
taken_from_the_adder = refl

handed_to_the_taker : run (stream 0) (taking 1 ∷ adding 0 4 ∷ []) ≡ ran (waits ∷ fine_and 1 (number 4) ∷ []) (stream 0)
handed_to_the_taker = refl

-- the items of waiting adders move up in order
adders_move_up :
    run (stream 1) (adding 0 1 ∷ adding 1 2 ∷ adding 2 3 ∷ length ∷ taking 0 ∷ taking 0 ∷ taking 0 ∷ taking 0 ∷ [])
    ≡ ran (fine ∷ waits ∷ waits ∷ gives (int 1) ∷ gives_and (int 1) 1 unit ∷ gives_and (int 2) 2 unit ∷ gives (int 3) ∷ waits ∷ []) (row (Stream 1 []) (waiting 0 ∷ []) [])
adders_move_up = refl

-- behind the items that are there
adder_moves_up_last : run (stream 2) (adding 0 1 ∷ adding 0 2 ∷ adding 1 3 ∷ taking 0 ∷ taking 0 ∷ taking 0 ∷ []) ≡ ran (fine ∷ fine ∷ waits ∷ gives_and (int 1) 1 unit ∷ gives (int 2) ∷ gives (int 3) ∷ []) (stream 2)
adder_moves_up_last = refl

items_leave_in_order : run (stream 3) (adding 0 1 ∷ adding 0 2 ∷ adding 0 3 ∷ taking 0 ∷ length ∷ by 0 (TakeNonblocking 0) ∷ []) ≡ ran (fine ∷ fine ∷ fine ∷ gives (int 1) ∷ gives (int 2) ∷ gives (int 2) ∷ []) (row (Stream 3 (int 3 ∷ [])) [] [])
items_leave_in_order = refl

takers_in_order : run (stream 2) (taking 1 ∷ taking 2 ∷ adding 0 5 ∷ adding 0 6 ∷ adding 0 7 ∷ []) ≡ ran (waits ∷ waits ∷ fine_and 1 (number 5) ∷ fine_and 2 (number 6) ∷ fine ∷ []) (row (Stream 2 (int 7 ∷ [])) [] [])
takers_in_order = refl

-- in a context that is off a call is made where it needn't wait, else it leaves the stream
off_leaves_the_stream :
    run (stream 1) (off_by 1 (Take 0) ∷ off_by 1 (Add 0 (int 1)) ∷ off_by 1 (Add 0 (int 2)) ∷ off_by 1 (Take 0) ∷ off_by 1 (TakeNonblocking 0) ∷ [])
    ≡ ran (is_off ∷ fine ∷ is_off ∷ gives (int 1) ∷ none ∷ []) (stream 1)
off_leaves_the_stream = refl

off_hands_over : run (stream 0) (taking 1 ∷ off_by 2 (Add 0 (int 3)) ∷ off_by 2 (Add 0 (int 4)) ∷ []) ≡ ran (waits ∷ fine_and 1 (number 3) ∷ is_off ∷ []) (stream 0)
off_hands_over = refl

-- the item of a struck adder is gone, and the next one's comes
struck_adder : run (stream 0) (adding 1 5 ∷ adding 2 6 ∷ strike 1 ∷ strike 1 ∷ by 0 (TakeNonblocking 0) ∷ strike 2 ∷ []) ≡ ran (waits ∷ waits ∷ Won ∷ Lost ∷ gives_and (int 6) 2 unit ∷ Lost ∷ []) (stream 0)
struck_adder = refl

struck_between : run (stream 0) (taking 1 ∷ taking 2 ∷ taking 3 ∷ strike 2 ∷ adding 0 5 ∷ adding 0 6 ∷ []) ≡ ran (waits ∷ waits ∷ waits ∷ Won ∷ fine_and 1 (number 5) ∷ fine_and 3 (number 6) ∷ []) (stream 0)
struck_between = refl

-- a cell stands in a stream once: where its next wait is entered, an older one leaves
older_entry_leaves : run (stream 0) (taking 1 ∷ taking 2 ∷ Calls (wait 1 9) false (Take 0) ∷ strike 1 ∷ []) ≡ ran (waits ∷ waits ∷ waits ∷ Lost ∷ []) (row (Stream 0 []) (waiting 2 ∷ queued (wait 1 9) value.Unit 0 ∷ []) [])
older_entry_leaves = refl

older_adder_leaves : run (row (Stream 0 []) [] (adder 1 4 ∷ [])) (Calls (wait 1 9) false (Add 0 (int 5)) ∷ Strikes (wait 1 9) ∷ []) ≡ ran (waits ∷ Won ∷ []) (stream 0)
older_adder_leaves = refl

-- a call of another kind does nothing
not_its_call : run (stream 1) (adding 0 1 ∷ by 0 (Acquire 0) ∷ by 0 (NextWake 0) ∷ []) ≡ ran (fine ∷ none ∷ none ∷ []) (row (Stream 1 (int 1 ∷ [])) [] [])
not_its_call = refl
