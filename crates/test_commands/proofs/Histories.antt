-- Histories that are legal, and the first line of others that isn't good.
use Rattle.std.proofs.Common.{◌≡◌, ℕ, List, [], refl}
use Rattle.std.specs.Prelude.{codes}
use Rattle.test_commands.specs.Judge.{history, legal, not_good_at}

-- ## One domain

abbrev yields_and_traces : List ℕ
yields_and_traces = codes "(eio 1 (main (yield) (trace \"a\")))"

alone : history 100 yields_and_traces (codes "1 0.0 yield = back\n2 0.0 trace \"a\" = ()\n3 0.0 end = ()\nend ok\n") ≡ legal
unfolding history
alone = refl

-- stamps need not be the next ones
stamps_may_skip : history 100 yields_and_traces (codes "2 0.0 yield = back\n7 0.0 trace \"a\" = ()\n9 0.0 end = ()\nend ok\n") ≡ legal
unfolding history
stamps_may_skip = refl

stamps_rise : history 100 yields_and_traces (codes "2 0.0 yield = back\n2 0.0 trace \"a\" = ()\n9 0.0 end = ()\nend ok\n") ≡ not_good_at 2
unfolding history
stamps_rise = refl

-- with two lines a domain the run is over behind the second
two_lines : history 2 yields_and_traces (codes "1 0.0 yield = back\n2 0.0 trace \"a\" = ()\nend out-of-steps\n") ≡ legal
unfolding history
two_lines = refl

third_of_two_lines : history 2 yields_and_traces (codes "1 0.0 yield = back\n2 0.0 trace \"a\" = ()\n3 0.0 end = ()\nend ok\n") ≡ not_good_at 3
unfolding history
third_of_two_lines = refl

ends_too_early : history 100 yields_and_traces (codes "1 0.0 yield = back\n2 0.0 trace \"a\" = ()\nend out-of-steps\n") ≡ not_good_at 3
unfolding history
ends_too_early = refl

wrong_text : history 100 yields_and_traces (codes "1 0.0 yield = back\n2 0.0 trace \"b\" = ()\n3 0.0 end = ()\nend ok\n") ≡ not_good_at 2
unfolding history
wrong_text = refl

leading_zero : history 100 yields_and_traces (codes "01 0.0 yield = back\n2 0.0 trace \"a\" = ()\n3 0.0 end = ()\nend ok\n") ≡ not_good_at 1
unfolding history
leading_zero = refl

line_behind_the_end : history 100 yields_and_traces (codes "1 0.0 yield = back\n2 0.0 trace \"a\" = ()\n3 0.0 end = ()\nend ok\nend ok\n") ≡ not_good_at 4
unfolding history
line_behind_the_end = refl

end_without_line_feed : history 100 yields_and_traces (codes "1 0.0 yield = back\n2 0.0 trace \"a\" = ()\n3 0.0 end = ()\nend ok") ≡ not_good_at 4
unfolding history
end_without_line_feed = refl

empty : history 100 yields_and_traces [] ≡ not_good_at 1
unfolding history
empty = refl

-- ## A stream between two domains

abbrev takes_and_adds : List ℕ
takes_and_adds = codes "(eio 1 (stream s 0) (main (let x (take s)) (trace x)) (domain (add s 4)))"

-- the taker waits, and is resumed by a message
taker_first : history 100 takes_and_adds (codes "2 0.0 take s = waits\n3 1.0 add s 4 = ()\n4 0.0 got = 4\n4 1.0 end = ()\n5 0.0 trace \"4\" = ()\n6 0.0 end = ()\nend ok\n") ≡ legal
unfolding history
taker_first = refl

adder_first : history 100 takes_and_adds (codes "2 1.0 add s 4 = waits\n3 0.0 take s = 4\n4 0.0 trace \"4\" = ()\n4 1.0 got = ()\n5 0.0 end = ()\n5 1.0 end = ()\nend ok\n") ≡ legal
unfolding history
adder_first = refl

other_item : history 100 takes_and_adds (codes "2 0.0 take s = waits\n3 1.0 add s 4 = ()\n4 0.0 got = 5\n4 1.0 end = ()\n5 0.0 trace \"4\" = ()\n6 0.0 end = ()\nend ok\n") ≡ not_good_at 3
unfolding history
other_item = refl

-- of lines with one stamp the lower domain's stands first
domains_out_of_order : history 100 takes_and_adds (codes "2 0.0 take s = waits\n3 1.0 add s 4 = ()\n4 1.0 end = ()\n4 0.0 got = 4\n5 0.0 trace \"4\" = ()\n6 0.0 end = ()\nend ok\n") ≡ not_good_at 4
unfolding history
domains_out_of_order = refl

no_end : history 100 takes_and_adds (codes "2 0.0 take s = waits\n3 1.0 add s 4 = ()\n4 0.0 got = 4\n4 1.0 end = ()\n5 0.0 trace \"4\" = ()\n6 0.0 end = ()\n") ≡ not_good_at 7
unfolding history
no_end = refl

other_end : history 100 takes_and_adds (codes "2 0.0 take s = waits\n3 1.0 add s 4 = ()\n4 0.0 got = 4\n4 1.0 end = ()\n5 0.0 trace \"4\" = ()\n6 0.0 end = ()\nend deadlock\n") ≡ not_good_at 7
unfolding history
other_end = refl

-- a line on an object has a greater stamp than the one before
object_stamp : history 100 takes_and_adds (codes "2 0.0 take s = waits\n2 1.0 add s 4 = ()\n4 0.0 got = 4\n4 1.0 end = ()\n5 0.0 trace \"4\" = ()\n6 0.0 end = ()\nend ok\n") ≡ not_good_at 2
unfolding history
object_stamp = refl

-- and so has the line that takes a message
message_stamp : history 100 takes_and_adds (codes "2 0.0 take s = waits\n5 1.0 add s 4 = ()\n6 0.0 got = 4\n6 1.0 end = ()\n7 0.0 trace \"4\" = ()\n8 0.0 end = ()\nend ok\n") ≡ legal
unfolding history
message_stamp = refl

-- a message is taken once
taken_twice : history 100 takes_and_adds (codes "2 0.0 take s = waits\n3 1.0 add s 4 = ()\n4 0.0 got = 4\n5 0.0 got = 4\n") ≡ not_good_at 4
unfolding history
taken_twice = refl

-- ## Ends

abbrev fails_beside : List ℕ
fails_beside = codes "(eio 1 (main) (domain (raise \"x\")))"

-- main's end decides
main_decides : history 100 fails_beside (codes "1 0.0 end = ()\n1 1.0 end = !Failure \"x\"\nend ok\n") ≡ legal
unfolding history
main_decides = refl

abbrev awaits_beside : List ℕ
awaits_beside = codes "(eio 1 (promise p) (main) (domain (await p)))"

-- a body that hasn't ended is a deadlock, whichever it is
deadlock_beside : history 100 awaits_beside (codes "1 0.0 end = ()\n2 1.0 await p = waits\nend deadlock\n") ≡ legal
unfolding history
deadlock_beside = refl

abbrev two_semaphores : List ℕ
two_semaphores = codes "(eio 1 (semaphore a 1) (semaphore b 1) (main (acquire a)) (domain (acquire b)))"

side_by_side : history 100 two_semaphores (codes "1 0.0 acquire a = ()\n1 1.0 acquire b = ()\n2 0.0 end = ()\n2 1.0 end = ()\nend ok\n") ≡ legal
unfolding history
side_by_side = refl

-- ## Cancelling

abbrev first_of_two : List ℕ
first_of_two = codes "(eio 1 (stream s 1) (main (first ((take s)) ((yield)))) (domain (add s 7)))"

-- the strike wins, and the item stays
strike_wins : history 100 first_of_two (codes "1 0.0 first #1 = 0.1\n3 0.1 take s = waits\n4 0.0 yield = back\n5 0.0 join #1 = waits\n6 0.0 strike 0.1 = won\n7 0.1 end = !Cancelled: Not_first\n7 1.0 add s 7 = ()\n8 0.0 join #1 = ()\n8 1.0 end = ()\n9 0.0 end = ()\nend ok\n") ≡ legal
unfolding history
strike_wins = refl

-- the taker was woken before, so that the strike is lost and the fiber keeps its item
strike_is_lost : history 100 first_of_two (codes "1 0.0 first #1 = 0.1\n3 0.1 take s = waits\n4 0.0 yield = back\n5 0.0 join #1 = waits\n6 1.0 add s 7 = ()\n7 0.0 strike 0.1 = lost\n7 1.0 end = ()\n8 0.1 got = 7\n9 0.1 end = ()\n10 0.0 join #1 = ()\n11 0.0 end = ()\nend ok\n") ≡ legal
unfolding history
strike_is_lost = refl

-- a strike that was lost can't be told as won
told_as_won : history 100 first_of_two (codes "1 0.0 first #1 = 0.1\n3 0.1 take s = waits\n4 0.0 yield = back\n5 0.0 join #1 = waits\n6 1.0 add s 7 = ()\n7 0.0 strike 0.1 = won\n") ≡ not_good_at 6
unfolding history
told_as_won = refl

-- ## Jobs

abbrev job_beside : List ℕ
job_beside = codes "(eio 1 (executor e 1) (main (let y (submit e 50 () (give 7))) (trace y)) (domain))"

job_on_another_domain : history 100 job_beside (codes "1 1.0 end = ()\n2 0.0 submit e 50 = waits\n3 0.0 start e = 0 on 1\n4 0.0 start e = none\n4 1.1 got e 0 = ()\n5 1.1 done e 0 = ()\n6 0.0 got = 7\n6 1.1 start e = none\n7 0.0 trace \"7\" = ()\n8 0.0 end = ()\nend ok\n") ≡ legal
unfolding history
job_on_another_domain = refl

-- the message of the job is left in the post
job_not_taken : history 100 job_beside (codes "1 1.0 end = ()\n2 0.0 submit e 50 = waits\n3 0.0 start e = 0 on 1\n4 0.0 start e = none\nend deadlock\n") ≡ not_good_at 5
unfolding history
job_not_taken = refl
