-- `try`: which exceptions it takes, what it binds, and the numbers of raises. Texts of a script have numbers in reading order; a
-- bound text stands behind them.
use Rattle.std.proofs.Common.{◌≡◌, [], ◌∷◌, Some, refl}
use Rattle.std.specs.Prelude.{ℕ, codes, pos}
use Rattle.eio_value.specs.Table.{text_id}
use Rattle.eio_value.specs.declared.value.Value.TheVariants.{Unit, Int, Text}
use Rattle.eio_value.specs.declared.plain.Misuse.TheVariants.{NotNumber}
use Rattle.eio_value.specs.declared.plain.Plain.TheVariants.{Failure, Invalid, EndOfFile, Exit}
use Rattle.spec_fiber.specs.Asks.{Ask, Trace, Yield}
use Rattle.test_spec_fiber.specs.Replied.{Throws, Cancels, done, member, ends, fails}
use Rattle.test_spec_fiber.specs.Runs.{calls, carried}

abbrev traces_text : ℕ → Ask
traces_text n = Trace (Text (text_id n) ∷ [])

raise_without_try : calls (codes "(eio 1 (main (raise \"a\") (trace 1)))") [] ≡ fails 0 (Failure (text_id 0)) ∷ []
unfolding calls
raise_without_try = refl

-- the second block has the bound text
text_is_bound : calls (codes "(eio 1 (main (try ((raise \"a\") (trace 1)) e ((trace e)))))") (done ∷ []) ≡ traces_text 1 ∷ ends Unit ∷ []
unfolding calls
text_is_bound = refl

bound_text_is_interned : carried (codes "(eio 1 (main (try ((raise \"a\")) e ((trace e)))))") [] ≡ Some (record { variables = Text (text_id 1) ∷ []; texts = codes "a" ∷ codes "Failure \"a\"" ∷ []; serial = 1; raises = member 0 (Failure (text_id 0)) ∷ [] })
unfolding carried
bound_text_is_interned = refl

-- no exception: the second block is left out
nothing_raised : calls (codes "(eio 1 (main (try ((trace 1)) e ((trace 2))) (trace 3)))") (done ∷ done ∷ []) ≡ Trace (Int (pos 1) ∷ []) ∷ Trace (Int (pos 3) ∷ []) ∷ ends Unit ∷ []
unfolding calls
nothing_raised = refl

-- the inner `try` takes the first exception, the outer one that of the inner second block
try_in_try : calls (codes "(eio 1 (main (try ((try ((raise \"a\")) e ((trace e) (raise \"b\")))) f ((trace f)))))") (done ∷ done ∷ []) ≡ traces_text 2 ∷ traces_text 3 ∷ ends Unit ∷ []
unfolding calls
try_in_try = refl

-- the same with no call between, and the numbers of both raises taken
try_in_silent_try : carried (codes "(eio 1 (main (try ((try ((raise \"a\")) e ((raise \"b\")))) f ((trace f)))))") [] ≡ Some (record { variables = Text (text_id 3) ∷ []; texts = codes "a" ∷ codes "b" ∷ codes "Failure \"a\"" ∷ codes "Failure \"b\"" ∷ []; serial = 2; raises = member 0 (Failure (text_id 0)) ∷ member 1 (Failure (text_id 1)) ∷ [] })
unfolding carried
try_in_silent_try = refl

-- the outer `try` doesn't see what the inner one took
inner_takes_it : calls (codes "(eio 1 (main (try ((try ((raise \"a\")) e ()) (trace 1)) f ((trace f)))))") (done ∷ []) ≡ Trace (Int (pos 1) ∷ []) ∷ ends Unit ∷ []
unfolding calls
inner_takes_it = refl

-- a second `try` of one text binds the same number; raises are counted
one_text_twice : carried (codes "(eio 1 (main (try ((raise \"a\")) e ()) (try ((yield) (raise \"a\")) f ((trace f)))))") (done ∷ []) ≡ Some (record { variables = Text (text_id 1) ∷ []; texts = codes "a" ∷ codes "Failure \"a\"" ∷ []; serial = 2; raises = member 0 (Failure (text_id 0)) ∷ member 1 (Failure (text_id 0)) ∷ [] })
unfolding carried
one_text_twice = refl

-- names of the first block are gone in the second, behind a call too; those of the second are gone behind it
variables_of_try : calls (codes "(eio 1 (main (let x 1) (try ((let y 2) (let z 3) (yield) (raise \"a\")) e ((yield) (trace x e))) (let w 4) (trace x w)))") (done ∷ done ∷ done ∷ done ∷ []) ≡ Yield ∷ Yield ∷ Trace (Int (pos 1) ∷ Text (text_id 1) ∷ []) ∷ Trace (Int (pos 1) ∷ Int (pos 4) ∷ []) ∷ ends Unit ∷ []
unfolding calls
variables_of_try = refl

-- names of either block are gone behind it, whether calls were made in them or not

behind_first_block : calls (codes "(eio 1 (main (try ((let y 2)) e ()) (let z 7) (trace z)))") (done ∷ []) ≡ Trace (Int (pos 7) ∷ []) ∷ ends Unit ∷ []
unfolding calls
behind_first_block = refl

behind_first_block_late : calls (codes "(eio 1 (main (try ((let y 2) (yield)) e ()) (let z 7) (trace z)))") (done ∷ done ∷ []) ≡ Yield ∷ Trace (Int (pos 7) ∷ []) ∷ ends Unit ∷ []
unfolding calls
behind_first_block_late = refl

behind_second_block : calls (codes "(eio 1 (main (try ((raise \"a\")) e ((let y 3))) (let z 7) (trace z)))") (done ∷ []) ≡ Trace (Int (pos 7) ∷ []) ∷ ends Unit ∷ []
unfolding calls
behind_second_block = refl

behind_second_block_late : calls (codes "(eio 1 (main (try ((yield) (raise \"a\")) e ((let y 3))) (let z 7) (trace z)))") (done ∷ done ∷ []) ≡ Yield ∷ Trace (Int (pos 7) ∷ []) ∷ ends Unit ∷ []
unfolding calls
behind_second_block_late = refl

behind_call_of_second_block : calls (codes "(eio 1 (main (try ((yield) (raise \"a\")) e ((let y 3) (yield))) (let z 7) (trace z)))") (done ∷ done ∷ done ∷ []) ≡ Yield ∷ Yield ∷ Trace (Int (pos 7) ∷ []) ∷ ends Unit ∷ []
unfolding calls
behind_call_of_second_block = refl

-- what a `try` gives

first_block_gives : calls (codes "(eio 1 (main (let x (try ((give 1)) e ((give 2)))) (trace x)))") (done ∷ []) ≡ Trace (Int (pos 1) ∷ []) ∷ ends Unit ∷ []
unfolding calls
first_block_gives = refl

second_block_gives : calls (codes "(eio 1 (main (let x (try ((raise \"a\")) e ((give e)))) (trace x)))") (done ∷ []) ≡ traces_text 1 ∷ ends Unit ∷ []
unfolding calls
second_block_gives = refl

-- the same behind calls of both blocks
second_block_gives_late : calls (codes "(eio 1 (main (let x (try ((yield) (raise \"a\")) e ((yield) (give e)))) (trace x)))") (done ∷ done ∷ done ∷ []) ≡ Yield ∷ Yield ∷ traces_text 1 ∷ ends Unit ∷ []
unfolding calls
second_block_gives_late = refl

-- replies that raise

reply_is_taken : carried (codes "(eio 1 (stream q 1) (main (try ((take q)) e ((trace e)))))") (Throws EndOfFile ∷ []) ≡ Some (record { variables = Text (text_id 1) ∷ []; texts = codes "q" ∷ codes "End_of_file" ∷ []; serial = 1; raises = member 0 EndOfFile ∷ [] })
unfolding carried
reply_is_taken = refl

cancelled_is_taken : carried (codes "(eio 1 (main (try ((yield)) e ((trace e)))))") (Cancels Exit ∷ []) ≡ Some (record { variables = Text (text_id 0) ∷ []; texts = codes "Cancelled: Exit" ∷ []; serial = 1; raises = member 0 Exit ∷ [] })
unfolding carried
cancelled_is_taken = refl

-- the exception of an expression, as the text that it has
misuse_is_taken : carried (codes "(eio 1 (main (try ((trace (plus \"a\" 1))) e ((trace e)))))") [] ≡ Some (record { variables = Text (text_id 1) ∷ []; texts = codes "a" ∷ codes "Invalid_argument \"Not a number\"" ∷ []; serial = 1; raises = member 0 (Invalid NotNumber) ∷ [] })
unfolding carried
misuse_is_taken = refl

-- each raise has the next number
third_raise : calls (codes "(eio 1 (main (try ((raise \"a\")) e ()) (try ((yield)) f ()) (if \"b\" () ())))") (Throws EndOfFile ∷ []) ≡ Yield ∷ fails 2 (Invalid NotNumber) ∷ []
unfolding calls
third_raise = refl
