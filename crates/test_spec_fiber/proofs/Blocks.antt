-- Blocks: `let`, `if` and `give`, which variables stand behind a block, and what a block's value is.
use Rattle.std.proofs.Common.{◌≡◌, [], ◌∷◌, Some, false, refl}
use Rattle.std.specs.Prelude.{ℕ, codes, pos}
use Rattle.eio_value.specs.Table.{text_id}
use Rattle.eio_value.specs.declared.value.Value.TheVariants.{Unit, Int, Text}
use Rattle.eio_value.specs.declared.plain.Misuse.TheVariants.{NotNumber}
use Rattle.eio_value.specs.declared.plain.Plain.TheVariants.{Invalid, EndOfFile}
use Rattle.eio_value.specs.declared.raised.Outcome.TheVariants.{Ok}
use Rattle.spec_script.specs.Syntax.{Take}
use Rattle.spec_fiber.specs.Asks.{Ask, Trace, Yield, Sub, Protect, Leave, OnObject}
use Rattle.test_spec_fiber.specs.Replied.{Gives, Throws, Enters, Passes, done, ends, fails, block}
use Rattle.test_spec_fiber.specs.Runs.{calls, carried}

abbrev traces : ℕ → Ask
traces n = Trace (Int (pos n) ∷ [])

-- `if`

zero_takes_second : calls (codes "(eio 1 (main (if 0 ((trace 1)) ((trace 2)))))") (done ∷ []) ≡ traces 2 ∷ ends Unit ∷ []
unfolding calls
zero_takes_second = refl

others_take_first : calls (codes "(eio 1 (main (if 5 ((trace 1)) ((trace 2))) (if -1 ((trace 3)) ())))") (done ∷ done ∷ []) ≡ traces 1 ∷ traces 3 ∷ ends Unit ∷ []
unfolding calls
others_take_first = refl

if_on_text : calls (codes "(eio 1 (main (if \"a\" ((trace 1)) ((trace 2)))))") [] ≡ fails 0 (Invalid NotNumber) ∷ []
unfolding calls
if_on_text = refl

-- a statement of no branch makes no call
empty_branch : calls (codes "(eio 1 (main (if 0 ((trace 1)) ()) (trace 2)))") (done ∷ []) ≡ traces 2 ∷ ends Unit ∷ []
unfolding calls
empty_branch = refl

-- Variables

hidden_and_back : calls (codes "(eio 1 (main (let x 1) (if 1 ((let x 2) (trace x)) ()) (trace x)))") (done ∷ done ∷ []) ≡ traces 2 ∷ traces 1 ∷ ends Unit ∷ []
unfolding calls
hidden_and_back = refl

-- the block is left by its end behind a call; the next name has the slot that the inner one had
cut_behind_call : calls (codes "(eio 1 (main (let x 1) (if 1 ((let x 2) (let z 5) (yield) (trace x)) ()) (let y 3) (trace x y)))") (done ∷ done ∷ done ∷ []) ≡ Yield ∷ traces 2 ∷ Trace (Int (pos 1) ∷ Int (pos 3) ∷ []) ∷ ends Unit ∷ []
unfolding calls
cut_behind_call = refl

-- what is left at the last call are the variables of main alone
variables_left : carried (codes "(eio 1 (main (let x 1) (let y \"a\") (if 1 ((let z 2)) ()) (yield)))") [] ≡ Some (record { variables = Int (pos 1) ∷ Text (text_id 0) ∷ []; texts = codes "a" ∷ []; serial = 0; raises = [] })
unfolding carried
variables_left = refl

-- a name that hides has a slot of its own, and its value is of the hidden one
let_hides : calls (codes "(eio 1 (main (let x 1) (let x (plus x 1)) (trace x)))") (done ∷ []) ≡ traces 2 ∷ ends Unit ∷ []
unfolding calls
let_hides = refl

-- `let` of a form

reply_is_bound : calls (codes "(eio 1 (stream q 1) (main (let x (take q)) (trace x)))") (Gives (Int (pos 7)) ∷ done ∷ []) ≡ OnObject Take 0 ∷ traces 7 ∷ ends Unit ∷ []
unfolding calls
reply_is_bound = refl

-- a reply that raises binds nothing
reply_raises : calls (codes "(eio 1 (stream q 1) (main (let x (take q)) (trace x)))") (Throws EndOfFile ∷ []) ≡ OnObject Take 0 ∷ fails 0 EndOfFile ∷ []
unfolding calls
reply_raises = refl

-- names of the form's block are gone where its value is bound
block_is_bound : calls (codes "(eio 1 (main (let a 1) (let x (sub c (let y 4) (give y))) (trace a x)))") (Enters 3 ∷ Passes ∷ done ∷ []) ≡ Sub (block 4) ∷ Leave 3 false (Ok (Int (pos 4))) ∷ Trace (Int (pos 1) ∷ Int (pos 4) ∷ []) ∷ ends Unit ∷ []
unfolding calls
block_is_bound = refl

-- Values of blocks

value_of_main : calls (codes "(eio 1 (main (yield) (give 3)))") (done ∷ []) ≡ Yield ∷ ends (Int (pos 3)) ∷ []
unfolding calls
value_of_main = refl

-- a block that ends with another form than `give` has unit, whatever that form gives
inner_give_is_dropped : calls (codes "(eio 1 (main (let x (sub a (protect (give 1)))) (trace x)))") (Enters 1 ∷ Enters 2 ∷ Passes ∷ Passes ∷ done ∷ []) ≡ Sub (block 2) ∷ Protect (block 3) ∷ Leave 2 false (Ok (Int (pos 1))) ∷ Leave 1 false (Ok Unit) ∷ Trace (Unit ∷ []) ∷ ends Unit ∷ []
unfolding calls
inner_give_is_dropped = refl

reply_is_dropped : calls (codes "(eio 1 (stream q 1) (main (let x (protect (take q))) (trace x)))") (Enters 1 ∷ Gives (Int (pos 5)) ∷ Passes ∷ done ∷ []) ≡ Protect (block 2) ∷ OnObject Take 0 ∷ Leave 1 false (Ok Unit) ∷ Trace (Unit ∷ []) ∷ ends Unit ∷ []
unfolding calls
reply_is_dropped = refl

-- `give` hands a value on through the blocks that bind it
give_through_blocks : calls (codes "(eio 1 (main (let x (sub a (let y (protect (give 1))) (give (plus y 1)))) (give x)))") (Enters 1 ∷ Enters 2 ∷ Passes ∷ Passes ∷ []) ≡ Sub (block 2) ∷ Protect (block 4) ∷ Leave 2 false (Ok (Int (pos 1))) ∷ Leave 1 false (Ok (Int (pos 2))) ∷ ends (Int (pos 2)) ∷ []
unfolding calls
give_through_blocks = refl

-- the `give` of an `if` is dropped
give_in_if : calls (codes "(eio 1 (main (if 1 ((give 1)) ())))") [] ≡ ends Unit ∷ []
unfolding calls
give_in_if = refl

give_raises : calls (codes "(eio 1 (main (give (plus \"a\" 1))))") [] ≡ fails 0 (Invalid NotNumber) ∷ []
unfolding calls
give_raises = refl
