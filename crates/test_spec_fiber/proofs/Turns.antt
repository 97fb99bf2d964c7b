-- `repeat` and `loop`: each turn begins with the call `turn`, and the exit is silent.
use Rattle.std.proofs.Common.{◌≡◌, [], ◌∷◌, refl}
use Rattle.std.specs.Prelude.{ℕ, codes, pos}
use Rattle.eio_value.specs.Table.{text_id}
use Rattle.eio_value.specs.declared.value.Value.TheVariants.{Unit, Int, Text}
use Rattle.eio_value.specs.declared.plain.Misuse.TheVariants.{NotNumber}
use Rattle.eio_value.specs.declared.plain.Plain.TheVariants.{Invalid, Exit}
use Rattle.spec_fiber.specs.Asks.{Ask, Trace, Turn, Yield}
use Rattle.test_spec_fiber.specs.Replied.{Cancels, done, ends, fails}
use Rattle.test_spec_fiber.specs.Runs.{calls}

abbrev traces : ℕ → Ask
traces n = Trace (Int (pos n) ∷ [])

counts_from_zero : calls (codes "(eio 1 (main (repeat k 3 (trace k)) (trace 9)))") (done ∷ done ∷ done ∷ done ∷ done ∷ done ∷ done ∷ []) ≡ Turn ∷ traces 0 ∷ Turn ∷ traces 1 ∷ Turn ∷ traces 2 ∷ traces 9 ∷ ends Unit ∷ []
unfolding calls
counts_from_zero = refl

no_turns : calls (codes "(eio 1 (main (repeat k 0 (trace k)) (repeat k -3 (trace k)) (trace 9)))") (done ∷ []) ≡ traces 9 ∷ ends Unit ∷ []
unfolding calls
no_turns = refl

repeat_of_text : calls (codes "(eio 1 (main (repeat k \"a\" (trace k))))") [] ≡ fails 0 (Invalid NotNumber) ∷ []
unfolding calls
repeat_of_text = refl

-- the number is evaluated once: a name of a turn that hides what it was computed from changes nothing
evaluated_once : calls (codes "(eio 1 (main (let n 2) (repeat k n (let n 5) (trace k n))))") (done ∷ done ∷ done ∷ done ∷ []) ≡ Turn ∷ Trace (Int (pos 0) ∷ Int (pos 5) ∷ []) ∷ Turn ∷ Trace (Int (pos 1) ∷ Int (pos 5) ∷ []) ∷ ends Unit ∷ []
unfolding calls
evaluated_once = refl

-- empty turns are calls too
empty_turns : calls (codes "(eio 1 (main (repeat k 2) (trace 9)))") (done ∷ done ∷ done ∷ []) ≡ Turn ∷ Turn ∷ traces 9 ∷ ends Unit ∷ []
unfolding calls
empty_turns = refl

-- names of a turn are gone in the next one and behind the last
variables_of_turns : calls (codes "(eio 1 (main (let x 1) (repeat k 2 (let y k) (yield) (trace x k y)) (let z 7) (trace x z)))") (done ∷ done ∷ done ∷ done ∷ done ∷ done ∷ done ∷ []) ≡ Turn ∷ Yield ∷ Trace (Int (pos 1) ∷ Int (pos 0) ∷ Int (pos 0) ∷ []) ∷ Turn ∷ Yield ∷ Trace (Int (pos 1) ∷ Int (pos 1) ∷ Int (pos 1) ∷ []) ∷ Trace (Int (pos 1) ∷ Int (pos 7) ∷ []) ∷ ends Unit ∷ []
unfolding calls
variables_of_turns = refl

repeat_in_repeat : calls (codes "(eio 1 (main (repeat j 2 (repeat k 1 (trace j k)))))") (done ∷ done ∷ done ∷ done ∷ done ∷ done ∷ []) ≡ Turn ∷ Turn ∷ Trace (Int (pos 0) ∷ Int (pos 0) ∷ []) ∷ Turn ∷ Turn ∷ Trace (Int (pos 1) ∷ Int (pos 0) ∷ []) ∷ ends Unit ∷ []
unfolding calls
repeat_in_repeat = refl

-- an exception in a turn ends them all
raise_in_turn : calls (codes "(eio 1 (main (try ((repeat k 5 (raise \"a\"))) e ((trace e)))))") (done ∷ done ∷ []) ≡ Turn ∷ Trace (Text (text_id 1) ∷ []) ∷ ends Unit ∷ []
unfolding calls
raise_in_turn = refl

-- a `loop` goes on for as long as it is answered
loop_turns : calls (codes "(eio 1 (main (loop (let x 1) (yield)) (trace 9)))") (done ∷ done ∷ done ∷ done ∷ done ∷ []) ≡ Turn ∷ Yield ∷ Turn ∷ Yield ∷ Turn ∷ Yield ∷ []
unfolding calls
loop_turns = refl

empty_loop : calls (codes "(eio 1 (main (loop)))") (done ∷ done ∷ []) ≡ Turn ∷ Turn ∷ Turn ∷ []
unfolding calls
empty_loop = refl

cancelled_loop : calls (codes "(eio 1 (main (try ((loop (yield))) e ((trace 1)))))") (done ∷ Cancels Exit ∷ done ∷ []) ≡ Turn ∷ Yield ∷ traces 1 ∷ ends Unit ∷ []
unfolding calls
cancelled_loop = refl

-- what a turn gives is dropped
give_in_turn : calls (codes "(eio 1 (main (repeat k 1 (give 5))))") (done ∷ []) ≡ Turn ∷ ends Unit ∷ []
unfolding calls
give_in_turn = refl
