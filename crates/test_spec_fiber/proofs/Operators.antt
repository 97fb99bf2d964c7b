-- Expressions: their values, and which exception comes of several. Texts of a script have numbers in reading order.
use Rattle.std.proofs.Common.{◌≡◌, [], ◌∷◌, true, false, refl}
use Rattle.std.specs.Prelude.{ℤ, List, codes, pos, negsuc}
use Rattle.eio_value.specs.declared.value.Value.{Value}
use Rattle.eio_value.specs.declared.value.Value.TheVariants.{Unit, Int, Ctx, Switch}
use Rattle.eio_value.specs.declared.plain.Misuse.TheVariants.{Overflow, NotNumber}
use Rattle.eio_value.specs.declared.plain.Plain.TheVariants.{Invalid}
use Rattle.spec_fiber.specs.Asks.{Ask, Trace}
use Rattle.spec_fiber.specs.Evaluation.{is_same}
use Rattle.test_spec_fiber.specs.Replied.{done, ends, fails}
use Rattle.test_spec_fiber.specs.Runs.{calls}

abbrev values : List ℤ → List Value
values [] = []
values (z ∷ numbers) = Int z ∷ values numbers

-- the calls of a main of one `trace`
abbrev traced : List ℤ → List Ask
traced numbers = Trace (values numbers) ∷ ends Unit ∷ []

numbers : calls (codes "(eio 1 (main (trace (plus 1 2) (minus 1 3) (less 1 2) (less 2 2) (less -1 0))))") (done ∷ []) ≡ traced (pos 3 ∷ negsuc 1 ∷ pos 1 ∷ pos 0 ∷ pos 1 ∷ [])
unfolding calls
numbers = refl

-- equal texts are the same; values of two kinds aren't
equality : calls (codes "(eio 1 (main (trace (same 1 1) (same -1 1) (same \"a\" \"a\") (same \"a\" \"b\") (same (unit) (unit)) (same (unit) 0) (same 0 \"a\"))))") (done ∷ []) ≡ traced (pos 1 ∷ pos 0 ∷ pos 1 ∷ pos 0 ∷ pos 1 ∷ pos 0 ∷ pos 0 ∷ [])
unfolding calls
equality = refl

two_kinds : is_same (Ctx 1) (Switch 1) ≡ false
two_kinds = refl

two_switches : is_same (Switch 1) (Switch 2) ≡ false
two_switches = refl

two_contexts : is_same (Ctx 1) (Ctx 2) ≡ false
two_contexts = refl

one_switch : is_same (Switch 1) (Switch 1) ≡ true
one_switch = refl

-- the greatest and the least number can be had
ends_of_range : calls (codes "(eio 1 (main (trace (plus 9223372036854775806 1) (minus -9223372036854775807 1))))") (done ∷ []) ≡ traced (pos 9223372036854775807 ∷ negsuc 9223372036854775807 ∷ [])
unfolding calls
ends_of_range = refl

above_range : calls (codes "(eio 1 (main (trace (plus 9223372036854775807 1))))") [] ≡ fails 0 (Invalid Overflow) ∷ []
unfolding calls
above_range = refl

below_range : calls (codes "(eio 1 (main (trace (minus -9223372036854775808 1))))") [] ≡ fails 0 (Invalid Overflow) ∷ []
unfolding calls
below_range = refl

text_operand : calls (codes "(eio 1 (main (trace (plus \"a\" 1))))") [] ≡ fails 0 (Invalid NotNumber) ∷ []
unfolding calls
text_operand = refl

unit_operand : calls (codes "(eio 1 (main (trace (less 1 (unit)))))") [] ≡ fails 0 (Invalid NotNumber) ∷ []
unfolding calls
unit_operand = refl

-- both operands are evaluated before either is asked for its kind
operands_before_kinds : calls (codes "(eio 1 (main (trace (plus \"a\" (plus 9223372036854775807 1)))))") [] ≡ fails 0 (Invalid Overflow) ∷ []
unfolding calls
operands_before_kinds = refl

left_operand_first : calls (codes "(eio 1 (main (trace (plus (less \"a\" 1) (plus 9223372036854775807 1)))))") [] ≡ fails 0 (Invalid NotNumber) ∷ []
unfolding calls
left_operand_first = refl

-- of the operands of a call, too, the first exception ends it
first_exception : calls (codes "(eio 1 (main (trace 1 (plus 9223372036854775807 1) (less \"a\" 1))))") [] ≡ fails 0 (Invalid Overflow) ∷ []
unfolding calls
first_exception = refl
