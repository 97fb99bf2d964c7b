-- The number that a text spells, and what `parse` reads of it.
use Rattle.std.proofs.Common.{◌≡◌, ◌≢◌, ℕ, ◌+◌, ◌*◌, ◌^◌, ◌<◌, ◌≤◌, List, [], ◌∷◌, length, Bool, true, false, Result, Ok, Err, Option, Some, None, refl, arith, ap, sym, subst, ◌∙◌, rules}
use Rattle.std.proofs.lemmas.Bool.{false≢true}
use Rattle.std.proofs.lemmas.Bool.Decides.{nat_tests}
use Rattle.std.proofs.lemmas.Str.Parse.{IsNumeralModel, numerals_by_value, parse_plain}
use Rattle.std.specs.Char.{digit_value}
use Rattle.std.specs.List.{list_all}
use Rattle.std.specs.Prelude.{nat_le, ◌==◌, ◌&&◌, not, if◌then◌else◌}
use Rattle.std.specs.Result.{OkIff}
use Rattle.std.specs.Str.Parse.{ParsesUnsigned, digits_value, digits_value_after}
use Rattle.spec_script.specs.Bytes.{is_digit}
use Rattle.spec_script.specs.Reading.{is_numeral}
use Rattle.spec_script.specs.Words.{number_of}
use Rattle.eio_run.specs.Steps.{has_first_digit}

digits : IsNumeralModel (λ ds. list_all is_digit ds ≡ true) (digits_value 10)
digits = numerals_by_value _ (search rules)

-- the number of a text, by whether it is a numeral, and by its value
by_value : (most : ℕ) → Bool → ℕ → Option ℕ
by_value most numeral n = if numeral && nat_le 1 n && nat_le n most then Some n else None

number_is : (most : ℕ) (word : List ℕ) → number_of most word ≡ by_value most (is_numeral word) (digits_value 10 word)
unfolding by_value
number_is most word = refl

no_numeral : (most n : ℕ) → by_value most false n ≡ None
unfolding by_value
no_numeral most n = refl

too_many : (most : ℕ) (numeral : Bool) (n : ℕ) → most < n → by_value most numeral n ≡ None
unfolding by_value
too_many most false n large = refl
too_many most true n large =
    let test : nat_le n most ≡ false = grind (arith, nat_tests) in
    above (nat_le 1 n) (nat_le n most) test where
      above : (a b : Bool) → b ≡ false → (if a && b then Some n else None) ≡ None
      above true true is = cc
      above true false is = refl
      above false b is = refl

in_range : (most n : ℕ) → 1 ≤ n → n ≤ most → by_value most true n ≡ Some n
unfolding by_value
in_range most n some small =
    let low : nat_le 1 n ≡ true = grind (arith, nat_tests) in
    let high : nat_le n most ≡ true = grind (arith, nat_tests) in
    rw (low, high) refl

-- ## The first byte

abbrev IsFirst : ℕ → Type 0
IsFirst b = (nat_le 49 b && nat_le b 57) ≡ true

abbrev IsOther : ℕ → Type 0
IsOther b = (nat_le 49 b && nat_le b 57) ≡ false

-- a numeral from 1 on begins with one of `1` to `9`
alone : (most b : ℕ) (digit : Bool) → is_digit b ≡ digit → IsOther b → by_value most digit (digits_value 10 (b ∷ [])) ≡ None
unfolding by_value
alone most b false is other = refl
alone most b true is other =
    let zeroed : b ≡ 48 = grind (arith, nat_tests) in
    rw zeroed refl

zero_first : (b : ℕ) (rest : Bool) → IsOther b → (is_digit b && not (b == 48) && rest) ≡ false
zero_first b rest other = grind (arith, nat_tests)

pub other_first : (most b : ℕ) (ds : List ℕ) → IsOther b → number_of most (b ∷ ds) ≡ None
other_first most b [] other = number_is most (b ∷ []) ∙ alone most b (is_digit b) refl other
other_first most b (c ∷ ds) other =
    number_is most (b ∷ c ∷ ds)
    ∙ (ap (λ n. by_value most n (digits_value 10 (b ∷ c ∷ ds))) (zero_first b (list_all is_digit (c ∷ ds)) other) ∙ no_numeral most (digits_value 10 (b ∷ c ∷ ds)))

first_digit : (b : ℕ) → IsFirst b → (is_digit b ≡ true) × ((b == 48) ≡ false)
first_digit b first = (grind (arith, nat_tests), grind (arith, nat_tests))

numeral_is : (b : ℕ) (ds : List ℕ) → IsFirst b → is_numeral (b ∷ ds) ≡ list_all is_digit (b ∷ ds)
numeral_is b [] first = rw (first_digit b first).0 refl
numeral_is b (c ∷ ds) first = rw ((first_digit b first).0, (first_digit b first).1) refl

-- ## The value

grows : (n : ℕ) (ds : List ℕ) → n ≤ digits_value_after 10 n ds
grows n [] = omega arith
grows n (d ∷ ds) = omega (arith, grows (n * 10 + digit_value d) ds)

first_value : (b : ℕ) → IsFirst b → 1 ≤ 0 * 10 + digit_value b
first_value b first = grind (arith, nat_tests)

is_some : (b : ℕ) (ds : List ℕ) → IsFirst b → 1 ≤ digits_value 10 (b ∷ ds)
is_some b ds first = omega (arith, first_value b first, grows (0 * 10 + digit_value b) ds)

-- ## What `parse` reads

parsed : {E : Type 0} (b : ℕ) (ds : List ℕ) (r : Result ℕ E) → IsFirst b → ParsesUnsigned 32 10 (b ∷ ds) r
    → OkIff r ((list_all is_digit (b ∷ ds) ≡ true) × (0 < length (b ∷ ds)) × (digits_value 10 (b ∷ ds) < 2 ^ 32)) (digits_value 10 (b ∷ ds))
parsed b ds r first h = parse_plain digits 32 (b ∷ ds) r h (let differs : b ≢ 43 = grind (arith, nat_tests) in differs)

by_numeral : (most n : ℕ) (numeral : Bool) → most < 2 ^ 32 → (numeral ≡ true → n < 2 ^ 32 → ⊥) → by_value most numeral n ≡ None
by_numeral most n false small none = no_numeral most n
by_numeral most n true small none = too_many most true n (let large : 2 ^ 32 ≤ n = grind (arith, none refl) in omega arith)

none_parsed : {E : Type 0} (most b : ℕ) (ds : List ℕ) (r : Result ℕ E) (e : E) → most < 2 ^ 32 → IsFirst b → ParsesUnsigned 32 10 (b ∷ ds) r → r ≡ Err e → number_of most (b ∷ ds) ≡ None
none_parsed most b ds r e small first h is =
    let fails = subst (λ x. OkIff x ((list_all is_digit (b ∷ ds) ≡ true) × (0 < length (b ∷ ds)) × (digits_value 10 (b ∷ ds) < 2 ^ 32)) (digits_value 10 (b ∷ ds))) is (parsed b ds r first h) in
    number_is most (b ∷ ds)
    ∙ by_numeral most (digits_value 10 (b ∷ ds)) (is_numeral (b ∷ ds)) small
    (λ numeral fits. fails (sym (numeral_is b ds first) ∙ numeral, omega arith, fits))

-- what was parsed is the value
record IsNumber (most b n : ℕ) (ds : List ℕ) : Type 0 where
  value : n ≡ digits_value 10 (b ∷ ds)
  number : number_of most (b ∷ ds) ≡ by_value most true n
  some : 1 ≤ n

number_as : {E : Type 0} (most b : ℕ) (ds : List ℕ) (r : Result ℕ E) (n : ℕ) → IsFirst b → ParsesUnsigned 32 10 (b ∷ ds) r → r ≡ Ok n → IsNumber most b n ds
number_as most b ds r n first h is =
    let p = subst (λ x. OkIff x ((list_all is_digit (b ∷ ds) ≡ true) × (0 < length (b ∷ ds)) × (digits_value 10 (b ∷ ds) < 2 ^ 32)) (digits_value 10 (b ∷ ds))) is (parsed b ds r first h) in
    record {
      value = p.1;
      number = number_is most (b ∷ ds) ∙ (ap (λ t. by_value most t (digits_value 10 (b ∷ ds))) (numeral_is b ds first ∙ p.0.0) ∙ ap (by_value most true) (sym p.1));
      some = subst (λ k. 1 ≤ k) (sym p.1) (is_some b ds first);
    }

-- ## For code

pub other_number : (most : ℕ) (text : List ℕ) → has_first_digit text ≡ false → number_of most text ≡ None
other_number most [] other = refl
other_number most (b ∷ ds) other = other_first most b ds other

pub refused_number : {E : Type 0} (most : ℕ) (text : List ℕ) (r : Result ℕ E) (e : E) → most < 2 ^ 32 → has_first_digit text ≡ true → ParsesUnsigned 32 10 text r → r ≡ Err e → number_of most text ≡ None
refused_number most [] r e small first h is = cc
refused_number most (b ∷ ds) r e small first h is = none_parsed most b ds r e small first h is

pub small_number : {E : Type 0} (most : ℕ) (text : List ℕ) (r : Result ℕ E) (n : ℕ) → has_first_digit text ≡ true → ParsesUnsigned 32 10 text r → r ≡ Ok n → n ≤ most → number_of most text ≡ Some n
small_number most [] r n first h is small = cc
small_number most (b ∷ ds) r n first h is small =
    let it = number_as most b ds r n first h is in
    it.number ∙ in_range most n it.some small

pub some_number : {E : Type 0} (text : List ℕ) (r : Result ℕ E) (n : ℕ) → has_first_digit text ≡ true → ParsesUnsigned 32 10 text r → r ≡ Ok n → 0 < n
some_number [] r n first h is = cc
some_number (b ∷ ds) r n first h is = omega (arith, (number_as 0 b ds r n first h is).some)

pub large_number : {E : Type 0} (most : ℕ) (text : List ℕ) (r : Result ℕ E) (n : ℕ) → has_first_digit text ≡ true → ParsesUnsigned 32 10 text r → r ≡ Ok n → most < n → number_of most text ≡ None
large_number most [] r n first h is large = cc
large_number most (b ∷ ds) r n first h is large = (number_as most b ds r n first h is).number ∙ too_many most true n large

-- what the test of the first byte said
by_test : (lacks first : Bool) → lacks ≡ not first → (lacks ≡ true → first ≡ false) × (lacks ≡ false → first ≡ true)
by_test lacks true is = ((λ e. absurd (false≢true (sym is ∙ e))), λ e. refl)
by_test lacks false is = ((λ e. refl), λ e. absurd (false≢true (sym e ∙ is)))

pub first_false : (bytes text : List ℕ) (lacks : Bool) → bytes ≡ text → lacks ≡ not (has_first_digit bytes) → lacks ≡ true → has_first_digit text ≡ false
first_false bytes text lacks same is holds = ap has_first_digit (sym same) ∙ (by_test lacks (has_first_digit bytes) is).0 holds

pub first_true : (bytes text : List ℕ) (lacks : Bool) → bytes ≡ text → lacks ≡ not (has_first_digit bytes) → lacks ≡ false → has_first_digit text ≡ true
first_true bytes text lacks same is holds = ap has_first_digit (sym same) ∙ (by_test lacks (has_first_digit bytes) is).1 holds
