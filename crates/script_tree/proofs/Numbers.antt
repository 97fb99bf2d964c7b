-- What `parse` reads from a numeral with or without a minus is its number; only of `-0` the notation has none.
use Rattle.std.proofs.Common.{◌≡◌, ◌≢◌, ℕ, zero, suc, ◌^◌, ◌<◌, ◌≤◌, List, [], ◌∷◌, length, Bool, true, false, Result, Ok, Err, Option, Some, None, ℤ, pos, neg_ℤ, refl, arith, ap, sym, subst, ◌∙◌, w64, rules, true≢false, lit<}
use Rattle.std.proofs.lemmas.Grind.{common_steps}
use Rattle.std.proofs.lemmas.Bool.Decides.{nat_tests, Decides-eqb}
use Rattle.std.specs.Prelude.{nat_le, nat_lt, ◌==◌, ◌&&◌, not, if◌then◌else◌}
use Rattle.std.specs.List.{list_all}
use Rattle.std.specs.Result.{OkIff}
use Rattle.std.specs.Str.Parse.{ParsesSigned, digits_value, starts_with_minus}
use Rattle.std.proofs.lemmas.Str.Parse.{IsNumeralModel, numerals_by_value, parse_signed_minus, parse_signed_digits}
use Rattle.std.specs.Str.{IsUtf8, IsAscii}
use Rattle.std.proofs.lemmas.Str.{IsUtf8-from_ascii}
use Rattle.spec_script.specs.Bytes.{is_digit, digit_zero}
use Rattle.spec_script.specs.Reading.{is_numeral}
use Rattle.script_tree.specs.Numbers.{number_of, is_signed_numeral}

digits : IsNumeralModel (λ ds. list_all is_digit ds ≡ true) (digits_value 10)
digits = numerals_by_value _ (search rules)

first_and_last : (a b c : Bool) → (a && not b && c) ≡ true → (a && c) ≡ true
first_and_last true true c h = grind arith
first_and_last true false c h = h
first_and_last false b c h = h

numeral_digits : (ds : List ℕ) → is_numeral ds ≡ true → (list_all is_digit ds ≡ true) × (0 < length ds)
numeral_digits [] h = grind arith
numeral_digits (b ∷ []) h = (rw h refl, omega arith)
numeral_digits (b ∷ c ∷ ds) h = (first_and_last (is_digit b) (b == digit_zero) (list_all is_digit (c ∷ ds)) h, omega arith)

chosen_none : (a b c : Bool) (x : Option ℤ) → c ≡ false → (if a && b && c then x else None) ≡ None
chosen_none true true c x h = rw h refl
chosen_none true false c x h = refl
chosen_none false b c x h = refl

abbrev of_minus : Bool → ℕ → Option ℤ
of_minus n v = if n && not (v == 0) && nat_le v (2 ^ 63) then Some (neg_ℤ (pos v)) else None

abbrev of_plain : Bool → ℕ → Option ℤ
of_plain n v = if n && nat_lt v (2 ^ 63) then Some (pos v) else None

minus_some : (n : Bool) (v : ℕ) → n ≡ true → v ≢ 0 → v ≤ 2 ^ 63 → of_minus n v ≡ Some (neg_ℤ (pos v))
minus_some n v h nonzero small =
    let zero_test : (v == 0) ≡ false = grind (arith, common_steps) in
    let size_test : nat_le v (2 ^ 63) ≡ true = grind (arith, common_steps) in
    rw (h, zero_test, size_test) refl

minus_none : (n : Bool) (v : ℕ) → n ≡ true → v ≡ 0 → of_minus n v ≡ None
minus_none n v h is_zero = rw (h, is_zero) refl

minus_large : (n : Bool) (v : ℕ) → (v ≤ 2 ^ 63 → ⊥) → of_minus n v ≡ None
minus_large n v large =
    let size_test : nat_le v (2 ^ 63) ≡ false = grind (arith, common_steps) in
    chosen_none n (not (v == 0)) (nat_le v (2 ^ 63)) (Some (neg_ℤ (pos v))) size_test

plain_some : (n : Bool) (v : ℕ) → n ≡ true → v < 2 ^ 63 → of_plain n v ≡ Some (pos v)
plain_some n v h small =
    let size_test : nat_lt v (2 ^ 63) ≡ true = grind (arith, common_steps) in
    rw (h, size_test) refl

plain_large : (n : Bool) (v : ℕ) → n ≡ true → (v < 2 ^ 63 → ⊥) → of_plain n v ≡ None
plain_large n v h large =
    let size_test : nat_lt v (2 ^ 63) ≡ false = grind (arith, common_steps) in
    rw (h, size_test) refl

-- what was read is the run's number, but for `-0`
abbrev IsRead : {E : Type 0} → List ℕ → Result ℤ E → Type 0
IsRead run (Ok z) = (z ≢ pos 0 → number_of run ≡ Some z) × (starts_with_minus run ≡ false → number_of run ≡ Some z) × (z ≡ pos 0 → starts_with_minus run ≡ true → number_of run ≡ None)
IsRead run (Err e) = number_of run ≡ None

zero_or_not : (v : ℕ) → neg_ℤ (pos v) ≡ pos 0 → v ≡ 0
zero_or_not zero h = refl
zero_or_not (suc v) h = grind arith

minus_case : {E : Type 0} (ds : List ℕ) (r : Result ℤ E) → OkIff r ((list_all is_digit ds ≡ true) × (0 < length ds) × (digits_value 10 ds ≤ 2 ^ 63)) (neg_ℤ (pos (digits_value 10 ds))) → is_numeral ds ≡ true → IsRead (45 ∷ ds) r
minus_case ds (Ok z) h n = (
  (λ nonzero. minus_some (is_numeral ds) (digits_value 10 ds) n (λ is_zero. nonzero (h.1 ∙ ap (λ v. neg_ℤ (pos v)) is_zero)) h.0.2 ∙ ap (λ (k : ℤ). let o : Option ℤ = Some k in o) (sym h.1)),
  (λ plain. grind arith),
  (λ is_zero negative. minus_none (is_numeral ds) (digits_value 10 ds) n (zero_or_not _ (sym h.1 ∙ is_zero))),
)
minus_case ds (Err e) h n =
    let d = numeral_digits ds n in
    minus_large (is_numeral ds) (digits_value 10 ds) (λ small. h (d.0, d.1, small))

plain_is : (b : ℕ) (ds : List ℕ) → (b == 45) ≡ false → (b == 43) ≡ false → number_of (b ∷ ds) ≡ of_plain (is_numeral (b ∷ ds)) (digits_value 10 (b ∷ ds))
plain_is b ds no_minus no_plus = rw (no_minus, no_plus) refl

plain_case : {E : Type 0} (b : ℕ) (ds : List ℕ) (r : Result ℤ E) → OkIff r ((0 < length (b ∷ ds)) × (digits_value 10 (b ∷ ds) < 2 ^ 63)) (pos (digits_value 10 (b ∷ ds))) → (b == 45) ≡ false → (b == 43) ≡ false → is_numeral (b ∷ ds) ≡ true → IsRead (b ∷ ds) r
plain_case b ds (Ok z) h no_minus no_plus n =
    let some : number_of (b ∷ ds) ≡ Some z = plain_is b ds no_minus no_plus ∙ (plain_some _ (digits_value 10 (b ∷ ds)) n h.0.1 ∙ ap (λ (k : ℤ). let o : Option ℤ = Some k in o) (sym h.1)) in
    ((λ nonzero. some), (λ plain. some), (λ is_zero negative. absurd (true≢false (sym negative ∙ no_minus))))
plain_case b ds (Err e) h no_minus no_plus n = plain_is b ds no_minus no_plus ∙ plain_large _ (digits_value 10 (b ∷ ds)) n (λ small. h (omega arith, small))

no_plus_first : (b : ℕ) (rest : Bool) → (is_digit b && rest) ≡ true → (b == 43) ≡ false
no_plus_first b rest h = grind (arith, nat_tests)

by_first : {E : Type 0} (b : ℕ) (ds : List ℕ) (r : Result ℤ E) (c : Bool) → (b == 45) ≡ c → ParsesSigned w64 10 (b ∷ ds) r → is_signed_numeral (b ∷ ds) ≡ true → IsRead (b ∷ ds) r
by_first b ds r true e h shape =
    let is_minus : b ≡ 45 = (Decides-eqb b 45).0 e in
    let h' = subst (λ k. ParsesSigned w64 10 (k ∷ ds) r) is_minus h in
    let shape' : is_signed_numeral (45 ∷ ds) ≡ true = subst (λ k. is_signed_numeral (k ∷ ds) ≡ true) is_minus shape in
    let n : is_numeral ds ≡ true = shape' in
    subst (λ k. IsRead (k ∷ ds) r) (sym is_minus) (minus_case ds r (parse_signed_minus digits w64 (45 ∷ ds) r h' refl) n)
by_first b ds r false e h shape =
    let n : is_numeral (b ∷ ds) ≡ true = subst (λ c. (if c then is_numeral ds else is_numeral (b ∷ ds)) ≡ true) e shape in
    let d = numeral_digits (b ∷ ds) n in
    plain_case b ds r (parse_signed_digits digits w64 (b ∷ ds) r h d.0) e (no_plus_first b (list_all is_digit ds) d.0) n

is_read : {E : Type 0} (run : List ℕ) (r : Result ℤ E) → ParsesSigned w64 10 run r → is_signed_numeral run ≡ true → IsRead run r
is_read [] r h shape = grind arith
is_read (b ∷ ds) r h shape = by_first b ds r (b == 45) refl h shape

pub nonzero_number : {E : Type 0} (run : List ℕ) (r : Result ℤ E) (z : ℤ) → ParsesSigned w64 10 run r → is_signed_numeral run ≡ true → r ≡ Ok z → z ≢ pos 0 → number_of run ≡ Some z
nonzero_number run r z h shape is nonzero = (subst (IsRead run) is (is_read run r h shape)).0 nonzero

pub plain_number : {E : Type 0} (run : List ℕ) (r : Result ℤ E) (z : ℤ) → ParsesSigned w64 10 run r → is_signed_numeral run ≡ true → r ≡ Ok z → starts_with_minus run ≡ false → number_of run ≡ Some z
plain_number run r z h shape is plain = (subst (IsRead run) is (is_read run r h shape)).1 plain

pub minus_zero : {E : Type 0} (run : List ℕ) (r : Result ℤ E) (z : ℤ) → ParsesSigned w64 10 run r → is_signed_numeral run ≡ true → r ≡ Ok z → z ≡ pos 0 → starts_with_minus run ≡ true → number_of run ≡ None
minus_zero run r z h shape is zeroed negative = (subst (IsRead run) is (is_read run r h shape)).2 zeroed negative

pub too_large : {E : Type 0} (run : List ℕ) (r : Result ℤ E) (e : E) → ParsesSigned w64 10 run r → is_signed_numeral run ≡ true → r ≡ Err e → number_of run ≡ None
too_large run r e h shape is = subst (IsRead run) is (is_read run r h shape)

digits_ascii : (ds : List ℕ) → list_all is_digit ds ≡ true → IsAscii ds
digits_ascii [] h i = lit< tt
digits_ascii (d ∷ ds) h zero = grind (arith, nat_tests)
digits_ascii (d ∷ ds) h (suc i) = digits_ascii ds (both (is_digit d) (list_all is_digit ds) h) i where
  both : (a b : Bool) → (a && b) ≡ true → b ≡ true
  both true b h = h
  both false b h = grind arith

signed_ascii : (b : ℕ) (ds : List ℕ) (c : Bool) → (b == 45) ≡ c → is_signed_numeral (b ∷ ds) ≡ true → IsAscii (b ∷ ds)
signed_ascii b ds true e shape zero = omega (arith, (Decides-eqb b 45).0 e)
signed_ascii b ds true e shape (suc i) =
    let n : is_numeral ds ≡ true = subst (λ c. (if c then is_numeral ds else is_numeral (b ∷ ds)) ≡ true) e shape in
    digits_ascii ds (numeral_digits ds n).0 i
signed_ascii b ds false e shape i =
    let n : is_numeral (b ∷ ds) ≡ true = subst (λ c. (if c then is_numeral ds else is_numeral (b ∷ ds)) ≡ true) e shape in
    digits_ascii (b ∷ ds) (numeral_digits (b ∷ ds) n).0 i

-- a numeral, with a minus or without, is text
pub numeral_text : (run : List ℕ) → is_signed_numeral run ≡ true → IsUtf8 run
numeral_text [] shape = grind arith
numeral_text (b ∷ ds) shape = IsUtf8-from_ascii (b ∷ ds) (signed_ascii b ds (b == 45) refl shape)
