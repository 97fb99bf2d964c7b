-- The reader's test of numbers and the spelling of numbers say the same (`number_sound`, `number_back`).
use Rattle.std.proofs.Common.{◌≡◌, ◌≤◌, ◌<◌, ◌^◌, ℕ, zero, suc, Bool, true, false, cond, not, ◌||◌, ◌&&◌, ◌==◌, nat_lt, nat_le, List, [], ◌∷◌, length, get_or, refl, sym, ap, ◌∙◌, subst, arith}
use Rattle.std.specs.Prelude.{ℤ, pos, negsuc}
use Rattle.std.specs.List.{list_all}
use Rattle.std.specs.Fmt.{decimal, signed_decimal}
use Rattle.std.specs.Str.Parse.{digits_value, signed_digits_value}
use Rattle.std.proofs.lemmas.Str.Parse.{IsDigitsTest, IsNumeralModel, numerals_by_value}
use Rattle.std.proofs.lemmas.Fmt.{decimal-digits_value, digits_decimal, digits_value-decimal, decimal_nonempty, first_decimal, decimal_digit}
use Rattle.std.proofs.lemmas.Bool.{and_parts, and_from, eqb-true, ltb-true, lt-ltb, leb-true, le-leb, not-true, not_from_false, ne_eqb, eqb-false}
use Rattle.std.proofs.lemmas.Bool.Decides.{nat_tests}
use Rattle.spec_script.specs.Bytes.{minus, digit_zero, is_digit, is_run_byte}
use Rattle.spec_script.specs.Limits.{is_within}
use Rattle.spec_script.specs.Reading.{is_numeral, is_number}

digit_bounds : (b : ℕ) → is_digit b ≡ true → (48 ≤ b) × (b ≤ 57)
digit_bounds b e = let both = and_parts _ _ e in (leb-true 48 b both.0, leb-true b 57 both.1)

digit_from : (b : ℕ) → 48 ≤ b → b ≤ 57 → is_digit b ≡ true
digit_from b low high = and_from _ _ (le-leb 48 b low) (le-leb b 57 high)

tells : IsDigitsTest (λ ds. list_all is_digit ds ≡ true)
tells = record {
  empty = refl;
  parts = λ c cs h. let both = and_parts _ _ h in (digit_bounds c both.0, both.1);
  more = λ c cs h rest. and_from _ _ (digit_from c h.0 h.1) rest;
}

own : IsNumeralModel (λ ds. list_all is_digit ds ≡ true) (digits_value 10)
own = numerals_by_value _ tells

-- what a numeral is
record IsNumeral (ds : List ℕ) : Type 0 where
  digits : list_all is_digit ds ≡ true
  some : 0 < length ds
  lead : get_or ds 0 0 ≡ 48 → length ds ≡ 1

numeral_is : (ds : List ℕ) → is_numeral ds ≡ true → IsNumeral ds
numeral_is [] e = cc
numeral_is (b ∷ []) e = record { digits = and_from _ _ e refl; some = omega arith; lead = λ h. refl }
numeral_is (b ∷ c ∷ ds) e =
    let outer = and_parts _ _ e in
    let inner = and_parts (is_digit b) (not (b == digit_zero)) outer.0 in
    record { digits = and_from _ _ inner.0 outer.1; some = omega arith; lead = λ h. absurd (eqb-false b 48 (not-true _ inner.1) h) }

numeral_from : (ds : List ℕ) → list_all is_digit ds ≡ true → 0 < length ds → (1 < length ds → 48 < get_or ds 0 0) → is_numeral ds ≡ true
numeral_from [] digits some lead = absurd (omega arith)
numeral_from (b ∷ []) digits some lead = (and_parts _ _ digits).0
numeral_from (b ∷ c ∷ ds) digits some lead =
    let both = and_parts (is_digit b) (list_all is_digit (c ∷ ds)) digits in
    let high : 48 < b = lead (omega arith) in
    and_from _ _ (and_from _ _ both.0 (not_from_false _ (ne_eqb b 48 (λ h. omega arith)))) both.1

decimal_of : (ds : List ℕ) → is_numeral ds ≡ true → digits_value 10 ds ≤ 2 ^ 63 → decimal (digits_value 10 ds) ≡ ds
decimal_of ds e small =
    let it = numeral_is ds e in
    decimal-digits_value own ds it.digits it.some it.lead (omega arith)

-- a number that is read is spelled so, and is within
pub record IsNumberRead (run : List ℕ) : Type 0 where
  pub spelling : run ≡ signed_decimal (signed_digits_value 10 run)
  pub within : is_within (signed_digits_value 10 run) ≡ true

plain_value : (b : ℕ) (run : List ℕ) → is_digit b ≡ true → signed_digits_value 10 (b ∷ run) ≡ pos (digits_value 10 (b ∷ run))
plain_value b run e =
    let bounds = digit_bounds b e in
    let no_minus : (b == 45) ≡ false = ne_eqb b 45 (λ h. let low = bounds.0 in omega arith) in
    let no_plus : (b == 43) ≡ false = ne_eqb b 43 (λ h. let low = bounds.0 in omega arith) in
    rw (no_minus, no_plus) refl

first_digit : (b : ℕ) (run : List ℕ) → is_numeral (b ∷ run) ≡ true → is_digit b ≡ true
first_digit b run e = (and_parts _ _ (numeral_is (b ∷ run) e).digits).0

plain_number : (b : ℕ) (run : List ℕ) → (is_numeral (b ∷ run) && nat_lt (digits_value 10 (b ∷ run)) (2 ^ 63)) ≡ true → IsNumberRead (b ∷ run)
plain_number b run e =
    let both = and_parts (is_numeral (b ∷ run)) (nat_lt (digits_value 10 (b ∷ run)) (2 ^ 63)) e in
    let value = plain_value b run (first_digit b run both.0) in
    let small : digits_value 10 (b ∷ run) < 2 ^ 63 = ltb-true _ _ both.1 in
    record {
      spelling = sym (ap signed_decimal value ∙ decimal_of (b ∷ run) both.0 (omega arith));
      within = ap is_within value ∙ both.1;
    }

minus_by : (run : List ℕ) (v : ℕ) → digits_value 10 run ≡ v → is_numeral run ≡ true → (v == 0) ≡ false → v ≤ 2 ^ 63 → IsNumberRead (45 ∷ run)
minus_by run zero value numeral some small = cc
minus_by run (suc m) value numeral some small =
    let z : signed_digits_value 10 (45 ∷ run) ≡ negsuc m = rw value refl in
    record {
      spelling = sym (ap signed_decimal z ∙ ap (λ (bs : List ℕ). 45 ∷ bs) (ap decimal (sym value) ∙ decimal_of run numeral (omega arith)));
      within = ap is_within z ∙ lt-ltb m (2 ^ 63) (omega arith);
    }

minus_number : (run : List ℕ) → (is_numeral run && not (digits_value 10 run == 0) && nat_le (digits_value 10 run) (2 ^ 63)) ≡ true → IsNumberRead (45 ∷ run)
minus_number run e =
    let outer = and_parts (is_numeral run && not (digits_value 10 run == 0)) (nat_le (digits_value 10 run) (2 ^ 63)) e in
    let inner = and_parts (is_numeral run) (not (digits_value 10 run == 0)) outer.0 in
    minus_by run (digits_value 10 run) refl inner.0 (not-true _ inner.1) (leb-true _ _ outer.1)

number_by : (b : ℕ) (run : List ℕ) (m : Bool) → (b == minus) ≡ m →
    cond m (is_numeral run && not (digits_value 10 run == 0) && nat_le (digits_value 10 run) (2 ^ 63)) (is_numeral (b ∷ run) && nat_lt (digits_value 10 (b ∷ run)) (2 ^ 63)) ≡ true →
    IsNumberRead (b ∷ run)
number_by b run true m e = subst (λ (c : ℕ). IsNumberRead (c ∷ run)) (sym (eqb-true b 45 m)) (minus_number run e)
number_by b run false m e = plain_number b run e

pub number_sound : (run : List ℕ) → is_number run ≡ true → IsNumberRead run
number_sound [] e = cc
number_sound (b ∷ run) e = number_by b run _ refl e

-- ## Back

-- a number within the limits is spelled by a run that is read as it
pub record IsNumberBack (run : List ℕ) (z : ℤ) : Type 0 where
  pub number : is_number run ≡ true
  pub value : signed_digits_value 10 run ≡ z
  pub runs : list_all is_run_byte run ≡ true
  pub first : ℕ
  pub rest : List ℕ
  pub is : run ≡ first ∷ rest
  pub begins : ((first == minus) || is_digit first) ≡ true

digit_runs : (b : ℕ) → is_digit b ≡ true → is_run_byte b ≡ true
digit_runs b e = grind (arith, nat_tests)

digits_run : (ds : List ℕ) → list_all is_digit ds ≡ true → list_all is_run_byte ds ≡ true
digits_run [] e = refl
digits_run (b ∷ ds) e = let both = and_parts _ _ e in and_from _ _ (digit_runs b both.0) (digits_run ds both.1)

lead_of : (n : ℕ) → n < 2 ^ 64 → 1 < length (decimal n) → 48 < get_or (decimal n) 0 0
lead_of zero small long = absurd (let one = ap (λ (bs : List ℕ). length bs) (decimal_digit 0 (omega arith)) in omega arith)
lead_of (suc n) small long = first_decimal (suc n) (omega arith) small

decimal_numeral : (n : ℕ) → n ≤ 2 ^ 63 → is_numeral (decimal n) ≡ true
decimal_numeral n small = numeral_from (decimal n) (digits_decimal own n (omega arith)) (decimal_nonempty n (omega arith)) (lead_of n (omega arith))

plain_back : (ds : List ℕ) (n : ℕ) → is_numeral ds ≡ true → digits_value 10 ds ≡ n → nat_lt n (2 ^ 63) ≡ true → IsNumberBack ds (pos n)
plain_back [] n numeral value small = cc
plain_back (b ∷ ds) n numeral value small =
    let digit = first_digit b ds numeral in
    let bounds = digit_bounds b digit in
    let no_minus : (b == 45) ≡ false = ne_eqb b 45 (λ h. let low = bounds.0 in omega arith) in
    record {
      number = rw no_minus (and_from _ _ numeral (ap (λ (m : ℕ). nat_lt m (2 ^ 63)) value ∙ small));
      value = plain_value b ds digit ∙ ap pos value;
      runs = digits_run (b ∷ ds) (numeral_is (b ∷ ds) numeral).digits;
      first = b;
      rest = ds;
      is = refl;
      begins = rw (no_minus, digit) refl;
    }

minus_back : (ds : List ℕ) (n : ℕ) → is_numeral ds ≡ true → digits_value 10 ds ≡ suc n → n < 2 ^ 63 → IsNumberBack (45 ∷ ds) (negsuc n)
minus_back ds n numeral value small =
    record {
      number = and_from _ _ (and_from _ _ numeral (rw value (not_from_false _ (ne_eqb (suc n) 0 (λ h. cc))))) (rw value (le-leb (suc n) (2 ^ 63) (omega arith)));
      value = rw value refl;
      runs = digits_run ds (numeral_is ds numeral).digits;
      first = 45;
      rest = ds;
      is = refl;
      begins = refl;
    }

pub number_back : (z : ℤ) → is_within z ≡ true → IsNumberBack (signed_decimal z) z
number_back (pos n) within =
    let small : n < 2 ^ 63 = ltb-true _ _ within in
    plain_back (decimal n) n (decimal_numeral n (omega arith)) (digits_value-decimal own n (omega arith)) within
number_back (negsuc n) within =
    let small : n < 2 ^ 63 = ltb-true _ _ within in
    minus_back (decimal (suc n)) n (decimal_numeral (suc n) (omega arith)) (digits_value-decimal own (suc n) (omega arith)) small
