-- What a run is, by its first byte.
use Rattle.std.proofs.Common.{◌≡◌, ℕ, ◌<◌, ◌≤◌, List, [], ◌∷◌, length, get_or, Bool, true, false, Result, Ok, Err, Option, Some, None, ℤ, refl, arith, ap, sym, ◌∙◌, ◌≢◌}
use Rattle.std.proofs.lemmas.Grind.{common_steps}
use Rattle.std.specs.Prelude.{nat_le, ◌==◌, if◌then◌else◌}
use Rattle.std.specs.Str.Parse.{signed_digits_value}
use Rattle.spec_script.specs.Bytes.{is_letter, underscore}
use Rattle.spec_script.specs.Faults as fault
use Rattle.spec_script.specs.Faults.{TreeFault}
use Rattle.spec_script.specs.Trees.{Tree, Word, Number}
use Rattle.spec_script.specs.Reading.{is_number, run_tree}
use Rattle.script_tree.specs.Numbers.{number_of}

abbrev Read : Type 0
Read = Result Tree TreeFault

abbrev by_number : ℕ → Option ℤ → Read
by_number at number = elim number [ Some z ↦ Ok (Number at z) | None ↦ Err (fault.Number at) ]

-- what a run is, by whether it begins with a letter or an underscore, and by its length
abbrev by_start : ℕ → List ℕ → (letter short under : Bool) → Option ℤ → Read
by_start at run letter short under number = elim letter [
  | true ↦ elim short [ true ↦ Ok (Word at run) | false ↦ Err (fault.LongText at) ]
  | false ↦ elim under [ true ↦ Err (fault.Byte at) | false ↦ by_number at number ]
]

number_by : (at : ℕ) (z : ℤ) (yes_number : Bool) → (let r : Read = elim yes_number [ true ↦ Ok (Number at z) | false ↦ Err (fault.Number at) ] in r) ≡ by_number at (if yes_number then Some z else None)
number_by at z true = refl
number_by at z false = refl

started : (at : ℕ) (run : List ℕ) → 0 < length run → run_tree at run ≡ by_start at run (is_letter (get_or run 0 0)) (nat_le (length run) 32) (get_or run 0 0 == underscore) (number_of run)
unfolding run_tree
started at [] some = absurd (omega (arith, some))
started at (b ∷ run) some =
    ap (λ (r : Read). let s : Read = elim (is_letter b) [ true ↦ elim (nat_le (length (b ∷ run)) 32) [ true ↦ Ok (Word at (b ∷ run)) | false ↦ Err (fault.LongText at) ] | false ↦ elim (b == underscore) [ true ↦ Err (fault.Byte at) | false ↦ r ] ] in s) (number_by at (signed_digits_value 10 (b ∷ run)) (is_number (b ∷ run)))

pub run_empty : (at : ℕ) (run : List ℕ) → length run ≡ 0 → run_tree at run ≡ Err (fault.Byte at)
unfolding run_tree
run_empty at [] none = refl
run_empty at (b ∷ run) none = absurd (omega (arith, none))

pub run_long : (at : ℕ) (run : List ℕ) → 0 < length run → is_letter (get_or run 0 0) ≡ true → 32 < length run → run_tree at run ≡ Err (fault.LongText at)
run_long at run some letter long =
    let test : nat_le (length run) 32 ≡ false = grind (arith, common_steps) in
    started at run some ∙ (ap (λ c. by_start at run c (nat_le (length run) 32) (get_or run 0 0 == underscore) (number_of run)) letter ∙ ap (λ c. by_start at run true c (get_or run 0 0 == underscore) (number_of run)) test)

pub run_word : (at : ℕ) (run word : List ℕ) → 0 < length run → is_letter (get_or run 0 0) ≡ true → length run ≤ 32 → word ≡ run → run_tree at run ≡ Ok (Word at word)
run_word at run word some letter short same =
    let test : nat_le (length run) 32 ≡ true = grind (arith, common_steps) in
    started at run some ∙ (ap (λ c. by_start at run c (nat_le (length run) 32) (get_or run 0 0 == underscore) (number_of run)) letter ∙ (ap (λ c. by_start at run true c (get_or run 0 0 == underscore) (number_of run)) test ∙ ap (λ w. let r : Read = Ok (Word at w) in r) (sym same)))

pub run_underscore : (at : ℕ) (run : List ℕ) → 0 < length run → is_letter (get_or run 0 0) ≡ false → get_or run 0 0 ≡ 95 → run_tree at run ≡ Err (fault.Byte at)
run_underscore at run some letter under =
    let test : (get_or run 0 0 == underscore) ≡ true = grind (arith, common_steps) in
    started at run some ∙ (ap (λ c. by_start at run c (nat_le (length run) 32) (get_or run 0 0 == underscore) (number_of run)) letter ∙ ap (λ c. by_start at run false (nat_le (length run) 32) c (number_of run)) test)

other : (at : ℕ) (run : List ℕ) (number : Option ℤ) → 0 < length run → is_letter (get_or run 0 0) ≡ false → get_or run 0 0 ≢ 95 → number ≡ number_of run → run_tree at run ≡ by_number at number
other at run number some letter under same =
    let test : (get_or run 0 0 == underscore) ≡ false = grind (arith, common_steps) in
    started at run some ∙ (ap (λ c. by_start at run c (nat_le (length run) 32) (get_or run 0 0 == underscore) (number_of run)) letter ∙ (ap (λ c. by_start at run false (nat_le (length run) 32) c (number_of run)) test ∙ ap (by_number at) (sym same)))

pub run_number : (at : ℕ) (run : List ℕ) (z : ℤ) → 0 < length run → is_letter (get_or run 0 0) ≡ false → get_or run 0 0 ≢ 95 → Some z ≡ number_of run → run_tree at run ≡ Ok (Number at z)
run_number at run z = other at run (Some z)

pub run_no_number : (at : ℕ) (run : List ℕ) → 0 < length run → is_letter (get_or run 0 0) ≡ false → get_or run 0 0 ≢ 95 → None ≡ number_of run → run_tree at run ≡ Err (fault.Number at)
run_no_number at run = other at run None
