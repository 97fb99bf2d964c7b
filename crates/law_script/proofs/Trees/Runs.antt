-- A run that is read is a word or a number that it spells, and ends where no run byte goes on (`run_sound`, `run_back`).
use Rattle.std.proofs.Common.{◌≡◌, ℕ, ◌+◌, Bool, true, false, ◌||◌, ◌&&◌, ◌==◌, nat_le, List, [], ◌∷◌, ◌++◌, length, drop, take_while, Result, Ok, Err, refl, sym, ap, ◌∙◌, subst, take-append-drop, drop_at, arith}
use Rattle.std.specs.Prelude.{ℤ}
use Rattle.std.specs.List.{list_all, prefix_len}
use Rattle.std.specs.Fmt.{signed_decimal}
use Rattle.std.specs.Str.Parse.{signed_digits_value}
use Rattle.std.proofs.lemmas.Bool.{and_parts, and_from, cond_both, cond-true, cond-false}
use Rattle.std.proofs.lemmas.Bool.Decides.{nat_tests}
use Rattle.std.proofs.lemmas.List.{length-take-le}
use Rattle.std.proofs.lemmas.List.Sums.{prefix_len-le-length, take_while-cons}
use Rattle.spec_script.specs.Bytes.{underscore, minus, is_letter, is_digit, is_run_byte}
use Rattle.spec_script.specs.Limits.{most_word_bytes, is_within}
use Rattle.spec_script.specs.Trees.{Tree, Word, Number, is_run}
use Rattle.spec_script.specs.Spelling.{is_word, Spells}
use Rattle.spec_script.specs.Faults as fault
use Rattle.spec_script.specs.Faults.{TreeFault}
use Rattle.spec_script.specs.Reading.{here, Found, found, is_number, run_tree, run_at}
use Rattle.law_script.proofs.Trees.Steps.{same_Ok, err-ok, both_gave, passed}
use Rattle.law_script.proofs.Trees.Numbers.{number_sound, number_back}

-- whether a run goes on here
abbrev pub begins_run : List ℕ → Bool
begins_run [] = false
begins_run (b ∷ bytes) = is_run_byte b

-- the longest run, and what is behind it
longest_and_rest : (bytes : List ℕ) → bytes ≡ take_while is_run_byte bytes ++ drop (length (take_while is_run_byte bytes)) bytes
longest_and_rest bytes =
    let n = prefix_len is_run_byte bytes in
    sym (rw (length-take-le n bytes (prefix_len-le-length is_run_byte bytes)) (take-append-drop n bytes))

longest_runs : (bytes : List ℕ) → list_all is_run_byte (take_while is_run_byte bytes) ≡ true
longest_runs [] = refl
longest_runs (b ∷ bytes) =
    rw (take_while-cons is_run_byte b bytes) (cond_both (is_run_byte b) (b ∷ take_while is_run_byte bytes) [] (λ ys. list_all is_run_byte ys ≡ true) (λ e. and_from _ _ e (longest_runs bytes)) (λ e. refl))

longest_ends : (bytes : List ℕ) → begins_run (drop (length (take_while is_run_byte bytes)) bytes) ≡ false
longest_ends [] = refl
longest_ends (b ∷ bytes) =
    rw (take_while-cons is_run_byte b bytes) (cond_both (is_run_byte b) (b ∷ take_while is_run_byte bytes) [] (λ ys. begins_run (drop (length ys) (b ∷ bytes)) ≡ false) (λ e. longest_ends bytes) (λ e. e))

longest_is : (run rest : List ℕ) → list_all is_run_byte run ≡ true → begins_run rest ≡ false → take_while is_run_byte (run ++ rest) ≡ run
longest_is [] [] all stop = refl
longest_is [] (b ∷ rest) all stop = take_while-cons is_run_byte b rest ∙ cond-false (is_run_byte b) _ _ stop
longest_is (b ∷ run) rest all stop =
    let both = and_parts (is_run_byte b) (list_all is_run_byte run) all in
    take_while-cons is_run_byte b (run ++ rest) ∙ (cond-true (is_run_byte b) _ _ both.0 ∙ ap (λ (bs : List ℕ). b ∷ bs) (longest_is run rest both.1 stop))

-- the tree that a run spells
pub record IsRun (at : ℕ) (run : List ℕ) (tree : Tree) : Type 0 where
  pub spells : (lists : ℕ) → Spells lists at run tree
  pub one : is_run tree ≡ true

word_is : (at b : ℕ) (run : List ℕ) → is_letter b ≡ true → list_all is_run_byte (b ∷ run) ≡ true → nat_le (length (b ∷ run)) most_word_bytes ≡ true → IsRun at (b ∷ run) (Word at (b ∷ run))
word_is at b run letter all short = record {
  spells = λ lists. (refl, refl, and_from _ _ (and_from _ _ letter (and_parts (is_run_byte b) (list_all is_run_byte run) all).1) short);
  one = refl;
}

number_is : (at : ℕ) (run : List ℕ) → is_number run ≡ true → IsRun at run (Number at (signed_digits_value 10 run))
number_is at run e = let it = number_sound run e in record { spells = λ lists. (refl, it.spelling, it.within); one = refl }

run_by : (at b : ℕ) (run : List ℕ) (tree : Tree) (letter line : Bool) → is_letter b ≡ letter → list_all is_run_byte (b ∷ run) ≡ true →
    ◌≡◌ {A = Result Tree TreeFault} (elim letter [
      | true ↦ elim (nat_le (length (b ∷ run)) most_word_bytes) [ true ↦ Ok (Word at (b ∷ run)) | false ↦ Err (fault.LongText at) ]
      | false ↦ elim line [
        | true ↦ Err (fault.Byte at)
        | false ↦ elim (is_number (b ∷ run)) [ true ↦ Ok (Number at (signed_digits_value 10 (b ∷ run))) | false ↦ Err (fault.Number at) ]
      ]
    ]) (Ok tree) → IsRun at (b ∷ run) tree
run_by at b run tree true line letter all e =
    let both = passed (nat_le (length (b ∷ run)) most_word_bytes) _ _ _ e in
    subst (λ (t : Tree). IsRun at (b ∷ run) t) (same_Ok _ _ both.1) (word_is at b run letter all both.0)
run_by at b run tree false true letter all e = absurd (err-ok _ _ e)
run_by at b run tree false false letter all e =
    let both = passed (is_number (b ∷ run)) _ _ _ e in
    subst (λ (t : Tree). IsRun at (b ∷ run) t) (same_Ok _ _ both.1) (number_is at (b ∷ run) both.0)

run_is : (at : ℕ) (run : List ℕ) (tree : Tree) → list_all is_run_byte run ≡ true → run_tree at run ≡ Ok tree → IsRun at run tree
unfolding run_tree
run_is at [] tree all e = absurd (err-ok _ _ e)
run_is at (b ∷ run) tree all e = run_by at b run tree _ _ refl all e

-- what it says that a tree was found: it is spelled there, and a run is a whole one
pub record IsRead (lists at : ℕ) (bytes : List ℕ) (it : Found) : Type 0 where
  pub own : List ℕ
  pub spelling : bytes ≡ own ++ it.next.bytes
  pub place : it.next.at ≡ at + length own
  pub spells : Spells lists at own it.tree
  pub begins : is_run it.tree ≡ true → begins_run bytes ≡ true
  pub ends : is_run it.tree ≡ true → begins_run it.next.bytes ≡ false

pub run_sound : (lists at : ℕ) (bytes : List ℕ) (it : Found) → begins_run bytes ≡ true → run_at at bytes ≡ Ok it → IsRead lists at bytes it
run_sound lists at bytes it begins e =
    let run = take_while is_run_byte bytes in
    let both = both_gave (run_tree at run) (λ tree. Ok (found tree (here (at + length run) (drop (length run) bytes)))) it e in
    let one = run_is at run both.0 (longest_runs bytes) both.1 in
    subst (λ (f : Found). IsRead lists at bytes f) (same_Ok _ _ both.2) (record {
      own = run;
      spelling = longest_and_rest bytes;
      place = refl;
      spells = one.spells lists;
      begins = λ h. begins;
      ends = λ h. longest_ends bytes;
    })

-- ## Back

letter_runs : (b : ℕ) → is_letter b ≡ true → is_run_byte b ≡ true
letter_runs b e = rw e refl

-- a run whose tree is known, before what is no run
pub run_back : (at : ℕ) (run rest : List ℕ) (tree : Tree) → list_all is_run_byte run ≡ true → begins_run rest ≡ false → run_tree at run ≡ Ok tree →
    run_at at (run ++ rest) ≡ Ok (found tree (here (at + length run) rest))
run_back at run rest tree all stop e = rw (longest_is run rest all stop, e, drop_at run rest (length run) refl) refl

pub word_runs : (word : List ℕ) → is_word word ≡ true → list_all is_run_byte word ≡ true
word_runs [] e = cc
word_runs (b ∷ word) e =
    let outer = and_parts (is_letter b && list_all is_run_byte word) (nat_le (length (b ∷ word)) most_word_bytes) e in
    let inner = and_parts (is_letter b) (list_all is_run_byte word) outer.0 in
    and_from _ _ (letter_runs b inner.0) inner.1

pub word_back : (at : ℕ) (word : List ℕ) → is_word word ≡ true → run_tree at word ≡ Ok (Word at word)
unfolding run_tree
word_back at [] e = cc
word_back at (b ∷ word) e =
    let outer = and_parts (is_letter b && list_all is_run_byte word) (nat_le (length (b ∷ word)) most_word_bytes) e in
    let inner = and_parts (is_letter b) (list_all is_run_byte word) outer.0 in
    let letter : is_letter b ≡ true = inner.0 in
    let short : nat_le (length (b ∷ word)) most_word_bytes ≡ true = outer.1 in
    rw (run_tree, letter, short) refl

-- the first byte of a number
abbrev pub begins_number : ℕ → Bool
begins_number b = (b == minus) || is_digit b

no_letter : (b : ℕ) → begins_number b ≡ true → is_letter b ≡ false
no_letter b e = grind (arith, nat_tests)

no_line : (b : ℕ) → begins_number b ≡ true → (b == underscore) ≡ false
no_line b e = grind (arith, nat_tests)

number_tree : (at b : ℕ) (run : List ℕ) → begins_number b ≡ true → is_number (b ∷ run) ≡ true → run_tree at (b ∷ run) ≡ Ok (Number at (signed_digits_value 10 (b ∷ run)))
unfolding run_tree
number_tree at b run begins number = rw (run_tree, no_letter b begins, no_line b begins, number) refl

pub number_tree_back : (at : ℕ) (z : ℤ) → is_within z ≡ true → run_tree at (signed_decimal z) ≡ Ok (Number at z)
number_tree_back at z within =
    let it = number_back z within in
    ap (run_tree at) it.is ∙ (number_tree at it.first it.rest it.begins (ap is_number (sym it.is) ∙ it.number)
    ∙ ap (λ (v : ℤ). Ok (Number at v)) (ap (signed_digits_value 10) (sym it.is) ∙ it.value))
