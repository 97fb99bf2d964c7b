-- Inputs at the limits of the notation, and one beyond each.
use Rattle.std.proofs.Common.{◌≡◌, [], ◌∷◌, ◌++◌, Ok, Err, refl}
use Rattle.std.specs.Prelude.{ℕ, zero, suc, ◌+◌, codes, pos, negsuc, replicate}
use Rattle.spec_script.specs.Trees.{Tree, Word, Number, Text, Branch, Nil, And}
use Rattle.spec_script.specs.Faults as fault
use Rattle.spec_script.specs.Faults.{TreeFault}
use Rattle.spec_script.specs.Refusals.{TooLong, input_tree}
use Rattle.test_commands.specs.Read.{tree}

-- so many lists in one another, with nothing in them, the outermost at `at`
nested : (lists at : ℕ) → Tree
nested zero at = Branch at Nil
nested (suc lists) at = Branch at (And (nested lists (at + 1)) Nil)

greatest_number : tree (codes "9223372036854775807") ≡ Ok (Number 0 (pos 9223372036854775807))
unfolding tree
greatest_number = refl

above_the_greatest_number : tree (codes "9223372036854775808") ≡ Err (fault.Number 0)
unfolding tree
above_the_greatest_number = refl

-- `negsuc n` is -(n + 1)
least_number : tree (codes "-9223372036854775808") ≡ Ok (Number 0 (negsuc 9223372036854775807))
unfolding tree
least_number = refl

below_the_least_number : tree (codes "-9223372036854775809") ≡ Err (fault.Number 0)
unfolding tree
below_the_least_number = refl

many_digits : tree (replicate 100 57) ≡ Err (fault.Number 0)
unfolding tree
many_digits = refl

zero_alone : tree (codes "0") ≡ Ok (Number 0 (pos 0))
unfolding tree
zero_alone = refl

minus_one : tree (codes "-1") ≡ Ok (Number 0 (negsuc 0))
unfolding tree
minus_one = refl

longest_word : tree (codes " " ++ replicate 32 97) ≡ Ok (Word 1 (replicate 32 97))
unfolding tree
longest_word = refl

a_word_too_long : tree (codes " " ++ replicate 33 97) ≡ Err (fault.LongText 1)
unfolding tree
a_word_too_long = refl

a_word_of_a_letter_and_marks_too_long : tree (97 ∷ replicate 32 95) ≡ Err (fault.LongText 0)
unfolding tree
a_word_of_a_letter_and_marks_too_long = refl

longest_text : tree (codes "\"" ++ replicate 1024 97 ++ codes "\"") ≡ Ok (Text 0 (replicate 1024 97))
unfolding tree
longest_text = refl

a_text_too_long : tree (codes "(\"" ++ replicate 1025 97 ++ codes "\")") ≡ Err (fault.LongText 1)
unfolding tree
a_text_too_long = refl

-- the first item too many is refused as soon as it is read
too_long_and_then_the_end : tree (codes "\"" ++ replicate 1025 97) ≡ Err (fault.LongText 0)
unfolding tree
too_long_and_then_the_end = refl

long_and_then_the_end : tree (codes "\"" ++ replicate 1024 97) ≡ Err (fault.Unclosed 0)
unfolding tree
long_and_then_the_end = refl

long_and_then_a_bad_byte : tree (codes "\"" ++ replicate 1024 97 ++ 10 ∷ []) ≡ Err (fault.Byte 1025)
unfolding tree
long_and_then_a_bad_byte = refl

long_and_then_half_an_escape : tree (codes "\"" ++ replicate 1024 97 ++ codes "\\") ≡ Err (fault.Unclosed 0)
unfolding tree
long_and_then_half_an_escape = refl

long_and_then_an_escape : tree (codes "\"" ++ replicate 1024 97 ++ codes "\\n") ≡ Err (fault.LongText 0)
unfolding tree
long_and_then_an_escape = refl

most_open_lists : tree (replicate 64 40) ≡ Err (fault.Unclosed 63)
unfolding tree
most_open_lists = refl

most_lists : tree (replicate 64 40 ++ replicate 64 41) ≡ Ok (nested 63 0)
unfolding nested tree
most_lists = refl

a_list_too_deep : tree (replicate 65 40) ≡ Err (fault.Deep 64)
unfolding tree
a_list_too_deep = refl

a_list_too_deep_and_closed : tree (replicate 65 40 ++ replicate 65 41) ≡ Err (fault.Deep 64)
unfolding tree
a_list_too_deep_and_closed = refl

-- closed lists don't count: 64 are open twice
many_lists_side_by_side : tree (codes "(" ++ replicate 63 40 ++ replicate 63 41 ++ codes " (" ++ replicate 62 40 ++ replicate 63 41) ≡ Err (fault.Unclosed 0)
unfolding tree
many_lists_side_by_side = refl

an_input_too_long : input_tree (replicate 262145 32) ≡ Err TooLong
unfolding input_tree tree
an_input_too_long = refl
