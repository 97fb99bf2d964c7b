-- Inputs that spell no tree, each with its fault and the fault's place.
use Rattle.std.proofs.Common.{◌≡◌, Err, [], ◌∷◌, ◌++◌, refl}
use Rattle.std.specs.Prelude.{codes}
use Rattle.spec_script.specs.Faults as fault
use Rattle.test_commands.specs.Read.{tree}

-- a byte that begins nothing
a_strange_byte : tree (codes "(a !)") ≡ Err (fault.Byte 3)
unfolding tree
a_strange_byte = refl

a_capital : tree (codes "(A)") ≡ Err (fault.Byte 1)
unfolding tree
a_capital = refl

a_backslash_outside_texts : tree (codes "(\\n)") ≡ Err (fault.Byte 1)
unfolding tree
a_backslash_outside_texts = refl

a_run_that_begins_with_underscore : tree (codes "(a _b)") ≡ Err (fault.Byte 3)
unfolding tree
a_run_that_begins_with_underscore = refl

-- in a text a tab, an LF or a byte above `~` has to be escaped or can't stand
a_tab_in_a_text : tree (codes "(a \"b\tc\")") ≡ Err (fault.Byte 5)
unfolding tree
a_tab_in_a_text = refl

a_line_feed_in_a_text : tree (codes "\"a\n\"") ≡ Err (fault.Byte 2)
unfolding tree
a_line_feed_in_a_text = refl

-- the place is that of the byte behind the backslash
an_unknown_escape : tree (codes "\"ab\\qc\"") ≡ Err (fault.Byte 4)
unfolding tree
an_unknown_escape = refl

a_leading_zero : tree (codes "(a 01)") ≡ Err (fault.Number 3)
unfolding tree
a_leading_zero = refl

minus_zero : tree (codes "-0") ≡ Err (fault.Number 0)
unfolding tree
minus_zero = refl

minus_leading_zero : tree (codes "-01") ≡ Err (fault.Number 0)
unfolding tree
minus_leading_zero = refl

a_lone_minus : tree (codes "(- 1)") ≡ Err (fault.Number 1)
unfolding tree
a_lone_minus = refl

letters_behind_digits : tree (codes "(a 1b)") ≡ Err (fault.Number 3)
unfolding tree
letters_behind_digits = refl

a_minus_behind_digits : tree (codes "1-1") ≡ Err (fault.Number 0)
unfolding tree
a_minus_behind_digits = refl

two_minuses : tree (codes "--1") ≡ Err (fault.Number 0)
unfolding tree
two_minuses = refl

a_paren_that_closes_nothing : tree (codes " )") ≡ Err (fault.Stray 1)
unfolding tree
a_paren_that_closes_nothing = refl

-- behind the whole tree any byte but gap is stray, whatever it would begin
a_second_tree : tree (codes "(eio 1 (main)) x") ≡ Err (fault.Stray 15)
unfolding tree
a_second_tree = refl

a_capital_behind : tree (codes "(eio 1 (main))A") ≡ Err (fault.Stray 14)
unfolding tree
a_capital_behind = refl

a_bad_run_behind : tree (codes "(eio 1 (main)) _a") ≡ Err (fault.Stray 15)
unfolding tree
a_bad_run_behind = refl

a_bad_number_behind : tree (codes "(eio 1 (main)) 01") ≡ Err (fault.Stray 15)
unfolding tree
a_bad_number_behind = refl

an_open_text_behind : tree (codes "(eio 1 (main)) \"ab") ≡ Err (fault.Stray 15)
unfolding tree
an_open_text_behind = refl

a_second_paren : tree (codes "(a))") ≡ Err (fault.Stray 3)
unfolding tree
a_second_paren = refl

a_text_behind_a_word : tree (codes "a\"b\"") ≡ Err (fault.Stray 1)
unfolding tree
a_text_behind_a_word = refl

-- the input's length where no tree was begun
no_bytes : tree ([]) ≡ Err (fault.Unclosed 0)
unfolding tree
no_bytes = refl

gap_alone : tree (codes " ;c\n ") ≡ Err (fault.Unclosed 5)
unfolding tree
gap_alone = refl

an_open_list : tree (codes "(a (b) c") ≡ Err (fault.Unclosed 0)
unfolding tree
an_open_list = refl

the_last_open_list : tree (codes "(a (b c") ≡ Err (fault.Unclosed 3)
unfolding tree
the_last_open_list = refl

a_list_open_in_a_comment : tree (codes "(a ;)") ≡ Err (fault.Unclosed 0)
unfolding tree
a_list_open_in_a_comment = refl

an_open_text : tree (codes "(eio 1 (main (trace \"ab") ≡ Err (fault.Unclosed 20)
unfolding tree
an_open_text = refl

an_open_escape : tree (codes "(a \"b\\") ≡ Err (fault.Unclosed 3)
unfolding tree
an_open_escape = refl

-- the first token that is refused decides
the_first_of_two_faults : tree (codes "(a _ 01)") ≡ Err (fault.Byte 3)
unfolding tree
the_first_of_two_faults = refl

a_number_before_an_open_list : tree (codes "(a 01") ≡ Err (fault.Number 3)
unfolding tree
a_number_before_an_open_list = refl

a_byte_above_ascii : tree (codes "(a " ++ 195 ∷ codes ")") ≡ Err (fault.Byte 3)
unfolding tree
a_byte_above_ascii = refl

a_zero_byte : tree (codes "a" ++ 0 ∷ []) ≡ Err (fault.Stray 1)
unfolding tree
a_zero_byte = refl

a_delete_byte_in_a_text : tree (codes "\"" ++ 127 ∷ codes "\"") ≡ Err (fault.Byte 1)
unfolding tree
a_delete_byte_in_a_text = refl
