-- Inputs that commands refuse, words without a meaning, and inputs that are only spelled strangely.
use Rattle.std.proofs.Common.{◌≡◌, ℕ, List, [], ◌∷◌, ◌++◌, refl}
use Rattle.std.specs.Prelude.{codes, replicate}
use Rattle.test_commands.specs.Run.{Shown, answer, mocks, ok, refused, usage}

-- ## Refused

an_unknown_form : mocks "(eio 1 (main (frace \"x\")))" ≡ refused "!Refused Shape at 13\n"
unfolding mocks
an_unknown_form = refl

an_unknown_name : mocks "(eio 1 (main (take s)))" ≡ refused "!Refused Name at 19\n"
unfolding mocks
an_unknown_name = refl

an_open_text : mocks "(eio 1 (main (trace \"ab" ≡ refused "!Refused Unclosed at 20\n"
unfolding mocks
an_open_text = refl

no_bytes : mocks "" ≡ refused "!Refused Unclosed at 0\n"
unfolding mocks
no_bytes = refl

bytes_behind_the_script : mocks "(eio 1 (main)) x" ≡ refused "!Refused Stray at 15\n"
unfolding mocks
bytes_behind_the_script = refl

a_domain : mocks "(eio 1 (main) (domain))" ≡ refused "!Refused DomainOnly at 14\n"
unfolding mocks
a_domain = refl

cut_within_a_number : mocks "(eio 1 (main (trace \"a\\tb\" -" ≡ refused "!Refused Number at 27\n"
unfolding mocks
cut_within_a_number = refl

cut_within_an_escape : mocks "(eio 1 (main (trace \"a\\" ≡ refused "!Refused Unclosed at 20\n"
unfolding mocks
cut_within_an_escape = refl

cut_behind_a_text : mocks "(eio 1 (main (trace \"a\\tb\" " ≡ refused "!Refused Unclosed at 13\n"
unfolding mocks
cut_behind_a_text = refl

mocks_bytes : List ℕ → Shown
mocks_bytes bytes = answer (codes "mock" ∷ []) bytes

as_many_open_lists_as_may_be : mocks_bytes (replicate 64 40) ≡ refused "!Refused Unclosed at 63\n"
unfolding mocks_bytes answer
as_many_open_lists_as_may_be = refl

a_list_too_deep : mocks_bytes (replicate 65 40) ≡ refused "!Refused Deep at 64\n"
unfolding mocks_bytes answer
a_list_too_deep = refl

lists_alone : mocks_bytes (replicate 64 40 ++ replicate 64 41) ≡ refused "!Refused Shape at 0\n"
unfolding mocks_bytes answer
lists_alone = refl

as_many_blanks_as_may_be : mocks_bytes (replicate 262144 32) ≡ refused "!Refused Unclosed at 262144\n"
unfolding mocks_bytes answer
as_many_blanks_as_may_be = refl

-- the size is asked first
blanks_too_many : mocks_bytes (replicate 262145 32) ≡ refused "!Refused Size at 262144\n"
unfolding mocks_bytes answer
blanks_too_many = refl

many_blanks_too_many : mocks_bytes (replicate 300000 32) ≡ refused "!Refused Size at 262144\n"
unfolding mocks_bytes answer
many_blanks_too_many = refl

-- ## Not refused

a_gap_before_the_head : mocks "( eio 1 (main))" ≡ ok ""
unfolding mocks
a_gap_before_the_head = refl

a_comment_and_gaps : mocks "; a script\n\t(eio\r\n1(main(trace\"a\"-5)))\n; its end" ≡ ok "+a-5\n"
unfolding mocks
a_comment_and_gaps = refl

-- ## `check` and `print`

checked : answer (codes "check" ∷ []) (codes "( eio 1;c\n (main(trace \"a\\tb\" -5 )))") ≡ ok "ok\n"
unfolding answer
checked = refl

printed : answer (codes "print" ∷ []) (codes "( eio 1;c\n (main(trace \"a\\tb\" -5 )))") ≡ ok "(eio 1 (main (trace \"a\\tb\" -5)))\n"
unfolding answer
printed = refl

check_refuses : answer (codes "check" ∷ []) (codes "(eio 1 (main (frace \"x\")))") ≡ refused "!Refused Shape at 13\n"
unfolding answer
check_refuses = refl

-- ## Words without a meaning

on_an_empty_main : List (List ℕ) → Shown
on_an_empty_main words = answer words (codes "(eio 1 (main))")

no_words : on_an_empty_main [] ≡ usage
unfolding on_an_empty_main answer
no_words = refl

no_steps : on_an_empty_main (codes "mock" ∷ codes "--steps" ∷ codes "0" ∷ []) ≡ usage
unfolding on_an_empty_main answer
no_steps = refl

steps_with_a_leading_zero : on_an_empty_main (codes "mock" ∷ codes "--steps" ∷ codes "01" ∷ []) ≡ usage
unfolding on_an_empty_main answer
steps_with_a_leading_zero = refl

no_number_of_forks : on_an_empty_main (codes "load" ∷ []) ≡ usage
unfolding on_an_empty_main answer
no_number_of_forks = refl

forks_too_many : on_an_empty_main (codes "load" ∷ codes "1001" ∷ []) ≡ usage
unfolding on_an_empty_main answer
forks_too_many = refl

two_dashes : on_an_empty_main (codes "mock" ∷ codes "--" ∷ codes "x" ∷ []) ≡ usage
unfolding on_an_empty_main answer
two_dashes = refl

steps_in_one_word : on_an_empty_main (codes "mock" ∷ codes "--steps=1" ∷ []) ≡ ok ""
unfolding on_an_empty_main answer
steps_in_one_word = refl
