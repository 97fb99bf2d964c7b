-- What `check` and `print` write and the lines by which `mock` and `domains` refuse.
use Rattle.std.proofs.Common.{◌≡◌, List, [], ◌∷◌, true, false, refl}
use Rattle.std.specs.Prelude.{ℕ, codes}
use Rattle.spec_script.specs.declared.Feature.TheVariants.{FirstForms}
use Rattle.spec_script.specs.Features.{all_built}
use Rattle.spec_script.specs.Inputs.{Checked}
use Rattle.test_commands.specs.Read.{checked, printed, mock_refusal, domains_refusal}

abbrev written : List ℕ → Checked
written text = record { text = text; is_refused = false }

abbrev refused : List ℕ → Checked
refused text = record { text = text; is_refused = true }

a_script : checked (codes "(eio 1 (main))") ≡ written (codes "ok\n")
unfolding checked
a_script = refl

an_unknown_form : checked (codes "(eio 1 (main (frace \"x\")))") ≡ refused (codes "!Refused Shape at 13\n")
unfolding checked
an_unknown_form = refl

an_unknown_name : checked (codes "(eio 1 (main (take s)))") ≡ refused (codes "!Refused Name at 19\n")
unfolding checked
an_unknown_name = refl

an_open_text : checked (codes "(eio 1 (main (trace \"ab") ≡ refused (codes "!Refused Unclosed at 20\n")
unfolding checked
an_open_text = refl

no_bytes : checked [] ≡ refused (codes "!Refused Unclosed at 0\n")
unfolding checked
no_bytes = refl

a_tree_behind : checked (codes "(eio 1 (main)) x") ≡ refused (codes "!Refused Stray at 15\n")
unfolding checked
a_tree_behind = refl

a_number_too_great : checked (codes "(eio 1 (stream s 1025) (main))") ≡ refused (codes "!Refused Size at 17\n")
unfolding checked
a_number_too_great = refl

a_name_twice : checked (codes "(eio 1 (mutex s) (mutex s) (main))") ≡ refused (codes "!Refused Twice at 24\n")
unfolding checked
a_name_twice = refl

a_tree_comes_before_a_script : checked (codes "(eio 2 (main (foo)) 01)") ≡ refused (codes "!Refused Number at 20\n")
unfolding checked
a_tree_comes_before_a_script = refl

gaps_and_a_comment : checked (codes "( eio 1;c\n (main(trace \"a\\tb\" -5 )))") ≡ written (codes "ok\n")
unfolding checked
gaps_and_a_comment = refl

gaps_and_a_comment_printed : printed (codes "( eio 1;c\n (main(trace \"a\\tb\" -5 )))") ≡ written (codes "(eio 1 (main (trace \"a\\tb\" -5)))\n")
unfolding printed
gaps_and_a_comment_printed = refl

canonical_already : printed (codes "(eio 1 (main (yield)) (domain))\n") ≡ written (codes "(eio 1 (main (yield)) (domain))\n")
unfolding printed
canonical_already = refl

no_script_printed : printed (codes "(eio 1 (domain))") ≡ refused (codes "!Refused Shape at 0\n")
unfolding printed
no_script_printed = refl

no_tree_printed : printed (codes "(eio 1 (main") ≡ refused (codes "!Refused Unclosed at 7\n")
unfolding printed
no_tree_printed = refl

-- both accept forms for the mocked domain alone, and further bodies
mocked_forms_checked : checked (codes "(eio 1 (flow f) (main (sleep 1)) (domain))") ≡ written (codes "ok\n")
unfolding checked
mocked_forms_checked = refl

mocked_forms_printed : printed (codes "(eio 1 (flow f)(main(sleep 1))(domain))") ≡ written (codes "(eio 1 (flow f) (main (sleep 1)) (domain))\n")
unfolding printed
mocked_forms_printed = refl

-- the commands that run a script
sleep_of_several : domains_refusal all_built (codes "(eio 1 (main (sleep 1)))") ≡ codes "!Refused MockOnly at 13\n"
unfolding domains_refusal
sleep_of_several = refl

sleep_of_one : mock_refusal all_built (codes "(eio 1 (main (sleep 1)))") ≡ []
unfolding mock_refusal
sleep_of_one = refl

a_domain_of_one : mock_refusal all_built (codes "(eio 1 (main) (domain))") ≡ codes "!Refused DomainOnly at 14\n"
unfolding mock_refusal
a_domain_of_one = refl

a_domain_of_several : domains_refusal all_built (codes "(eio 1 (main) (domain))") ≡ []
unfolding domains_refusal
a_domain_of_several = refl

-- whether it is a script is asked first
no_script_to_run : domains_refusal all_built (codes "(eio 1 (main (sleep 1) (foo)))") ≡ codes "!Refused Shape at 23\n"
unfolding domains_refusal
no_script_to_run = refl

no_tree_to_run : mock_refusal all_built (codes "(eio 1 (main) (domain)") ≡ codes "!Refused Unclosed at 0\n"
unfolding mock_refusal
no_tree_to_run = refl

-- a further body comes before what isn't built
a_domain_and_an_unbuilt_form : mock_refusal (FirstForms ∷ []) (codes "(eio 1 (main (let x 1)) (domain))") ≡ codes "!Refused DomainOnly at 24\n"
unfolding mock_refusal
a_domain_and_an_unbuilt_form = refl

an_unbuilt_form : mock_refusal (FirstForms ∷ []) (codes "(eio 1 (main (trace \"a\") (let x 1)))") ≡ codes "!Refused Unbuilt at 25\n"
unfolding mock_refusal
an_unbuilt_form = refl

a_mocked_and_an_unbuilt_form : domains_refusal (FirstForms ∷ []) (codes "(eio 1 (main (let x (now))))") ≡ codes "!Refused MockOnly at 20\n"
unfolding domains_refusal
a_mocked_and_an_unbuilt_form = refl

an_unbuilt_form_of_several : domains_refusal (FirstForms ∷ []) (codes "(eio 1 (main (let x 1)) (domain))") ≡ codes "!Refused Unbuilt at 13\n"
unfolding domains_refusal
an_unbuilt_form_of_several = refl
