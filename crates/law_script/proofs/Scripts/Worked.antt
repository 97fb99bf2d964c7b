-- A worked script, so that the premises of the laws can be met: `(eio 1 (main (yield)))`.
use Rattle.std.proofs.Common.{◌≡◌, ℕ, ◌≤◌, false, List, [], ◌∷◌, length, codes, pos, None, Ok, refl, sym, subst, arith}
use Rattle.std.specs.Fmt.{digits}
use Rattle.spec_script.specs.Canonical.{canonical, document}
use Rattle.spec_script.specs.Captures.{captured_behind}
use Rattle.spec_script.specs.Declarations.{workers, declaration, declarations_behind}
use Rattle.spec_script.specs.declared.Feature.TheVariants as feature
use Rattle.spec_script.specs.Entries.{entries}
use Rattle.spec_script.specs.Expressions.{item, traced}
use Rattle.spec_script.specs.Features.{Built}
use Rattle.spec_script.specs.FlowSteps.{steps}
use Rattle.spec_script.specs.Forms.{form_of}
use Rattle.spec_script.specs.Generator.{generated}
use Rattle.spec_script.specs.Inputs.{input_script, mocked_script, shared_script, printed}
use Rattle.spec_script.specs.Limits.{limits_of, most_input_bytes}
use Rattle.spec_script.specs.Reading.{past_gap, text_items, run_tree, trees_by, tree_at, reading}
use Rattle.spec_script.specs.Refusals.{input_tree}
use Rattle.spec_script.specs.Scopes.{bring, used, directory_of}
use Rattle.spec_script.specs.Scripts.{Script, domains, script_of}
use Rattle.spec_script.specs.Statements.{statements}
use Rattle.spec_script.specs.Syntax.{Yield, Begins, Done, Then}
use Rattle.spec_script.specs.Trees.{Tree, Word, Number, Branch, Nil, And}
use Rattle.law_script.specs.Trees.Places.{bare}
use Rattle.law_script.specs.Scripts.Generated.{IsScript}
use Rattle.law_script.specs.Scripts.Meanings.{ReadAlike}
use Rattle.law_script.specs.Scripts.Numbers.{HasFittingNumbers}
use Rattle.law_script.specs.Scripts.Printing.{StandsFor, IsKept}
use Rattle.law_script.specs.Scripts.Sharing.{IsShared}
use Rattle.law_script.specs.Scripts.Soundness.{IsSound}
use Rattle.law_script.proofs.Scripts.BareScripts.{places_dont_count}
use Rattle.law_script.proofs.Scripts.Commands.{mocked_is_sound, domains_are_shared}
use Rattle.law_script.proofs.Scripts.Generated.{generated_is_read}
use Rattle.law_script.proofs.Scripts.Printing.{print_is_kept, print_stands}
use Rattle.law_script.proofs.Scripts.Scripts.{input_is_sound, script_is_sound}
use Rattle.law_script.proofs.Scripts.SharedScripts.{shared_scripts}

abbrev bytes : List ℕ
bytes = codes "(eio 1 (main (yield)))"

-- its tree, with `main` at this place
abbrev tree_with : (main : ℕ) → Tree
tree_with main =
    Branch 0 (And (Word 1 (codes "eio")) (And (Number 5 (pos 1))
    (And (Branch main (And (Word 8 (codes "main")) (And (Branch 13 (And (Word 14 (codes "yield")) Nil)) Nil))) Nil)))

abbrev tree : Tree
tree = tree_with 7

abbrev script : Script
script = record {
  version = 1;
  names = [];
  declarations = [];
  bodies = Begins 0 (Then Yield Done) ∷ [];
  texts = [];
  failures = [];
  formed = record { at = 13; feature = feature.FirstForms; mocked = false } ∷ [];
  first_domain = None;
}

it_stands_for_it : script_of tree ≡ Ok script
unfolding bring used directory_of form_of item traced captured_behind statements steps entries workers declaration declarations_behind limits_of domains script_of
it_stands_for_it = refl

it_is_an_input : input_script bytes ≡ Ok script
unfolding past_gap text_items run_tree trees_by tree_at reading input_tree bring used directory_of form_of item traced captured_behind statements steps entries workers declaration declarations_behind limits_of domains script_of input_script
it_is_an_input = refl

-- ## Soundness

its_numbers_fit : HasFittingNumbers tree
unfolding HasFittingNumbers
its_numbers_fit = (tt, (refl, ((tt, ((tt, tt), tt)), tt)))

it_is_sound : IsSound script
it_is_sound = script_is_sound tree its_numbers_fit script it_stands_for_it

so_is_the_input : IsSound script
so_is_the_input = input_is_sound bytes script it_is_an_input

it_is_shared : IsShared script
it_is_shared = shared_scripts tree script it_stands_for_it refl

-- ## Commands

-- the one form that it has is built
abbrev built : Built
built = feature.FirstForms ∷ []

mock_runs_it : mocked_script built bytes ≡ Ok script
unfolding past_gap text_items run_tree trees_by tree_at reading input_tree bring used directory_of form_of item traced captured_behind statements steps entries workers declaration declarations_behind limits_of domains script_of input_script mocked_script
mock_runs_it = refl

what_mock_runs : IsSound script × (length script.bodies ≡ 1)
what_mock_runs = mocked_is_sound built bytes script mock_runs_it

domains_run_it : shared_script built bytes ≡ Ok script
unfolding past_gap text_items run_tree trees_by tree_at reading input_tree bring used directory_of form_of item traced captured_behind statements steps entries workers declaration declarations_behind limits_of domains script_of input_script shared_script
domains_run_it = refl

what_domains_run : IsSound script × IsShared script
what_domains_run = domains_are_shared built bytes script domains_run_it

-- ## Places and spellings

elsewhere : ReadAlike (script_of (tree_with 70)) (script_of tree)
unfolding bare
elsewhere = places_dont_count (tree_with 70) tree refl

what_is_printed_stands_for_it : StandsFor (printed bytes).text script
what_is_printed_stands_for_it = print_stands bytes script it_is_an_input

what_is_printed : (printed bytes).text ≡ codes "(eio 1 (main (yield)))\n"
unfolding digits past_gap text_items run_tree trees_by tree_at reading input_tree bring used directory_of form_of item traced captured_behind statements steps entries workers declaration declarations_behind limits_of domains script_of canonical document printed
what_is_printed = refl

it_is_short : length (printed bytes).text ≤ most_input_bytes
it_is_short = subst (λ text. length text ≤ most_input_bytes) (sym what_is_printed) (omega arith)

what_is_printed_is_kept : IsKept (printed bytes).text script
what_is_printed_is_kept = print_is_kept bytes script it_is_an_input it_is_short

two_forks : IsScript (generated 2)
two_forks = generated_is_read 2
