-- A worked script, so that the premises of the laws can be met: `(eio 1 (main (check)))`.
use Rattle.std.proofs.Common.{◌≡◌, ℕ, false, List, [], ◌∷◌, codes, pos, None, Ok, refl}
use Rattle.spec_script.specs.Captures.{captured_behind}
use Rattle.spec_script.specs.Declarations.{workers, declaration, declarations_behind}
use Rattle.spec_script.specs.declared.Feature.TheVariants as feature
use Rattle.spec_script.specs.Entries.{entries}
use Rattle.spec_script.specs.Expressions.{item, traced}
use Rattle.spec_script.specs.FlowSteps.{steps}
use Rattle.spec_script.specs.Forms.{form_of}
use Rattle.spec_script.specs.Limits.{limits_of}
use Rattle.spec_script.specs.Inputs.{input_script, mocked_script}
use Rattle.spec_script.specs.Reading.{past_gap, text_items, run_tree, trees_by, tree_at, reading}
use Rattle.spec_script.specs.Refusals.{input_tree}
use Rattle.spec_script.specs.Scopes.{bring, used, directory_of}
use Rattle.spec_script.specs.Scripts.{Script, domains, script_of}
use Rattle.spec_script.specs.Statements.{statements}
use Rattle.spec_script.specs.Syntax.{Check, Begins, Done, Then}
use Rattle.spec_script.specs.Trees.{Tree, Word, Number, Branch, Nil, And}
use Rattle.law_domain.specs.Forms.FeatureForms.{HasFormsOf}
use Rattle.law_domain.specs.Forms.Laws.{with_groups, HasBuiltFormsAlone}
use Rattle.law_domain.proofs.Forms.FeatureScripts.{built_features}
use Rattle.law_domain.proofs.Forms.GroupForms.{mocked_features, group_forms, mocked_group_forms}

abbrev bytes : List ℕ
bytes = codes "(eio 1 (main (check)))"

abbrev tree : Tree
tree =
    Branch 0 (And (Word 1 (codes "eio")) (And (Number 5 (pos 1))
    (And (Branch 7 (And (Word 8 (codes "main")) (And (Branch 13 (And (Word 14 (codes "check")) Nil)) Nil))) Nil)))

abbrev script : Script
script = record {
  version = 1;
  names = [];
  declarations = [];
  bodies = Begins 0 (Then Check Done) ∷ [];
  texts = [];
  failures = [];
  formed = record { at = 13; feature = feature.Exceptions; mocked = false } ∷ [];
  first_domain = None;
}

it_stands_for_it : script_of tree ≡ Ok script
unfolding bring used directory_of form_of item traced captured_behind statements steps entries workers declaration declarations_behind limits_of domains script_of
it_stands_for_it = refl

mock_runs_it : mocked_script with_groups bytes ≡ Ok script
unfolding past_gap text_items run_tree trees_by tree_at reading input_tree bring used directory_of form_of item traced captured_behind statements steps entries workers declaration declarations_behind limits_of domains script_of input_script mocked_script
mock_runs_it = refl

-- ## Any list

its_features_are_built : HasFormsOf with_groups script
its_features_are_built = built_features with_groups tree script it_stands_for_it refl

what_mock_runs_is_built : HasFormsOf with_groups script
what_mock_runs_is_built = mocked_features with_groups bytes script mock_runs_it

-- ## What is built today

its_forms : HasBuiltFormsAlone script
its_forms = group_forms tree script it_stands_for_it refl

the_forms_that_mock_runs : HasBuiltFormsAlone script
the_forms_that_mock_runs = mocked_group_forms bytes script mock_runs_it
