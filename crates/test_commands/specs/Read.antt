-- What an input is as a tree and as a script, in the words in which rows ask for it. Each opens the definitions by which it is computed.
use Rattle.std.specs.Prelude.{ℕ, List, [], Option, Some, None, Result, Ok, Err}
use Rattle.std.specs.Fmt.{digits}
use Rattle.spec_script.specs.Limits.{limits_of}
use Rattle.spec_script.specs.Reading.{past_gap, text_items, run_tree, trees_by, tree_at, reading}
use Rattle.spec_script.specs.Canonical.{canonical, document}
use Rattle.spec_script.specs.Trees.{Tree}
use Rattle.spec_script.specs.Faults.{TreeFault, ScriptFault}
use Rattle.spec_script.specs.Refusals.{Refusal, NoScript, refusal_line, input_tree}
use Rattle.spec_script.specs.Syntax.{Block}
use Rattle.spec_script.specs.Scopes.{bring, used, directory_of}
use Rattle.spec_script.specs.Forms.{form_of}
use Rattle.spec_script.specs.Expressions.{item, traced}
use Rattle.spec_script.specs.Captures.{captured_behind}
use Rattle.spec_script.specs.Statements.{statements}
use Rattle.spec_script.specs.FlowSteps.{steps}
use Rattle.spec_script.specs.Entries.{entries}
use Rattle.spec_script.specs.Declarations.{workers, declaration, declarations_behind, Declaration}
use Rattle.spec_script.specs.Scripts.{Script, domains, script_of}
use Rattle.spec_script.specs.Opening.{opening_texts}
use Rattle.spec_script.specs.RefusedForms.{mock_only, domain_only, unbuilt}
use Rattle.spec_script.specs.Features.{Built}
use Rattle.spec_script.specs.Inputs as inputs
use Rattle.spec_script.specs.Inputs.{Checked, input_script, mocked_script, shared_script}

unfoldable pub tree : List ℕ → Result Tree TreeFault
unfolding past_gap text_items run_tree trees_by tree_at reading
tree bytes = reading bytes

-- its canonical spelling; nothing where it spells no tree
unfoldable pub respelled : List ℕ → List ℕ
unfolding tree canonical document digits
respelled bytes = elim (tree bytes) [ Ok it ↦ document it | Err e ↦ [] ]

unfoldable pub script : List ℕ → Result Script Refusal
unfolding tree input_tree bring used directory_of form_of item traced captured_behind statements steps entries workers declaration declarations_behind limits_of domains script_of input_script
script bytes = input_script bytes

-- what is so of the script, where there is one
unfoldable pub of_script : {A : Type 0} → (Script → Option A) → List ℕ → Option A
unfolding script
of_script ask bytes = elim (script bytes) [ Ok it ↦ ask it | Err e ↦ None ]

abbrev pub script_fault : Refusal → Option ScriptFault
script_fault (NoScript e) = Some e
script_fault refusal = None

-- the fault of a tree that is no script
unfoldable pub fault : List ℕ → Option ScriptFault
unfolding script
fault bytes = elim (script bytes) [ Ok it ↦ None | Err e ↦ script_fault e ]

unfoldable pub first_mock_only : List ℕ → Option ℕ
unfolding of_script
first_mock_only = of_script mock_only

unfoldable pub first_domain : List ℕ → Option ℕ
unfolding of_script
first_domain = of_script domain_only

unfoldable pub first_unbuilt : Built → List ℕ → Option ℕ
unfolding of_script
first_unbuilt built = of_script (unbuilt built)

unfoldable pub bodies : List ℕ → Option (List Block)
unfolding of_script
bodies = of_script (λ it. Some it.bodies)

unfoldable pub declarations : List ℕ → Option (List Declaration)
unfolding of_script
declarations = of_script (λ it. Some it.declarations)

-- the texts of a script in reading order, without those that are bound
unfoldable pub own_texts : List ℕ → Option (List (List ℕ))
unfolding of_script
own_texts = of_script (λ it. Some it.texts)

-- the table with which it starts
unfoldable pub opening : List ℕ → Option (List (List ℕ))
unfolding of_script opening_texts
opening = of_script (λ it. Some (opening_texts it))

unfoldable pub checked : List ℕ → Checked
unfolding script inputs.checked refusal_line digits
checked bytes = inputs.checked bytes

unfoldable pub printed : List ℕ → Checked
unfolding script inputs.printed canonical document refusal_line digits
printed bytes = inputs.printed bytes

abbrev pub refusal_by : Result Script Refusal → List ℕ
refusal_by (Ok it) = []
refusal_by (Err e) = refusal_line e

-- the line by which `mock` or `domains` refuses an input, with this built; none where it runs it
unfoldable pub mock_refusal : Built → List ℕ → List ℕ
unfolding script mocked_script refusal_line digits
mock_refusal built bytes = refusal_by (mocked_script built bytes)

unfoldable pub domains_refusal : Built → List ℕ → List ℕ
unfolding script shared_script refusal_line digits
domains_refusal built bytes = refusal_by (shared_script built bytes)
