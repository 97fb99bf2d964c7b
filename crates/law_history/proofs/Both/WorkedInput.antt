-- An input whose script both commands run, so that the premises of the laws can be met. It has a stream and a job.
use Rattle.std.proofs.Common.{◌≡◌, ℕ, List, Result, Ok, Err, refl, sym, ap}
use Rattle.std.specs.Prelude.{codes}
use Rattle.spec_script.specs.Limits.{limits_of}
use Rattle.spec_script.specs.Reading.{past_gap, text_items, run_tree, trees_by, tree_at, reading}
use Rattle.spec_script.specs.Refusals.{Refusal, input_tree}
use Rattle.spec_script.specs.Scopes.{bring, used, directory_of}
use Rattle.spec_script.specs.Forms.{form_of}
use Rattle.spec_script.specs.Expressions.{item, traced}
use Rattle.spec_script.specs.Captures.{captured_behind}
use Rattle.spec_script.specs.Statements.{statements}
use Rattle.spec_script.specs.Declarations.{workers, declaration, declarations_behind}
use Rattle.spec_script.specs.Scripts.{Script, domains, script_of}
use Rattle.spec_script.specs.Features.{all_built}
use Rattle.spec_script.specs.Inputs.{input_script, mocked_script, shared_script}

abbrev input : List ℕ
input = codes "(eio 1 (stream s 1) (executor e 0) (main (add s 1) (submit e 10 () (trace 2)) (trace 3)))"

-- both are one script
abbrev AreOne : Result Script Refusal → Result Script Refusal → Type 0
AreOne (Ok a) (Ok b) = a ≡ b
AreOne a b = ⊥

the_one : (a b : Result Script Refusal) → AreOne a b → (script : Script) × (a ≡ Ok script) × (b ≡ Ok script)
the_one (Ok a) (Ok b) e = (a, refl, ap Ok (sym e))
the_one (Ok a) (Err f) e = absurd e
the_one (Err f) b e = absurd e

both_run : AreOne (mocked_script all_built input) (shared_script all_built input)
unfolding past_gap text_items run_tree trees_by tree_at reading input_tree bring used directory_of form_of item traced captured_behind statements workers declaration declarations_behind limits_of domains script_of input_script mocked_script shared_script
both_run = refl

pub worked_input : (script : Script) × (mocked_script all_built input ≡ Ok script) × (shared_script all_built input ≡ Ok script)
worked_input = the_one (mocked_script all_built input) (shared_script all_built input) both_run
