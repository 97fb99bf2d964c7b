-- The script of an input that `mock` runs, or why it is refused.
use Rattle.std.proofs.Common.{◌≡◌, ℕ, ◌<◌, List, [], ◌++◌, length, Option, Some, None, Result, Ok, Err, refl, ap, sym, subst, ◌∙◌}
use Rattle.std.specs.Prelude.{IfErr}
use Rattle.spec_script.specs.Faults as model
use Rattle.spec_script.specs.Inputs.{input_script, unless_at, mocked_script}
use Rattle.spec_script.specs.RefusedForms.{domain_only, unbuilt}
use Rattle.spec_script.specs.Refusals.{Refusal, TooLong, NoTree, NoScript, MockOnly, DomainOnly, Unbuilt, NoHistory, NoList, NoNet, or_refused, refusal_line}
use Rattle.spec_script.specs.Results.{◌>>=◌}
use Rattle.spec_script.specs.Scripts.{Script, script_of}
use Rattle.spec_script.specs.Trees.{Tree}
use Rattle.script_code.proofs.ScriptNumbers.{script_has_numbers}
use Rattle.spec_fiber.specs.Numbered.{blocks_from}
use Rattle.script_code.specs.Numbered.{HasNumbers}
use Rattle.std.specs.List.{flat_map, All}
use Rattle.std.proofs.lemmas.List.Elements.{All-contains_itself}
use Rattle.fiber_step.proofs.Numbering.Finding.{blocks_by_number}
use Rattle.law_domain.proofs.Forms.GroupForms.{mocked_group_forms}
use Rattle.law_fiber.specs.Kinded.Kinds.{IsOfScript}
use Rattle.law_script.proofs.Scripts.Commands.{mocked_is_sound}
use Rattle.law_fiber.proofs.Texts.ReadScripts.{read_scripts_have_texts}
use Rattle.law_domain.specs.Well.WellStates.{IsRunnable}
use Rattle.mock_backend.specs.Today.{built_today}
use Rattle.law_script.proofs.Scripts.Scripts.{script_is_read}
use Rattle.law_script.proofs.Trees.Steps.{same_Ok, err-ok, both_gave}
use Rattle.script_input.proofs.Fronts.{tree_front}
use Rattle.script_input.specs.declared.fault.InputFault.{InputFault}
use Rattle.script_input.specs.declared.fault.InputFault.TheVariants as fault
use Rattle.script_input.specs.declared.refusal.Kind.TheVariants as kind
use Rattle.script_input.specs.Refusals.{Refuses, at_place, line_of, seen}

-- ## By the script that was read

run_by : Result Script Refusal → Result Script Refusal
run_by read = read >>= λ script. unless_at DomainOnly (domain_only script) script >>= λ one. unless_at Unbuilt (unbuilt built_today one) one

mocked_is : (bytes : List ℕ) → mocked_script built_today bytes ≡ run_by (input_script bytes)
unfolding mocked_script run_by
mocked_is bytes = refl

-- a script without a further body
alone_is : (script : Script) → domain_only script ≡ None → run_by (Ok script) ≡ unless_at Unbuilt (unbuilt built_today script) script
unfolding run_by
alone_is script whole = ap (λ d. unless_at DomainOnly d script >>= λ one. unless_at Unbuilt (unbuilt built_today one) one) whole

module _ (bytes : List ℕ) (script : Script) (read : input_script bytes ≡ Ok script) where
  read_is : mocked_script built_today bytes ≡ run_by (Ok script)
  read_is = mocked_is bytes ∙ ap run_by read

  -- one that is run
  pub run_is : domain_only script ≡ None → unbuilt built_today script ≡ None → mocked_script built_today bytes ≡ Ok script
  run_is whole plain = read_is ∙ (alone_is script whole ∙ ap (λ at. unless_at Unbuilt at script) plain)

  -- with a further body
  domain_is : (at : ℕ) → domain_only script ≡ Some at → mocked_script built_today bytes ≡ Err (DomainOnly at)
  unfolding run_by
  domain_is at there = read_is ∙ ap (λ d. unless_at DomainOnly d script >>= λ one. unless_at Unbuilt (unbuilt built_today one) one) there

  pub domain_refused : (at : ℕ) → domain_only script ≡ Some at → Refuses (fault.Refused (at_place kind.DomainOnly at)) (mocked_script built_today bytes)
  domain_refused at there = record { why = DomainOnly at; refused = domain_is at there; same = refl }

  -- with a form that isn't built
  pub unbuilt_refused : (at : ℕ) → domain_only script ≡ None → unbuilt built_today script ≡ Some at → Refuses (fault.Refused (at_place kind.Unbuilt at)) (mocked_script built_today bytes)
  unbuilt_refused at whole there = record {
    why = Unbuilt at;
    refused = read_is ∙ (alone_is script whole ∙ ap (λ d. unless_at Unbuilt d script) there);
    same = refl;
  }

-- what is no script isn't run
refused_both : (bytes : List ℕ) (it : InputFault) → Refuses it (input_script bytes) → Refuses it (mocked_script built_today bytes)
unfolding run_by
refused_both bytes fault.NoMemory refused = tt
refused_both bytes (fault.Refused refusal) refused =
    record { why = refused.why; refused = mocked_is bytes ∙ ap run_by refused.refused; same = refused.same }

pub no_script : {T : Type 0} (bytes : List ℕ) (result : Result T InputFault) (made it : InputFault) → result ≡ Err made → made ≡ it → Refuses it (input_script bytes) → IfErr result (λ f. Refuses f (mocked_script built_today bytes))
no_script {T} bytes result made it is same refused =
    subst (λ (r : Result T InputFault). IfErr r (λ f. Refuses f (mocked_script built_today bytes))) (sym (is ∙ ap Err same)) (refused_both bytes it refused)

-- ## What a script has that is run

unless_is : (refusal : ℕ → Refusal) (at : Option ℕ) (script found : Script) → unless_at refusal at script ≡ Ok found → (at ≡ None) × (script ≡ found)
unless_is refusal None script found e = (refl, same_Ok script found e)
unless_is refusal (Some at) script found e = absurd (err-ok _ _ e)

-- it was read from a tree
tree_of : (bytes : List ℕ) (script : Script) → mocked_script built_today bytes ≡ Ok script → (tree : Tree) × (script_of tree ≡ Ok script)
unfolding run_by
tree_of bytes script e =
    let read = both_gave (input_script bytes) (λ script. unless_at DomainOnly (domain_only script) script >>= λ one. unless_at Unbuilt (unbuilt built_today one) one) script (sym (mocked_is bytes) ∙ e) in
    let rest = both_gave (unless_at DomainOnly (domain_only read.0) read.0) (λ one. unless_at Unbuilt (unbuilt built_today one) one) script read.2 in
    let whole = unless_is DomainOnly (domain_only read.0) read.0 rest.0 rest.1 in
    let plain = unless_is Unbuilt (unbuilt built_today rest.0) rest.0 script rest.2 in
    let own = script_is_read bytes read.0 read.1 in
    (own.0, subst (λ s. script_of own.0 ≡ Ok s) plain.1 (subst (λ s. script_of own.0 ≡ Ok s) whole.1 own.2))

-- each of its blocks is the one of its number
blocks_are : (script : Script) → HasNumbers script → All (IsOfScript script) (flat_map blocks_from script.bodies)
blocks_are script has = λ k d less. record {
  its = All-contains_itself (flat_map blocks_from script.bodies) k d less;
  found = blocks_by_number.all script has k d less;
}

pub mocked_runs : (bytes : List ℕ) (script : Script) → mocked_script built_today bytes ≡ Ok script → IsRunnable script
mocked_runs bytes script e =
    let read = tree_of bytes script e in
    record {
      sound = (mocked_is_sound built_today bytes script e).0;
      forms = (mocked_group_forms bytes script e).0;
      blocks = blocks_are script (script_has_numbers read.0 script read.1);
      texts = read_scripts_have_texts read.0 script read.1;
    }

-- ## Lines of refusals

pub line_is : (why : Refusal) → refusal_line why ≡ line_of (seen why)
unfolding refusal_line
line_is TooLong = refl
line_is (NoTree (model.Byte at)) = refl
line_is (NoTree (model.Unclosed at)) = refl
line_is (NoTree (model.Stray at)) = refl
line_is (NoTree (model.Number at)) = refl
line_is (NoTree (model.LongText at)) = refl
line_is (NoTree (model.Deep at)) = refl
line_is (NoScript (model.Shape at)) = refl
line_is (NoScript (model.Size at)) = refl
line_is (NoScript (model.Twice at)) = refl
line_is (NoScript (model.Name at)) = refl
line_is (MockOnly at) = refl
line_is (DomainOnly at) = refl
line_is (Unbuilt at) = refl
line_is (NoHistory at) = refl
line_is (NoList at) = refl
line_is (NoNet at) = refl

-- ## What was read

-- the first 262,145 bytes decide
pub mocked_front : (input rest : List ℕ) → (length input < 262145 → rest ≡ []) → mocked_script built_today (input ++ rest) ≡ mocked_script built_today input
unfolding input_script
mocked_front input rest whole =
    mocked_is (input ++ rest) ∙ (ap (λ read. run_by (read >>= λ tree. or_refused NoScript (script_of tree))) (tree_front input rest whole) ∙ sym (mocked_is input))
