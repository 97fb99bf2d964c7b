-- The script of an input, by its tree.
use Rattle.std.proofs.Common.{◌≡◌, ℕ, List, Result, Ok, Err, refl, ap, sym, subst, ◌∙◌}
use Rattle.std.specs.Prelude.{IfErr}
use Rattle.spec_script.specs.Faults as model
use Rattle.spec_script.specs.Trees.{Tree}
use Rattle.spec_script.specs.Results.{◌>>=◌}
use Rattle.spec_script.specs.Refusals.{Refusal, NoScript, or_refused, input_tree}
use Rattle.spec_script.specs.Scripts.{Script, script_of}
use Rattle.spec_script.specs.Inputs.{input_script}
use Rattle.script_forms.specs.declared.fault.ScriptFault.{ScriptFault}
use Rattle.script_forms.specs.declared.fault.ScriptFault.TheVariants as fault
use Rattle.script_forms.specs.Faults.{Fails}
use Rattle.script_input.specs.declared.fault.InputFault.{InputFault}
use Rattle.script_input.specs.declared.fault.InputFault.TheVariants as input_fault
use Rattle.script_input.specs.Refusals.{Refuses, of_script_fault}

-- the script of a tree that was read, or of none
script_by : Result Tree Refusal → Result Script Refusal
script_by read = read >>= λ tree. or_refused NoScript (script_of tree)

script_is : (bytes : List ℕ) → input_script bytes ≡ script_by (input_tree bytes)
unfolding input_script script_by
script_is bytes = refl

-- of an input that spells a tree
of_tree : (bytes : List ℕ) (tree : Tree) → input_tree bytes ≡ Ok tree → input_script bytes ≡ or_refused NoScript (script_of tree)
unfolding script_by
of_tree bytes tree read = script_is bytes ∙ ap script_by read

-- the script that was read
pub script_reads : (bytes : List ℕ) (tree : Tree) (script : Script) → input_tree bytes ≡ Ok tree → script_of tree ≡ Ok script → input_script bytes ≡ Ok script
script_reads bytes tree script read made = of_tree bytes tree read ∙ ap (or_refused NoScript) made

-- what spells no tree is no script
refused_both : (bytes : List ℕ) (fault : InputFault) → Refuses fault (input_tree bytes) → Refuses fault (input_script bytes)
unfolding script_by
refused_both bytes input_fault.NoMemory refused = tt
refused_both bytes (input_fault.Refused refusal) refused =
    record { why = refused.why; refused = script_is bytes ∙ ap script_by refused.refused; same = refused.same }

pub no_tree : {T : Type 0} (bytes : List ℕ) (result : Result T InputFault) (made fault : InputFault) → result ≡ Err made → made ≡ fault → Refuses fault (input_tree bytes) → IfErr result (λ f. Refuses f (input_script bytes))
no_tree {T} bytes result made fault is same refused =
    subst (λ (r : Result T InputFault). IfErr r (λ f. Refuses f (input_script bytes))) (sym (is ∙ ap Err same)) (refused_both bytes fault refused)

refused_by : (tree : Tree) (fault : ScriptFault) → Fails fault (script_of tree) → Refuses (of_script_fault fault) (or_refused NoScript (script_of tree))
refused_by tree fault.NoMemory fails = tt
refused_by tree (fault.Shape at) fails = record { why = NoScript (model.Shape at); refused = ap (or_refused NoScript) fails; same = refl }
refused_by tree (fault.Name at) fails = record { why = NoScript (model.Name at); refused = ap (or_refused NoScript) fails; same = refl }
refused_by tree (fault.Twice at) fails = record { why = NoScript (model.Twice at); refused = ap (or_refused NoScript) fails; same = refl }
refused_by tree (fault.Size at) fails = record { why = NoScript (model.Size at); refused = ap (or_refused NoScript) fails; same = refl }

-- a tree that is no script
pub tree_fails : {T : Type 0} (tree : Tree) (result : Result T InputFault) (made : InputFault) (fault : ScriptFault) → result ≡ Err made → made ≡ of_script_fault fault → Fails fault (script_of tree) → IfErr result (λ f. Refuses f (or_refused NoScript (script_of tree)))
tree_fails {T} tree result made fault is made_is fails =
    subst (λ (r : Result T InputFault). IfErr r (λ f. Refuses f (or_refused NoScript (script_of tree)))) (sym (is ∙ ap Err made_is)) (refused_by tree fault fails)

pub tree_still_fails : {T : Type 0} (tree : Tree) (result : Result T InputFault) (made fault : InputFault) → result ≡ Err made → made ≡ fault → Refuses fault (or_refused NoScript (script_of tree)) → IfErr result (λ f. Refuses f (or_refused NoScript (script_of tree)))
tree_still_fails {T} tree result made fault is same refused =
    subst (λ (r : Result T InputFault). IfErr r (λ f. Refuses f (or_refused NoScript (script_of tree)))) (sym (is ∙ ap Err same)) refused

-- of an input that spells one
pub script_fails : {T : Type 0} (bytes : List ℕ) (tree : Tree) (result : Result T InputFault) → input_tree bytes ≡ Ok tree → IfErr result (λ f. Refuses f (or_refused NoScript (script_of tree))) → IfErr result (λ f. Refuses f (input_script bytes))
script_fails {T} bytes tree result read fails = subst (λ (r : Result Script Refusal). IfErr result (λ f. Refuses f r)) (sym (of_tree bytes tree read)) fails
