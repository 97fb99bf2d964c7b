-- What `check` and `print` answer, by the script of the input or its refusal.
use Rattle.std.proofs.Common.{◌≡◌, ℕ, List, [], false, codes, Result, Ok, Err, refl, ap, sym, ◌∙◌}
use Rattle.std.specs.Prelude.{IfOk, OnOk, IsOk}
use Rattle.spec_script.specs.Faults as model
use Rattle.spec_script.specs.Trees.{Tree}
use Rattle.spec_script.specs.Results.{◌>>=◌}
use Rattle.spec_script.specs.Canonical.{document}
use Rattle.spec_script.specs.Refusals.{TooLong, NoTree, NoScript, MockOnly, DomainOnly, Unbuilt, NoHistory, NoList, NoNet, refusal_line, or_refused, input_tree}
use Rattle.spec_script.specs.Refusals as refusals
use Rattle.spec_script.specs.Scripts.{Script, script_of}
use Rattle.spec_script.specs.Inputs.{Checked, checked, checked_by, printed, printed_by, refused_by, input_script}
use Rattle.script_input.specs.declared.fault.InputFault.{InputFault}
use Rattle.script_input.specs.declared.inspection.Inspection.{Inspection}
use Rattle.script_input.specs.declared.inspection.Inspection.TheVariants as inspection
use Rattle.script_input.specs.declared.refusal.Refusal.{Refusal}
use Rattle.script_input.specs.Refusals.{IsRefusedAs, line_of, seen}
use Rattle.script_input.specs.Inspections.{inspected, due}
use Rattle.trace_out.specs.Outcome.{Due}
use Rattle.trace_lines.specs.declared.status.Status.TheVariants as status

-- the line of each refusal of the definitions is that of the code's
line_is : (why : refusals.Refusal) → refusal_line why ≡ line_of (seen why)
unfolding refusal_line
line_is TooLong = refl
line_is (NoTree (model.Byte at)) = refl
line_is (NoTree (model.Unclosed at)) = refl
line_is (NoTree (model.Stray at)) = refl
line_is (NoTree (model.Number at)) = refl
line_is (NoTree (model.LongText at)) = refl
line_is (NoTree (model.Deep at)) = refl
line_is (NoScript (model.Shape at)) = refl
line_is (NoScript (model.Size at)) = refl
line_is (NoScript (model.Twice at)) = refl
line_is (NoScript (model.Name at)) = refl
line_is (MockOnly at) = refl
line_is (DomainOnly at) = refl
line_is (Unbuilt at) = refl
line_is (NoHistory at) = refl
line_is (NoList at) = refl
line_is (NoNet at) = refl

checked_is : (bytes : List ℕ) → checked bytes ≡ checked_by (codes "ok\n") (input_script bytes)
unfolding checked
checked_is bytes = refl

printed_is : (bytes : List ℕ) → printed bytes ≡ printed_by (input_tree bytes)
unfolding printed
printed_is bytes = refl

-- of a script
pub check_writes : (bytes : List ℕ) (script : Script) (text : List ℕ) → input_script bytes ≡ Ok script → text ≡ codes "ok\n" → checked bytes ≡ record { text = text; is_refused = false }
check_writes bytes script text is same =
    let made : List ℕ → Checked = λ t. record { text = t; is_refused = false } in
    checked_is bytes ∙ (ap (checked_by (codes "ok\n")) is ∙ sym (ap made same))

print_writes : (bytes : List ℕ) (tree : Tree) (script : Script) (text : List ℕ) → input_tree bytes ≡ Ok tree → script_of tree ≡ Ok script → text ≡ document tree → printed bytes ≡ record { text = text; is_refused = false }
print_writes bytes tree script text read is same =
    let made : List ℕ → Checked = λ t. record { text = t; is_refused = false } in
    printed_is bytes ∙ (ap printed_by read ∙ (ap (λ r. checked_by (document tree) (or_refused NoScript r)) is ∙ sym (ap made same)))

found : {A E : Type 0} (read : Result A E) → IsOk read → (made : A) × (read ≡ Ok made)
found (Ok made) is = (made, refl)
found (Err e) is = cc

pub tree_printed : {T : Type 0} (bytes : List ℕ) (tree : Tree) (result : Result T InputFault) (items : T → List ℕ) → input_tree bytes ≡ Ok tree
    → IfOk result (λ text. items text ≡ document tree) → OnOk result (IsOk (script_of tree)) → IfOk result (λ text. printed bytes ≡ record { text = items text; is_refused = false })
tree_printed bytes tree (Ok text) items read same made = let script = found (script_of tree) made in print_writes bytes tree script.0 (items text) read script.1 same
tree_printed bytes tree (Err e) items read same made = tt

-- of an input that is refused
check_refuses : (bytes : List ℕ) (why : refusals.Refusal) → input_script bytes ≡ Err why → checked bytes ≡ refused_by why
check_refuses bytes why is = checked_is bytes ∙ ap (checked_by (codes "ok\n")) is

-- of the tree of an input, or its refusal
print_by : (read : Result Tree refusals.Refusal) (why : refusals.Refusal) → (read >>= λ tree. or_refused NoScript (script_of tree)) ≡ Err why → printed_by read ≡ refused_by why
print_by (Ok tree) why is = ap (checked_by (document tree)) is
print_by (Err e) why is = ap (checked_by []) is

print_refuses : (bytes : List ℕ) (why : refusals.Refusal) → input_script bytes ≡ Err why → printed bytes ≡ refused_by why
unfolding input_script
print_refuses bytes why is = printed_is bytes ∙ print_by (input_tree bytes) why is

inspects : (it : Inspection) (bytes : List ℕ) (why : refusals.Refusal) → input_script bytes ≡ Err why → inspected it bytes ≡ refused_by why
inspects inspection.Check bytes why is = check_refuses bytes why is
inspects inspection.Print bytes why is = print_refuses bytes why is

-- the line of the refusal is due
pub line_due : (it : Inspection) (bytes : List ℕ) (refusal : Refusal) (text : List ℕ) → IsRefusedAs refusal (input_script bytes) → text ≡ line_of refusal → record { text = text; status = status.Refused } ≡ due (inspected it bytes)
line_due it bytes refusal text refused same =
    let made : List ℕ → Due = λ t. record { text = t; status = status.Refused } in
    ap made (same ∙ (ap line_of refused.same ∙ sym (line_is refused.why))) ∙ sym (ap due (inspects it bytes refused.why refused.refused))
