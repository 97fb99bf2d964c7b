-- The first 262,145 bytes decide the answer: more of them are refused, whatever follows.
use Rattle.std.proofs.Common.{◌≡◌, ℕ, ◌<◌, List, [], ◌++◌, length, Bool, true, false, Some, None, refl, ap, sym, ◌∙◌, append-nil, arith}
use Rattle.std.proofs.lemmas.Grind.{common_steps}
use Rattle.std.specs.Prelude.{nat_le, Option}
use Rattle.trace_out.specs.Input.{ReadsInput}
use Rattle.spec_script.specs.Results.{◌>>=◌}
use Rattle.spec_script.specs.Refusals.{NoScript, or_refused, input_tree}
use Rattle.spec_script.specs.Scripts.{script_of}
use Rattle.spec_script.specs.Inputs.{checked, printed, printed_by, checked_by, input_script}
use Rattle.script_input.specs.declared.inspection.Inspection.{Inspection}
use Rattle.script_input.specs.declared.inspection.Inspection.TheVariants as inspection
use Rattle.script_input.specs.Inspections.{inspected}
use Rattle.script_input.proofs.Trees.{long_is}

tree_by : (input rest : List ℕ) (short : Bool) → nat_le (length input) 262144 ≡ short → (length input < 262145 → rest ≡ []) → input_tree (input ++ rest) ≡ input_tree input
tree_by input rest true test whole =
    let less : length input < 262145 = grind (arith, common_steps) in
    ap (λ xs. input_tree (input ++ xs)) (whole less) ∙ ap input_tree (append-nil input)
tree_by input rest false test whole =
    let long : 262144 < length input = grind (arith, common_steps) in
    let longer : 262144 < length (input ++ rest) = grind (arith, common_steps) in
    long_is (input ++ rest) longer ∙ sym (long_is input long)

pub tree_front : (input rest : List ℕ) → (length input < 262145 → rest ≡ []) → input_tree (input ++ rest) ≡ input_tree input
tree_front input rest whole = tree_by input rest (nat_le (length input) 262144) refl whole

script_front : (input rest : List ℕ) → (length input < 262145 → rest ≡ []) → input_script (input ++ rest) ≡ input_script input
unfolding input_script
script_front input rest whole = ap (λ read. read >>= λ tree. or_refused NoScript (script_of tree)) (tree_front input rest whole)

inspected_front : (it : Inspection) (input rest : List ℕ) → (length input < 262145 → rest ≡ []) → inspected it (input ++ rest) ≡ inspected it input
unfolding checked printed
inspected_front inspection.Check input rest whole = ap (checked_by _) (script_front input rest whole)
inspected_front inspection.Print input rest whole = ap printed_by (tree_front input rest whole)

-- what was read decides the answer to the whole input
pub same_answer : (it : Inspection) (bytes input : List ℕ) (new : Option (List ℕ)) → ReadsInput (Some bytes) new input → inspected it bytes ≡ inspected it input
same_answer it bytes input None reads = absurd reads.taken
same_answer it bytes input (Some rest) reads = ap (inspected it) reads.taken ∙ inspected_front it input rest reads.whole
