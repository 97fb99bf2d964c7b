-- The tree of an input, by its size and by what its bytes spell.
use Rattle.std.proofs.Common.{◌≡◌, ℕ, ◌<◌, ◌≤◌, List, length, Bool, true, false, Result, Ok, Err, arith, refl, ap, sym, subst, ◌∙◌}
use Rattle.std.proofs.lemmas.Grind.{common_steps}
use Rattle.std.specs.Prelude.{IfErr, nat_le}
use Rattle.spec_script.specs.Faults as model
use Rattle.spec_script.specs.Trees.{Tree}
use Rattle.spec_script.specs.Reading.{reading}
use Rattle.spec_script.specs.Refusals.{Refusal, TooLong, NoTree, or_refused, input_tree}
use Rattle.script_tree.specs.declared.fault.TreeFault.{TreeFault}
use Rattle.script_tree.specs.declared.fault.TreeFault.TheVariants as fault
use Rattle.script_tree.specs.Views.{Fails}
use Rattle.script_input.specs.declared.fault.InputFault.{InputFault}
use Rattle.script_input.specs.declared.fault.InputFault.TheVariants as input_fault
use Rattle.script_input.specs.declared.refusal.Kind.TheVariants as kind
use Rattle.script_input.specs.Refusals.{Refuses, at_place, of_tree_fault}

-- the tree by the test of the size
by_size : List ℕ → Bool → Result Tree Refusal
by_size bytes short = elim short [ true ↦ or_refused NoTree (reading bytes) | false ↦ Err TooLong ]

input_by : (bytes : List ℕ) (short : Bool) → nat_le (length bytes) 262144 ≡ short → input_tree bytes ≡ by_size bytes short
unfolding input_tree by_size
input_by bytes short test = ap (by_size bytes) test

pub short_is : (bytes : List ℕ) → length bytes ≤ 262144 → input_tree bytes ≡ or_refused NoTree (reading bytes)
unfolding by_size
short_is bytes size =
    let test : nat_le (length bytes) 262144 ≡ true = grind (arith, common_steps) in
    input_by bytes true test

pub long_is : (bytes : List ℕ) → 262144 < length bytes → input_tree bytes ≡ Err TooLong
unfolding by_size
long_is bytes size =
    let test : nat_le (length bytes) 262144 ≡ false = grind (arith, common_steps) in
    input_by bytes false test

-- the tree that was read
pub tree_reads : (bytes : List ℕ) (tree : Tree) → length bytes ≤ 262144 → reading bytes ≡ Ok tree → input_tree bytes ≡ Ok tree
tree_reads bytes tree size read = short_is bytes size ∙ ap (or_refused NoTree) read

-- an input that is too long
pub too_long : (bytes : List ℕ) (made : InputFault) → 262144 < length bytes → made ≡ input_fault.Refused (at_place kind.Size 262144) → Refuses made (input_tree bytes)
too_long bytes made size e = subst (λ m. Refuses m (input_tree bytes)) (sym e) (record { why = TooLong; refused = long_is bytes size; same = refl })

refused_by : (bytes : List ℕ) (fault : TreeFault) → input_tree bytes ≡ or_refused NoTree (reading bytes) → Fails fault (reading bytes) → Refuses (of_tree_fault fault) (input_tree bytes)
refused_by bytes fault.NoMemory is fails = tt
refused_by bytes (fault.Byte at) is fails = record { why = NoTree (model.Byte at); refused = is ∙ ap (or_refused NoTree) fails; same = refl }
refused_by bytes (fault.Unclosed at) is fails = record { why = NoTree (model.Unclosed at); refused = is ∙ ap (or_refused NoTree) fails; same = refl }
refused_by bytes (fault.Stray at) is fails = record { why = NoTree (model.Stray at); refused = is ∙ ap (or_refused NoTree) fails; same = refl }
refused_by bytes (fault.Number at) is fails = record { why = NoTree (model.Number at); refused = is ∙ ap (or_refused NoTree) fails; same = refl }
refused_by bytes (fault.LongText at) is fails = record { why = NoTree (model.LongText at); refused = is ∙ ap (or_refused NoTree) fails; same = refl }
refused_by bytes (fault.Deep at) is fails = record { why = NoTree (model.Deep at); refused = is ∙ ap (or_refused NoTree) fails; same = refl }

-- an input that spells no tree
pub tree_fails : {T : Type 0} (bytes : List ℕ) (result : Result T InputFault) (made : InputFault) (fault : TreeFault) → result ≡ Err made → made ≡ of_tree_fault fault → length bytes ≤ 262144 → Fails fault (reading bytes) → IfErr result (λ f. Refuses f (input_tree bytes))
tree_fails {T} bytes result made fault is made_is size fails =
    subst (λ (r : Result T InputFault). IfErr r (λ f. Refuses f (input_tree bytes))) (sym (is ∙ ap Err made_is)) (refused_by bytes fault (short_is bytes size) fails)
