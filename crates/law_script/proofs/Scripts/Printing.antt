-- What `print` writes stands for the script that was read (`print_stands`), and is read and printed again as it is (`print_is_kept`).
use Rattle.std.proofs.Common.{◌≡◌, ℕ, ◌≤◌, false, true, List, length, Result, Ok, Err, refl, ap, sym, subst, ◌∙◌, arith}
use Rattle.std.proofs.lemmas.Grind.{common_steps}
use Rattle.std.specs.Prelude.{nat_le, Bool}
use Rattle.spec_script.specs.Canonical.{document}
use Rattle.spec_script.specs.Faults.{ScriptFault}
use Rattle.spec_script.specs.Inputs.{Checked, checked_by, input_script, printed, printed_by}
use Rattle.spec_script.specs.Reading.{reading}
use Rattle.spec_script.specs.Refusals.{Refusal, TooLong, NoTree, NoScript, or_refused, input_tree}
use Rattle.spec_script.specs.Results.{◌>>=◌}
use Rattle.spec_script.specs.Scripts.{Script, script_of}
use Rattle.spec_script.specs.Trees.{Tree}
use Rattle.law_script.specs.Trees.Places.{bare}
use Rattle.law_script.proofs.Trees.Canonical.{canonical_has_no_places, canonical_is_read, read_is_within}
use Rattle.law_script.proofs.Trees.Read.{read_is_spelled}
use Rattle.law_script.proofs.Trees.Steps.{both_gave}
use Rattle.law_script.specs.Scripts.Meanings.{IsSameScript, ReadAlike}
use Rattle.law_script.specs.Scripts.Printing.{IsKept, PrintIsReadAgain, PrintStandsForTheScript, StandsFor}
use Rattle.law_script.proofs.Scripts.BareScripts.{places_dont_count}
use Rattle.law_script.proofs.Scripts.Scripts.{input_is_read, unrefused}

-- ## The input that was read

record IsRead (bytes : List ℕ) (script : Script) : Type 0 where
  tree : Tree
  input : input_tree bytes ≡ Ok tree
  stands : script_of tree ≡ Ok script

is_read : (bytes : List ℕ) (script : Script) → input_script bytes ≡ Ok script → IsRead bytes script
unfolding input_script
is_read bytes script e =
    let both = both_gave (input_tree bytes) (λ tree. or_refused NoScript (script_of tree)) script e in
    record { tree = both.0; input = both.1; stands = unrefused NoScript (script_of both.0) script both.2 }

-- what is printed for a tree that is a script
prints : (bytes : List ℕ) (tree : Tree) (script : Script) → input_tree bytes ≡ Ok tree → script_of tree ≡ Ok script → printed bytes ≡ record { text = document tree; is_refused = false }
unfolding printed
prints bytes tree script input stands = ap printed_by input ∙ ap (λ r. checked_by (document tree) (or_refused NoScript r)) stands

-- ## Its canonical spelling

-- a script that is read alike stands for the same
stands_by : (own other : Result Script ScriptFault) (script : Script) → other ≡ Ok script → ReadAlike own other → (it : Script) × (own ≡ Ok it) × IsSameScript it script
stands_by (Ok it) other script e alike = (it, refl, subst (ReadAlike (Ok it)) e alike)
stands_by (Err f) other script e alike = absurd (subst (ReadAlike (Err f)) e alike)

record IsSpelled (tree : Tree) (script : Script) : Type 0 where
  again : Tree
  reads : reading (document tree) ≡ Ok again
  bare_same : bare again ≡ bare tree
  own : Script
  stands : script_of again ≡ Ok own
  same : IsSameScript own script

is_spelled : (bytes : List ℕ) (tree : Tree) (script : Script) → reading bytes ≡ Ok tree → script_of tree ≡ Ok script → IsSpelled tree script
is_spelled bytes tree script read stands =
    let found_again = canonical_is_read tree (read_is_within bytes tree read) in
    let found = stands_by (script_of found_again.read) (script_of tree) script stands (places_dont_count found_again.read tree found_again.same) in
    record { again = found_again.read; reads = found_again.reads; bare_same = found_again.same; own = found.0; stands = found.1; same = found.2 }

pub print_stands : PrintStandsForTheScript
print_stands bytes script e =
    let read = is_read bytes script e in
    let spelled = is_spelled bytes read.tree script (input_is_read bytes read.tree read.input) read.stands in
    subst (λ (it : Checked). StandsFor it.text script) (sym (prints bytes read.tree script read.input read.stands))
    (record {
      tree = spelled.again;
      spelled = read_is_spelled (document read.tree) spelled.again spelled.reads;
      own = spelled.own;
      stands = spelled.stands;
      same = spelled.same;
    })

-- ## Read again

tree_by : List ℕ → Bool → Result Tree Refusal
tree_by bytes short = elim short [ true ↦ or_refused NoTree (reading bytes) | false ↦ Err TooLong ]

input_by : (bytes : List ℕ) (short : Bool) → nat_le (length bytes) 262144 ≡ short → input_tree bytes ≡ tree_by bytes short
unfolding input_tree tree_by
input_by bytes short test = ap (tree_by bytes) test

-- what is short enough is read
short_is_read : (bytes : List ℕ) (tree : Tree) → length bytes ≤ 262144 → reading bytes ≡ Ok tree → input_tree bytes ≡ Ok tree
unfolding tree_by
short_is_read bytes tree size read =
    let short : nat_le (length bytes) 262144 ≡ true = grind (arith, common_steps) in
    input_by bytes true short ∙ ap (or_refused NoTree) read

kept : (tree : Tree) (script : Script) → IsSpelled tree script → length (document tree) ≤ 262144 → IsKept (document tree) script
unfolding input_script
kept tree script spelled size =
    let input = short_is_read (document tree) spelled.again size spelled.reads in
    let made : List ℕ → Checked = λ text. record { text = text; is_refused = false } in
    record {
      own = spelled.own;
      read = ap (λ read. read >>= λ t. or_refused NoScript (script_of t)) input ∙ ap (or_refused NoScript) spelled.stands;
      same = spelled.same;
      again = prints (document tree) spelled.again spelled.own input spelled.stands ∙ ap made (canonical_has_no_places spelled.again tree spelled.bare_same);
    }

pub print_is_kept : PrintIsReadAgain
print_is_kept bytes script e size =
    let read = is_read bytes script e in
    let spelled = is_spelled bytes read.tree script (input_is_read bytes read.tree read.input) read.stands in
    let is = prints bytes read.tree script read.input read.stands in
    subst (λ (it : Checked). IsKept it.text script) (sym is)
    (kept read.tree script spelled (subst (λ (it : Checked). length it.text ≤ 262144) is size))
