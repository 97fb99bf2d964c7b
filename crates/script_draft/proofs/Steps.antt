-- Steps of the definitions that give or fail, one behind the other, and what is made by them.
use Rattle.std.proofs.Common.{◌≡◌, ℕ, ◌+◌, ◌<◌, List, [], ◌∷◌, ◌++◌, length, Result, Ok, refl, arith, ap, sym, ◌∙◌, length-append}
use Rattle.spec_script.specs.Faults as model
use Rattle.spec_script.specs.Results.{◌>>=◌}
use Rattle.spec_script.specs.Reads.{Made}
use Rattle.script_draft.specs.Drafts.{Drafted, made_of}
use Rattle.std.proofs.Common.{take, append_assoc}
use Rattle.std.specs.Prelude.{slice_set}
use Rattle.std.proofs.Math.Seq.{take-length}
use Rattle.std.proofs.lemmas.List.{take_more_set, set-append_left, length-set}
use Rattle.spec_script.specs.Syntax.{Statement}
use Rattle.spec_script.specs.Scopes.{Scope}
use Rattle.spec_script.specs.Statements.{Stated}
use Rattle.script_forms.specs.Flat.{flat_statement}
use Rattle.script_forms.specs.Faults.{Fails}
use Rattle.script_draft.specs.Readings.{HasStated}
use Rattle.script_forms.specs.declared.fault.ScriptFault.{ScriptFault}
use Rattle.script_forms.specs.declared.fault.ScriptFault.TheVariants as fault
use Rattle.script_forms.specs.declared.node.Node.{Node}

-- a step that fails is the answer of all
pub fails_first : {A B : Type 0} (f : ScriptFault) (read : Result A model.ScriptFault) (next : A → Result B model.ScriptFault) → Fails f read → Fails f (read >>= next)
fails_first fault.NoMemory read next h = tt
fails_first (fault.Shape at) read next h = rw h refl
fails_first (fault.Name at) read next h = rw h refl
fails_first (fault.Twice at) read next h = rw h refl
fails_first (fault.Size at) read next h = rw h refl

-- one more node counts as one
pub node_made : (d : Drafted) (n : Node) → made_of (record d { nodes = d.nodes ++ n ∷ [] }) ≡ record (made_of d) { nodes = length d.nodes + 1 }
node_made d n =
    let count : ℕ → Made = λ k. record (made_of d) { nodes = k } in
    ap count (length-append d.nodes (n ∷ []))

-- ## Filling

fill_count : (ns : List Node) (opened : ℕ) (n : Node) → length (slice_set ns opened n) ≡ length ns
fill_count ns opened n = length-set ns opened n

set_behind : (before : List Node) (opened : ℕ) (n : Node) → length before ≡ opened + 1 → slice_set before opened n ≡ take opened before ++ n ∷ []
set_behind before opened n e =
    let less : opened < length before = omega (arith, e) in
    let whole : take (opened + 1) (slice_set before opened n) ≡ slice_set before opened n = ap (λ k. take k (slice_set before opened n)) (sym (fill_count before opened n ∙ e)) ∙ take-length (slice_set before opened n) in
    sym whole ∙ take_more_set before opened n less

fill_front : (before inner : List Node) (opened : ℕ) (n : Node) → opened < length before → slice_set (before ++ inner) opened n ≡ slice_set before opened n ++ inner
fill_front before inner opened n e = set-append_left before inner opened n e

-- a place that is filled counts as before
pub fill_made : (d : Drafted) (opened : ℕ) (n : Node) → made_of (record d { nodes = slice_set d.nodes opened n }) ≡ made_of d
fill_made d opened n =
    let count : ℕ → Made = λ k. record (made_of d) { nodes = k } in
    ap count (fill_count d.nodes opened n)

-- a statement whose node is filled once what belongs to it was read
pub fill_stated : (read : Stated) (behind : Scope) (opened : ℕ) (old mid new : Drafted) (it : Statement) (n : Node) (inner : List Node) → length old.nodes ≡ opened + 1 → read (made_of old) ≡ Ok ((it, behind), made_of mid) → mid.nodes ≡ old.nodes ++ inner → new ≡ record mid { nodes = slice_set mid.nodes opened n } → flat_statement opened it ≡ n ∷ inner → HasStated read behind opened old new
fill_stated read behind opened old mid new it n inner one gives grows filled flat =
    let made : made_of mid ≡ made_of new = sym (fill_made mid opened n) ∙ ap made_of (sym filled) in
    let less : opened < length old.nodes = omega (arith, one) in
    record {
      value = it;
      gives = gives ∙ ap (λ m. Ok ((it, behind), m)) made;
      grows =
          ap (λ (d : Drafted). d.nodes) filled
          ∙ (ap (λ ns. slice_set ns opened n) grows
          ∙ (fill_front old.nodes inner opened n less
          ∙ (ap (λ ns. ns ++ inner) (set_behind old.nodes opened n one)
          ∙ (append_assoc (take opened old.nodes) (n ∷ []) inner
          ∙ ap (λ ns. take opened old.nodes ++ ns) (sym flat)))));
    }
