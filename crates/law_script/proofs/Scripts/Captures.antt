-- What a job takes with it, and what it knows.
use Rattle.std.proofs.Common.{◌≡◌, ℕ, zero, suc, ◌+◌, ◌<◌, ◌≤◌, List, [], ◌∷◌, ◌++◌, length, Some, refl, sym, subst, ◌∙◌, length-append, arith}
use Rattle.std.specs.Prelude.{map, slice_get, nat_lt, is_none, All}
use Rattle.std.specs.List.{AllByRecursion as Each}
use Rattle.std.proofs.lemmas.List.{length-map}
use Rattle.std.proofs.lemmas.List.Elements.{All-from_recursion}
use Rattle.std.proofs.lemmas.Bool.{ltb-true}
use Rattle.spec_script.specs.Captures.{captured_behind, captured, slots_of, numbered_from, job_scope}
use Rattle.spec_script.specs.Faults.{Shape, Size, Twice}
use Rattle.spec_script.specs.Kinds.{Kind, VariableKind}
use Rattle.spec_script.specs.Limits.{most_captured}
use Rattle.spec_script.specs.Scopes.{Named, Scope, named_in}
use Rattle.spec_script.specs.Trees.{Tree, Word, Branch, Trees, Nil, And, place_of}
use Rattle.law_script.specs.Scripts.Soundness.{Known, Has, in_job}
use Rattle.law_script.proofs.Scripts.Lists.{each_more}
use Rattle.law_script.proofs.Scripts.Names.{Stands, Fits, used_has}
use Rattle.law_script.proofs.Scripts.Steps.{Gives, given, refused, going_on, met}

abbrev pub IsCaptured : Known → Named → Type 0
IsCaptured known it = (it.kind ≡ VariableKind) × Has known VariableKind it.number

abbrev pub AreCaptured : Known → List Named → Type 0
AreCaptured known taken = Each (IsCaptured known) taken × (length taken ≤ most_captured)

captured_behind_are : (known : Known) (scope : Scope) → Fits known scope → (before : List Named) → AreCaptured known before → (row : Trees)
    → Gives (AreCaptured known) (captured_behind scope before row)
unfolding captured_behind
captured_behind_are known scope fits before are Nil = given before are
captured_behind_are known scope fits before are (And (Word at name) row) =
    met (nat_lt (length before) most_captured) (Size at) λ room.
    met (is_none (named_in before name)) (Twice at) λ is_new.
    going_on (used_has VariableKind known scope fits (Word at name)) λ slot has.
    let it : Named = record { name = name; kind = VariableKind; number = slot } in
    let sizes : length (before ++ it ∷ []) ≡ length before + 1 = length-append before (it ∷ []) in
    let less : length before < most_captured = ltb-true (length before) most_captured room in
    captured_behind_are known scope fits (before ++ it ∷ []) (each_more (IsCaptured known) before (it ∷ []) are.0 ((refl, has), tt), omega (arith, sizes, less)) row
captured_behind_are known scope fits before are (And tree row) = refused (Shape (place_of tree))

pub captured_are : (known : Known) (scope : Scope) → Fits known scope → (tree : Tree) → Gives (AreCaptured known) (captured scope tree)
captured_are known scope fits (Branch at row) = captured_behind_are known scope fits [] (tt, omega arith) row
captured_are known scope fits tree = refused (Shape (place_of tree))

-- ## What the job knows

pub slots_are : (known : Known) (taken : List Named) → Each (IsCaptured known) taken → All (Has known VariableKind) (slots_of taken)
slots_are known taken are = All-from_recursion (Has known VariableKind) (slots_of taken) (by taken are)
  where
    by : (these : List Named) → Each (IsCaptured known) these → Each (Has known VariableKind) (slots_of these)
    by [] are = tt
    by (it ∷ others) are = (are.0.1, by others are.1)

abbrev variables : List Named → List Kind
variables taken = map (λ slot. VariableKind) (slots_of taken)

variable_at : (taken : List Named) (i : ℕ) → i < length taken → slice_get (variables taken) i ≡ Some VariableKind
variable_at [] i less = absurd (omega (arith, less))
variable_at (it ∷ others) zero less = refl
variable_at (it ∷ others) (suc i) less = variable_at others i (omega (arith, less))

stand_in_job : (known own : Known) (slot : ℕ) (taken : List Named) → Each (IsCaptured known) taken
    → ((i : ℕ) → slot ≤ i → i < slot + length taken → Has own VariableKind i) → Each (Stands own) (numbered_from slot taken)
stand_in_job known own slot [] are have = tt
stand_in_job known own slot (it ∷ others) are have = (
  subst (λ (k : Kind). Has own k slot) (sym are.0.0) (have slot (omega arith) (omega arith)),
  stand_in_job known own (slot + 1) others are.1 (λ i low high. have i (omega (arith, low)) (omega (arith, high))),
)

pub job_fits : (known : Known) (scope : Scope) → Fits known scope → (taken : List Named) → Each (IsCaptured known) taken → Fits (in_job (slots_of taken) known) (job_scope scope taken)
job_fits known scope fits taken are = record {
  names = stand_in_job known (in_job (slots_of taken) known) 0 taken are (λ i low high. variable_at taken i (omega (arith, high)));
  declared = fits.declared;
  next = length-map (slots_of taken) (λ slot. VariableKind) ∙ length-map taken (λ it. it.number);
}
