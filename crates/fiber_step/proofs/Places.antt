-- What stands from a number of a script's nodes on.
use Rattle.std.proofs.Common.{◌≡◌, ℕ, zero, suc, ◌+◌, ◌<◌, List, [], ◌∷◌, ◌++◌, length, drop, Some, sym, ap, ◌∙◌, append_assoc, arith}
use Rattle.std.specs.Prelude.{slice_get}
use Rattle.std.proofs.lemmas.List.{drop-drop}
use Rattle.std.proofs.Math.Seq.{drop-append_seam}
use Rattle.spec_script.specs.Syntax.{Expression}
use Rattle.script_forms.specs.Flat.{flat_expression}
use Rattle.script_code.specs.ScriptCode.{unflat_expression}
use Rattle.script_code.specs.Standing.{expression_at}
use Rattle.script_code.specs.Unflat.{operand, unflat}
use Rattle.script_forms.specs.declared.node.Node.{Node}

-- these nodes stand from this number on
abbrev pub Here : List Node → (at : ℕ) → List Node → Type 0
Here nodes at these = drop at nodes ≡ these

-- the node that a number has
abbrev pub IsAt : List Node → (at : ℕ) → Node → Type 0
IsAt nodes at n = slice_get nodes at ≡ Some n

-- so do those behind some of them
pub behind_these : (nodes : List Node) (at : ℕ) (these others : List Node) → Here nodes at (these ++ others) → Here nodes (at + length these) others
behind_these nodes at these others here = sym (drop-drop (length these) at nodes) ∙ (ap (drop (length these)) here ∙ drop-append_seam these others)

-- a node alone, and before others
pub alone : (at : ℕ) → at + suc zero ≡ at + 1
alone at = omega arith

pub with_inner : (at inner : ℕ) → at + suc inner ≡ at + 1 + inner
with_inner at inner = omega arith

pub behind_one : (nodes : List Node) (at : ℕ) (n : Node) (others : List Node) → Here nodes at (n ∷ others) → Here nodes (at + 1) others
behind_one nodes at n others here = ap (λ k. drop k nodes) (sym (alone at)) ∙ behind_these nodes at (n ∷ []) others here

pub in_turn : (nodes : List Node) (at : ℕ) (one two three : List Node) → Here nodes at ((one ++ two) ++ three) → Here nodes at (one ++ (two ++ three))
in_turn nodes at one two three here = here ∙ append_assoc one two three

-- the first of them has this number
pub first_here : (nodes : List Node) (at : ℕ) (n : Node) (others : List Node) → Here nodes at (n ∷ others) → (at < length nodes) × IsAt nodes at n
first_here [] zero n others here = cc
first_here [] (suc at) n others here = cc
first_here (m ∷ nodes) zero n others here = (omega arith, cc)
first_here (m ∷ nodes) (suc at) n others here = let rest = first_here nodes at n others here in let within = rest.0 in (omega arith, rest.1)

pub same_node : (nodes : List Node) (at : ℕ) (m n : Node) (others : List Node) → Here nodes at (m ∷ others) → IsAt nodes at n → m ≡ n
same_node nodes at m n others here is = let found = (first_here nodes at m others here).1 in cc

pub expression_here : (nodes : List Node) (at : ℕ) (e : Expression) (behind : List Node) → Here nodes at (flat_expression e ++ behind) → expression_at nodes at ≡ e
unfolding expression_at
expression_here nodes at e behind here = ap (λ these. operand (unflat these)) here ∙ ap operand (unflat_expression e behind)
