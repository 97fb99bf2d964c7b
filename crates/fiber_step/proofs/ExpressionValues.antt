-- The value of an expression by its first node.
use Rattle.std.proofs.Common.{◌≡◌, ℕ, zero, suc, ◌+◌, List, length, refl, sym, ap, ◌∙◌, subst, arith, ℤ}
use Rattle.eio_value.specs.declared.plain.Plain.{Plain}
use Rattle.eio_value.specs.declared.value.TextId.{TextId}
use Rattle.eio_value.specs.declared.value.Value.{Value}
use Rattle.eio_value.specs.declared.value.Value.TheVariants as value
use Rattle.script_forms.specs.Calls.{operator_of}
use Rattle.script_forms.specs.Flat.{flat_expression}
use Rattle.script_code.specs.Standing.{expression_at, behind_expression, Stands}
use Rattle.script_forms.specs.declared.node.Node.{Node}
use Rattle.script_forms.specs.declared.node.Node.TheVariants as node
use Rattle.script_forms.specs.declared.node.Operator.{Operator}
use Rattle.spec_fiber.specs.Evaluation.{Evaluated, Is, Raises, value_at, value_of, ◌then◌, operated}

-- what a node that begins an expression says of it
said : (nodes : List Node) (at : ℕ) (n m : Node) → Stands nodes at n → n ≡ m → Stands nodes at m
said nodes at n m stands e = subst (λ it. Stands nodes at it) e stands

one_more : (at : ℕ) → at + 1 ≡ at + suc zero
one_more at = omega arith

-- ## One node

-- one node is the whole expression, and this its value
pub record IsLeaf (variables : List Value) (nodes : List Node) (at : ℕ) (v : Value) : Type 0 where
  pub is : Is v ≡ value_of variables (expression_at nodes at)
  pub behind : at + 1 ≡ behind_expression nodes at

pub number_leaf : (variables : List Value) (nodes : List Node) (at : ℕ) (n : Node) (z : ℤ) → Stands nodes at n → n ≡ node.Number z → IsLeaf variables nodes at (value.Int z)
unfolding value_of flat_expression
number_leaf variables nodes at n z stands e =
    let is = sym (said nodes at n (node.Number z) stands e) in
    record { is = ap (value_of variables) is; behind = one_more at ∙ ap (λ e. at + length (flat_expression e)) is }

pub text_leaf : (variables : List Value) (nodes : List Node) (at : ℕ) (n : Node) (text : TextId) → Stands nodes at n → n ≡ node.Text text → IsLeaf variables nodes at (value.Text text)
unfolding value_of flat_expression
text_leaf variables nodes at n text stands e =
    let is = sym (said nodes at n (node.Text text) stands e) in
    record { is = ap (value_of variables) is; behind = one_more at ∙ ap (λ e. at + length (flat_expression e)) is }

pub variable_leaf : (variables : List Value) (nodes : List Node) (at : ℕ) (n : Node) (slot : ℕ) → Stands nodes at n → n ≡ node.Variable slot → IsLeaf variables nodes at (value_at variables slot)
unfolding value_of flat_expression
variable_leaf variables nodes at n slot stands e =
    let is = sym (said nodes at n (node.Variable slot) stands e) in
    record { is = ap (value_of variables) is; behind = one_more at ∙ ap (λ e. at + length (flat_expression e)) is }

pub unit_leaf : (variables : List Value) (nodes : List Node) (at : ℕ) (n : Node) → Stands nodes at n → n ≡ node.Unit → IsLeaf variables nodes at value.Unit
unfolding value_of flat_expression
unit_leaf variables nodes at n stands e =
    let is = sym (said nodes at n node.Unit stands e) in
    record { is = ap (value_of variables) is; behind = one_more at ∙ ap (λ e. at + length (flat_expression e)) is }

-- ## Operations

-- the value of an operation by those of its operands
by_operands : (variables : List Value) (nodes : List Node) (at : ℕ) (n : Node) (operator : Operator) (left right : Evaluated Value) → Stands nodes at n → n ≡ node.Operation operator
    → left ≡ value_of variables (expression_at nodes (at + 1)) → right ≡ value_of variables (expression_at nodes (behind_expression nodes (at + 1)))
    → (left then λ a. right then λ b. operated (operator_of operator) a b) ≡ value_of variables (expression_at nodes at)
unfolding value_of
by_operands variables nodes at n operator left right stands e first second =
    ap (λ it. it then λ a. right then λ b. operated (operator_of operator) a b) first
    ∙ (ap (λ it. value_of variables (expression_at nodes (at + 1)) then λ a. it then λ b. operated (operator_of operator) a b) second
    ∙ ap (value_of variables) (sym (said nodes at n (node.Operation operator) stands e)))

pub left_raises : (variables : List Value) (nodes : List Node) (at : ℕ) (n : Node) (operator : Operator) (what : Plain) → Stands nodes at n → n ≡ node.Operation operator
    → Raises what ≡ value_of variables (expression_at nodes (at + 1)) → Raises what ≡ value_of variables (expression_at nodes at)
left_raises variables nodes at n operator what stands e first = by_operands variables nodes at n operator (Raises what) _ stands e first refl

pub right_raises : (variables : List Value) (nodes : List Node) (at : ℕ) (n : Node) (operator : Operator) (left : Value) (what : Plain) → Stands nodes at n → n ≡ node.Operation operator
    → Is left ≡ value_of variables (expression_at nodes (at + 1)) → Raises what ≡ value_of variables (expression_at nodes (behind_expression nodes (at + 1)))
    → Raises what ≡ value_of variables (expression_at nodes at)
right_raises variables nodes at n operator left what stands e first second = by_operands variables nodes at n operator (Is left) (Raises what) stands e first second

pub both_are : (variables : List Value) (nodes : List Node) (at : ℕ) (n : Node) (operator : Operator) (left right : Value) → Stands nodes at n → n ≡ node.Operation operator
    → Is left ≡ value_of variables (expression_at nodes (at + 1)) → Is right ≡ value_of variables (expression_at nodes (behind_expression nodes (at + 1)))
    → operated (operator_of operator) left right ≡ value_of variables (expression_at nodes at)
both_are variables nodes at n operator left right stands e first second = by_operands variables nodes at n operator (Is left) (Is right) stands e first second
