-- The nodes of an expression: where an operation's operands begin, and which nodes begin an expression.
use Rattle.std.proofs.Common.{◌≡◌, ℕ, suc, ◌+◌, ◌<◌, List, [], ◌∷◌, ◌++◌, length, sym, ap, ◌∙◌, subst, append_assoc, arith, ℤ}
use Rattle.std.proofs.lemmas.Grind.{common_steps}
use Rattle.eio_value.specs.declared.value.TextId.{TextId}
use Rattle.spec_script.specs.Syntax as syntax
use Rattle.spec_script.specs.Syntax.{Expression}
use Rattle.script_forms.specs.Calls.{operator_in}
use Rattle.script_forms.specs.Flat.{flat_expression}
use Rattle.script_code.specs.Standing.{expression_at, behind_expression}
use Rattle.script_forms.specs.declared.node.Node.{Node}
use Rattle.script_forms.specs.declared.node.Node.TheVariants as node
use Rattle.script_forms.specs.declared.node.Operator.{Operator}
use Rattle.fiber_step.specs.Having.{HasExpression}
use Rattle.fiber_step.proofs.Places.{Here, IsAt, behind_these, first_here, same_node, expression_here}

-- ## Expressions

starts : (nodes : List Node) (at : ℕ) (e : Expression) (behind : List Node) → Here nodes at (flat_expression e ++ behind) → at < length nodes
unfolding flat_expression
starts nodes at (syntax.NumberValue z) behind here = (first_here nodes at _ _ here).0
starts nodes at (syntax.TextValue text) behind here = (first_here nodes at _ _ here).0
starts nodes at (syntax.Variable slot) behind here = (first_here nodes at _ _ here).0
starts nodes at syntax.UnitValue behind here = (first_here nodes at _ _ here).0
starts nodes at (syntax.Operation operator left right) behind here = (first_here nodes at _ _ here).0

-- an expression begins at a node of the script
pub has_within : (nodes : List Node) (at : ℕ) → HasExpression nodes at → at < length nodes
has_within nodes at has = starts nodes at has.expression has.behind has.is

long : (e : Expression) → 0 < length (flat_expression e)
unfolding flat_expression
long (syntax.NumberValue z) = omega arith
long (syntax.TextValue text) = omega arith
long (syntax.Variable slot) = omega arith
long syntax.UnitValue = omega arith
long (syntax.Operation operator left right) = omega arith

pub behind_is_later : (nodes : List Node) (at : ℕ) → HasExpression nodes at → at < behind_expression nodes at
behind_is_later nodes at has = let some = long (expression_at nodes at) in omega arith

longer : (at : ℕ) (first second : List Node) → at + suc (length (first ++ second)) ≡ at + 1 + length first + length second
longer at first second = grind (arith, common_steps)

-- the operands of an operation, and how long it is
pub record HasOperands (nodes : List Node) (at : ℕ) : Type 0 where
  pub left : HasExpression nodes (at + 1)
  pub right : HasExpression nodes (behind_expression nodes (at + 1))
  pub behind : behind_expression nodes at ≡ behind_expression nodes (behind_expression nodes (at + 1))

by_operands : (nodes : List Node) (at : ℕ) (operator : Operator) (e : Expression) (behind : List Node)
    → Here nodes at (flat_expression e ++ behind) → IsAt nodes at (node.Operation operator) → HasOperands nodes at
unfolding flat_expression
by_operands nodes at operator (syntax.NumberValue z) behind here is = let bad = same_node nodes at _ _ _ here is in cc
by_operands nodes at operator (syntax.TextValue text) behind here is = let bad = same_node nodes at _ _ _ here is in cc
by_operands nodes at operator (syntax.Variable slot) behind here is = let bad = same_node nodes at _ _ _ here is in cc
by_operands nodes at operator syntax.UnitValue behind here is = let bad = same_node nodes at _ _ _ here is in cc
by_operands nodes at operator (syntax.Operation own left right) behind here is =
    let first = flat_expression left in
    let second = flat_expression right in
    let head = node.Operation (operator_in own) in
    let inner : Here nodes (at + 1) (first ++ (second ++ behind)) = behind_these nodes at (head ∷ []) ((first ++ second) ++ behind) here ∙ append_assoc first second behind in
    let left_is = expression_here nodes (at + 1) left (second ++ behind) inner in
    let next = behind_these nodes (at + 1) first (second ++ behind) inner in
    let here_too : behind_expression nodes (at + 1) ≡ at + 1 + length first = ap (λ e. at + 1 + length (flat_expression e)) left_is in
    let right_here : Here nodes (behind_expression nodes (at + 1)) (second ++ behind) = subst (λ k. Here nodes k (second ++ behind)) (sym here_too) next in
    let right_is = expression_here nodes (behind_expression nodes (at + 1)) right behind right_here in
    let whole = expression_here nodes at (syntax.Operation own left right) behind here in
    record {
      left = record { expression = left; behind = second ++ behind; is = inner };
      right = record { expression = right; behind = behind; is = right_here };
      behind = ap (λ e. at + length (flat_expression e)) whole
          ∙ (longer at first second ∙ (ap (λ k. k + length second) (sym here_too) ∙ ap (λ e. behind_expression nodes (at + 1) + length (flat_expression e)) (sym right_is)));
    }

pub has_operands : (nodes : List Node) (at : ℕ) (operator : Operator) → HasExpression nodes at → IsAt nodes at (node.Operation operator) → HasOperands nodes at
has_operands nodes at operator has is = by_operands nodes at operator has.expression has.behind has.is is

-- no other node begins an expression
pub no_other : (nodes : List Node) (at : ℕ) (n : Node) → HasExpression nodes at → IsAt nodes at n → ((z : ℤ) → n ≡ node.Number z → ⊥) → ((text : TextId) → n ≡ node.Text text → ⊥)
    → ((slot : ℕ) → n ≡ node.Variable slot → ⊥) → (n ≡ node.Unit → ⊥) → ((operator : Operator) → n ≡ node.Operation operator → ⊥) → ⊥
unfolding flat_expression
no_other nodes at n has is numbers texts variables units operations = by has.expression has.is
  where
    by : (e : Expression) → Here nodes at (flat_expression e ++ has.behind) → ⊥
    by (syntax.NumberValue z) here = numbers z (sym (same_node nodes at _ n _ here is))
    by (syntax.TextValue text) here = texts text (sym (same_node nodes at _ n _ here is))
    by (syntax.Variable slot) here = variables slot (sym (same_node nodes at _ n _ here is))
    by syntax.UnitValue here = units (sym (same_node nodes at _ n _ here is))
    by (syntax.Operation operator left right) here = operations (operator_in operator) (sym (same_node nodes at _ n _ here is))
