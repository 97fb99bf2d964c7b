-- The heads of expressions in the code as those of the definitions.
use Rattle.std.specs.Prelude.{ℕ, false}
use Rattle.spec_script.specs.Trees.{Trees, Nil, And}
use Rattle.spec_script.specs.Faults.{Shape}
use Rattle.spec_script.specs.Syntax.{Operator, Expression, Operation}
use Rattle.spec_script.specs.Reads.{Reads, ◌>>>◌, gives, refuses, one_node}
use Rattle.spec_script.specs.Scopes.{Scope}
use Rattle.spec_script.specs.Expressions.{item}
use Rattle.spec_script.specs.Forms as forms
use Rattle.script_forms.specs.Calls.{operator_of}
use Rattle.script_statements.specs.declared.expressions.ExpressionHead.{ExpressionHead}
use Rattle.script_statements.specs.declared.expressions.ExpressionHead.TheVariants as expression

abbrev pub expression_head_of : ExpressionHead → forms.ExpressionHead
expression_head_of expression.Unit = forms.UnitHead
expression_head_of (expression.Operator operator) = forms.OperatorHead (operator_of operator)

abbrev pub operand_count : ExpressionHead → ℕ
operand_count expression.Unit = 0
operand_count (expression.Operator operator) = 2

-- the node of an operator, and its two operands
abbrev pub operands : Scope → Operator → Trees → Reads Expression
operands scope operator (And first (And second Nil)) =
    one_node >>> λ _. item scope false first >>> λ left. item scope false second >>> λ right. gives (Operation operator left right)
operands scope operator items = refuses (Shape 0)
