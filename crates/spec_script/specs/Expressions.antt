-- The expressions that trees stand for: a number, a text, a variable, `(unit)`, or one of the operators on two expressions.
use Rattle.std.specs.Prelude.{ℕ, ◌+◌, Bool, false, nat_le, not, Option, Some}
use Rattle.spec_script.specs.declared.Feature.TheVariants.{Exceptions}
use Rattle.spec_script.specs.Limits.{most_traced}
use Rattle.spec_script.specs.Trees.{Tree, Word, Number, Text, Branch, Trees, Nil, And}
use Rattle.spec_script.specs.Faults.{Shape, Size}
use Rattle.spec_script.specs.Syntax.{Expression, NumberValue, TextValue, Variable, UnitValue, Operation, Expressions, NoExpressions, AndExpression}
use Rattle.spec_script.specs.Kinds.{VariableKind}
use Rattle.spec_script.specs.Reads.{Reads, Makes, ◌>>>◌, gives, refuses, requires_that, one_node, one_form, interned}
use Rattle.spec_script.specs.Scopes.{Scope, used}
use Rattle.spec_script.specs.Forms.{ExpressionHead, UnitHead, OperatorHead, expression_head}

-- an item where as many stand as may be is refused once its own shape fits, and before anything inside it
abbrev pub has_room : (full : Bool) → (at : ℕ) → Makes
has_room full at = requires_that (not full) (Size at)

unfoldable mutual
  -- an item that is an expression; `full` says that as many stand before it as may be
  pub item : Scope → (full : Bool) → Tree → Reads Expression
  item scope full (Word at name) = has_room full at >>> λ _. one_node >>> λ _. used VariableKind scope (Word at name) >>> λ slot. gives (Variable slot)
  item scope full (Number at z) = has_room full at >>> λ _. one_node >>> λ _. gives (NumberValue z)
  item scope full (Text at text) = has_room full at >>> λ _. one_node >>> λ _. interned text >>> λ id. gives (TextValue id)
  item scope full (Branch at (And (Word place word) operands)) = operation scope full at (expression_head word) operands
  item scope full (Branch at row) = refuses (Shape at)

  -- an expression by its word
  pub operation : Scope → (full : Bool) → (at : ℕ) → Option ExpressionHead → Trees → Reads Expression
  operation scope full at (Some UnitHead) Nil = has_room full at >>> λ _. one_form at Exceptions false >>> λ _. one_node >>> λ _. gives UnitValue
  operation scope full at (Some (OperatorHead operator)) (And first (And second Nil)) =
      has_room full at >>> λ _. one_form at Exceptions false >>> λ _. one_node >>> λ _.
      item scope false first >>> λ left. item scope false second >>> λ right. gives (Operation operator left right)
  operation scope full at head operands = refuses (Shape at)

abbrev pub expression : Scope → Tree → Reads Expression
expression scope tree = item scope false tree

-- the operands of `trace`, of which n came before
unfoldable pub traced : Scope → (n : ℕ) → Trees → Reads Expressions
traced scope n Nil = gives NoExpressions
traced scope n (And tree row) = item scope (nat_le most_traced n) tree >>> λ first. traced scope (n + 1) row >>> λ others. gives (AndExpression first others)
