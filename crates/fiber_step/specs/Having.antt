-- What belongs to the nodes of a script that a fiber comes to: operands, blocks, and what stands behind a statement.
-- Where a block begins, its statements stand in reading order, their blocks are numbered where they begin, and each number is within its limits.
use Rattle.std.specs.Prelude.{◌≡◌, ℕ, zero, suc, ◌+◌, ◌≤◌, List, ◌++◌, drop, length}
use Rattle.std.specs.List.{AllByRecursion as Each}
use Rattle.spec_script.specs.Limits.{most_traced, most_captured}
use Rattle.spec_script.specs.Syntax.{Expression, Statement, Statements, Then}
use Rattle.law_script.specs.Scripts.Soundness.{Known, IsSoundStatement, AreSoundStatements, HasItsBranches}
use Rattle.script_forms.specs.Calls.{group_of}
use Rattle.script_forms.specs.Flat.{flat_expression, flat_statements}
use Rattle.script_code.specs.Numbered.{AreNumbered}
use Rattle.script_code.specs.Standing.{behind_expression, behind_expressions}
use Rattle.script_forms.specs.declared.node.Node.{Node}
use Rattle.script_forms.specs.declared.node.Node.TheVariants as node

-- an expression begins at this number
pub record HasExpression (nodes : List Node) (number : ℕ) : Type 0 where
  pub expression : Expression
  pub behind : List Node
  pub is : drop number nodes ≡ flat_expression expression ++ behind

-- so many expressions, one behind the other
abbrev pub HasExpressions : List Node → (count number : ℕ) → Type 0
HasExpressions nodes zero number = Unit {0}
HasExpressions nodes (suc count) number = HasExpression nodes number × HasExpressions nodes count (behind_expression nodes number)

-- the statements of a block that are left begin at this number
pub record HasStatements (nodes : List Node) (number : ℕ) : Type 0 where
  pub known : Known
  pub statements : Statements
  pub behind : List Node
  pub is : drop number nodes ≡ flat_statements number statements ++ behind
  pub numbered : AreNumbered number statements
  pub sound : AreSoundStatements known statements

-- a statement begins at this number, and others may be left behind it, which may know more
pub record BeginsStatement (nodes : List Node) (number : ℕ) : Type 0 where
  pub known : Known
  pub later : Known
  pub first : Statement
  pub others : Statements
  pub behind : List Node
  pub is : drop number nodes ≡ flat_statements number (Then first others) ++ behind
  pub numbered : AreNumbered number (Then first others)
  pub sound : IsSoundStatement known first
  pub others_sound : AreSoundStatements later others

-- a node that begins no statement
abbrev pub NoStatement : Type 0
NoStatement = ⊥

-- one operand, and what is left of the block behind it
abbrev pub HasOperand : List Node → (at : ℕ) → Type 0
HasOperand nodes at = HasExpression nodes (at + 1) × HasStatements nodes (behind_expression nodes (at + 1))

-- a block within a statement, and what is left behind it
abbrev pub HasInner : List Node → (body after : ℕ) → Type 0
HasInner nodes body after = HasStatements nodes body × HasStatements nodes after

-- the parts of the statement that this node begins
abbrev pub HasParts : List Node → (at : ℕ) → Node → Type 0
HasParts nodes at node.End = NoStatement
HasParts nodes at (node.Number z) = NoStatement
HasParts nodes at (node.Text text) = NoStatement
HasParts nodes at (node.Variable slot) = NoStatement
HasParts nodes at node.Unit = NoStatement
HasParts nodes at (node.Operation operator) = NoStatement
HasParts nodes at node.Let = HasOperand nodes at
HasParts nodes at node.LetForm = BeginsStatement nodes (at + 1)
HasParts nodes at (node.If n m after) = HasExpression nodes (at + 1) × HasStatements nodes n × HasStatements nodes m × HasStatements nodes after
HasParts nodes at node.Give = HasOperand nodes at
HasParts nodes at (node.Try n m after) = HasStatements nodes n × HasStatements nodes m × HasStatements nodes after
HasParts nodes at (node.Repeat n after) = HasExpression nodes (at + 1) × HasInner nodes n after
HasParts nodes at (node.Loop n after) = HasInner nodes n after
HasParts nodes at (node.Trace count) = (count ≤ most_traced) × HasExpressions nodes count (at + 1) × HasStatements nodes (behind_expressions nodes count (at + 1))
HasParts nodes at (node.Sub n after) = HasInner nodes n after
HasParts nodes at (node.Protect n after) = HasInner nodes n after
HasParts nodes at (node.Switch n after) = HasInner nodes n after
HasParts nodes at (node.Fork forking switch n after) = HasInner nodes n after
HasParts nodes at (node.OnRelease switch n after) = HasInner nodes n after
HasParts nodes at (node.Branches group numbers after) = Each (HasStatements nodes) numbers × HasItsBranches (group_of group) (length numbers) × HasStatements nodes after
HasParts nodes at (node.OnObjectWith call object) = HasOperand nodes at
HasParts nodes at (node.UseRw mutex n after) = HasInner nodes n after
HasParts nodes at (node.UsePool pool n after) = HasInner nodes n after
HasParts nodes at (node.Submit executor weight captured n after) = (length captured ≤ most_captured) × HasInner nodes n after
HasParts nodes at node.Sleep = HasOperand nodes at
HasParts nodes at (node.BufRead flow limit n after) = HasInner nodes n after
HasParts nodes at (node.TakeBytes reader) = HasOperand nodes at
HasParts nodes at (node.BufWrite flow n after) = HasInner nodes n after
HasParts nodes at (node.Put writer) = HasOperand nodes at
HasParts nodes at (node.OpenDir directory n after) = HasExpression nodes (at + 1) × HasInner nodes n after
HasParts nodes at (node.OnPath call directory) = HasOperand nodes at
HasParts nodes at (node.Save only_new directory) =
    HasExpression nodes (at + 1) × HasExpression nodes (behind_expression nodes (at + 1)) × HasStatements nodes (behind_expression nodes (behind_expression nodes (at + 1)))
HasParts nodes at other = HasStatements nodes (at + 1)
