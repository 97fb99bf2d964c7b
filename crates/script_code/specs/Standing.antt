-- What stands at the nodes of a script, by their numbers: the statements from a node on, and the expression that begins at one.
-- A node says how the statements from it on begin, and with which node they go on.
use Rattle.std.specs.Prelude.{◌≡◌, ℕ, zero, suc, ◌+◌, ◌<◌, List, [], ◌∷◌, length, drop}
use Rattle.std.specs.List.{AllByRecursion as Each}
use Rattle.spec_script.specs.Syntax as syntax
use Rattle.spec_script.specs.Syntax.{Expression, Expressions, NoExpressions, AndExpression, Statement, Statements, Done, Then, Block, Begins, Blocks, NoBlocks, AndBlock}
use Rattle.script_forms.specs.Calls.{operator_of, object_call_of, object_call_with_of, reader_call_of, path_call_of, group_of, forking_of, directory_of}
use Rattle.script_forms.specs.Flat.{flat_expression}
use Rattle.script_code.specs.Unflat.{first_rest, operand, bound, unflat}
use Rattle.script_forms.specs.declared.node.Node.{Node}
use Rattle.script_forms.specs.declared.node.Node.TheVariants as node

-- the statements from a node on, up to the end of their block
unfoldable pub statements_at : List Node → (number : ℕ) → Statements
statements_at nodes number = first_rest (unflat (drop number nodes)).blocks

abbrev pub block_at : List Node → (number : ℕ) → Block
block_at nodes number = Begins number (statements_at nodes number)

abbrev pub blocks_at : List Node → (numbers : List ℕ) → Blocks
blocks_at nodes [] = NoBlocks
blocks_at nodes (number ∷ numbers) = AndBlock (block_at nodes number) (blocks_at nodes numbers)

unfoldable pub expression_at : List Node → (number : ℕ) → Expression
expression_at nodes number = operand (unflat (drop number nodes))

-- the number behind an expression
abbrev pub behind_expression : List Node → (number : ℕ) → ℕ
behind_expression nodes number = number + length (flat_expression (expression_at nodes number))

-- so many expressions, one behind the other
abbrev pub expressions_at : List Node → (count number : ℕ) → Expressions
expressions_at nodes zero number = NoExpressions
expressions_at nodes (suc count) number = AndExpression (expression_at nodes number) (expressions_at nodes count (behind_expression nodes number))

abbrev pub behind_expressions : List Node → (count number : ℕ) → ℕ
behind_expressions nodes zero number = number
behind_expressions nodes (suc count) number = behind_expressions nodes count (behind_expression nodes number)

-- from a node on stands a statement, and behind it what stands from another on
abbrev pub States : List Node → (at : ℕ) → Statement → (after : ℕ) → Type 0
States nodes at it after = statements_at nodes at ≡ Then it (statements_at nodes after)

abbrev pub Stands : List Node → (at : ℕ) → Node → Type 0
Stands nodes at node.End = statements_at nodes at ≡ Done
Stands nodes at (node.Number z) = expression_at nodes at ≡ syntax.NumberValue z
Stands nodes at (node.Text text) = expression_at nodes at ≡ syntax.TextValue text
Stands nodes at (node.Variable slot) = expression_at nodes at ≡ syntax.Variable slot
Stands nodes at node.Unit = expression_at nodes at ≡ syntax.UnitValue
Stands nodes at (node.Operation operator) =
    expression_at nodes at ≡ syntax.Operation (operator_of operator) (expression_at nodes (at + 1)) (expression_at nodes (behind_expression nodes (at + 1)))
Stands nodes at node.Let = States nodes at (syntax.Let (expression_at nodes (at + 1))) (behind_expression nodes (at + 1))
Stands nodes at node.LetForm = statements_at nodes at ≡ bound (statements_at nodes (at + 1))
Stands nodes at (node.If n m after) = States nodes at (syntax.If (expression_at nodes (at + 1)) (block_at nodes n) (block_at nodes m)) after
Stands nodes at node.Give = States nodes at (syntax.Give (expression_at nodes (at + 1))) (behind_expression nodes (at + 1))
Stands nodes at (node.Try n m after) = States nodes at (syntax.Try (block_at nodes n) (block_at nodes m)) after
Stands nodes at (node.Repeat n after) = States nodes at (syntax.Repeat (expression_at nodes (at + 1)) (block_at nodes n)) after
Stands nodes at (node.Trace count) = States nodes at (syntax.Trace (expressions_at nodes count (at + 1))) (behind_expressions nodes count (at + 1))
Stands nodes at (node.Fork forking switch n after) = States nodes at (syntax.Fork (forking_of forking) switch (block_at nodes n)) after
Stands nodes at (node.Branches group numbers after) = States nodes at (syntax.Branches (group_of group) (blocks_at nodes numbers)) after
Stands nodes at (node.OnObject call object) = States nodes at (syntax.OnObject (object_call_of call) object) (at + 1)
Stands nodes at (node.OnObjectWith call object) =
    States nodes at (syntax.OnObjectWith (object_call_with_of call) object (expression_at nodes (at + 1))) (behind_expression nodes (at + 1))
Stands nodes at node.Sleep = States nodes at (syntax.Sleep (expression_at nodes (at + 1))) (behind_expression nodes (at + 1))
Stands nodes at (node.OnReader call reader) = States nodes at (syntax.OnReader (reader_call_of call) reader) (at + 1)
Stands nodes at (node.TakeBytes reader) = States nodes at (syntax.TakeBytes reader (expression_at nodes (at + 1))) (behind_expression nodes (at + 1))
Stands nodes at (node.Put writer) = States nodes at (syntax.Put writer (expression_at nodes (at + 1))) (behind_expression nodes (at + 1))
Stands nodes at (node.OpenDir directory n after) = States nodes at (syntax.OpenDir (directory_of directory) (expression_at nodes (at + 1)) (block_at nodes n)) after
Stands nodes at (node.OnPath call directory) =
    States nodes at (syntax.OnPath (path_call_of call) (directory_of directory) (expression_at nodes (at + 1))) (behind_expression nodes (at + 1))
Stands nodes at (node.Save only_new directory) =
    States nodes at (syntax.Save only_new (directory_of directory) (expression_at nodes (at + 1)) (expression_at nodes (behind_expression nodes (at + 1))))
    (behind_expression nodes (behind_expression nodes (at + 1)))
Stands nodes at (node.Loop n after) = States nodes at (syntax.Loop (block_at nodes n)) after
Stands nodes at (node.Sub n after) = States nodes at (syntax.Sub (block_at nodes n)) after
Stands nodes at (node.Protect n after) = States nodes at (syntax.Protect (block_at nodes n)) after
Stands nodes at (node.Switch n after) = States nodes at (syntax.Switch (block_at nodes n)) after
Stands nodes at (node.OnRelease switch n after) = States nodes at (syntax.OnRelease switch (block_at nodes n)) after
Stands nodes at (node.UseRw mutex n after) = States nodes at (syntax.UseRw mutex (block_at nodes n)) after
Stands nodes at (node.UsePool pool n after) = States nodes at (syntax.UsePool pool (block_at nodes n)) after
Stands nodes at (node.Submit executor weight captured n after) = States nodes at (syntax.Submit executor weight captured (block_at nodes n)) after
Stands nodes at (node.BufRead flow limit n after) = States nodes at (syntax.BufRead flow limit (block_at nodes n)) after
Stands nodes at (node.BufWrite flow n after) = States nodes at (syntax.BufWrite flow (block_at nodes n)) after
Stands nodes at (node.Raise text) = States nodes at (syntax.Raise text) (at + 1)
Stands nodes at node.Yield = States nodes at syntax.Yield (at + 1)
Stands nodes at node.Check = States nodes at syntax.Check (at + 1)
Stands nodes at node.AwaitCancel = States nodes at syntax.AwaitCancel (at + 1)
Stands nodes at (node.Cancel context text) = States nodes at (syntax.Cancel context text) (at + 1)
Stands nodes at (node.Fail switch text) = States nodes at (syntax.Fail switch text) (at + 1)
Stands nodes at node.Now = States nodes at syntax.Now (at + 1)
Stands nodes at (node.Copy from to) = States nodes at (syntax.Copy from to) (at + 1)

-- each of these nodes says what stands from it on, the first of which has this number
unfoldable pub AllStand : List Node → (at : ℕ) → List Node → Type 0
AllStand nodes at [] = Unit {0}
AllStand nodes at (n ∷ rest) = Stands nodes at n × AllStand nodes (at + 1) rest

-- with so many nodes in all: the numbers that a node names, and that of the node behind it, are those of nodes
abbrev pub GoesOn : (count at : ℕ) → Node → Type 0
GoesOn count at node.End = Unit {0}
GoesOn count at (node.If n m after) = (at + 1 < count) × (n < count) × (m < count) × (after < count)
GoesOn count at (node.Try n m after) = (at + 1 < count) × (n < count) × (m < count) × (after < count)
GoesOn count at (node.Branches group numbers after) = (at + 1 < count) × Each (λ n. n < count) numbers × (after < count)
GoesOn count at (node.Loop n after) = (at + 1 < count) × (n < count) × (after < count)
GoesOn count at (node.Sub n after) = (at + 1 < count) × (n < count) × (after < count)
GoesOn count at (node.Protect n after) = (at + 1 < count) × (n < count) × (after < count)
GoesOn count at (node.Switch n after) = (at + 1 < count) × (n < count) × (after < count)
GoesOn count at (node.OnRelease switch n after) = (at + 1 < count) × (n < count) × (after < count)
GoesOn count at (node.UseRw mutex n after) = (at + 1 < count) × (n < count) × (after < count)
GoesOn count at (node.UsePool pool n after) = (at + 1 < count) × (n < count) × (after < count)
GoesOn count at (node.Submit executor weight captured n after) = (at + 1 < count) × (n < count) × (after < count)
GoesOn count at (node.BufRead flow limit n after) = (at + 1 < count) × (n < count) × (after < count)
GoesOn count at (node.BufWrite flow n after) = (at + 1 < count) × (n < count) × (after < count)
GoesOn count at (node.Fork forking switch n after) = (at + 1 < count) × (n < count) × (after < count)
GoesOn count at (node.Repeat n after) = (at + 1 < count) × (n < count) × (after < count)
GoesOn count at (node.OpenDir directory n after) = (at + 1 < count) × (n < count) × (after < count)
GoesOn count at other = at + 1 < count
