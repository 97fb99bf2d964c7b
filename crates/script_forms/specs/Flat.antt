-- The nodes of a script's syntax, in reading order. A node of a statement with blocks knows the number of each block, and that of the
-- node behind all that belongs to it.
use Rattle.std.specs.Prelude.{ℕ, ◌+◌, List, [], ◌∷◌, ◌++◌, length}
use Rattle.spec_script.specs.Scripts.{Script}
use Rattle.spec_script.specs.Syntax as syntax
use Rattle.spec_script.specs.Syntax.{Expression, Expressions, Statement, Statements, Block, Begins, Blocks, NoBlocks, AndBlock}
use Rattle.script_forms.specs.Calls.{operator_in, object_call_in, object_call_with_in, reader_call_in, path_call_in, group_in, forking_in, directory_in}
use Rattle.script_forms.specs.declared.node.Node.{Node}
use Rattle.script_forms.specs.declared.node.Node.TheVariants as node

-- ## Expressions

unfoldable pub flat_expression : Expression → List Node
flat_expression (syntax.NumberValue z) = node.Number z ∷ []
flat_expression (syntax.TextValue text) = node.Text text ∷ []
flat_expression (syntax.Variable slot) = node.Variable slot ∷ []
flat_expression syntax.UnitValue = node.Unit ∷ []
flat_expression (syntax.Operation operator left right) = node.Operation (operator_in operator) ∷ (flat_expression left ++ flat_expression right)

unfoldable pub flat_expressions : Expressions → List Node
flat_expressions syntax.NoExpressions = []
flat_expressions (syntax.AndExpression e rest) = flat_expression e ++ flat_expressions rest

unfoldable pub expression_count : Expressions → ℕ
expression_count syntax.NoExpressions = 0
expression_count (syntax.AndExpression e rest) = expression_count rest + 1

-- ## Statements

-- a node with this number before what belongs to it; it knows the number behind all that
abbrev pub headed : (at : ℕ) → (ℕ → Node) → List Node → List Node
headed at head inner = head (at + 1 + length inner) ∷ inner

abbrev pub number_of : Block → ℕ
number_of (Begins number items) = number

unfoldable pub numbers_of : Blocks → List ℕ
numbers_of NoBlocks = []
numbers_of (AndBlock block rest) = number_of block ∷ numbers_of rest

unfoldable mutual
  -- the nodes of a statement, the first of which has this number
  pub flat_statement : (at : ℕ) → Statement → List Node
  flat_statement at (syntax.Let e) = node.Let ∷ flat_expression e
  flat_statement at (syntax.LetForm form) = node.LetForm ∷ flat_statement (at + 1) form
  flat_statement at (syntax.If e (Begins n then_items) (Begins m else_items)) =
      let test = flat_expression e in
      let first = test ++ flat_statements (at + 1 + length test) then_items in
      headed at (λ after. node.If n m after) (first ++ flat_statements (at + 1 + length first) else_items)
  flat_statement at (syntax.Give e) = node.Give ∷ flat_expression e
  flat_statement at (syntax.Raise text) = node.Raise text ∷ []
  flat_statement at (syntax.Try (Begins n tried) (Begins m handler)) =
      let first = flat_statements (at + 1) tried in
      headed at (λ after. node.Try n m after) (first ++ flat_statements (at + 1 + length first) handler)
  flat_statement at (syntax.Repeat times (Begins n body)) =
      let first = flat_expression times in
      headed at (λ after. node.Repeat n after) (first ++ flat_statements (at + 1 + length first) body)
  flat_statement at (syntax.Loop (Begins n body)) = headed at (λ after. node.Loop n after) (flat_statements (at + 1) body)
  flat_statement at (syntax.Trace operands) = node.Trace (expression_count operands) ∷ flat_expressions operands
  flat_statement at syntax.Yield = node.Yield ∷ []
  flat_statement at syntax.Check = node.Check ∷ []
  flat_statement at syntax.AwaitCancel = node.AwaitCancel ∷ []
  flat_statement at (syntax.Sub (Begins n body)) = headed at (λ after. node.Sub n after) (flat_statements (at + 1) body)
  flat_statement at (syntax.Protect (Begins n body)) = headed at (λ after. node.Protect n after) (flat_statements (at + 1) body)
  flat_statement at (syntax.Cancel context text) = node.Cancel context text ∷ []
  flat_statement at (syntax.Switch (Begins n body)) = headed at (λ after. node.Switch n after) (flat_statements (at + 1) body)
  flat_statement at (syntax.Fork forking switch (Begins n body)) =
      headed at (λ after. node.Fork (forking_in forking) switch n after) (flat_statements (at + 1) body)
  flat_statement at (syntax.Fail switch text) = node.Fail switch text ∷ []
  flat_statement at (syntax.OnRelease switch (Begins n handler)) = headed at (λ after. node.OnRelease switch n after) (flat_statements (at + 1) handler)
  flat_statement at (syntax.Branches group blocks) =
      headed at (λ after. node.Branches (group_in group) (numbers_of blocks) after) (flat_blocks (at + 1) blocks)
  flat_statement at (syntax.OnObject call object) = node.OnObject (object_call_in call) object ∷ []
  flat_statement at (syntax.OnObjectWith call object operand) = node.OnObjectWith (object_call_with_in call) object ∷ flat_expression operand
  flat_statement at (syntax.UseRw mutex (Begins n body)) = headed at (λ after. node.UseRw mutex n after) (flat_statements (at + 1) body)
  flat_statement at (syntax.UsePool pool (Begins n body)) = headed at (λ after. node.UsePool pool n after) (flat_statements (at + 1) body)
  flat_statement at (syntax.Submit executor weight captured (Begins n job)) =
      headed at (λ after. node.Submit executor weight captured n after) (flat_statements (at + 1) job)
  flat_statement at (syntax.Sleep time) = node.Sleep ∷ flat_expression time
  flat_statement at syntax.Now = node.Now ∷ []
  flat_statement at (syntax.BufRead flow limit (Begins n body)) = headed at (λ after. node.BufRead flow limit n after) (flat_statements (at + 1) body)
  flat_statement at (syntax.OnReader call reader) = node.OnReader (reader_call_in call) reader ∷ []
  flat_statement at (syntax.TakeBytes reader count) = node.TakeBytes reader ∷ flat_expression count
  flat_statement at (syntax.Copy from to) = node.Copy from to ∷ []
  flat_statement at (syntax.BufWrite flow (Begins n body)) = headed at (λ after. node.BufWrite flow n after) (flat_statements (at + 1) body)
  flat_statement at (syntax.Put writer text) = node.Put writer ∷ flat_expression text
  flat_statement at (syntax.OpenDir directory path (Begins n body)) =
      let first = flat_expression path in
      headed at (λ after. node.OpenDir (directory_in directory) n after) (first ++ flat_statements (at + 1 + length first) body)
  flat_statement at (syntax.OnPath call directory path) = node.OnPath (path_call_in call) (directory_in directory) ∷ flat_expression path
  flat_statement at (syntax.Save only_new directory path content) =
      node.Save only_new (directory_in directory) ∷ (flat_expression path ++ flat_expression content)

  -- those of a block's statements, with its end
  pub flat_statements : (at : ℕ) → Statements → List Node
  flat_statements at syntax.Done = node.End ∷ []
  flat_statements at (syntax.Then it rest) = let first = flat_statement at it in first ++ flat_statements (at + length first) rest

  -- those of branches, one behind the other
  pub flat_blocks : (at : ℕ) → Blocks → List Node
  flat_blocks at NoBlocks = []
  flat_blocks at (AndBlock (Begins n items) rest) = let first = flat_statements at items in first ++ flat_blocks (at + length first) rest

abbrev pub flat_block : (at : ℕ) → Block → List Node
flat_block at (Begins number items) = flat_statements at items

-- those of bodies, one behind the other
unfoldable pub flat_bodies : (at : ℕ) → List Block → List Node
flat_bodies at [] = []
flat_bodies at (Begins n items ∷ rest) = let first = flat_statements at items in first ++ flat_bodies (at + length first) rest

-- those of a script
abbrev pub nodes_of : Script → List Node
nodes_of script = flat_bodies 0 script.bodies
