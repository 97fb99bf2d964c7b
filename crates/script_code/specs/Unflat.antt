-- The syntax that nodes stand for, read from the back: each node takes what belongs to it from what stands behind it.
use Rattle.std.specs.Prelude.{ℕ, zero, suc, List, [], ◌∷◌}
use Rattle.spec_script.specs.Syntax as syntax
use Rattle.spec_script.specs.Syntax.{Expression, Expressions, NoExpressions, AndExpression, Statement, Statements, Done, Then, Block, Begins, Blocks, NoBlocks, AndBlock}
use Rattle.script_forms.specs.Calls.{operator_of, object_call_of, object_call_with_of, reader_call_of, path_call_of, group_of, forking_of, directory_of}
use Rattle.script_forms.specs.declared.node.Node.{Node}
use Rattle.script_forms.specs.declared.node.Node.TheVariants as node

-- the expressions, and the rests of blocks, that begin behind a node and that no node there has taken
pub record Behind : Type 0 where
  pub expressions : List Expression
  pub blocks : List Statements

abbrev pub nothing_behind : Behind
nothing_behind = record { expressions = []; blocks = [] }

-- ## What a node takes

-- the first of some expressions; where there is none, `(unit)`
abbrev pub first_expression : List Expression → Expression
first_expression [] = syntax.UnitValue
first_expression (e ∷ es) = e

abbrev pub other_expressions : List Expression → List Expression
other_expressions [] = []
other_expressions (e ∷ es) = es

-- the first of some rests; where there is none, no statement
abbrev pub first_rest : List Statements → Statements
first_rest [] = Done
first_rest (rest ∷ rests) = rest

abbrev pub other_rests : List Statements → List Statements
other_rests [] = []
other_rests (rest ∷ rests) = rests

abbrev pub operand : Behind → Expression
operand behind = first_expression behind.expressions

abbrev pub past_operand : Behind → Behind
past_operand behind = record behind { expressions = other_expressions behind.expressions }

abbrev pub block : (number : ℕ) → Behind → Block
block number behind = Begins number (first_rest behind.blocks)

abbrev pub past_block : Behind → Behind
past_block behind = record behind { blocks = other_rests behind.blocks }

-- so many operands
abbrev pub operands : (count : ℕ) → Behind → Expressions
operands zero behind = NoExpressions
operands (suc count) behind = AndExpression (operand behind) (operands count (past_operand behind))

abbrev pub past_operands : (count : ℕ) → Behind → Behind
past_operands zero behind = behind
past_operands (suc count) behind = past_operands count (past_operand behind)

-- branches with these numbers
abbrev pub branches : (numbers : List ℕ) → Behind → Blocks
branches [] behind = NoBlocks
branches (number ∷ numbers) behind = AndBlock (block number behind) (branches numbers (past_block behind))

abbrev pub past_branches : (numbers : List ℕ) → Behind → Behind
past_branches [] behind = behind
past_branches (number ∷ numbers) behind = past_branches numbers (past_block behind)

-- ## What a node stands for

abbrev pub with_expression : Expression → Behind → Behind
with_expression e behind = record behind { expressions = e ∷ behind.expressions }

abbrev pub with_rest : Statements → Behind → Behind
with_rest rest behind = record behind { blocks = rest ∷ behind.blocks }

-- a statement before the rest of its block
abbrev pub states : Statement → Behind → Behind
states it behind = with_rest (Then it (first_rest behind.blocks)) (past_block behind)

-- the first statement as what a `let` binds
abbrev pub bound : Statements → Statements
bound Done = Done
bound (Then it rest) = Then (syntax.LetForm it) rest

abbrev pub onto : Node → Behind → Behind
onto node.End b = with_rest Done b
onto (node.Number z) b = with_expression (syntax.NumberValue z) b
onto (node.Text text) b = with_expression (syntax.TextValue text) b
onto (node.Variable slot) b = with_expression (syntax.Variable slot) b
onto node.Unit b = with_expression syntax.UnitValue b
onto (node.Operation operator) b =
    with_expression (syntax.Operation (operator_of operator) (operand b) (operand (past_operand b))) (past_operand (past_operand b))
onto node.Let b = states (syntax.Let (operand b)) (past_operand b)
onto node.LetForm b = with_rest (bound (first_rest b.blocks)) (past_block b)
onto (node.If n m after) b =
    let inner = past_operand b in states (syntax.If (operand b) (block n inner) (block m (past_block inner))) (past_block (past_block inner))
onto node.Give b = states (syntax.Give (operand b)) (past_operand b)
onto (node.Raise text) b = states (syntax.Raise text) b
onto (node.Try n m after) b = states (syntax.Try (block n b) (block m (past_block b))) (past_block (past_block b))
onto (node.Repeat n after) b = let inner = past_operand b in states (syntax.Repeat (operand b) (block n inner)) (past_block inner)
onto (node.Loop n after) b = states (syntax.Loop (block n b)) (past_block b)
onto (node.Trace count) b = states (syntax.Trace (operands count b)) (past_operands count b)
onto node.Yield b = states syntax.Yield b
onto node.Check b = states syntax.Check b
onto node.AwaitCancel b = states syntax.AwaitCancel b
onto (node.Sub n after) b = states (syntax.Sub (block n b)) (past_block b)
onto (node.Protect n after) b = states (syntax.Protect (block n b)) (past_block b)
onto (node.Cancel context text) b = states (syntax.Cancel context text) b
onto (node.Switch n after) b = states (syntax.Switch (block n b)) (past_block b)
onto (node.Fork forking switch n after) b = states (syntax.Fork (forking_of forking) switch (block n b)) (past_block b)
onto (node.Fail switch text) b = states (syntax.Fail switch text) b
onto (node.OnRelease switch n after) b = states (syntax.OnRelease switch (block n b)) (past_block b)
onto (node.Branches group numbers after) b = states (syntax.Branches (group_of group) (branches numbers b)) (past_branches numbers b)
onto (node.OnObject call object) b = states (syntax.OnObject (object_call_of call) object) b
onto (node.OnObjectWith call object) b = states (syntax.OnObjectWith (object_call_with_of call) object (operand b)) (past_operand b)
onto (node.UseRw mutex n after) b = states (syntax.UseRw mutex (block n b)) (past_block b)
onto (node.UsePool pool n after) b = states (syntax.UsePool pool (block n b)) (past_block b)
onto (node.Submit executor weight captured n after) b = states (syntax.Submit executor weight captured (block n b)) (past_block b)
onto node.Sleep b = states (syntax.Sleep (operand b)) (past_operand b)
onto node.Now b = states syntax.Now b
onto (node.BufRead flow limit n after) b = states (syntax.BufRead flow limit (block n b)) (past_block b)
onto (node.OnReader call reader) b = states (syntax.OnReader (reader_call_of call) reader) b
onto (node.TakeBytes reader) b = states (syntax.TakeBytes reader (operand b)) (past_operand b)
onto (node.Copy from to) b = states (syntax.Copy from to) b
onto (node.BufWrite flow n after) b = states (syntax.BufWrite flow (block n b)) (past_block b)
onto (node.Put writer) b = states (syntax.Put writer (operand b)) (past_operand b)
onto (node.OpenDir directory n after) b =
    let inner = past_operand b in states (syntax.OpenDir (directory_of directory) (operand b) (block n inner)) (past_block inner)
onto (node.OnPath call directory) b = states (syntax.OnPath (path_call_of call) (directory_of directory) (operand b)) (past_operand b)
onto (node.Save only_new directory) b =
    states (syntax.Save only_new (directory_of directory) (operand b) (operand (past_operand b))) (past_operand (past_operand b))

-- what begins at the first of these nodes and behind it
abbrev pub unflat : List Node → Behind
unflat [] = nothing_behind
unflat (n ∷ nodes) = onto n (unflat nodes)

-- the bodies that begin at these numbers, one behind the other
abbrev pub bodies_by : (numbers : List ℕ) → List Statements → List Block
bodies_by [] rests = []
bodies_by (number ∷ numbers) rests = Begins number (first_rest rests) ∷ bodies_by numbers (other_rests rests)

unfoldable pub bodies_of : (numbers : List ℕ) → List Node → List Block
bodies_of numbers nodes = bodies_by numbers (unflat nodes).blocks
