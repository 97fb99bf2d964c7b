-- The nodes of a statement name its blocks alone.
use Rattle.std.proofs.Common.{ℕ, ◌+◌, List, [], ◌∷◌, ◌++◌, length}
use Rattle.std.specs.Prelude.{flat_map}
use Rattle.std.specs.List.{AllByRecursion as Each}
use Rattle.spec_script.specs.Syntax as syntax
use Rattle.spec_script.specs.Syntax.{Expression, Expressions, NoExpressions, AndExpression, Statement, Statements, Done, Then, Block, Begins, Blocks, NoBlocks, AndBlock}
use Rattle.script_forms.specs.Flat.{flat_expression, flat_expressions, numbers_of, flat_statement, flat_statements, flat_blocks, flat_bodies}
use Rattle.script_forms.specs.declared.node.Node.{Node}
use Rattle.spec_fiber.specs.Numbered.{number_of, blocks_from, blocks_of_statement, blocks_of_statements, blocks_of_branches}
use Rattle.fiber_step.specs.Numbering.Beginnings.{blocks_named}
use Rattle.fiber_step.proofs.Numbering.Lists.{each_both, each_first, each_second}

-- the number of a block is such a one
abbrev pub Has : (ℕ → Type 0) → Block → Type 0
Has P block = P (number_of block)

abbrev pub AllHave : (ℕ → Type 0) → List Block → Type 0
AllHave P blocks = Each (Has P) blocks

-- a node names blocks with such numbers alone
abbrev pub Names : (ℕ → Type 0) → Node → Type 0
Names P n = Each P (blocks_named n)

abbrev pub AllName : (ℕ → Type 0) → List Node → Type 0
AllName P nodes = Each (Names P) nodes

-- ## Expressions

expression_names : (P : ℕ → Type 0) (e : Expression) → AllName P (flat_expression e)
unfolding flat_expression
expression_names P (syntax.Operation operator left right) =
    (tt, each_both (Names P) (flat_expression left) (flat_expression right) (expression_names P left) (expression_names P right))
expression_names P other = (tt, tt)

expressions_name : (P : ℕ → Type 0) (es : Expressions) → AllName P (flat_expressions es)
unfolding flat_expressions
expressions_name P NoExpressions = tt
expressions_name P (AndExpression e rest) = each_both (Names P) (flat_expression e) (flat_expressions rest) (expression_names P e) (expressions_name P rest)

-- ## Statements and blocks

branches_named : (P : ℕ → Type 0) (blocks : Blocks) → AllHave P (blocks_of_branches blocks) → Each P (numbers_of blocks)
unfolding blocks_of_branches blocks_from numbers_of
branches_named P NoBlocks all = tt
branches_named P (AndBlock (Begins n items) rest) all =
    (all.0, branches_named P rest (each_second (Has P) (blocks_of_statements items) (blocks_of_branches rest) all.1))

mutual
  unfolding flat_statement flat_statements flat_blocks blocks_from blocks_of_statement blocks_of_statements blocks_of_branches

  statement_names : (P : ℕ → Type 0) (at : ℕ) (it : Statement) → AllHave P (blocks_of_statement it) → AllName P (flat_statement at it)
  statement_names P at (syntax.Let e) all = (tt, expression_names P e)
  statement_names P at (syntax.Give e) all = (tt, expression_names P e)
  statement_names P at (syntax.Trace es) all = (tt, expressions_name P es)
  statement_names P at (syntax.OnObjectWith call object e) all = (tt, expression_names P e)
  statement_names P at (syntax.Sleep e) all = (tt, expression_names P e)
  statement_names P at (syntax.TakeBytes reader e) all = (tt, expression_names P e)
  statement_names P at (syntax.Put writer e) all = (tt, expression_names P e)
  statement_names P at (syntax.OnPath call directory e) all = (tt, expression_names P e)
  statement_names P at (syntax.Save only_new directory path content) all =
      (tt, each_both (Names P) (flat_expression path) (flat_expression content) (expression_names P path) (expression_names P content))
  statement_names P at (syntax.LetForm form) all = (tt, statement_names P (at + 1) form all)
  statement_names P at (syntax.If e (Begins n then_items) (Begins m else_items)) all =
      let test = flat_expression e in
      let one = at + 1 + length test in
      let then_nodes = flat_statements one then_items in
      let two = at + 1 + length (test ++ then_nodes) in
      let these = blocks_from (Begins n then_items) in
      let those = blocks_from (Begins m else_items) in
      let first = each_first (Has P) these those all in
      let second = each_second (Has P) these those all in (
        (first.0, (second.0, tt)),
        each_both (Names P) (test ++ then_nodes) (flat_statements two else_items)
            (each_both (Names P) test then_nodes (expression_names P e) (statements_name P (at + 1 + length test) then_items first.1))
            (statements_name P two else_items second.1),
      )
  statement_names P at (syntax.Try (Begins n tried) (Begins m handler)) all =
      let tried_nodes = flat_statements (at + 1) tried in
      let two = at + 1 + length tried_nodes in
      let these = blocks_from (Begins n tried) in
      let those = blocks_from (Begins m handler) in
      let first = each_first (Has P) these those all in
      let second = each_second (Has P) these those all in (
        (first.0, (second.0, tt)),
        each_both (Names P) tried_nodes (flat_statements two handler) (statements_name P (at + 1) tried first.1) (statements_name P two handler second.1),
      )
  statement_names P at (syntax.Repeat e (Begins n body)) all =
      let first = flat_expression e in
      let from = at + 1 + length first in
      ((all.0, tt), each_both (Names P) first (flat_statements from body) (expression_names P e) (statements_name P from body all.1))
  statement_names P at (syntax.OpenDir directory e (Begins n body)) all =
      let first = flat_expression e in
      let from = at + 1 + length first in
      ((all.0, tt), each_both (Names P) first (flat_statements from body) (expression_names P e) (statements_name P from body all.1))
  statement_names P at (syntax.Branches group blocks) all = (branches_named P blocks all, branches_name P (at + 1) blocks all)
  statement_names P at (syntax.Loop (Begins n body)) all = ((all.0, tt), statements_name P (at + 1) body all.1)
  statement_names P at (syntax.Sub (Begins n body)) all = ((all.0, tt), statements_name P (at + 1) body all.1)
  statement_names P at (syntax.Protect (Begins n body)) all = ((all.0, tt), statements_name P (at + 1) body all.1)
  statement_names P at (syntax.Switch (Begins n body)) all = ((all.0, tt), statements_name P (at + 1) body all.1)
  statement_names P at (syntax.Fork forking switch (Begins n body)) all = ((all.0, tt), statements_name P (at + 1) body all.1)
  statement_names P at (syntax.OnRelease switch (Begins n body)) all = ((all.0, tt), statements_name P (at + 1) body all.1)
  statement_names P at (syntax.UseRw mutex (Begins n body)) all = ((all.0, tt), statements_name P (at + 1) body all.1)
  statement_names P at (syntax.UsePool pool (Begins n body)) all = ((all.0, tt), statements_name P (at + 1) body all.1)
  statement_names P at (syntax.Submit executor weight captured (Begins n body)) all = ((all.0, tt), statements_name P (at + 1) body all.1)
  statement_names P at (syntax.BufRead flow limit (Begins n body)) all = ((all.0, tt), statements_name P (at + 1) body all.1)
  statement_names P at (syntax.BufWrite flow (Begins n body)) all = ((all.0, tt), statements_name P (at + 1) body all.1)
  statement_names P at other all = (tt, tt)

  statements_name : (P : ℕ → Type 0) (at : ℕ) (items : Statements) → AllHave P (blocks_of_statements items) → AllName P (flat_statements at items)
  statements_name P at Done all = (tt, tt)
  statements_name P at (Then it rest) all =
      let first = flat_statement at it in
      each_both (Names P) first (flat_statements (at + length first) rest)
      (statement_names P at it (each_first (Has P) (blocks_of_statement it) (blocks_of_statements rest) all))
      (statements_name P (at + length first) rest (each_second (Has P) (blocks_of_statement it) (blocks_of_statements rest) all))

  branches_name : (P : ℕ → Type 0) (at : ℕ) (blocks : Blocks) → AllHave P (blocks_of_branches blocks) → AllName P (flat_blocks at blocks)
  branches_name P at NoBlocks all = tt
  branches_name P at (AndBlock (Begins n items) rest) all =
      let first = flat_statements at items in
      let own = each_first (Has P) (blocks_from (Begins n items)) (blocks_of_branches rest) all in
      each_both (Names P) first (flat_blocks (at + length first) rest) (statements_name P at items own.1)
      (branches_name P (at + length first) rest (each_second (Has P) (blocks_from (Begins n items)) (blocks_of_branches rest) all))

-- ## Scripts

pub bodies_name : (P : ℕ → Type 0) (at : ℕ) (bodies : List Block) → AllHave P (flat_map blocks_from bodies) → AllName P (flat_bodies at bodies)
unfolding flat_bodies blocks_from
bodies_name P at [] all = tt
bodies_name P at (Begins n items ∷ rest) all =
    let first = flat_statements at items in
    let own = each_first (Has P) (blocks_from (Begins n items)) (flat_map blocks_from rest) all in
    each_both (Names P) first (flat_bodies (at + length first) rest) (statements_name P at items own.1)
    (bodies_name P (at + length first) rest (each_second (Has P) (blocks_from (Begins n items)) (flat_map blocks_from rest) all))
