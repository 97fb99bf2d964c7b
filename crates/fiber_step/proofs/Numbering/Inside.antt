-- What is known of all blocks of a script is known of those inside each of them.
use Rattle.std.proofs.Common.{List, [], ◌∷◌}
use Rattle.std.specs.Prelude.{flat_map}
use Rattle.std.specs.List.{AllByRecursion as Each}
use Rattle.spec_script.specs.Syntax as syntax
use Rattle.spec_script.specs.Syntax.{Statement, Statements, Done, Then, Block, Begins, Blocks, NoBlocks, AndBlock}
use Rattle.spec_fiber.specs.Numbered.{blocks_from, blocks_of_statement, blocks_of_statements, blocks_of_branches}
use Rattle.fiber_step.proofs.Numbering.Lists.{each_both, each_first, each_second}

-- this block, and each inside it, is such a one
abbrev pub From : (Block → Type 0) → Block → Type 0
From Q block = Each Q (blocks_from block)

-- so it is of each of these blocks
abbrev pub AllFrom : (Block → Type 0) → List Block → Type 0
AllFrom Q blocks = Each (From Q) blocks

mutual
  unfolding blocks_from blocks_of_statement blocks_of_statements blocks_of_branches

  statement_inside : (Q : Block → Type 0) (it : Statement) → Each Q (blocks_of_statement it) → AllFrom Q (blocks_of_statement it)
  statement_inside Q (syntax.LetForm form) all = statement_inside Q form all
  statement_inside Q (syntax.If e (Begins n then_items) (Begins m else_items)) all =
      let these = blocks_from (Begins n then_items) in
      let those = blocks_from (Begins m else_items) in
      let first = each_first Q these those all in
      let second = each_second Q these those all in
      each_both (From Q) these those
      (first, statements_inside Q then_items first.1) (second, statements_inside Q else_items second.1)
  statement_inside Q (syntax.Try (Begins n tried) (Begins m handler)) all =
      let these = blocks_from (Begins n tried) in
      let those = blocks_from (Begins m handler) in
      let first = each_first Q these those all in
      let second = each_second Q these those all in
      each_both (From Q) these those
      (first, statements_inside Q tried first.1) (second, statements_inside Q handler second.1)
  statement_inside Q (syntax.Loop (Begins n body)) all = (all, statements_inside Q body all.1)
  statement_inside Q (syntax.Sub (Begins n body)) all = (all, statements_inside Q body all.1)
  statement_inside Q (syntax.Protect (Begins n body)) all = (all, statements_inside Q body all.1)
  statement_inside Q (syntax.Switch (Begins n body)) all = (all, statements_inside Q body all.1)
  statement_inside Q (syntax.Fork forking switch (Begins n body)) all = (all, statements_inside Q body all.1)
  statement_inside Q (syntax.OnRelease switch (Begins n body)) all = (all, statements_inside Q body all.1)
  statement_inside Q (syntax.UseRw mutex (Begins n body)) all = (all, statements_inside Q body all.1)
  statement_inside Q (syntax.UsePool pool (Begins n body)) all = (all, statements_inside Q body all.1)
  statement_inside Q (syntax.Submit executor weight captured (Begins n body)) all = (all, statements_inside Q body all.1)
  statement_inside Q (syntax.BufRead flow limit (Begins n body)) all = (all, statements_inside Q body all.1)
  statement_inside Q (syntax.BufWrite flow (Begins n body)) all = (all, statements_inside Q body all.1)
  statement_inside Q (syntax.Repeat e (Begins n body)) all = (all, statements_inside Q body all.1)
  statement_inside Q (syntax.OpenDir directory e (Begins n body)) all = (all, statements_inside Q body all.1)
  statement_inside Q (syntax.Branches group blocks) all = branches_inside Q blocks all
  statement_inside Q other all = tt

  statements_inside : (Q : Block → Type 0) (items : Statements) → Each Q (blocks_of_statements items) → AllFrom Q (blocks_of_statements items)
  statements_inside Q Done all = tt
  statements_inside Q (Then it rest) all =
      each_both (From Q) (blocks_of_statement it) (blocks_of_statements rest)
      (statement_inside Q it (each_first Q (blocks_of_statement it) (blocks_of_statements rest) all))
      (statements_inside Q rest (each_second Q (blocks_of_statement it) (blocks_of_statements rest) all))

  branches_inside : (Q : Block → Type 0) (blocks : Blocks) → Each Q (blocks_of_branches blocks) → AllFrom Q (blocks_of_branches blocks)
  branches_inside Q NoBlocks all = tt
  branches_inside Q (AndBlock (Begins n items) rest) all =
      let first = each_first Q (blocks_from (Begins n items)) (blocks_of_branches rest) all in
      each_both (From Q) (blocks_from (Begins n items)) (blocks_of_branches rest)
      (first, statements_inside Q items first.1)
      (branches_inside Q rest (each_second Q (blocks_from (Begins n items)) (blocks_of_branches rest) all))

pub bodies_inside : (Q : Block → Type 0) (bodies : List Block) → Each Q (flat_map blocks_from bodies) → AllFrom Q (flat_map blocks_from bodies)
unfolding blocks_from
bodies_inside Q [] all = tt
bodies_inside Q (Begins n items ∷ rest) all =
    let first = each_first Q (blocks_from (Begins n items)) (flat_map blocks_from rest) all in
    each_both (From Q) (blocks_from (Begins n items)) (flat_map blocks_from rest)
    (first, statements_inside Q items first.1)
    (bodies_inside Q rest (each_second Q (blocks_from (Begins n items)) (flat_map blocks_from rest) all))
