-- Each block of a sound script is sound for what its place knows.
use Rattle.std.proofs.Common.{List, [], ◌∷◌}
use Rattle.std.specs.Prelude.{flat_map}
use Rattle.std.specs.List.{AllByRecursion as Each}
use Rattle.spec_script.specs.Kinds.{VariableKind, ContextKind, SwitchKind, ReaderKind, WriterKind, CapabilityKind}
use Rattle.spec_script.specs.Syntax as syntax
use Rattle.spec_script.specs.Syntax.{Statement, Statements, Done, Then, Block, Begins, Blocks, NoBlocks, AndBlock}
use Rattle.law_script.specs.Scripts.Soundness.{Known, with_slot, in_job, behind, IsSoundStatement, IsSoundBlock, AreSoundStatements, AreSoundBlocks}
use Rattle.spec_fiber.specs.Numbered.{blocks_from, blocks_of_statement, blocks_of_statements, blocks_of_branches}
use Rattle.fiber_step.specs.Numbering.Beginnings.{IsSoundSomewhere}
use Rattle.fiber_step.proofs.Numbering.Lists.{each_both}

abbrev AreGood : List Block → Type 0
AreGood blocks = Each IsSoundSomewhere blocks

mutual
  unfolding IsSoundStatement IsSoundBlock AreSoundStatements AreSoundBlocks blocks_from blocks_of_statement blocks_of_statements blocks_of_branches

  statement_good : (known : Known) (it : Statement) → IsSoundStatement known it → AreGood (blocks_of_statement it)
  statement_good known (syntax.LetForm form) good = statement_good known form good
  statement_good known (syntax.If e (Begins n then_items) (Begins m else_items)) good =
      each_both IsSoundSomewhere (blocks_from (Begins n then_items)) (blocks_from (Begins m else_items))
      ((known, good.1), statements_good known then_items good.1) ((known, good.2), statements_good known else_items good.2)
  statement_good known (syntax.Try (Begins n tried) (Begins m handler)) good =
      let inner = with_slot VariableKind known in
      each_both IsSoundSomewhere (blocks_from (Begins n tried)) (blocks_from (Begins m handler))
      ((known, good.0), statements_good known tried good.0) ((inner, good.1), statements_good inner handler good.1)
  statement_good known (syntax.Loop (Begins n body)) good = ((known, good), statements_good known body good)
  statement_good known (syntax.Sub (Begins n body)) good = ((with_slot ContextKind known, good), statements_good (with_slot ContextKind known) body good)
  statement_good known (syntax.Protect (Begins n body)) good = ((known, good), statements_good known body good)
  statement_good known (syntax.Switch (Begins n body)) good = ((with_slot SwitchKind known, good), statements_good (with_slot SwitchKind known) body good)
  statement_good known (syntax.Fork forking switch (Begins n body)) good = ((known, good.2), statements_good known body good.2)
  statement_good known (syntax.OnRelease switch (Begins n body)) good = ((known, good.1), statements_good known body good.1)
  statement_good known (syntax.UseRw mutex (Begins n body)) good = ((known, good.1), statements_good known body good.1)
  statement_good known (syntax.UsePool pool (Begins n body)) good = ((with_slot VariableKind known, good.1), statements_good (with_slot VariableKind known) body good.1)
  statement_good known (syntax.Submit executor weight captured (Begins n body)) good = ((in_job captured known, good.4), statements_good (in_job captured known) body good.4)
  statement_good known (syntax.BufRead flow limit (Begins n body)) good = ((with_slot ReaderKind known, good.2), statements_good (with_slot ReaderKind known) body good.2)
  statement_good known (syntax.BufWrite flow (Begins n body)) good = ((with_slot WriterKind known, good.1), statements_good (with_slot WriterKind known) body good.1)
  statement_good known (syntax.Repeat e (Begins n body)) good = ((with_slot VariableKind known, good.1), statements_good (with_slot VariableKind known) body good.1)
  statement_good known (syntax.OpenDir directory e (Begins n body)) good = ((with_slot CapabilityKind known, good.2), statements_good (with_slot CapabilityKind known) body good.2)
  statement_good known (syntax.Branches group blocks) good = branches_good known blocks good.0
  statement_good known other good = tt

  statements_good : (known : Known) (items : Statements) → AreSoundStatements known items → AreGood (blocks_of_statements items)
  statements_good known Done good = tt
  statements_good known (Then it rest) good =
      each_both IsSoundSomewhere (blocks_of_statement it) (blocks_of_statements rest)
      (statement_good known it good.0) (statements_good (behind it known) rest good.1)

  branches_good : (known : Known) (blocks : Blocks) → AreSoundBlocks known blocks → AreGood (blocks_of_branches blocks)
  branches_good known NoBlocks good = tt
  branches_good known (AndBlock (Begins n items) rest) good =
      each_both IsSoundSomewhere (blocks_from (Begins n items)) (blocks_of_branches rest)
      ((known, good.0), statements_good known items good.0) (branches_good known rest good.1)

pub bodies_good : (known : Known) (bodies : List Block) → Each (IsSoundBlock known) bodies → AreGood (flat_map blocks_from bodies)
unfolding IsSoundBlock blocks_from
bodies_good known [] good = tt
bodies_good known (Begins n items ∷ rest) good =
    each_both IsSoundSomewhere (blocks_from (Begins n items)) (flat_map blocks_from rest)
    ((known, good.0), statements_good known items good.0) (bodies_good known rest good.1)
