-- The blocks inside written ones are written, so that the block of each number is.
use Rattle.std.proofs.Common.{ℕ, ◌==◌, List, [], ◌∷◌, ◌++◌}
use Rattle.std.specs.List.{AllByRecursion as Each, flat_map, find}
use Rattle.std.proofs.lemmas.List.Elements.{recursion_from_All}
use Rattle.spec_script.specs.Scripts.{Script}
use Rattle.spec_script.specs.Syntax.{Statement, LetForm, If, Try, Repeat, Loop, Sub, Protect, Switch, Fork, OnRelease, Branches, UseRw, UsePool, Submit, BufRead, BufWrite, OpenDir, Block, Begins, Statements, Done, Then, Blocks, NoBlocks, AndBlock}
use Rattle.spec_fiber.specs.Numbered.{blocks_of_statement, blocks_of_branches, blocks_from, blocks_of_statements, number_of, block_numbered}
use Rattle.law_fiber.specs.Texts.Texts.{Written, IsWrittenStatement, IsWrittenBlock, AreWritten, AreWrittenBlocks, written_in}
use Rattle.law_fiber.specs.Texts.Laws.{HasItsTexts}
use Rattle.law_fiber.proofs.Texts.Lists.{each_append, each_found, or_default}

module _ (written : Written) where
  abbrev AllWritten : List Block → Type 0
  AllWritten blocks = Each (IsWrittenBlock written) blocks

  two_written : (first second : List Block) → AllWritten first → AllWritten second → AllWritten (first ++ second)
  two_written first second one two = each_append (IsWrittenBlock written) first second one two

  mutual
    unfolding blocks_of_statement blocks_of_branches blocks_from blocks_of_statements IsWrittenStatement IsWrittenBlock AreWritten AreWrittenBlocks

    statement_blocks : (it : Statement) → IsWrittenStatement written it → AllWritten (blocks_of_statement it)
    statement_blocks (LetForm form) is = statement_blocks form is
    statement_blocks (If test first second) is = two_written (blocks_from first) (blocks_from second) (inner_blocks first is.1) (inner_blocks second is.2)
    statement_blocks (Try tried handler) is = two_written (blocks_from tried) (blocks_from handler) (inner_blocks tried is.0) (inner_blocks handler is.1)
    statement_blocks (Repeat times body) is = inner_blocks body is.1
    statement_blocks (Loop body) is = inner_blocks body is
    statement_blocks (Sub body) is = inner_blocks body is
    statement_blocks (Protect body) is = inner_blocks body is
    statement_blocks (Switch body) is = inner_blocks body is
    statement_blocks (Fork forking switch body) is = inner_blocks body is
    statement_blocks (OnRelease switch handler) is = inner_blocks handler is
    statement_blocks (Branches group branches) is = branch_blocks branches is
    statement_blocks (UseRw mutex body) is = inner_blocks body is
    statement_blocks (UsePool pool body) is = inner_blocks body is
    statement_blocks (Submit executor weight captured job) is = inner_blocks job is
    statement_blocks (BufRead flow limit body) is = inner_blocks body is
    statement_blocks (BufWrite flow body) is = inner_blocks body is
    statement_blocks (OpenDir directory path body) is = inner_blocks body is.1
    statement_blocks other is = tt

    branch_blocks : (branches : Blocks) → AreWrittenBlocks written branches → AllWritten (blocks_of_branches branches)
    branch_blocks NoBlocks are = tt
    branch_blocks (AndBlock block rest) are = two_written (blocks_from block) (blocks_of_branches rest) (inner_blocks block are.0) (branch_blocks rest are.1)

    inner_blocks : (block : Block) → IsWrittenBlock written block → AllWritten (blocks_from block)
    inner_blocks (Begins number items) is = (is, statement_list_blocks items is)

    statement_list_blocks : (items : Statements) → AreWritten written items → AllWritten (blocks_of_statements items)
    statement_list_blocks Done are = tt
    statement_list_blocks (Then it rest) are =
        two_written (blocks_of_statement it) (blocks_of_statements rest) (statement_blocks it are.0) (statement_list_blocks rest are.1)

  bodies_blocks : (bodies : List Block) → AllWritten bodies → AllWritten (flat_map blocks_from bodies)
  bodies_blocks [] are = tt
  bodies_blocks (body ∷ bodies) are = two_written (blocks_from body) (flat_map blocks_from bodies) (inner_blocks body are.0) (bodies_blocks bodies are.1)

  empty_written : (number : ℕ) → IsWrittenBlock written (Begins number Done)
  unfolding IsWrittenBlock AreWritten
  empty_written number = tt

-- a handler's block
pub numbered_written : (script : Script) → HasItsTexts script → (number : ℕ) → IsWrittenBlock (written_in script) (block_numbered script number)
unfolding block_numbered
numbered_written script has number =
    let written = written_in script in
    let all = bodies_blocks written script.bodies (recursion_from_All (IsWrittenBlock written) script.bodies has.bodies) in
    or_default (IsWrittenBlock written) (find (λ block. number_of block == number) (flat_map blocks_from script.bodies)) (Begins number Done)
    (each_found (IsWrittenBlock written) (λ block. number_of block == number) (flat_map blocks_from script.bodies) all) (empty_written written number)
