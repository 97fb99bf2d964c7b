-- The block of a number is one of the script's, and so has the built forms.
use Rattle.std.proofs.Common.{◌==◌, ℕ, Bool, true, false, List, [], ◌∷◌, cond, Some, arith}
use Rattle.std.specs.Prelude.{All}
use Rattle.std.specs.List.{find, flat_map}
use Rattle.std.specs.Option.{unwrap_or}
use Rattle.std.proofs.lemmas.List.Elements.{All-append}
use Rattle.spec_script.specs.Scripts.{Script}
use Rattle.spec_script.specs.Syntax.{Statement, LetForm, If, Try, Repeat, Loop, Sub, Protect, Switch, Fork, Plain, Daemon, Promising, OnRelease, Branches, UseRw, UsePool, Submit, BufRead, BufWrite, OpenDir, Block, Begins, Statements, Done, Then, Blocks, NoBlocks, AndBlock}
use Rattle.spec_fiber.specs.Numbered.{blocks_of_statement, blocks_of_branches, blocks_from, blocks_of_statements, block_numbered, number_of}
use Rattle.law_domain.specs.Sound.BuiltForms.{IsBuilt, IsBuiltBlock, AreBuiltBranches, AreBuilt, HasBuiltForms}
use Rattle.law_domain.proofs.Sound.Lists.{all_front, all_none, all_rest}

mutual
  unfolding blocks_of_statement blocks_of_branches blocks_from blocks_of_statements IsBuilt IsBuiltBlock AreBuiltBranches AreBuilt

  of_statement : (it : Statement) → IsBuilt it → All IsBuiltBlock (blocks_of_statement it)
  of_statement (LetForm form) built = of_statement form built
  of_statement (If test first second) built = All-append IsBuiltBlock (blocks_from first) (blocks_from second) (of_block first built.0) (of_block second built.1)
  of_statement (Try tried handler) built = All-append IsBuiltBlock (blocks_from tried) (blocks_from handler) (of_block tried built.0) (of_block handler built.1)
  of_statement (Repeat times body) built = of_block body built
  of_statement (Loop body) built = of_block body built
  of_statement (Sub body) built = of_block body built
  of_statement (Protect body) built = of_block body built
  of_statement (Switch body) built = of_block body built
  of_statement (Fork Plain switch body) built = of_block body built
  of_statement (Fork Daemon switch body) built = of_block body built
  of_statement (Fork (Promising promise) switch body) built = absurd built
  of_statement (OnRelease switch handler) built = of_block handler built
  of_statement (Branches group branches) built = of_branches branches built.1
  of_statement (UseRw mutex body) built = absurd built
  of_statement (UsePool pool body) built = absurd built
  of_statement (Submit executor weight captured job) built = absurd built
  of_statement (BufRead flow limit body) built = absurd built
  of_statement (BufWrite flow body) built = absurd built
  of_statement (OpenDir directory path body) built = absurd built
  of_statement it built = all_none IsBuiltBlock

  of_branches : (branches : Blocks) → AreBuiltBranches branches → All IsBuiltBlock (blocks_of_branches branches)
  of_branches NoBlocks built = all_none IsBuiltBlock
  of_branches (AndBlock block rest) built = All-append IsBuiltBlock (blocks_from block) (blocks_of_branches rest) (of_block block built.0) (of_branches rest built.1)

  of_block : (block : Block) → IsBuiltBlock block → All IsBuiltBlock (blocks_from block)
  of_block (Begins number items) built = all_front IsBuiltBlock (Begins number items) (blocks_of_statements items) built (of_statements items built)

  of_statements : (items : Statements) → AreBuilt items → All IsBuiltBlock (blocks_of_statements items)
  of_statements Done built = all_none IsBuiltBlock
  of_statements (Then it rest) built = All-append IsBuiltBlock (blocks_of_statement it) (blocks_of_statements rest) (of_statement it built.0) (of_statements rest built.1)

of_bodies : (bodies : List Block) → All IsBuiltBlock bodies → All IsBuiltBlock (flat_map blocks_from bodies)
of_bodies [] built = all_none IsBuiltBlock
of_bodies (body ∷ bodies) built =
    All-append IsBuiltBlock (blocks_from body) (flat_map blocks_from bodies) (of_block body (built 0 body (omega arith)))
    (of_bodies bodies (all_rest IsBuiltBlock body bodies built))

found_built : (test : Block → Bool) (blocks : List Block) (otherwise : Block) → IsBuiltBlock otherwise → All IsBuiltBlock blocks → IsBuiltBlock (unwrap_or (find test blocks) otherwise)
found_built test [] otherwise last built = last
found_built test (block ∷ blocks) otherwise last built =
    by_test (test block) (built 0 block (omega arith)) (found_built test blocks otherwise last (all_rest IsBuiltBlock block blocks built)) where
      by_test : (passes : Bool) → IsBuiltBlock block → IsBuiltBlock (unwrap_or (find test blocks) otherwise)
          → IsBuiltBlock (unwrap_or (cond passes (Some block) (find test blocks)) otherwise)
      by_test true here rest = here
      by_test false here rest = rest

nothing_built : (number : ℕ) → IsBuiltBlock (Begins number Done)
unfolding IsBuiltBlock AreBuilt
nothing_built number = tt

pub numbered_built : (script : Script) → HasBuiltForms script → (number : ℕ) → IsBuiltBlock (block_numbered script number)
unfolding block_numbered
numbered_built script forms number =
    found_built (λ block. number_of block == number) (flat_map blocks_from script.bodies) (Begins number Done) (nothing_built number) (of_bodies script.bodies forms)
