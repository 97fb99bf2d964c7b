-- The block of a number. Jobs, forks, branches and release handlers name their blocks by numbers; those are the numbers of the blocks' first nodes.
use Rattle.std.specs.Prelude.{ℕ, ◌==◌, List, [], ◌∷◌, ◌++◌}
use Rattle.std.specs.Option.{unwrap_or}
use Rattle.std.specs.List.{find, flat_map}
use Rattle.spec_script.specs.Scripts.{Script}
use Rattle.spec_script.specs.Syntax.{Statement, LetForm, If, Try, Repeat, Loop, Sub, Protect, Switch, Fork, OnRelease, Branches, UseRw, UsePool, Submit, BufRead, BufWrite, OpenDir, Block, Begins, Statements, Done, Then, Blocks, NoBlocks, AndBlock}

-- ## All blocks, in reading order

unfoldable mutual
  pub blocks_of_statement : Statement → List Block
  blocks_of_statement (LetForm form) = blocks_of_statement form
  blocks_of_statement (If test first second) = blocks_from first ++ blocks_from second
  blocks_of_statement (Try tried handler) = blocks_from tried ++ blocks_from handler
  blocks_of_statement (Repeat times body) = blocks_from body
  blocks_of_statement (Loop body) = blocks_from body
  blocks_of_statement (Sub body) = blocks_from body
  blocks_of_statement (Protect body) = blocks_from body
  blocks_of_statement (Switch body) = blocks_from body
  blocks_of_statement (Fork forking switch body) = blocks_from body
  blocks_of_statement (OnRelease switch handler) = blocks_from handler
  blocks_of_statement (Branches group branches) = blocks_of_branches branches
  blocks_of_statement (UseRw mutex body) = blocks_from body
  blocks_of_statement (UsePool pool body) = blocks_from body
  blocks_of_statement (Submit executor weight captured job) = blocks_from job
  blocks_of_statement (BufRead flow limit body) = blocks_from body
  blocks_of_statement (BufWrite flow body) = blocks_from body
  blocks_of_statement (OpenDir directory path body) = blocks_from body
  blocks_of_statement statement = []

  pub blocks_of_branches : Blocks → List Block
  blocks_of_branches NoBlocks = []
  blocks_of_branches (AndBlock block rest) = blocks_from block ++ blocks_of_branches rest

  -- a block, and those inside it
  pub blocks_from : Block → List Block
  blocks_from (Begins number items) = Begins number items ∷ blocks_of_statements items

  pub blocks_of_statements : Statements → List Block
  blocks_of_statements Done = []
  blocks_of_statements (Then it rest) = blocks_of_statement it ++ blocks_of_statements rest

-- ## By their numbers

abbrev pub number_of : Block → ℕ
number_of (Begins number items) = number

-- the block of a script with this number; a number that no block has stands for an empty one
unfoldable pub block_numbered : Script → (number : ℕ) → Block
block_numbered script number = unwrap_or (find (λ block. number_of block == number) (flat_map blocks_from script.bodies)) (Begins number Done)
