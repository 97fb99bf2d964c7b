-- How much silent work can come of items: each turn of a settling leaves less.
use Rattle.std.specs.Prelude.{ℕ, ◌+◌, List, [], ◌∷◌}
use Rattle.spec_script.specs.Syntax.{Statement, LetForm, If, Try, Block, Begins, Statements, Done, Then}
use Rattle.spec_fiber.specs.Work as work
use Rattle.spec_fiber.specs.Work.{Work}

unfoldable mutual
  pub weight_of_statement : Statement → ℕ
  weight_of_statement (LetForm form) = 2 + weight_of_statement form
  weight_of_statement (If test first second) = 2 + weight_of_block first + weight_of_block second
  weight_of_statement (Try tried handler) = 4 + weight_of_block tried + weight_of_block handler
  weight_of_statement other = 1

  pub weight_of_block : Block → ℕ
  weight_of_block (Begins number items) = weight_of_statements items

  pub weight_of_statements : Statements → ℕ
  weight_of_statements Done = 1
  weight_of_statements (Then it rest) = weight_of_statement it + weight_of_statements rest

abbrev pub weight_of_item : Work → ℕ
weight_of_item (work.Run items) = weight_of_statements items
weight_of_item (work.Try handler keep) = 2 + weight_of_block handler
weight_of_item (work.Locking mutex body) = 2 + weight_of_block body
weight_of_item (work.Using pool body) = 2 + weight_of_block body
weight_of_item other = 1

abbrev pub weight : List Work → ℕ
weight [] = 0
weight (it ∷ work) = weight_of_item it + weight work
