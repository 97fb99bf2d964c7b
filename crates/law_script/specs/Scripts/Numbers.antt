-- The numbers of a tree that fit into 64 bits.
use Rattle.std.specs.Prelude.{IsTrue}
use Rattle.spec_script.specs.Limits.{is_within}
use Rattle.spec_script.specs.Trees.{Tree, Word, Number, Text, Branch, Trees, Nil, And}

-- each number of the tree is at least -2^63 and below 2^63
unfoldable mutual
  pub HasFittingNumbers : Tree → Type 0
  HasFittingNumbers (Word at word) = Unit {0}
  HasFittingNumbers (Number at z) = IsTrue (is_within z)
  HasFittingNumbers (Text at text) = Unit {0}
  HasFittingNumbers (Branch at row) = HaveFittingNumbers row

  -- the same of each tree of a list
  pub HaveFittingNumbers : Trees → Type 0
  HaveFittingNumbers Nil = Unit {0}
  HaveFittingNumbers (And tree rest) = HasFittingNumbers tree × HaveFittingNumbers rest
