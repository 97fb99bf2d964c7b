-- Trees that are the same but for their places.
use Rattle.spec_script.specs.Trees.{Tree, Word, Number, Text, Branch, Trees, Nil, And}

-- the tree with each place set to 0: two trees are the same but for their places where these are the same
unfoldable mutual
  pub bare : Tree → Tree
  bare (Word at word) = Word 0 word
  bare (Number at z) = Number 0 z
  bare (Text at text) = Text 0 text
  bare (Branch at row) = Branch 0 (bare_row row)

  -- the same of each tree of a list
  pub bare_row : Trees → Trees
  bare_row Nil = Nil
  bare_row (And tree rest) = And (bare tree) (bare_row rest)
