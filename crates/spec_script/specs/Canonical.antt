-- The canonical spelling: one space between the trees of a list and no other gap. A document ends with LF.
use Rattle.std.specs.Prelude.{ℕ, List, [], ◌∷◌, ◌++◌}
use Rattle.std.specs.Fmt.{signed_decimal}
use Rattle.spec_script.specs.Bytes.{line_feed, space, open_paren, close_paren}
use Rattle.spec_script.specs.Trees.{Tree, Word, Number, Text, Branch, Trees, Nil, And}
use Rattle.spec_script.specs.Spelling.{text_spelling}

unfoldable mutual
  pub canonical : Tree → List ℕ
  canonical (Word at word) = word
  canonical (Number at z) = signed_decimal z
  canonical (Text at text) = text_spelling text
  canonical (Branch at row) = open_paren ∷ (canonical_row row ++ close_paren ∷ [])

  -- the trees of a list
  pub canonical_row : Trees → List ℕ
  canonical_row Nil = []
  canonical_row (And tree rest) = canonical tree ++ canonical_rest rest

  -- the trees behind the first, each behind a space
  pub canonical_rest : Trees → List ℕ
  canonical_rest Nil = []
  canonical_rest (And tree rest) = space ∷ (canonical tree ++ canonical_rest rest)

-- a tree as a whole output
unfoldable pub document : Tree → List ℕ
document tree = canonical tree ++ line_feed ∷ []
