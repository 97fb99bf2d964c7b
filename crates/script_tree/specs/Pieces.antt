-- A tree as the row of its pieces in reading order.
use Rattle.std.specs.Prelude.{◌≡◌, ℕ, ℤ, List, [], ◌∷◌, ◌++◌}
use Rattle.spec_script.specs.Trees.{Tree, Word, Number, Text, Branch, Trees, Nil, And}
use Rattle.script_tree.specs.declared.tree.TreeNode.{TreeNode}
use Rattle.script_tree.specs.declared.tree.TreeNode.TheVariants as node

-- a word, a number, a text, or the beginning or the end of a list
pub data Piece : Type 0 where
  Words : (at : ℕ) → (word : List ℕ) → Piece
  Numbers : (at : ℕ) → (z : ℤ) → Piece
  Texts : (at : ℕ) → (text : List ℕ) → Piece
  Opens : (at : ℕ) → Piece
  Closes : Piece

-- what a node of the code stands for
abbrev pub piece_of : TreeNode → Piece
piece_of (node.Word at word) = Words at word.items
piece_of (node.Number at number) = Numbers at number
piece_of (node.Text at text) = Texts at text.items
piece_of (node.Open at) = Opens at
piece_of node.Close = Closes

-- the piece of a tree that is no list
abbrev pub leaf_of : Tree → Piece
leaf_of (Word at word) = Words at word
leaf_of (Number at z) = Numbers at z
leaf_of (Text at text) = Texts at text
leaf_of (Branch at row) = Opens at

-- the pieces of a tree, and of the trees of a list
unfoldable mutual
  pub pieces : Tree → List Piece
  pieces (Word at word) = Words at word ∷ []
  pieces (Number at z) = Numbers at z ∷ []
  pieces (Text at text) = Texts at text ∷ []
  pieces (Branch at row) = Opens at ∷ (row_pieces row ++ Closes ∷ [])

  pub row_pieces : Trees → List Piece
  row_pieces Nil = []
  row_pieces (And tree rest) = pieces tree ++ row_pieces rest

-- ## The tree that pieces spell, read from the back

-- the first of some rows of trees; where there is none, the empty one
abbrev pub first : List Trees → Trees
first [] = Nil
first (row ∷ rows) = row

-- and those behind it
abbrev pub others : List Trees → List Trees
others [] = []
others (row ∷ rows) = rows

-- a piece before the rows behind it: an end begins an empty row, a tree goes before the first row, and where a list
-- opens, the first row is its own, and it goes before the second
abbrev pub onto_rows : Piece → List Trees → List Trees
onto_rows (Words at word) rows = And (Word at word) (first rows) ∷ others rows
onto_rows (Numbers at z) rows = And (Number at z) (first rows) ∷ others rows
onto_rows (Texts at text) rows = And (Text at text) (first rows) ∷ others rows
onto_rows (Opens at) rows = And (Branch at (first rows)) (first (others rows)) ∷ others (others rows)
onto_rows Closes rows = Nil ∷ rows

abbrev pub rows : List Piece → List Trees
rows [] = []
rows (piece ∷ rest) = onto_rows piece (rows rest)

-- the first tree of a row; where there is none, an empty word
abbrev pub first_tree : Trees → Tree
first_tree Nil = Word 0 []
first_tree (And tree rest) = tree

-- the tree that pieces spell
unfoldable pub tree_of : List Piece → Tree
tree_of spelled = first_tree (first (rows spelled))

-- pieces are those of one tree, and no more
abbrev pub IsWhole : List Piece → Type 0
IsWhole spelled = spelled ≡ pieces (tree_of spelled)
