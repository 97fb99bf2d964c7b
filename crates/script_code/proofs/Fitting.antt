-- Where the numbers of a tree's pieces fit into 64 bits, those of the tree do.
use Rattle.std.proofs.Common.{List, [], ◌∷◌, ◌++◌}
use Rattle.std.specs.List.{AllByRecursion as Each}
use Rattle.spec_script.specs.Trees.{Tree, Word, Number, Text, Branch, Trees, Nil, And}
use Rattle.law_script.specs.Scripts.Numbers.{HasFittingNumbers, HaveFittingNumbers}
use Rattle.script_tree.specs.Fitting.{Fits}
use Rattle.script_tree.specs.Pieces.{Piece, Closes, pieces, row_pieces}

abbrev Fit : List Piece → Type 0
Fit these = Each Fits these

first_fit : (one two : List Piece) → Fit (one ++ two) → Fit one
first_fit [] two fit = tt
first_fit (piece ∷ one) two fit = (fit.0, first_fit one two fit.1)

others_fit : (one two : List Piece) → Fit (one ++ two) → Fit two
others_fit [] two fit = fit
others_fit (piece ∷ one) two fit = others_fit one two fit.1

mutual
  unfolding pieces row_pieces HasFittingNumbers HaveFittingNumbers

  pub tree_fits : (tree : Tree) → Fit (pieces tree) → HasFittingNumbers tree
  tree_fits (Word at word) fit = tt
  tree_fits (Number at z) fit = fit.0
  tree_fits (Text at text) fit = tt
  tree_fits (Branch at row) fit = row_fits row (first_fit (row_pieces row) (Closes ∷ []) fit.1)

  row_fits : (row : Trees) → Fit (row_pieces row) → HaveFittingNumbers row
  row_fits Nil fit = tt
  row_fits (And tree rest) fit = (tree_fits tree (first_fit (pieces tree) (row_pieces rest) fit), row_fits rest (others_fit (pieces tree) (row_pieces rest) fit))
