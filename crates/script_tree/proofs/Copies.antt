-- Pieces that are those of a tree spell it.
use Rattle.std.proofs.Common.{◌≡◌, List, ap, sym, ◌∙◌}
use Rattle.spec_script.specs.Trees.{Tree}
use Rattle.script_tree.specs.Pieces.{Piece, pieces, tree_of, IsWhole}
use Rattle.script_tree.specs.TreeCode.{tree_of-pieces}

pub spells : (ps : List Piece) (tree : Tree) → ps ≡ pieces tree → tree_of ps ≡ tree
spells ps tree h = ap tree_of h ∙ tree_of-pieces tree

pub spelled_whole : (ps : List Piece) (tree : Tree) → ps ≡ pieces tree → IsWhole ps
spelled_whole ps tree h = h ∙ sym (ap pieces (spells ps tree h))
