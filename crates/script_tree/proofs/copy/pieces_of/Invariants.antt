use Rattle.std.proofs.Common.{◌≡◌, map, take}
use Rattle.script_tree.specs.Pieces.{piece_of}
use Rattle.script_tree.proofs.copy.pieces_of.Given as goal

abbrev pub invariant-loop-node : goal.invariant-loop-node
invariant-loop-node l = l.draft ≡ map piece_of (take l.node-index l.nodes)
