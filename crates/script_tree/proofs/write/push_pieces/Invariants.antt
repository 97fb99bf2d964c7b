use Rattle.std.proofs.Common.{◌≡◌, ◌≤◌, ◌++◌, map, drop, vec_capacity, false}
use Rattle.script_tree.specs.Fronts.{IsFront}
use Rattle.script_tree.specs.Pieces.{piece_of}
use Rattle.script_tree.specs.Spelled.{spelled}
use Rattle.script_tree.proofs.write.push_pieces.Given as goal

abbrev pub invariant-loop-node : goal.invariant-loop-node
invariant-loop-node l = record {
  capacity : vec_capacity l.fn.out ≤ vec_capacity l.out;
  front : IsFront l.fn.out.items l.out.items;
  rest : l.out.items ++ spelled l.behind_tree (map piece_of (drop l.node-index l.nodes)) ≡ l.fn.out.items ++ spelled false (map piece_of l.nodes);
}
