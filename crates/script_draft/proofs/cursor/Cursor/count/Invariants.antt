use Rattle.std.proofs.Common.{◌≡◌, ◌≤◌, ◌+◌, map, drop}
use Rattle.script_tree.specs.Pieces.{piece_of, rows}
use Rattle.script_draft.specs.Ahead.{ahead, tree_count}
use Rattle.script_draft.specs.Levels.{level}
use Rattle.script_draft.proofs.cursor.Cursor.count.Given as goal

abbrev pub invariant-loop-piece : goal.invariant-loop-piece
invariant-loop-piece l = record {
  within : l.count ≤ l.most;
  few : l.lists ≤ l.piece-index;
  counted : l.count + tree_count (level l.lists (rows (map piece_of (drop l.piece-index l.piece-items)))) ≡ tree_count (ahead (map piece_of l.piece-items));
}
