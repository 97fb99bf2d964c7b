use Rattle.std.proofs.Common.{◌≡◌, map, drop}
use Rattle.spec_script.specs.Forms.{are_texts}
use Rattle.script_tree.specs.Pieces.{piece_of}
use Rattle.script_draft.specs.Ahead.{ahead}
use Rattle.script_draft.proofs.cursor.Cursor.are_texts.Given as goal

abbrev pub invariant-loop-piece : goal.invariant-loop-piece
invariant-loop-piece l = are_texts (ahead (map piece_of (drop l.piece-index l.piece-items))) ≡ are_texts (ahead (map piece_of l.piece-items))
