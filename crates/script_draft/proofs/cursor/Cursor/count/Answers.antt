use Rattle.std.proofs.Common.{sym, ap, arith, rules, ◌∙◌}
use Rattle.script_tree.specs.Pieces.{piece_of}
use Rattle.script_draft.specs.Ahead.{ahead, tree_count}
use Rattle.script_draft.proofs.Counting.{step_here, step_further, count_ends, lists_rise}
use Rattle.script_draft.proofs.cursor.Cursor.count.Goals as goal
use Rattle.script_draft.proofs.cursor.Cursor.count.Goals.{then-lists-eq0+else-count-most+else-not-begins_tree, else-lists-eq0}

pub loop-piece-init : goal.loop-piece-init
unfolding ahead
loop-piece-init c = search rules

pub loop-piece-preserved : goal.loop-piece-preserved
loop-piece-preserved c =
    let nodes = c.self.inside.pieces.now in
    let rise = lists_rise c.loop-piece.lists (piece_of c.piece-item.result) in
    record {
      within = elim c.if-lists-eq0.branch [
        | then-lists-eq0+else-count-most+else-not-begins_tree w ↦ omega (arith, w.count-is, w.if-count-most.false, c.loop-piece.invariant.within)
        | else-lists-eq0 w ↦ rw w.count-is c.loop-piece.invariant.within
      ];
      few = omega (arith, rise, c.lists_behind-lists.ensures, c.loop-piece.invariant.few);
      counted = elim c.if-lists-eq0.branch [
        | then-lists-eq0+else-count-most+else-not-begins_tree w ↦
            step_here nodes c.loop-piece.piece-index c.loop-piece.lists c.lists_behind-lists.result c.loop-piece.count c.if-lists-eq0.count _ c.piece-item.result _ c.loop-piece-test.true c.piece-item.is w.if-lists-eq0.true (sym w.begins_tree.ensures ∙ w.if-not-begins_tree.false) w.count-is c.lists_behind-lists.ensures c.loop-piece.invariant.counted
        | else-lists-eq0 w ↦
            step_further nodes c.loop-piece.piece-index c.loop-piece.lists c.lists_behind-lists.result c.loop-piece.count c.if-lists-eq0.count _ c.piece-item.result _ c.loop-piece-test.true c.piece-item.is (omega (arith, w.if-lists-eq0.false)) w.count-is c.lists_behind-lists.ensures c.loop-piece.invariant.counted
      ];
    }

pub returns : goal.returns
returns c =
    let total = count_ends c.self.inside.pieces.now c.loop-piece.piece-index c.loop-piece.lists c.loop-piece.count _ c.loop-piece-test.false c.loop-piece.invariant.counted in
    let seen = ap (λ ps. tree_count (ahead ps)) c.self.view_is in
    let within = c.loop-piece.invariant.within in
    omega (arith, total, seen, within)
