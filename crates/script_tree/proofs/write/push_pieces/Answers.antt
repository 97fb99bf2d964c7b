use Rattle.std.proofs.Common.{◌≤◌, ◌+◌, length, vec_len, vec_capacity, map, false, arith, ap, length-append}
use Rattle.script_tree.specs.Pieces.{piece_of}
use Rattle.script_tree.specs.Spelled.{gap_if, piece_spelling, spelled}
use Rattle.std.proofs.lemmas.Bool.{false≢true}
use Rattle.script_tree.proofs.Fronts.{front_appended, front_passed, after_err}
use Rattle.script_tree.proofs.Spelled.{rest_within, spelled_step, spelled_none}
use Rattle.script_tree.proofs.write.push_pieces.Goals as goal

pub returns-in_err-push_piece-clause-err : goal.returns-in_err-push_piece-clause-err
returns-in_err-push_piece-clause-err c =
    let gapped = front_appended c.loop-node.out.items (gap_if c.is_space_due.result) c.push_gap.new.out.items c.in_ok-push_gap.ensures.ok in
    let before = front_passed c.args.out.now.items c.loop-node.out.items c.push_gap.new.out.items c.loop-node.invariant.front gapped in
    after_err _ c.from_residual-in_err-push_piece.result (front_passed c.args.out.now.items c.push_gap.new.out.items c.push_piece.new.out.items before c.in_err-push_piece.ensures.err)

pub returns-in_err-push_gap-clause-room : goal.returns-in_err-push_gap-clause-room
returns-in_err-push_gap-clause-room c =
    λ (room : vec_len c.args.out.now + length (spelled false (map piece_of c.args.nodes.now)) ≤ vec_capacity c.args.out.now).
    let within = rest_within c.args.out.now.items c.loop-node.out.items (spelled false (map piece_of c.args.nodes.now)) c.loop-node.behind_tree c.is_space_due.result c.args.nodes.now c.loop-node.node-index c.node-item.result c.loop-node-test.true c.node-item.is c.is_space_due.ensures c.loop-node.invariant.rest in
    absurd (false≢true (c.in_err-push_gap.ensures.room (omega (arith, room, within, c.args.out.now.ok, c.loop-node.out.ok, c.loop-node.invariant.capacity))))

pub returns-in_err-push_piece-clause-room : goal.returns-in_err-push_piece-clause-room
returns-in_err-push_piece-clause-room c =
    λ (room : vec_len c.args.out.now + length (spelled false (map piece_of c.args.nodes.now)) ≤ vec_capacity c.args.out.now).
    let within = rest_within c.args.out.now.items c.loop-node.out.items (spelled false (map piece_of c.args.nodes.now)) c.loop-node.behind_tree c.is_space_due.result c.args.nodes.now c.loop-node.node-index c.node-item.result c.loop-node-test.true c.node-item.is c.is_space_due.ensures c.loop-node.invariant.rest in
    let gapped = ap length c.in_ok-push_gap.ensures.ok in
    absurd (false≢true (c.in_err-push_piece.ensures.room (omega (arith, room, within, simp length-append at gapped, c.args.out.now.ok, c.loop-node.out.ok, c.push_gap.new.out.ok, c.push_gap.ensures.capacity, c.loop-node.invariant.capacity))))

pub loop-node-preserved : goal.loop-node-preserved
loop-node-preserved c =
    let gapped = front_appended c.loop-node.out.items (gap_if c.is_space_due.result) c.push_gap.new.out.items c.in_ok-push_gap.ensures.ok in
    let pushed = front_appended c.push_gap.new.out.items (piece_spelling (piece_of c.node-item.result)) c.push_piece.new.out.items c.in_ok-push_piece.ensures.ok in
    let before = front_passed c.args.out.now.items c.loop-node.out.items c.push_gap.new.out.items c.loop-node.invariant.front gapped in
    record {
      capacity = omega (arith, c.loop-node.invariant.capacity, c.push_gap.ensures.capacity, c.push_piece.ensures.capacity);
      front = front_passed c.args.out.now.items c.push_gap.new.out.items c.push_piece.new.out.items before pushed;
      rest = spelled_step c.loop-node.out.items c.push_gap.new.out.items c.push_piece.new.out.items _ c.loop-node.behind_tree c.is_space_due.result c.ends_tree-behind_tree.result c.args.nodes.now c.loop-node.node-index c.node-item.result c.loop-node-test.true c.node-item.is c.is_space_due.ensures c.in_ok-push_gap.ensures.ok c.in_ok-push_piece.ensures.ok c.ends_tree-behind_tree.ensures c.loop-node.invariant.rest;
    }

pub returns-clause-ok : goal.returns-clause-ok
returns-clause-ok c = spelled_none c.loop-node.out.items _ c.loop-node.behind_tree c.args.nodes.now c.loop-node.node-index c.loop-node-test.false c.loop-node.invariant.rest
