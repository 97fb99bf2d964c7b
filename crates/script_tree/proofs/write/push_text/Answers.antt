use Rattle.std.proofs.Common.{◌≤◌, ◌+◌, ◌∷◌, length, vec_len, vec_capacity, take, arith}
use Rattle.std.specs.List.{flat_map}
use Rattle.spec_script.specs.Bytes.{quote}
use Rattle.spec_script.specs.Spelling.{item_spelling, text_spelling}
use Rattle.std.proofs.lemmas.Bool.{false≢true}
use Rattle.script_tree.proofs.Fronts.{front_appended, front_passed, after_err}
use Rattle.script_tree.proofs.Spelled.{item_within}
use Rattle.script_tree.proofs.write.push_text.Goals as goal

pub returns-in_err-push_item-clause-err : goal.returns-in_err-push_item-clause-err
returns-in_err-push_item-clause-err c =
    let before = front_appended c.args.out.now.items (quote ∷ flat_map item_spelling (take c.loop-item.item-index c.args.text.now)) c.loop-item.out.items c.loop-item.invariant.so_far in
    after_err _ c.from_residual-in_err-push_item.result (front_passed c.args.out.now.items c.loop-item.out.items c.push_item.new.out.items before c.in_err-push_item.ensures.err)

pub returns-in_err-push_item-clause-room : goal.returns-in_err-push_item-clause-room
returns-in_err-push_item-clause-room c =
    λ (room : vec_len c.args.out.now + length (text_spelling c.args.text.now) ≤ vec_capacity c.args.out.now).
    let within = item_within c.args.out.now.items c.loop-item.out.items c.args.text.now c.loop-item.item-index c.loop-item-test.true c.loop-item.invariant.so_far in
    absurd (false≢true (c.in_err-push_item.ensures.room (omega (arith, room, within, c.args.out.now.ok, c.loop-item.out.ok, c.loop-item.invariant.capacity))))
