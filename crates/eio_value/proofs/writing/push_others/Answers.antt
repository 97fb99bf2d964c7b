use Rattle.std.specs.Prelude.{codes, ◌++◌}
use Rattle.eio_value.specs.Exceptions.{plain_text}
use Rattle.eio_value.proofs.Fronts.{front_before, all_written}
use Rattle.eio_value.proofs.writing.push_others.Goals as goal

pub returns-in_err-push_bytes-clause-front : goal.returns-in_err-push_bytes-clause-front
returns-in_err-push_bytes-clause-front c = front_before _ _ _ _ c.loop-member.invariant c.in_err-push_bytes.ensures.front

pub returns-in_err-push_plain-clause-front : goal.returns-in_err-push_plain-clause-front
returns-in_err-push_plain-clause-front c =
    front_before _ _ _ _ c.loop-member.invariant (front_before _ _ _ _ c.in_ok-push_bytes.ensures.ok c.in_err-push_plain.ensures.front)

pub returns-clause-ok : goal.returns-clause-ok
returns-clause-ok c = all_written (λ member. codes "; " ++ plain_text c.args.texts.now member.what) c.args.others.now c.loop-member.member-index _ _ c.loop-member.invariant c.loop-member-test.false
