use Rattle.std.proofs.Common.{ap, sym, ◌∙◌}
use Rattle.eio_value.specs.Several.{first_eight}
use Rattle.eio_value.proofs.JoiningLemmas.{told, others_before, joined_new, joined_old, with_more}
use Rattle.eio_value.proofs.joining.with_new.Goals.{then-not-is_among, else-not-is_among}
use Rattle.eio_value.proofs.joining.with_new.Goals as goal

pub with-joined-requires : goal.with-joined-requires
with-joined-requires c =
    let new = told _ _ _ _ _ c.as_slice.ensures.members c.is_among.ensures c.if-not-is_among.true in
    others_before c.loop-other.joined c.args.members.members c.args.others.now c.args.members.cut c.loop-other.other-index _ c.requires c.loop-other-test.true c.loop-other.invariant new

pub loop-other-preserved : goal.loop-other-preserved
loop-other-preserved c = elim c.if-not-is_among.branch [
  | then-not-is_among w ↦
      let new = told _ _ _ _ _ c.as_slice.ensures.members c.is_among.ensures w.if-not-is_among.true in
      w.joined-is ∙ (with_more _ _ _ _ _ c.loop-other.invariant w.with-joined.ensures.added w.with-joined.ensures.left_out ∙ ap (λ xs. first_eight xs c.args.members.cut) (sym (joined_new c.args.members.members c.args.others.now c.loop-other.other-index _ c.loop-other-test.true new)))
  | else-not-is_among w ↦
      let old = told _ _ _ _ _ c.as_slice.ensures.members c.is_among.ensures w.if-not-is_among.false in
      w.joined-is ∙ (c.loop-other.invariant ∙ ap (λ xs. first_eight xs c.args.members.cut) (sym (joined_old c.args.members.members c.args.others.now c.loop-other.other-index _ c.loop-other-test.true old)))
]
