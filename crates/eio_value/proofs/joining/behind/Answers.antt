use Rattle.std.proofs.Common.{◌≤◌, length, subst, sym}
use Rattle.eio_value.specs.Several.{AreDistinct}
use Rattle.eio_value.proofs.JoiningLemmas.{rest_distinct, behind_same, behind_other, behind_from}
use Rattle.eio_value.proofs.joining.behind.Goals as goal

pub with_new-requires : goal.with_new-requires
with_new-requires c =
    let slice = c.as_slice-others.ensures in
    rest_distinct 2 c.as_slice-others.result.now (subst AreDistinct (sym slice.members) slice.distinct)

pub with_new-requires-else-others-first : goal.with_new-requires-else-others-first
with_new-requires-else-others-first c =
    let slice = c.as_slice-others.ensures in
    rest_distinct 1 c.as_slice-others.result.now (subst AreDistinct (sym slice.members) slice.distinct)

pub returns-then-others-first : goal.returns-then-others-first
returns-then-others-first c =
    let slice = c.as_slice-others.ensures in
    let least = subst (λ xs. 2 ≤ length xs) (sym slice.members) slice.least in
    let distinct = subst AreDistinct (sym slice.members) slice.distinct in
    behind_from _ _ _ _ _ _ _ _ _ slice.members c.is_cut-cut.ensures c.pair.ensures c.cut_where.ensures c.with_new.ensures (behind_same c.args.first c.as_slice-others.result.now _ _ least distinct c.if-others-first.true)

pub returns-else-others-first : goal.returns-else-others-first
returns-else-others-first c =
    let slice = c.as_slice-others.ensures in
    let least = subst (λ xs. 2 ≤ length xs) (sym slice.members) slice.least in
    let distinct = subst AreDistinct (sym slice.members) slice.distinct in
    behind_from _ _ _ _ _ _ _ _ _ slice.members c.is_cut-cut.ensures c.pair-else-others-first.ensures c.cut_where-else-others-first.ensures c.with_new-else-others-first.ensures (behind_other c.args.first c.as_slice-others.result.now _ _ least distinct c.if-others-first.false)
