use Rattle.std.proofs.Common.{◌≡◌, ◌+◌, Some, None, true, ◌∙◌, sym, ap, arith}
use Rattle.std.specs.Prelude.{is_some}
use Rattle.slab.specs.Slab.{with_value}
use Rattle.spec_parts.specs.Contexts.{is_live, off, takes_effect, cancel}
use Rattle.cancel_tree.specs.KeptContext.{contexts_in, reason_count}
use Rattle.cancel_tree.specs.Places.{place_at}
use Rattle.cancel_tree.proofs.Jumping.{jumps_cancelled}
use Rattle.cancel_tree.proofs.Changes.{with_reason, cancelled_tree, cancelled_list, cancelled_count, takes, takes_not_live, cancel_none, length-contexts_in}
use Rattle.cancel_tree.proofs.Reasons.{not_some, reason_count-le}
use Rattle.cancel_tree.proofs.Trees.{live_is_placed, is_there, has_value, at_own}
use Rattle.cancel_tree.proofs.tree.Tree.cancel.Goals as goal
use Rattle.cancel_tree.proofs.tree.Tree.cancel.Goals.{In-Some, After-place_of, After-index_mut}

live_as : (c : After-place_of) → is_live c.args.self.now c.args.c ≡ is_some c.place_of.result
live_as c =
    ap (λ contexts. is_live contexts c.args.c) (sym c.self.view_is)
    ∙ live_is_placed c.self.inside.made c.self.inside.kept c.self.inside.places.items c.self.invariant.tree c.args.c
    ∙ ap is_some (sym c.place_of.ensures)

pub returns-in_default-clause-took : goal.returns-in_default-clause-took
returns-in_default-clause-took c = sym (takes_not_live c.args.self.now c.args.c (live_as (goal.at.returns-in_default-clause-took c).After-place_of ∙ ap is_some c.in_default.is))

pub returns-in_default-clause-after : goal.returns-in_default-clause-after
returns-in_default-clause-after c =
    sym (cancel_none c.args.self.now c.args.c c.args.why (takes_not_live c.args.self.now c.args.c (live_as (goal.at.returns-in_default-clause-after c).After-place_of ∙ ap is_some c.in_default.is)))

at : (c : In-Some) → place_at c.self.inside.places.items c.args.c ≡ Some c.in-Some.place
at c = sym c.place_of.ensures ∙ c.in-Some.is

pub index_mut-requires : goal.index_mut-requires
index_mut-requires c =
    let there = is_there c.self.inside.made c.self.inside.kept c.self.inside.places.items c.self.invariant.tree c.in-Some.place (at_own c.self.inside.places.items c.args.c c.in-Some.place (at (goal.at.index_mut-requires c).In-Some)) in
    has_value _ there.0 there.1

-- one more has a reason
one_more : (c : After-index_mut) → reason_count (contexts_in c.self.inside.made (with_value c.self.inside.kept c.in-Some.place.key (with_reason c.self.inside.made c.self.inside.kept c.self.inside.places.items c.self.invariant.tree c.index_mut.result.now c.args.why)) c.self.inside.places.items) ≡ c.self.inside.reasons + 1
one_more c =
    let fresh : off c.args.self.now c.args.c ≡ None = not_some (off c.args.self.now c.args.c) (ap is_some (sym c.off.ensures) ∙ sym c.is_some.ensures ∙ c.if-is_some.false) in
    cancelled_count c.self.inside.made c.self.inside.kept c.self.inside.places.items c.self.invariant.tree c.args.c c.in-Some.place c.index_mut.result.now c.args.why (sym c.place_of.ensures ∙ c.in-Some.is) c.index_mut.ensures.value
    (ap (λ contexts. off contexts c.args.c) c.self.view_is ∙ fresh)
    ∙ ap (λ n. n + 1) c.self.invariant.counted

pub overflow_add-self : goal.overflow_add-self
overflow_add-self c =
    let kept = with_value c.self.inside.kept c.in-Some.place.key (with_reason c.self.inside.made c.self.inside.kept c.self.inside.places.items c.self.invariant.tree c.index_mut.result.now c.args.why) in
    let more = one_more (goal.at.overflow_add-self c).After-index_mut in
    let few = reason_count-le (contexts_in c.self.inside.made kept c.self.inside.places.items) in
    let all = length-contexts_in c.self.inside.made kept c.self.inside.places.items in
    let fits = c.self.ranges.0 in
    omega (arith, more, few, all, fits)

pub invariant_of-self : goal.invariant_of-self
invariant_of-self c =
    let there = at (goal.at.invariant_of-self c).In-Some in
    record {
      tree = cancelled_tree c.self.inside.made c.self.inside.kept c.self.inside.places.items c.self.invariant.tree c.args.c c.in-Some.place c.index_mut.result.now c.args.why there c.index_mut.ensures.value;
      jumps = jumps_cancelled c.self.inside.made c.self.inside.kept c.self.inside.places.items c.self.invariant.tree c.self.invariant.jumps c.args.c c.in-Some.place c.index_mut.result.now c.args.why there c.index_mut.ensures.value;
      counted = one_more (goal.at.invariant_of-self c).After-index_mut;
      room = c.self.invariant.room;
    }

pub returns-clause-took : goal.returns-clause-took
returns-clause-took c =
    let after = goal.at.returns-clause-took c in
    sym (takes c.args.self.now c.args.c (live_as after.After-place_of ∙ ap is_some c.in-Some.is) (ap is_some (sym c.off.ensures) ∙ sym c.is_some.ensures ∙ c.if-is_some.false))

pub returns-clause-after : goal.returns-clause-after
returns-clause-after c =
    let after = goal.at.returns-clause-after c in
    let effect : takes_effect c.args.self.now c.args.c ≡ true = takes c.args.self.now c.args.c (live_as after.After-place_of ∙ ap is_some c.in-Some.is) (ap is_some (sym c.off.ensures) ∙ sym c.is_some.ensures ∙ c.if-is_some.false) in
    cancelled_list c.self.inside.made c.self.inside.kept c.self.inside.places.items c.self.invariant.tree c.args.c c.in-Some.place c.index_mut.result.now c.args.why (at after.In-Some) c.index_mut.ensures.value
    (ap (λ contexts. takes_effect contexts c.args.c) c.self.view_is ∙ effect)
    ∙ ap (cancel c.args.c c.args.why) c.self.view_is
