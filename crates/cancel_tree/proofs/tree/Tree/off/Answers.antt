use Rattle.std.proofs.Common.{Some, None, ◌∙◌, sym, ap, subst, List}
use Rattle.spec_parts.specs.Contexts.{Context, off}
use Rattle.cancel_tree.specs.KeptContext.{contexts_in}
use Rattle.cancel_tree.proofs.Reasons.{nobody_off}
use Rattle.cancel_tree.proofs.Trees.{OffGoesOn, off_begins, off_ends, off_goes_on, lower_next, is_there, has_value}
use Rattle.cancel_tree.proofs.tree.Tree.off.Goals as goal
use Rattle.cancel_tree.proofs.tree.Tree.off.Goals.{After-place_of-next, In-Some}

abbrev all_made : After-place_of-next → List Context
all_made c = contexts_in c.self.inside.made c.self.inside.kept c.self.inside.places.items

pub returns-then-self-eq0 : goal.returns-then-self-eq0
returns-then-self-eq0 c =
    sym (ap (λ contexts. off contexts c.args.c) (sym c.self.view_is)
    ∙ nobody_off (contexts_in c.self.inside.made c.self.inside.kept c.self.inside.places.items) c.args.c (c.self.invariant.counted ∙ c.if-self-eq0.true))

pub way-init : goal.way-init
way-init c =
    subst (OffGoesOn (all_made c) c.self.inside.places.items c.args.c) (sym c.place_of-next.ensures) (off_begins c.self.inside.made c.self.inside.kept c.self.inside.places.items c.self.invariant.tree c.args.c)

going : (c : In-Some) → OffGoesOn (contexts_in c.self.inside.made c.self.inside.kept c.self.inside.places.items) c.self.inside.places.items c.args.c (Some c.in-Some.place)
going c = subst (OffGoesOn (contexts_in c.self.inside.made c.self.inside.kept c.self.inside.places.items) c.self.inside.places.items c.args.c) c.in-Some.is c.way.invariant

pub index-context-requires : goal.index-context-requires
index-context-requires c =
    let there = is_there c.self.inside.made c.self.inside.kept c.self.inside.places.items c.self.invariant.tree c.in-Some.place (going c).0 in
    has_value _ there.0 there.1

pub returns-then-is_some : goal.returns-then-is_some
returns-then-is_some c =
    sym (ap (λ contexts. off contexts c.args.c) (sym c.self.view_is)
    ∙ off_ends c.self.inside.made c.self.inside.kept c.self.inside.places.items c.self.invariant.tree c.args.c c.in-Some.place c.index-context.result.now (going (goal.at.returns-then-is_some c).In-Some) c.index-context.ensures (sym c.is_some.ensures ∙ c.if-is_some.true))

pub way-smaller : goal.way-smaller
way-smaller c =
    rw (c.above-next.ensures, c.in-Some.is)
    (lower_next c.self.inside.made c.self.inside.kept c.self.inside.places.items c.self.invariant.tree c.in-Some.place c.index-context.result.now (going (goal.at.way-smaller c).In-Some).0 c.index-context.ensures)

pub way-preserved : goal.way-preserved
way-preserved c =
    subst (OffGoesOn (contexts_in c.self.inside.made c.self.inside.kept c.self.inside.places.items) c.self.inside.places.items c.args.c) (sym c.above-next.ensures)
    (off_goes_on c.self.inside.made c.self.inside.kept c.self.inside.places.items c.self.invariant.tree c.args.c c.in-Some.place c.index-context.result.now (going (goal.at.way-preserved c).In-Some) c.index-context.ensures (sym c.is_some.ensures ∙ c.if-is_some.false))

pub returns : goal.returns
returns c =
    let none : OffGoesOn (contexts_in c.self.inside.made c.self.inside.kept c.self.inside.places.items) c.self.inside.places.items c.args.c None = subst (OffGoesOn (contexts_in c.self.inside.made c.self.inside.kept c.self.inside.places.items) c.self.inside.places.items c.args.c) c.in_default.is c.way.invariant in
    sym (ap (λ contexts. off contexts c.args.c) (sym c.self.view_is) ∙ none)
