use Rattle.std.proofs.Common.{Some, None, ◌∙◌, sym, ap, subst}
use Rattle.spec_parts.specs.Contexts.{goes_up_to}
use Rattle.cancel_tree.specs.KeptContext.{contexts_in}
use Rattle.cancel_tree.proofs.Trees.{UpGoesOn, up_begins, up_ends, up_goes_towards, goes_up_to_itself, lower_towards, is_there, has_value}
use Rattle.cancel_tree.proofs.tree.Tree.goes_up_to.Goals as goal
use Rattle.cancel_tree.proofs.tree.Tree.goes_up_to.Goals.{In-Some}

pub returns-then-x-c : goal.returns-then-x-c
returns-then-x-c c = sym (goes_up_to_itself c.args.self.now c.args.x c.args.c c.if-x-c.true)

pub way-init : goal.way-init
way-init c =
    subst (UpGoesOn (contexts_in c.self.inside.made c.self.inside.kept c.self.inside.places.items) c.self.inside.places.items c.args.x c.args.c) (sym c.place_of-next.ensures) (up_begins c.self.inside.made c.self.inside.kept c.self.inside.places.items c.self.invariant.tree c.args.x c.args.c c.if-x-c.false)

going : (c : In-Some) → UpGoesOn (contexts_in c.self.inside.made c.self.inside.kept c.self.inside.places.items) c.self.inside.places.items c.args.x c.args.c (Some c.in-Some.place)
going c = subst (UpGoesOn (contexts_in c.self.inside.made c.self.inside.kept c.self.inside.places.items) c.self.inside.places.items c.args.x c.args.c) c.in-Some.is c.way.invariant

pub returns-then-place-c : goal.returns-then-place-c
returns-then-place-c c =
    sym (ap (λ contexts. goes_up_to contexts c.args.x c.args.c) (sym c.self.view_is)
    ∙ up_ends c.self.inside.made c.self.inside.kept c.self.inside.places.items c.self.invariant.tree c.args.x c.args.c c.in-Some.place (going (goal.at.returns-then-place-c c).In-Some) c.if-place-c.true)

pub index-requires : goal.index-requires
index-requires c =
    let there = is_there c.self.inside.made c.self.inside.kept c.self.inside.places.items c.self.invariant.tree c.in-Some.place (going (goal.at.index-requires c).In-Some).0 in
    has_value _ there.0 there.1

pub way-smaller : goal.way-smaller
way-smaller c =
    rw (c.towards-next.ensures, c.in-Some.is)
    (lower_towards c.self.inside.made c.self.inside.kept c.self.inside.places.items c.self.invariant.tree c.args.c c.in-Some.place c.index.result.now c.self.invariant.jumps (going (goal.at.way-smaller c).In-Some).0 c.index.ensures)

pub way-preserved : goal.way-preserved
way-preserved c =
    subst (UpGoesOn (contexts_in c.self.inside.made c.self.inside.kept c.self.inside.places.items) c.self.inside.places.items c.args.x c.args.c) (sym c.towards-next.ensures)
    (up_goes_towards c.self.inside.made c.self.inside.kept c.self.inside.places.items c.self.invariant.tree c.args.x c.args.c c.in-Some.place c.index.result.now c.self.invariant.jumps (going (goal.at.way-preserved c).In-Some) c.index.ensures c.if-place-c.false)

pub returns : goal.returns
returns c =
    let none : UpGoesOn (contexts_in c.self.inside.made c.self.inside.kept c.self.inside.places.items) c.self.inside.places.items c.args.x c.args.c None = subst (UpGoesOn (contexts_in c.self.inside.made c.self.inside.kept c.self.inside.places.items) c.self.inside.places.items c.args.x c.args.c) c.in_default.is c.way.invariant in
    sym (ap (λ contexts. goes_up_to contexts c.args.x c.args.c) (sym c.self.view_is) ∙ none)
