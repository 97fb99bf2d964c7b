use Rattle.std.proofs.Common.{◌≡◌, Some, None, ◌∙◌, sym, ap}
use Rattle.std.specs.Option.{option_map}
use Rattle.spec_parts.specs.Contexts.{Context, context_at}
use Rattle.cancel_tree.specs.declared.kept.ContextKey.{ContextKey}
use Rattle.cancel_tree.specs.KeptContext.{context_of}
use Rattle.cancel_tree.specs.Places.{place_at}
use Rattle.cancel_tree.proofs.Trees.{absent_there, stands_there, is_there, at_own, has_value}
use Rattle.cancel_tree.proofs.tree.Tree.parent.Goals as goal
use Rattle.cancel_tree.proofs.tree.Tree.parent.Goals.{In-Some}

pub returns-in_default : goal.returns-in_default
returns-in_default c =
    let none : place_at c.self.inside.places.items c.args.c ≡ None = sym c.place_of.ensures ∙ c.in_default.is in
    sym (ap (λ contexts. (context_at contexts c.args.c).parent) (sym c.self.view_is) ∙ ap (λ (context : Context). context.parent) (absent_there c.self.inside.made c.self.inside.kept c.self.inside.places.items c.self.invariant.tree c.args.c none))

at : (c : In-Some) → place_at c.self.inside.places.items c.args.c ≡ Some c.in-Some.place
at c = sym c.place_of.ensures ∙ c.in-Some.is

pub index-requires : goal.index-requires
index-requires c =
    let there = is_there c.self.inside.made c.self.inside.kept c.self.inside.places.items c.self.invariant.tree c.in-Some.place (at_own c.self.inside.places.items c.args.c c.in-Some.place (at (goal.at.index-requires c).In-Some)) in
    has_value _ there.0 there.1

pub returns-in-Some-parent : goal.returns-in-Some-parent
returns-in-Some-parent c =
    let stands : context_at c.args.self.now c.args.c ≡ context_of (Some c.index.result.now) =
    ap (λ contexts. context_at contexts c.args.c) (sym c.self.view_is)
    ∙ stands_there c.self.inside.made c.self.inside.kept c.self.inside.places.items c.self.invariant.tree c.args.c c.in-Some.place c.index.result.now (at (goal.at.returns-in-Some-parent c).In-Some) c.index.ensures in
    sym (ap (λ (context : Context). context.parent) stands ∙ ap (option_map (λ (place : ContextKey). place.number)) c.in-Some-parent.is)

pub returns-in-None : goal.returns-in-None
returns-in-None c =
    let stands : context_at c.args.self.now c.args.c ≡ context_of (Some c.index.result.now) =
    ap (λ contexts. context_at contexts c.args.c) (sym c.self.view_is)
    ∙ stands_there c.self.inside.made c.self.inside.kept c.self.inside.places.items c.self.invariant.tree c.args.c c.in-Some.place c.index.result.now (at (goal.at.returns-in-None c).In-Some) c.index.ensures in
    sym (ap (λ (context : Context). context.parent) stands ∙ ap (option_map (λ (place : ContextKey). place.number)) c.in-None.is)
