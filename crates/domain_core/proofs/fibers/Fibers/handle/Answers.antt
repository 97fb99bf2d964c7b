use Rattle.std.proofs.Common.{◌≡◌, ◌∙◌, ap, sym, subst, refl, List, Option, Some}
use Rattle.std.specs.Prelude.{slice_get, IsSome, Result, Ok, Err, OnOk}
use Rattle.std.specs.Option.{option_map}
use Rattle.slab.specs.Slab.{with_value}
use Rattle.fiber_step.specs.Having.{HasStatements}
use Rattle.script_forms.specs.declared.node.Node.{Node}
use Rattle.domain_core.specs.Keeping.{KeptFiber, kept_at}
use Rattle.domain_core.specs.Keyed.{HasKey, fiber_of, raised_in, fibers_in}
use Rattle.domain_core.specs.Stepping.{Handles, IsPlacedAt}
use Rattle.domain_core.proofs.KeyLemmas.{changed_keyed}
use Rattle.domain_core.proofs.Seen.{kept_has_key, seen_by_key, its_number, stayed_thrown, reframed}
use Rattle.domain_core.proofs.fibers.Fibers.handle.Goals as goal
use Rattle.domain_core.proofs.fibers.Fibers.handle.Goals.{After-index_mut}

pub key_of-key-requires : goal.key_of-key-requires
key_of-key-requires c =
    subst (λ keys. HasKey keys c.args.number) (sym c.deref.ensures.value)
    (kept_has_key c.self.inside.keys.items c.self.inside.kept c.self.inside.thrown c.args.number (subst (λ fibers. IsSome (kept_at fibers c.args.number)) (sym c.self.view_is) c.requires.lives))

has : (c : After-index_mut) → slice_get c.self.inside.keys.items c.args.number ≡ Some (Some c.key_of-key.result)
has c = ap (λ keys. slice_get keys c.args.number) (sym c.deref.ensures.value) ∙ c.key_of-key.ensures

there : (c : After-index_mut)
    → kept_at (fibers_in c.self.inside.keys.items c.self.inside.kept c.self.inside.thrown) c.args.number ≡ Some (fiber_of (raised_in c.self.inside.thrown) c.index_mut.result.now)
there c =
    seen_by_key c.self.inside.keys.items c.self.inside.kept c.self.inside.thrown c.args.number c.key_of-key.result (has c)
    ∙ ap (option_map (fiber_of (raised_in c.self.inside.thrown))) c.index_mut.ensures.value

pub invariant_of-self : goal.invariant_of-self
invariant_of-self c = (
    let after = (goal.at.invariant_of-self c).After-index_mut in
    let number = its_number c.self.inside.keys.items c.self.inside.kept c.self.inside.thrown c.self.invariant.0 c.self.invariant.1 c.args.number c.key_of-key.result (has after) c.index_mut.result.now c.index_mut.ensures.value in
    let now = record (c.index_mut.result.now) { frames = c.handle.new.self } in (
      changed_keyed c.self.inside.keys.items c.self.inside.kept c.self.invariant.0 c.args.number c.key_of-key.result (has after) now number,
      stayed_thrown c.self.inside.keys.items c.self.inside.kept c.self.inside.thrown c.self.invariant.0 c.self.invariant.1 c.args.number c.key_of-key.result (has after) c.index_mut.result.now c.index_mut.ensures.value now number refl,
    ))

both_ok : {T E : Type 0} (r : Result T E) (P Q R : Type 0) → (P → Q → R) → OnOk r P → OnOk r Q → OnOk r R
both_ok (Ok x) P Q R then p q = then p q
both_ok (Err y) P Q R then p q = tt

pub returns : goal.returns
returns c = (
    let after = (goal.at.returns c).After-index_mut in
    let reframes = reframed c.self.inside.keys.items c.self.inside.kept c.self.inside.thrown c.self.invariant.0 c.self.invariant.1 c.args.number c.key_of-key.result (has after) c.index_mut.result.now c.index_mut.ensures.value c.handle.new.self in
    let then : List (Option KeptFiber) = fibers_in c.self.inside.keys.items (with_value c.self.inside.kept c.key_of-key.result (record (c.index_mut.result.now) { frames = c.handle.new.self })) c.self.inside.thrown in
    subst (λ fibers. OnOk c.handle.result ((nodes : List Node) → HasStatements nodes c.args.handler → IsPlacedAt nodes c.args.number fibers
    → Handles nodes c.args.ask.now c.args.context c.args.handler c.args.registered c.args.number fibers then)) c.self.view_is
    (both_ok c.handle.result _ _ _
    (λ position items nodes stands placed. record { reframes = reframes; position = position nodes; placed = items nodes (placed _ (there after)) stands })
    c.handle.ensures.ok c.handle.ensures.items))
