use Rattle.std.proofs.Common.{◌≡◌, ◌∙◌, ap, sym, subst, refl, List, Option, Some}
use Rattle.std.specs.Prelude.{slice_get, IsSome, Result, Ok, Err, OnOk}
use Rattle.std.specs.Option.{option_map}
use Rattle.slab.specs.Slab.{with_value}
use Rattle.script_forms.specs.Flat.{nodes_of}
use Rattle.domain_core.specs.Keeping.{KeptFiber, kept_at}
use Rattle.domain_core.specs.Keyed.{HasKey, fiber_of, raised_in, fibers_in}
use Rattle.domain_core.specs.Stepping.{Settles}
use Rattle.domain_core.proofs.KeyLemmas.{changed_keyed}
use Rattle.domain_core.proofs.Seen.{kept_has_key, seen_by_key, its_number, stayed_thrown, reframed}
use Rattle.domain_core.proofs.fibers.Fibers.settle.Goals as goal
use Rattle.domain_core.proofs.fibers.Fibers.settle.Goals.{After-index_mut}

pub key_of-key-requires : goal.key_of-key-requires
key_of-key-requires c =
    subst (λ keys. HasKey keys c.args.number) (sym c.deref.ensures.value)
    (kept_has_key c.self.inside.keys.items c.self.inside.kept c.self.inside.thrown c.args.number (subst (λ fibers. IsSome (kept_at fibers c.args.number)) (sym c.self.view_is) c.requires.lives))

has : (c : After-index_mut) → slice_get c.self.inside.keys.items c.args.number ≡ Some (Some c.key_of-key.result)
has c = ap (λ keys. slice_get keys c.args.number) (sym c.deref.ensures.value) ∙ c.key_of-key.ensures

there : (c : After-index_mut) → kept_at c.args.self.now c.args.number ≡ Some (fiber_of (raised_in c.self.inside.thrown) c.index_mut.result.now)
there c =
    ap (λ fibers. kept_at fibers c.args.number) (sym c.self.view_is)
    ∙ (seen_by_key c.self.inside.keys.items c.self.inside.kept c.self.inside.thrown c.args.number c.key_of-key.result (has c) ∙ ap (option_map (fiber_of (raised_in c.self.inside.thrown))) c.index_mut.ensures.value)

pub settle_in-requires-clause-items : goal.settle_in-requires-clause-items
settle_in-requires-clause-items c = c.requires.placed _ (there (goal.at.settle_in-requires-clause-items c).After-index_mut)

pub invariant_of-self : goal.invariant_of-self
invariant_of-self c = (
    let after = (goal.at.invariant_of-self c).After-index_mut in
    let number = its_number c.self.inside.keys.items c.self.inside.kept c.self.inside.thrown c.self.invariant.0 c.self.invariant.1 c.args.number c.key_of-key.result (has after) c.index_mut.result.now c.index_mut.ensures.value in
    let now = record (c.index_mut.result.now) { frames = c.settle_in.new.self } in (
      changed_keyed c.self.inside.keys.items c.self.inside.kept c.self.invariant.0 c.args.number c.key_of-key.result (has after) now number,
      stayed_thrown c.self.inside.keys.items c.self.inside.kept c.self.inside.thrown c.self.invariant.0 c.self.invariant.1 c.args.number c.key_of-key.result (has after) c.index_mut.result.now c.index_mut.ensures.value now number refl,
    ))

settles_by : {T E : Type 0} (r : Result T E) (P Q R S : Type 0) → (P → Q → R → S) → OnOk r P → OnOk r Q → OnOk r R → OnOk r S
settles_by (Ok x) P Q R S then p q r = then p q r
settles_by (Err y) P Q R S then p q r = tt

pub returns : goal.returns
returns c = (
    let after = (goal.at.returns c).After-index_mut in
    let reframes = reframed c.self.inside.keys.items c.self.inside.kept c.self.inside.thrown c.self.invariant.0 c.self.invariant.1 c.args.number c.key_of-key.result (has after) c.index_mut.result.now c.index_mut.ensures.value c.settle_in.new.self in
    let then : List (Option KeptFiber) = fibers_in c.self.inside.keys.items (with_value c.self.inside.kept c.key_of-key.result (record (c.index_mut.result.now) { frames = c.settle_in.new.self })) c.self.inside.thrown in
    subst (λ fibers. OnOk c.settle_in.result (Settles (nodes_of c.args.script.now) c.args.came.now c.args.number fibers c.args.texts.now c.args.serials.now c.settle_in.new.ask then c.settle_in.new.texts c.settle_in.new.serial)) c.self.view_is
    (settles_by c.settle_in.result _ _ _ _ (λ settled placed bodies. record { reframes = reframes; settles = settled; placed = placed; bodies = bodies; grown = c.settle_in.ensures.grown }) c.settle_in.ensures.settled c.settle_in.ensures.items c.settle_in.ensures.bodies))
