use Rattle.std.proofs.Common.{◌≡◌, ◌∙◌, ap, sym, subst, refl, Some}
use Rattle.std.specs.Prelude.{slice_get, IsSome}
use Rattle.domain_core.specs.Keeping.{KeptFiber, kept_at, changed_at}
use Rattle.domain_core.specs.Keyed.{HasKey}
use Rattle.domain_core.proofs.KeyLemmas.{changed_keyed}
use Rattle.domain_core.proofs.Seen.{kept_has_key, its_number, stayed_thrown, stayed_seen}
use Rattle.domain_core.proofs.fibers.Fibers.go_to.Goals as goal
use Rattle.domain_core.proofs.fibers.Fibers.go_to.Goals.{After-index_mut}

pub key_of-key-requires : goal.key_of-key-requires
key_of-key-requires c =
    subst (λ keys. HasKey keys c.args.number) (sym c.deref.ensures.value)
    (kept_has_key c.self.inside.keys.items c.self.inside.kept c.self.inside.thrown c.args.number (subst (λ fibers. IsSome (kept_at fibers c.args.number)) (sym c.self.view_is) c.requires))

has : (c : After-index_mut) → slice_get c.self.inside.keys.items c.args.number ≡ Some (Some c.key_of-key.result)
has c = ap (λ keys. slice_get keys c.args.number) (sym c.deref.ensures.value) ∙ c.key_of-key.ensures

pub invariant_of-self : goal.invariant_of-self
invariant_of-self c = (
    let after = (goal.at.invariant_of-self c).After-index_mut in
    let number = its_number c.self.inside.keys.items c.self.inside.kept c.self.inside.thrown c.self.invariant.0 c.self.invariant.1 c.args.number c.key_of-key.result (has after) c.index_mut.result.now c.index_mut.ensures.value in
    let now = record (c.index_mut.result.now) { context = c.args.context } in (
      changed_keyed c.self.inside.keys.items c.self.inside.kept c.self.invariant.0 c.args.number c.key_of-key.result (has after) now number,
      stayed_thrown c.self.inside.keys.items c.self.inside.kept c.self.inside.thrown c.self.invariant.0 c.self.invariant.1 c.args.number c.key_of-key.result (has after) c.index_mut.result.now c.index_mut.ensures.value now number refl,
    ))

pub returns : goal.returns
returns c = (
    let after = (goal.at.returns c).After-index_mut in
    let number = its_number c.self.inside.keys.items c.self.inside.kept c.self.inside.thrown c.self.invariant.0 c.self.invariant.1 c.args.number c.key_of-key.result (has after) c.index_mut.result.now c.index_mut.ensures.value in
    let change : KeptFiber → KeptFiber = λ fiber. record fiber { context = c.args.context } in
    stayed_seen c.self.inside.keys.items c.self.inside.kept c.self.inside.thrown c.self.invariant.0 c.self.invariant.1 c.args.number c.key_of-key.result (has after) c.index_mut.result.now c.index_mut.ensures.value (record (c.index_mut.result.now) { context = c.args.context }) number refl change refl
    ∙ ap (changed_at c.args.number change) c.self.view_is)
