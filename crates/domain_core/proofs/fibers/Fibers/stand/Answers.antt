use Rattle.std.proofs.Common.{◌≡◌, ◌∙◌, ap, sym, subst, Some}
use Rattle.std.specs.Prelude.{slice_get, IsSome}
use Rattle.std.proofs.lemmas.Option.{same_Some}
use Rattle.domain_core.specs.declared.fiber.Fiber.{Fiber}
use Rattle.domain_core.specs.Keeping.{kept_at, changed_at}
use Rattle.domain_core.specs.Keyed.{HasKey, IsWithout, thrown_under, plain_standing}
use Rattle.domain_core.proofs.KeyLemmas.{changed_keyed}
use Rattle.domain_core.proofs.Seen.{kept_has_key, its_number, its_thrown, stood_thrown, stood_seen}
use Rattle.domain_core.proofs.fibers.Fibers.stand.Goals as goal
use Rattle.domain_core.proofs.fibers.Fibers.stand.Goals.{After-key_of-key, After-index_mut}

pub key_of-key-requires : goal.key_of-key-requires
key_of-key-requires c =
    subst (λ keys. HasKey keys c.args.number) (sym c.deref.ensures.value)
    (kept_has_key c.self.inside.keys.items c.self.inside.kept c.self.inside.thrown c.args.number (subst (λ fibers. IsSome (kept_at fibers c.args.number)) (sym c.self.view_is) c.requires.lives))

has : (c : After-key_of-key) → slice_get c.self.inside.keys.items c.args.number ≡ Some (Some c.key_of-key.result)
has c = ap (λ keys. slice_get keys c.args.number) (sym c.deref.ensures.value) ∙ c.key_of-key.ensures

pub forget-requires : goal.forget-requires
forget-requires c k is = (
    let after = (goal.at.forget-requires c).After-key_of-key in
    c.self.invariant.1.there c.args.number k (its_thrown c.self.inside.keys.items c.self.inside.kept c.self.inside.thrown c.self.invariant.0 c.self.invariant.1 c.args.number c.key_of-key.result (has after) c.index.result.now c.index.ensures ∙ is))

without : (c : After-index_mut) → IsWithout (thrown_under c.index_mut.result.now.standing) c.self.inside.thrown c.forget.new.thrown
without c = subst (λ (f : Fiber). IsWithout (thrown_under f.standing) c.self.inside.thrown c.forget.new.thrown) (same_Some _ _ (sym c.index.ensures ∙ c.index_mut.ensures.value)) c.forget.ensures

pub invariant_of-self : goal.invariant_of-self
invariant_of-self c = (
    let after = (goal.at.invariant_of-self c).After-key_of-key in
    let written = (goal.at.invariant_of-self c).After-index_mut in
    let number = its_number c.self.inside.keys.items c.self.inside.kept c.self.inside.thrown c.self.invariant.0 c.self.invariant.1 c.args.number c.key_of-key.result (has after) c.index_mut.result.now c.index_mut.ensures.value in (
      changed_keyed c.self.inside.keys.items c.self.inside.kept c.self.invariant.0 c.args.number c.key_of-key.result (has after) (record (c.index_mut.result.now) { standing = c.args.standing }) number,
      stood_thrown c.self.inside.keys.items c.self.inside.kept c.self.inside.thrown c.self.invariant.0 c.self.invariant.1 c.args.number c.key_of-key.result (has after) c.index_mut.result.now c.index_mut.ensures.value c.forget.new.thrown (without written) c.args.standing c.requires.none,
    ))

pub returns : goal.returns
returns c = (
    let after = (goal.at.returns c).After-key_of-key in
    let written = (goal.at.returns c).After-index_mut in
    stood_seen c.self.inside.keys.items c.self.inside.kept c.self.inside.thrown c.self.invariant.0 c.self.invariant.1 c.args.number c.key_of-key.result (has after) c.index_mut.result.now c.index_mut.ensures.value c.forget.new.thrown (without written) c.args.standing c.requires.none
    ∙ ap (changed_at c.args.number (λ fiber. record fiber { standing = plain_standing c.args.standing })) c.self.view_is)
