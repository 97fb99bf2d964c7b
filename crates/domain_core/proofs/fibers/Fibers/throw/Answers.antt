use Rattle.std.proofs.Common.{◌≡◌, ◌∙◌, ap, sym, subst, Some}
use Rattle.std.specs.Prelude.{slice_get, IsSome}
use Rattle.std.proofs.lemmas.Option.{same_Some}
use Rattle.slab.specs.Slab.{Slab, get}
use Rattle.eio_value.specs.declared.raised.Outcome.TheVariants as outcome
use Rattle.eio_value.specs.declared.raised.Raised.{Raised}
use Rattle.spec_machine.specs.Domain as model
use Rattle.domain_core.specs.declared.fiber.Fiber.{Fiber}
use Rattle.domain_core.specs.declared.standing.Standing.TheVariants as standing
use Rattle.domain_core.specs.Keeping.{kept_at, changed_at}
use Rattle.domain_core.specs.Keyed.{HasKey, IsWithout, thrown_under}
use Rattle.domain_core.proofs.KeyLemmas.{changed_keyed}
use Rattle.domain_core.proofs.Seen.{kept_has_key, its_number, still_there, throws_thrown, throws_seen}
use Rattle.domain_core.proofs.fibers.Fibers.throw.Goals as goal
use Rattle.domain_core.proofs.fibers.Fibers.throw.Goals.{After-key_of-key, After-index_mut}

pub key_of-key-requires : goal.key_of-key-requires
key_of-key-requires c =
    subst (λ keys. HasKey keys c.args.number) (sym c.deref.ensures.value)
    (kept_has_key c.self.inside.keys.items c.self.inside.kept c.self.inside.thrown c.args.number (subst (λ fibers. IsSome (kept_at fibers c.args.number)) (sym c.self.view_is) c.requires.lives))

has : (c : After-key_of-key) → slice_get c.self.inside.keys.items c.args.number ≡ Some (Some c.key_of-key.result)
has c = ap (λ keys. slice_get keys c.args.number) (sym c.deref.ensures.value) ∙ c.key_of-key.ensures

pub forget-requires : goal.forget-requires
forget-requires c k is = (
    let after = (goal.at.forget-requires c).After-key_of-key in
    still_there c.self.inside.keys.items c.self.inside.kept c.self.inside.thrown c.self.invariant.0 c.self.invariant.1 c.args.number c.key_of-key.result (has after) c.index.result.now c.index.ensures c.args.raised.now c.reserve.new.self c.insert_reserved-thrown.new.self c.insert_reserved-thrown.result (λ k. ap (λ (s : Slab Raised). get s k) c.reserve.ensures.rest_kept) c.insert_reserved-thrown.ensures.was_vacant c.insert_reserved-thrown.ensures.updates k is)

without : (c : After-index_mut) → IsWithout (thrown_under c.index_mut.result.now.standing) c.insert_reserved-thrown.new.self c.forget.new.thrown
without c = subst (λ (f : Fiber). IsWithout (thrown_under f.standing) c.insert_reserved-thrown.new.self c.forget.new.thrown) (same_Some _ _ (sym c.index.ensures ∙ c.index_mut.ensures.value)) c.forget.ensures

pub invariant_of-self-2 : goal.invariant_of-self-2
invariant_of-self-2 c = (
    let after = (goal.at.invariant_of-self-2 c).After-key_of-key in
    let written = (goal.at.invariant_of-self-2 c).After-index_mut in
    let number = its_number c.self.inside.keys.items c.self.inside.kept c.self.inside.thrown c.self.invariant.0 c.self.invariant.1 c.args.number c.key_of-key.result (has after) c.index_mut.result.now c.index_mut.ensures.value in (
      changed_keyed c.self.inside.keys.items c.self.inside.kept c.self.invariant.0 c.args.number c.key_of-key.result (has after) (record (c.index_mut.result.now) { standing = standing.Throws c.insert_reserved-thrown.result }) number,
      throws_thrown c.self.inside.keys.items c.self.inside.kept c.self.inside.thrown c.self.invariant.0 c.self.invariant.1 c.args.number c.key_of-key.result (has after) c.index_mut.result.now c.index_mut.ensures.value c.args.raised.now c.reserve.new.self c.insert_reserved-thrown.new.self c.insert_reserved-thrown.result (λ k. ap (λ (s : Slab Raised). get s k) c.reserve.ensures.rest_kept) c.insert_reserved-thrown.ensures.was_vacant c.insert_reserved-thrown.ensures.updates c.forget.new.thrown (without written),
    ))

pub returns-clause-ok : goal.returns-clause-ok
returns-clause-ok c = (
    let after = (goal.at.returns-clause-ok c).After-key_of-key in
    let written = (goal.at.returns-clause-ok c).After-index_mut in
    throws_seen c.self.inside.keys.items c.self.inside.kept c.self.inside.thrown c.self.invariant.0 c.self.invariant.1 c.args.number c.key_of-key.result (has after) c.index_mut.result.now c.index_mut.ensures.value c.args.raised.now c.reserve.new.self c.insert_reserved-thrown.new.self c.insert_reserved-thrown.result (λ k. ap (λ (s : Slab Raised). get s k) c.reserve.ensures.rest_kept) c.insert_reserved-thrown.ensures.was_vacant c.insert_reserved-thrown.ensures.updates c.forget.new.thrown (without written)
    ∙ ap (changed_at c.args.number (λ fiber. record fiber { standing = model.Ready (model.GoesOn (outcome.Err c.args.raised.now)) })) c.self.view_is)
