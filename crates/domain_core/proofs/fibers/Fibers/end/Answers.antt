use Rattle.std.proofs.Common.{◌≡◌, ◌<◌, ◌∙◌, ap, sym, subst, length, vec_len, Some, None, arith}
use Rattle.std.specs.Prelude.{slice_get, slice_set, IsSome}
use Rattle.domain_core.specs.Keeping.{kept_at}
use Rattle.domain_core.specs.Keyed.{HasKey}
use Rattle.domain_core.proofs.KeyLemmas.{key_below, gone_keyed}
use Rattle.domain_core.proofs.Seen.{kept_has_key, its_thrown, gone_thrown, gone_seen}
use Rattle.domain_core.proofs.fibers.Fibers.end.Goals as goal
use Rattle.domain_core.proofs.fibers.Fibers.end.Goals.{After-key_of-key}

pub key_of-key-requires : goal.key_of-key-requires
key_of-key-requires c =
    subst (λ keys. HasKey keys c.args.number) (sym c.deref.ensures.value)
    (kept_has_key c.self.inside.keys.items c.self.inside.kept c.self.inside.thrown c.args.number (subst (λ fibers. IsSome (kept_at fibers c.args.number)) (sym c.self.view_is) c.requires))

has : (c : After-key_of-key) → slice_get c.self.inside.keys.items c.args.number ≡ Some (Some c.key_of-key.result)
has c = ap (λ keys. slice_get keys c.args.number) (sym c.deref.ensures.value) ∙ c.key_of-key.ensures

pub index_mut-requires : goal.index_mut-requires
index_mut-requires c = (
    let below : c.args.number < length c.self.inside.keys.items = key_below c.self.inside.keys.items c.args.number _ (has (goal.at.index_mut-requires c).After-key_of-key) in
    let long : vec_len c.self.inside.keys ≡ length c.self.inside.keys.items = c.self.inside.keys.ok.0 in
    omega (arith, below, long))

pub forget-requires : goal.forget-requires
forget-requires c k is = (
    let after = (goal.at.forget-requires c).After-key_of-key in
    c.self.invariant.1.there c.args.number k (its_thrown c.self.inside.keys.items c.self.inside.kept c.self.inside.thrown c.self.invariant.0 c.self.invariant.1 c.args.number c.key_of-key.result (has after) c.remove-ended.result c.remove-ended.ensures.value ∙ is))

pub invariant_of-self : goal.invariant_of-self
invariant_of-self c = (
    let after = (goal.at.invariant_of-self c).After-key_of-key in (
      gone_keyed c.self.inside.keys.items c.self.inside.kept c.self.invariant.0 c.args.number c.key_of-key.result (has after) c.remove-ended.new.self c.remove-ended.ensures.updates c.remove-ended.ensures.len c.remove-ended.ensures.capacity,
      gone_thrown c.self.inside.keys.items c.self.inside.kept c.self.inside.thrown c.self.invariant.0 c.self.invariant.1 c.args.number c.key_of-key.result (has after) c.remove-ended.result c.remove-ended.ensures.value c.forget.new.thrown c.forget.ensures c.remove-ended.new.self c.remove-ended.ensures.updates,
    ))

pub returns : goal.returns
returns c = (
    let after = (goal.at.returns c).After-key_of-key in
    gone_seen c.self.inside.keys.items c.self.inside.kept c.self.inside.thrown c.self.invariant.0 c.self.invariant.1 c.args.number c.key_of-key.result (has after) c.remove-ended.result c.remove-ended.ensures.value c.forget.new.thrown c.forget.ensures c.remove-ended.new.self c.remove-ended.ensures.updates
    ∙ ap (λ fibers. slice_set fibers c.args.number None) c.self.view_is)
