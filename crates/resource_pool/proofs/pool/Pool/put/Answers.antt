use Rattle.std.proofs.Common.{◌≡◌, ◌<◌, true, length, arith, sym, ap, ◌∙◌, ◌∷◌, [], ◌++◌}
use Rattle.spec_parts.specs.Pools.{is_out}
use Rattle.wait_list.specs.Lists.{Core}
use Rattle.resource_pool.specs.Using.{AreIdle, is_out_of}
use Rattle.resource_pool.proofs.Using.{out_fits}
use Rattle.resource_pool.proofs.pool.Pool.put.Given.{Over}
use Rattle.resource_pool.proofs.pool.Pool.put.Goals as goal
use Rattle.resource_pool.proofs.pool.Pool.put.Goals.{After-wake_first}

-- the resource that is put back is out, and so fits behind the idle ones
fits : (g : Over) (c : After-wake_first g) → AreIdle c.self.inside.made (c.self.inside.idle.items ++ c.args.resource ∷ []) × (length c.self.inside.idle.items < c.self.inside.made)
fits g c =
    let out : is_out c.self.inside.made c.self.inside.idle.items c.args.resource ≡ true =
    ap (λ (core : Core). is_out_of core.row.values c.args.resource) c.self.view_is ∙ (sym c.is_out.ensures ∙ c.if-not-is_out.false)
    in
    out_fits c.self.inside.made c.self.inside.idle.items c.args.resource c.self.invariant.0 out

pub push_reserved-requires : goal.push_reserved-requires
push_reserved-requires g c =
    let few : length c.self.inside.idle.items < c.self.inside.made = (fits g (goal.at.push_reserved-requires g c).After-wake_first).1 in
    let len = c.self.inside.idle.ok in
    omega (arith, few, c.self.invariant.1, c.self.invariant.2, len)

pub invariant_of-self-in-None : goal.invariant_of-self-in-None
invariant_of-self-in-None g c =
    (rw c.push_reserved.ensures.items (fits g (goal.at.invariant_of-self-in-None g c).After-wake_first).0, c.self.invariant.1, rw c.push_reserved.ensures.capacity c.self.invariant.2)
