use Rattle.std.proofs.Common.{◌≡◌, ◌≤◌, arith, vec_capacity}
use Rattle.domain_strikes.proofs.strikes.Strikes.cancel.Goals as goal

pub invariant_of-self : goal.invariant_of-self
invariant_of-self c =
    let room : 1024 ≤ vec_capacity c.self.inside.fibers = c.self.invariant in
    let same : vec_capacity c.clear.new.self ≡ vec_capacity c.self.inside.fibers = c.clear.ensures.capacity in
    let kept : vec_capacity c.clear.new.self ≤ vec_capacity c.strike.new.out = c.strike.ensures.capacity in
    omega arith
