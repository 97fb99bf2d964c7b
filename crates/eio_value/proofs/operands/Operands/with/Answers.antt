use Rattle.std.proofs.Common.{◌<◌, arith}
use Rattle.std.proofs.lemmas.Grind.{common_steps}
use Rattle.eio_value.proofs.Places.{rest_after, count_below}
use Rattle.eio_value.proofs.operands.Operands.with.Goals as goal

pub invariant_of-result : goal.invariant_of-result
invariant_of-result c =
    let less : c.self.inside.count < 8 = count_below _ _ _ c.self.invariant.whole c.self.invariant.most c.self.view_is c.requires in
    record {
      whole = grind (arith, common_steps);
      most = grind (arith, less);
      rest = rest_after _ _ _ _ c.self.invariant.whole less c.self.invariant.rest;
    }
