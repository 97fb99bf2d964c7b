use Rattle.std.specs.Prelude.{All}
use Rattle.std.proofs.Common.{arith, subst, sym}
use Rattle.std.proofs.lemmas.Grind.{common_steps}
use Rattle.eio_value.specs.Several.{HasOtherSerial}
use Rattle.eio_value.proofs.Places.{rest_after, distinct_after}
use Rattle.eio_value.proofs.members.Members.with.Goals as goal

pub invariant_of-t-5 : goal.invariant_of-t-5
invariant_of-t-5 c = record {
  whole = grind (arith, common_steps);
  least = grind arith;
  most = grind arith;
  rest = rest_after _ _ _ _ c.self.invariant.whole c.if-self-lt8.true c.self.invariant.rest;
  distinct = distinct_after _ _ _ c.self.invariant.whole c.if-self-lt8.true c.self.invariant.distinct (subst (λ s. All (HasOtherSerial c.args.member.serial) s.members) (sym c.self.view_is) c.requires);
}
