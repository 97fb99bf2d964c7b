use Rattle.std.proofs.Common.{ap, sym, map, refl, arith}
use Rattle.mock_backend.specs.Objects.{kind_of, one_has_waiter}
use Rattle.mock_backend.proofs.local.Local.make.Goals as goal

pub returns-clause-declares : goal.returns-clause-declares
returns-clause-declares c = ap (map kind_of) c.new.ensures.items

pub returns-clause-fits : goal.returns-clause-fits
returns-clause-fits c kept number mocked = record {
  mocked = sym mocked;
  domain = sym number;
  seen = omega arith;
  waits = λ who. ap (λ items. one_has_waiter items who) c.new.ensures.items;
  submits = refl;
}
