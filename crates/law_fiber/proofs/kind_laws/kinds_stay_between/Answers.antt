use Rattle.law_fiber.proofs.Kinded.Between.{kinds_stay_between}
use Rattle.law_fiber.proofs.kind_laws.kinds_stay_between.Goals as goal

pub returns : goal.returns
returns c = kinds_stay_between
