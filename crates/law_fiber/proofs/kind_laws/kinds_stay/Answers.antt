use Rattle.law_fiber.proofs.Kinded.Settling.{kinds_stay}
use Rattle.law_fiber.proofs.kind_laws.kinds_stay.Goals as goal

pub returns : goal.returns
returns c = kinds_stay
