use Rattle.law_fiber.proofs.Calls.Between.{fibers_stay_alike}
use Rattle.law_fiber.proofs.call_laws.fibers_stay_alike.Goals as goal

pub returns : goal.returns
returns c = fibers_stay_alike
