use Rattle.law_fiber.proofs.Calls.Jobs.{jobs_see_captured}
use Rattle.law_fiber.proofs.call_laws.jobs_see_captured.Goals as goal

pub returns : goal.returns
returns c = jobs_see_captured
