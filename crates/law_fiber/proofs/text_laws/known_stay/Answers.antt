use Rattle.law_fiber.proofs.Texts.Passing.{known_stay}
use Rattle.law_fiber.proofs.text_laws.known_stay.Goals as goal

pub returns : goal.returns
returns c = known_stay
