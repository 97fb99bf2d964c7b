use Rattle.law_fiber.proofs.Texts.Passing.{texts_stay}
use Rattle.law_fiber.proofs.text_laws.texts_stay.Goals as goal

pub returns : goal.returns
returns c = texts_stay
