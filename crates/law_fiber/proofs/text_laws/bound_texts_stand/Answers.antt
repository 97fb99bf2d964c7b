use Rattle.law_fiber.proofs.Texts.Bound.{bound_texts_stand}
use Rattle.law_fiber.proofs.text_laws.bound_texts_stand.Goals as goal

pub returns : goal.returns
returns c = bound_texts_stand
