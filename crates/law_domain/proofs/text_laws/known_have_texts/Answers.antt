use Rattle.law_domain.proofs.Texts.Moving.{known_have_texts}
use Rattle.law_domain.proofs.text_laws.known_have_texts.Goals as goal

pub returns : goal.returns
returns c = known_have_texts
