use Rattle.law_domain.proofs.Texts.Moving.{openings_are_texted}
use Rattle.law_domain.proofs.text_laws.openings_are_texted.Goals as goal

pub returns : goal.returns
returns c = openings_are_texted
