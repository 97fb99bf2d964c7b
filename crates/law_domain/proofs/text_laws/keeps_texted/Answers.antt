use Rattle.law_domain.proofs.Texts.Moving.{keeps_texted}
use Rattle.law_domain.proofs.text_laws.keeps_texted.Goals as goal

pub returns : goal.returns
returns c = keeps_texted
