use Rattle.law_domain.proofs.Texts.Preparing.{prepares_keep_texted}
use Rattle.law_domain.proofs.text_laws.prepares_keep_texted.Goals as goal

pub returns : goal.returns
returns c = prepares_keep_texted
