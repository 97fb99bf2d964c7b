use Rattle.law_domain.proofs.Sound.BuiltSettle.{built_settle}
use Rattle.law_domain.proofs.sound_laws.built_forms_settle.Goals as goal

pub returns : goal.returns
returns c = built_settle
