use Rattle.law_domain.proofs.Sound.Keeping.{keeps_sound}
use Rattle.law_domain.proofs.sound_laws.moves_keep_sound.Goals as goal

pub returns : goal.returns
returns c = keeps_sound
