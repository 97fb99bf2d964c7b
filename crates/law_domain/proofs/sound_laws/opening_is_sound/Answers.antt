use Rattle.law_domain.proofs.Sound.Opening.{opens_sound}
use Rattle.law_domain.proofs.sound_laws.opening_is_sound.Goals as goal

pub returns : goal.returns
returns c = opens_sound
