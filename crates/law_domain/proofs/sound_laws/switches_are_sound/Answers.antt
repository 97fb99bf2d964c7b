use Rattle.law_domain.proofs.Sound.Conditions.{switches_are_sound}
use Rattle.law_domain.proofs.sound_laws.switches_are_sound.Goals as goal

pub returns : goal.returns
returns c = switches_are_sound
