use Rattle.law_domain.proofs.Sound.EndingAlone.{has_room_behind}
use Rattle.law_domain.proofs.sound_laws.ready_list_has_room.Goals as goal

pub returns : goal.returns
returns c = has_room_behind
