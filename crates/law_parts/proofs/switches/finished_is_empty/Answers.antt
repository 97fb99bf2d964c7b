use Rattle.law_parts.proofs.SwitchLaws.{finished_is_empty}
use Rattle.law_parts.proofs.switches.finished_is_empty.Goals as goal

pub returns : goal.returns
returns c = finished_is_empty
