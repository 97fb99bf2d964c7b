use Rattle.law_parts.proofs.SwitchLaws.{next_is_told}
use Rattle.law_parts.proofs.switches.next_is_told.Goals as goal

pub returns : goal.returns
returns c = next_is_told
