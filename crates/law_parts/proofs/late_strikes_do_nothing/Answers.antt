use Rattle.law_parts.proofs.Waits.{late_strikes_do_nothing}
use Rattle.law_parts.proofs.late_strikes_do_nothing.Goals as goal

pub returns : goal.returns
returns c = late_strikes_do_nothing
