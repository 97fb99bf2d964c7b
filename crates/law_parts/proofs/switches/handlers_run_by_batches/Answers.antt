use Rattle.law_parts.proofs.SwitchLaws.{handlers_run_by_batches}
use Rattle.law_parts.proofs.switches.handlers_run_by_batches.Goals as goal

pub returns : goal.returns
returns c = handlers_run_by_batches
