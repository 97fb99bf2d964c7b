use Rattle.law_domain.proofs.Sound.EndingAlone.{fibers_run_in_live}
use Rattle.law_domain.proofs.sound_laws.fibers_run_in_live_contexts.Goals as goal

pub returns : goal.returns
returns c = fibers_run_in_live
