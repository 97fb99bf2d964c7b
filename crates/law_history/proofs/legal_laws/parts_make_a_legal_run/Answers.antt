use Rattle.law_history.proofs.Legal.LegalRuns.{parts_make_a_legal_run}
use Rattle.law_history.proofs.legal_laws.parts_make_a_legal_run.Goals as goal

pub returns : goal.returns
returns c = parts_make_a_legal_run
