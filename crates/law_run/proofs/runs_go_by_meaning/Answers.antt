use Rattle.law_script.proofs.Scripts.BareScripts.{places_dont_count}
use Rattle.law_run.proofs.Meanings.{runs_go_by_meaning}
use Rattle.law_run.proofs.runs_go_by_meaning.Goals as goal

pub returns-clause-meaning : goal.returns-clause-meaning
returns-clause-meaning c = runs_go_by_meaning

pub returns-clause-places : goal.returns-clause-places
returns-clause-places c = places_dont_count
