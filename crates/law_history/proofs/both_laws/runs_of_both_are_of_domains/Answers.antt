use Rattle.law_history.proofs.Both.Both.{runs_of_both}
use Rattle.law_history.proofs.both_laws.runs_of_both_are_of_domains.Goals as goal

pub returns : goal.returns
returns c = runs_of_both
