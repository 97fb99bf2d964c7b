use Rattle.law_history.proofs.Both.Both.{mock_runs_of_both}
use Rattle.law_history.proofs.both_laws.mock_runs_of_both_are_legal.Goals as goal

pub returns : goal.returns
returns c = mock_runs_of_both
