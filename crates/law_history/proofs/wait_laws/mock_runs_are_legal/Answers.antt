use Rattle.law_history.proofs.Waits.Histories.{mock_runs_are_legal}
use Rattle.law_history.proofs.wait_laws.mock_runs_are_legal.Goals as goal

pub returns : goal.returns
returns c = mock_runs_are_legal
