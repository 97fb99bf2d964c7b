use Rattle.law_history.proofs.Waits.Mocked.{mock_moves_are_moves}
use Rattle.law_history.proofs.wait_laws.mock_moves_are_moves.Goals as goal

pub returns : goal.returns
returns c = mock_moves_are_moves
