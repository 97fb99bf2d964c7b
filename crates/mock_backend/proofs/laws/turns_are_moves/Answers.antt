use Rattle.mock_backend.proofs.TurnsMove.{turns_are_moves}
use Rattle.mock_backend.proofs.laws.turns_are_moves.Goals as goal

pub returns : goal.returns
returns c = turns_are_moves
