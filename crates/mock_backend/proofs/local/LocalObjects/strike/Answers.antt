use Rattle.mock_backend.proofs.Undeclared.{none_open}
use Rattle.mock_backend.proofs.local.LocalObjects.strike.Goals as goal

pub unreachable-requires : goal.unreachable-requires
unreachable-requires c = none_open c.args.self.now c.args._who c.requires.«open»
