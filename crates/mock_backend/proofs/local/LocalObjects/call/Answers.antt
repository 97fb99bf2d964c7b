use Rattle.mock_backend.proofs.Undeclared.{no_object}
use Rattle.mock_backend.proofs.local.LocalObjects.call.Goals as goal

pub unreachable-requires : goal.unreachable-requires
unreachable-requires c = no_object c.args.self.now c.args._call c.requires.object
