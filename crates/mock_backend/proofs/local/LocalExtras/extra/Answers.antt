use Rattle.mock_backend.proofs.Undeclared.{no_mock}
use Rattle.mock_backend.proofs.local.LocalExtras.extra.Goals as goal

pub unreachable-requires : goal.unreachable-requires
unreachable-requires c = no_mock c.args.self.now _ c.args._call c.requires.fits
