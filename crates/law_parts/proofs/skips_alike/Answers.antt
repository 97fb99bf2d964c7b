use Rattle.law_parts.proofs.Alike.{skips_alike}
use Rattle.law_parts.proofs.skips_alike.Goals as goal

pub returns : goal.returns
returns c = skips_alike
