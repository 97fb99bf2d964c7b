use Rattle.law_domain.proofs.Kinded.Naming.{named_were_made}
use Rattle.law_domain.proofs.kind_laws.named_were_made.Goals as goal

pub returns : goal.returns
returns c = named_were_made
