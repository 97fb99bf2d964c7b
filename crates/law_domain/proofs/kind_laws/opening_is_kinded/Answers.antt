use Rattle.law_domain.proofs.Kinded.Opening.{opens_kinded}
use Rattle.law_domain.proofs.kind_laws.opening_is_kinded.Goals as goal

pub returns : goal.returns
returns c = opens_kinded
