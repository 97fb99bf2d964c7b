use Rattle.law_domain.proofs.Kinded.Keeping.{calls_kinded}
use Rattle.law_domain.proofs.kind_laws.calls_are_kinded.Goals as goal

pub returns : goal.returns
returns c = calls_kinded
