use Rattle.law_domain.proofs.Kinded.Keeping.{keeps_kinded}
use Rattle.law_domain.proofs.kind_laws.moves_keep_kinds.Goals as goal

pub returns : goal.returns
returns c = keeps_kinded
