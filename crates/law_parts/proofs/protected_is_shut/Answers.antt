use Rattle.law_parts.proofs.Walks.{protected_is_shut}
use Rattle.law_parts.proofs.protected_is_shut.Goals as goal

pub returns : goal.returns
returns c = protected_is_shut
