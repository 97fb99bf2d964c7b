use Rattle.std.proofs.Common.{ap}
use Rattle.spec_parts.specs.PathCalls.{tree_after}
use Rattle.path_cap.proofs.laws.refused_changes_nothing.Goals as goal

pub returns : goal.returns
returns c = λ tree capability change fault e. ap (λ answered. tree_after tree answered) e
