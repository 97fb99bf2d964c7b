use Rattle.law_script.proofs.Trees.Canonical.{read_is_within}
use Rattle.law_script.proofs.tree_laws.read_is_within.Goals as goal

pub returns : goal.returns
returns c = read_is_within
