use Rattle.law_script.proofs.Trees.Canonical.{canonical_is_read}
use Rattle.law_script.proofs.tree_laws.canonical_is_read.Goals as goal

pub returns : goal.returns
returns c = canonical_is_read
