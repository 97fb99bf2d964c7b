use Rattle.law_script.proofs.Trees.Canonical.{canonical_has_no_places}
use Rattle.law_script.proofs.tree_laws.canonical_has_no_places.Goals as goal

pub returns : goal.returns
returns c = canonical_has_no_places
