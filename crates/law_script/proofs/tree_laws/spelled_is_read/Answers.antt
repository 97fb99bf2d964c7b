use Rattle.law_script.proofs.Trees.Back.{spelled_is_read}
use Rattle.law_script.proofs.tree_laws.spelled_is_read.Goals as goal

pub returns : goal.returns
returns c = spelled_is_read
