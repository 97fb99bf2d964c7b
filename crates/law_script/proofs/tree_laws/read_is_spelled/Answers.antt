use Rattle.law_script.proofs.Trees.Read.{read_is_spelled}
use Rattle.law_script.proofs.tree_laws.read_is_spelled.Goals as goal

pub returns : goal.returns
returns c = read_is_spelled
