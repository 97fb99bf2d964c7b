use Rattle.std.proofs.Common.{◌∙◌}
use Rattle.script_tree.proofs.Copies.{spells, spelled_whole}
use Rattle.script_tree.proofs.tree.Tree.copy.Goals as goal

pub into_tree-requires : goal.into_tree-requires
into_tree-requires c = spelled_whole _ _ (c.in_ok-draft.ensures ∙ c.nodes.ensures)

pub returns : goal.returns
returns c = c.into_tree.ensures ∙ spells _ _ (c.in_ok-draft.ensures ∙ c.nodes.ensures)
