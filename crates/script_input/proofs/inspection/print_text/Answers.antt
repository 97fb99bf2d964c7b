use Rattle.std.proofs.lemmas.Result.{err_from_is_err_and}
use Rattle.script_input.proofs.Inspecting.{tree_printed}
use Rattle.script_input.proofs.Scripts.{no_tree, script_fails}
use Rattle.script_input.proofs.inspection.print_text.Goals as goal

pub returns-in_err-tree-clause-fault : goal.returns-in_err-tree-clause-fault
returns-in_err-tree-clause-fault c =
    let p = err_from_is_err_and c.from_residual.result c.from_residual.ensures.1 in
    no_tree _ _ p.0 _ p.1 p.2 c.in_err-tree.ensures.fault

pub returns-clause-ok : goal.returns-clause-ok
returns-clause-ok c = tree_printed _ _ c.tree_text.result (λ text. text.items) c.in_ok-tree.ensures.ok c.tree_text.ensures.text c.tree_text.ensures.script

pub returns-clause-fault : goal.returns-clause-fault
returns-clause-fault c = script_fails _ _ c.tree_text.result c.in_ok-tree.ensures.ok c.tree_text.ensures.fault
