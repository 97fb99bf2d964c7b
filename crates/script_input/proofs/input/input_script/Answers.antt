use Rattle.std.proofs.lemmas.Result.{IfOk-weaker, err_from_is_err_and}
use Rattle.script_input.proofs.Scripts.{no_tree, script_fails, script_reads}
use Rattle.script_input.proofs.input.input_script.Goals as goal

pub returns-in_err-tree-clause-fault : goal.returns-in_err-tree-clause-fault
returns-in_err-tree-clause-fault c =
    let p = err_from_is_err_and c.from_residual.result c.from_residual.ensures.1 in
    no_tree _ _ p.0 _ p.1 p.2 c.in_err-tree.ensures.fault

pub returns-clause-ok : goal.returns-clause-ok
returns-clause-ok c = IfOk-weaker c.tree_script.result _ _ (λ script made. script_reads _ _ script c.in_ok-tree.ensures.ok made) c.tree_script.ensures.ok

pub returns-clause-fault : goal.returns-clause-fault
returns-clause-fault c = script_fails _ _ c.tree_script.result c.in_ok-tree.ensures.ok c.tree_script.ensures.fault
