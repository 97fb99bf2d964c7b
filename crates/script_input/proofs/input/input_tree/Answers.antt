use Rattle.std.proofs.lemmas.Result.{err_from_is_err_and}
use Rattle.script_input.proofs.Trees.{too_long, tree_fails, tree_reads}
use Rattle.script_input.proofs.input.input_tree.Goals as goal

pub returns-then-bytes-gt-MOST_BYTES-clause-fault :
    goal.returns-then-bytes-gt-MOST_BYTES-clause-fault
returns-then-bytes-gt-MOST_BYTES-clause-fault c = too_long _ _ c.if-bytes-gt-MOST_BYTES.true c.refused.ensures

pub returns-in_err-tree-clause-fault : goal.returns-in_err-tree-clause-fault
returns-in_err-tree-clause-fault c =
    let p = err_from_is_err_and c.from_residual.result c.from_residual.ensures.1 in
    tree_fails _ _ p.0 _ p.1 p.2 c.if-bytes-gt-MOST_BYTES.false c.in_err-tree.ensures.fault

pub returns-clause-ok : goal.returns-clause-ok
returns-clause-ok c = tree_reads _ _ c.if-bytes-gt-MOST_BYTES.false c.in_ok-tree.ensures.ok
