use Rattle.std.proofs.lemmas.Result.{err_from_is_err_and}
use Rattle.script_input.proofs.Scripts.{tree_fails}
use Rattle.script_input.proofs.input.tree_script.Goals as goal

pub returns-in_err-script-clause-fault : goal.returns-in_err-script-clause-fault
returns-in_err-script-clause-fault c =
    let p = err_from_is_err_and c.from_residual.result c.from_residual.ensures.1 in
    tree_fails _ _ p.0 _ p.1 p.2 c.in_err-script.ensures.fault
