use Rattle.std.proofs.Common.{◌≡◌, List, ℕ, [], ◌++◌, ap, ◌∙◌}
use Rattle.std.proofs.lemmas.Result.{err_from_is_err_and}
use Rattle.script_input.proofs.Scripts.{tree_still_fails}
use Rattle.script_input.proofs.inspection.tree_text.Goals as goal

written : (old text tree : List ℕ) → old ≡ [] → text ≡ old ++ tree → text ≡ tree
written old text tree none grown = grown ∙ ap (λ xs. xs ++ tree) none

pub returns-in_err-tree_script-clause-fault : goal.returns-in_err-tree_script-clause-fault
returns-in_err-tree_script-clause-fault c =
    let p = err_from_is_err_and c.from_residual.result c.from_residual.ensures.1 in
    tree_still_fails _ _ p.0 _ p.1 p.2 c.in_err-tree_script.ensures.fault

pub returns-clause-text : goal.returns-clause-text
returns-clause-text c = written _ _ _ c.new-text.ensures.items c.in_ok-write_tree.ensures.ok
