use Rattle.std.proofs.Common.{◌∙◌, sym}
use Rattle.std.proofs.lemmas.Result.{err_from_is_err_and}
use Rattle.mock_backend.proofs.Inputs.{domain_refused, no_script, run_is, unbuilt_refused}
use Rattle.mock_backend.proofs.script.mocked_script.Goals as goal

pub returns-in_err-script-clause-fault : goal.returns-in_err-script-clause-fault
returns-in_err-script-clause-fault c =
    let p = err_from_is_err_and c.from_residual.result c.from_residual.ensures.1 in
    no_script _ _ p.0 _ p.1 p.2 c.in_err-script.ensures.fault

pub returns-in-Some-clause-fault : goal.returns-in-Some-clause-fault
returns-in-Some-clause-fault c = domain_refused _ _ c.in_ok-script.ensures.ok _ (sym c.in-Some.ensures)

pub returns-in-Some-unbuilt-clause-fault : goal.returns-in-Some-unbuilt-clause-fault
returns-in-Some-unbuilt-clause-fault c =
    unbuilt_refused _ _ c.in_ok-script.ensures.ok _ (sym c.domain_only.ensures ∙ c.in_default.is) (sym c.unbuilt.ensures ∙ c.in-Some-unbuilt.is)

pub returns-clause-ok : goal.returns-clause-ok
returns-clause-ok c = run_is _ _ c.in_ok-script.ensures.ok (sym c.domain_only.ensures ∙ c.in_default.is) (sym c.unbuilt.ensures ∙ c.in_default-unbuilt.is)
