use Rattle.trace_out.proofs.Appended.{front_none}
use Rattle.mock_backend.proofs.Running.{writes_failed}
use Rattle.mock_backend.proofs.run.run_script.Goals as goal

pub returns-in_err-domain-clause-text : goal.returns-in_err-domain-clause-text
returns-in_err-domain-clause-text g c = writes_failed _ _ _ _ c.from_residual-in_err-domain.ensures.0 (front_none _ _)
