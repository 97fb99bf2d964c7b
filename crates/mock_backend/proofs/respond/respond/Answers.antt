use Rattle.mock_backend.proofs.Answered.{refusal_answered, refusal_written, script_answered, script_written}
use Rattle.mock_backend.proofs.Inputs.{mocked_runs}
use Rattle.mock_backend.proofs.respond.respond.Goals as goal

pub run_script-requires-clause-runnable : goal.run_script-requires-clause-runnable
run_script-requires-clause-runnable g c = mocked_runs _ _ c.in-Ok.ensures.ok

pub returns-in-Ok-clause-ending : goal.returns-in-Ok-clause-ending
returns-in-Ok-clause-ending g c = script_answered _ _ _ _ c.in-Ok.ensures.ok c.run_script.ensures.ending

pub returns-in-Ok-clause-text : goal.returns-in-Ok-clause-text
returns-in-Ok-clause-text g c = script_written _ _ _ _ _ _ c.in-Ok.ensures.ok c.run_script.ensures.text

pub returns-in-Err-Refused-clause-ending : goal.returns-in-Err-Refused-clause-ending
returns-in-Err-Refused-clause-ending g c = refusal_answered _ _ _ _ (rw c.in-Err-Refused.field-0-is at c.in-Err-Refused.ensures.fault) c.answer_refusal.ensures.ending

pub returns-in-Err-Refused-clause-text : goal.returns-in-Err-Refused-clause-text
returns-in-Err-Refused-clause-text g c = refusal_written _ _ _ _ _ _ (rw c.in-Err-Refused.field-0-is at c.in-Err-Refused.ensures.fault) c.answer_refusal.ensures.text
