use Rattle.script_input.proofs.Inspecting.{check_writes}
use Rattle.script_input.proofs.inspection.check_text.Goals as goal

pub returns-clause-ok : goal.returns-clause-ok
returns-clause-ok c = check_writes _ _ _ c.in_ok-input_script.ensures.ok c.in_ok-text.ensures.items
