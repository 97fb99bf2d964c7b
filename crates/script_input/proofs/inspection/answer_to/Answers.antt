use Rattle.script_input.proofs.Inspecting.{line_due}
use Rattle.script_input.proofs.inspection.answer_to.Goals as goal

pub returns-in_ok-text-in-Err-Refused : goal.returns-in_ok-text-in-Err-Refused
returns-in_ok-text-in-Err-Refused c =
    let refused = rw c.in-Err-Refused.field-0-is at c.in-Err-Refused.ensures.fault in
    line_due _ _ _ _ refused c.in_ok-text-in-Err-Refused.ensures
