use Rattle.fiber_step.proofs.MarksAgree.{marks_agree}
use Rattle.fiber_step.proofs.laws.marks_agree.Goals as goal

pub returns : goal.returns
returns c = marks_agree
