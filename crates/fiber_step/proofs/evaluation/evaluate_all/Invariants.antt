use Rattle.script_forms.specs.Flat.{nodes_of}
use Rattle.fiber_step.proofs.Traced.{IsTraced}
use Rattle.fiber_step.proofs.evaluation.evaluate_all.Given as goal

abbrev pub invariant-loop-left : goal.invariant-loop-left
invariant-loop-left l = IsTraced (nodes_of l.script) l.variables l.count l.number l.values l.left l.behind

abbrev pub decreases-loop-left : goal.decreases-loop-left
decreases-loop-left l = l.left
