use Rattle.std.specs.Prelude.{◌-◌, length}
use Rattle.script_forms.specs.Flat.{nodes_of}
use Rattle.fiber_step.proofs.evaluation.+evaluate.Given as goal

abbrev pub decreases-evaluate : goal.decreases-evaluate
decreases-evaluate l = length (nodes_of l.script.now) - l.number
