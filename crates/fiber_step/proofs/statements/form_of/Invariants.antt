use Rattle.std.proofs.Common.{◌-◌, length}
use Rattle.script_forms.specs.Flat.{nodes_of}
use Rattle.fiber_step.specs.Stating.{IsBehindLets}
use Rattle.fiber_step.proofs.statements.form_of.Given as goal

abbrev pub invariant-lets : goal.invariant-lets
invariant-lets l = IsBehindLets (nodes_of l.script) l.fn.number l.form

abbrev pub decreases-lets : goal.decreases-lets
decreases-lets l = length (nodes_of l.script) - l.form
