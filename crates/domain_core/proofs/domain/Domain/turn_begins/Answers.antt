use Rattle.spec_machine.specs.Moves.{own_call}
use Rattle.script_forms.specs.Flat.{nodes_of}
use Rattle.domain_core.proofs.domain.Domain.turn_begins.Goals as goal

pub returns-clause-answers : goal.returns-clause-answers
unfolding own_call
returns-clause-answers c script = c.give.ensures.makes (nodes_of script)
