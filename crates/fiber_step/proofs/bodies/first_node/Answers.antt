use Rattle.fiber_step.proofs.FirstNodes.{body_begins}
use Rattle.fiber_step.proofs.bodies.first_node.Goals as goal

pub returns-clause-statements : goal.returns-clause-statements
returns-clause-statements c = body_begins c.args.script.now c.is_sound.ensures.sound c.is_sound.ensures.numbers c.args.body c.body.result c.body.ensures.body
