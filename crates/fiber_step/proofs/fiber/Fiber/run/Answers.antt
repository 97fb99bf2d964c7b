use Rattle.std.proofs.Common.{subst, arith}
use Rattle.script_forms.specs.Flat.{nodes_of}
use Rattle.script_code.specs.Standing.{Stands}
use Rattle.fiber_step.proofs.Parts.{left_within, begins}
use Rattle.fiber_step.proofs.Stated.{block_ends, give_operand}
use Rattle.fiber_step.proofs.fiber.Fiber.run.Goals as goal

pub node-requires : goal.node-requires
node-requires c = left_within _ _ c.requires

pub returns-in-End : goal.returns-in-End
returns-in-End c = λ value.
    block_ends (nodes_of c.args.script.now) c.args.script.now.texts c.args.at c.node.result.now c.args.self.now value c.node.ensures.stands c.in-End.is

pub give-requires-clause-within : goal.give-requires-clause-within
give-requires-clause-within c = let within = left_within _ _ c.requires in let few = c.node.ensures.few in omega arith

pub give-requires-clause-gives : goal.give-requires-clause-gives
give-requires-clause-gives c = subst (λ n. Stands (nodes_of c.args.script.now) c.args.at n) c.in-Give.is c.node.ensures.stands

pub give-requires-clause-operand : goal.give-requires-clause-operand
give-requires-clause-operand c = give_operand _ _ _ c.requires c.node.ensures.node c.in-Give.is

pub form_of-requires : goal.form_of-requires
form_of-requires c = begins _ _ _ c.requires c.node.ensures.node c.in_default.not-End

pub state-requires-clause-first : goal.state-requires-clause-first
state-requires-clause-first c = record { first = c.node.result.now; is = c.node.ensures.node; stands = c.node.ensures.stands; other = c.in_default.not-Give }
