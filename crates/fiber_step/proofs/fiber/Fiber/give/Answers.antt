use Rattle.std.proofs.Common.{◌+◌, ◌∙◌, ap}
use Rattle.script_forms.specs.Flat.{nodes_of}
use Rattle.script_code.specs.Standing.{expression_at}
use Rattle.spec_fiber.specs.Evaluation.{value_of}
use Rattle.fiber_step.proofs.Stated.{give_turn, give_raises}
use Rattle.fiber_step.proofs.fiber.Fiber.give.Goals as goal

pub returns-in-Ok : goal.returns-in-Ok
returns-in-Ok c = λ value.
    give_turn (nodes_of c.args.script.now) c.args.script.now.texts c.args.at c.args.self.now value c.in-Ok.operand.value c.requires.gives
    (c.in-Ok.ensures.value ∙ ap (λ those. value_of those (expression_at (nodes_of c.args.script.now) (c.args.at + 1))) c.variables.ensures)

pub returns-in-Err : goal.returns-in-Err
returns-in-Err c = λ value.
    give_raises (nodes_of c.args.script.now) c.args.script.now.texts c.args.at c.args.self.now value c.in-Err.why c.requires.gives
    (c.in-Err.ensures.value ∙ ap (λ those. value_of those (expression_at (nodes_of c.args.script.now) (c.args.at + 1))) c.variables.ensures)
