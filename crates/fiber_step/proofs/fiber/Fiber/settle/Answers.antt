use Rattle.std.proofs.Common.{subst}
use Rattle.script_forms.specs.Flat.{nodes_of}
use Rattle.fiber_step.specs.Settling.{SettlesTo}
use Rattle.fiber_step.specs.Throwing.{shared_by}
use Rattle.fiber_step.proofs.fiber.Fiber.settle.Goals as goal

pub returns-in-Ok-clause-settled : goal.returns-in-Ok-clause-settled
returns-in-Ok-clause-settled c =
    let shared = shared_by c.args.texts.now c.args.serial.now in
    let later = shared_by c.settle_in.new.texts c.settle_in.new.serial in
    subst (λ from. SettlesTo (nodes_of c.args.script.now) c.args.came.now from shared c.settle_in.new.ask c.settle_in.new.self later) c.in_ok-copy.ensures c.in-Ok.ensures.settled
