use Rattle.std.proofs.Common.{refl}
use Rattle.fiber_step.specs.Throwing.{shared_by}
use Rattle.fiber_step.proofs.Results.{if_ok}
use Rattle.fiber_step.proofs.Settles.{value_came, exception_came}
use Rattle.fiber_step.proofs.Throws.{none_grown}
use Rattle.fiber_step.proofs.fiber.Fiber.receive.Goals as goal

pub returns-in-Ok-clause-grown : goal.returns-in-Ok-clause-grown
returns-in-Ok-clause-grown c = none_grown _ _ refl

pub returns-in-Ok-clause-first : goal.returns-in-Ok-clause-first
returns-in-Ok-clause-first c = λ nodes serial all. value_came nodes c.args.came.now c.args.self.now (shared_by c.args.texts.now serial) c.in-Ok.value c.in-Ok.is all

pub returns-in-Err-clause-first : goal.returns-in-Err-clause-first
returns-in-Err-clause-first c =
    if_ok _ _ c.throw.result c.throw.ensures.turn
    (λ t is nodes serial all.
    exception_came nodes c.args.came.now c.in-Err.raised c.args.self.now c.throw.new.self (shared_by c.args.texts.now serial) (shared_by c.throw.new.texts serial) t c.in-Err.is all (is nodes serial))
