use Rattle.std.proofs.lemmas.Result.{on_ok_weaker}
use Rattle.fiber_step.proofs.fiber.Fiber.settle_value.Goals as goal

pub returns-clause-settled : goal.returns-clause-settled
returns-clause-settled c = on_ok_weaker c.go_on.result (λ come. come.next) c.go_on.ensures.come

pub returns-clause-items : goal.returns-clause-items
returns-clause-items c = on_ok_weaker c.go_on.result (λ come. come.placed) c.go_on.ensures.come

pub returns-clause-bodies : goal.returns-clause-bodies
returns-clause-bodies c = on_ok_weaker c.go_on.result (λ come. come.parts) c.go_on.ensures.come
