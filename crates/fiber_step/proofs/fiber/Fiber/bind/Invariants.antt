use Rattle.std.proofs.Common.{◌≡◌}
use Rattle.fiber_step.specs.Stating.{binding}
use Rattle.fiber_step.proofs.fiber.Fiber.bind.Given as goal

abbrev pub invariant-binding : goal.invariant-binding
invariant-binding l = binding l.left l.self ≡ binding l.fn.lets l.fn.self

abbrev pub decreases-binding : goal.decreases-binding
decreases-binding l = l.left
