use Rattle.std.proofs.Common.{length}
use Rattle.fiber_step.specs.Unwinding.{IsDropped}
use Rattle.fiber_step.proofs.fiber.Fiber.unwind.Given as goal

abbrev pub invariant-unwinding : goal.invariant-unwinding
invariant-unwinding l = IsDropped l.fn.self l.self

abbrev pub decreases-unwinding : goal.decreases-unwinding
decreases-unwinding l = length l.self.items
