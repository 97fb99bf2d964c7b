use Rattle.std.proofs.Common.{◌≡◌, take}
use Rattle.fiber_step.proofs.fiber.Fiber.try_clone.Given as goal

abbrev pub invariant-loop-item : goal.invariant-loop-item
invariant-loop-item l = l.work.items ≡ take l.item-index l.self.items
