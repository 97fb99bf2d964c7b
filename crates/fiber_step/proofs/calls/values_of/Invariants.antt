use Rattle.std.proofs.Common.{◌≡◌, map}
use Rattle.std.specs.Prelude.{take}
use Rattle.spec_fiber.specs.Evaluation.{value_at}
use Rattle.fiber_step.proofs.calls.values_of.Given as goal

abbrev pub invariant-loop-slot : goal.invariant-loop-slot
invariant-loop-slot l = l.values ≡ map (value_at l.variables) (take l.slot-index l.slots)
