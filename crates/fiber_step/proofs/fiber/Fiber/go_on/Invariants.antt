use Rattle.std.proofs.Common.{◌≤◌, length}
use Rattle.script_forms.specs.Flat.{nodes_of}
use Rattle.fiber_step.specs.Settling.{HasComeTo}
use Rattle.fiber_step.specs.Throwing.{shared_by, IsGrown}
use Rattle.fiber_step.specs.Turning.{next_behind}
use Rattle.fiber_step.proofs.Settles.{left_behind}
use Rattle.fiber_step.proofs.fiber.Fiber.go_on.Given as goal

abbrev pub invariant-turns : goal.invariant-turns
invariant-turns l =
    IsGrown l.fn.texts l.texts × (length l.script.texts ≤ length l.texts)
    × HasComeTo (nodes_of l.script) (next_behind (nodes_of l.script) l.fn.first l.fn.self) (shared_by l.fn.texts l.fn.serial) l.progress l.self (shared_by l.texts l.serial)

abbrev pub decreases-turns : goal.decreases-turns
decreases-turns l = left_behind (nodes_of l.script) l.progress l.self
