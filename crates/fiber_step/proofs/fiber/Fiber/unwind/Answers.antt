use Rattle.std.proofs.Common.{◌≡◌, ◌∙◌, sym, subst, false}
use Rattle.fiber_step.specs.Turning.{Takes}
use Rattle.fiber_step.specs.Unwinding.{stops}
use Rattle.fiber_step.proofs.Unwinds.{dropped_then, drops_mark, drops_restoring}
use Rattle.fiber_step.proofs.fiber.Fiber.unwind.Goals as goal

pub unwinding-preserved-in-Restored : goal.unwinding-preserved-in-Restored
unwinding-preserved-in-Restored c =
    let taken = subst (λ t. Takes c.unwinding.self c.take.new.self t) c.in-Restored.is c.take.ensures in
    dropped_then _ _ _ c.unwinding.invariant (drops_restoring c.unwinding.self c.take.new.self taken)

pub unwinding-preserved : goal.unwinding-preserved
unwinding-preserved c =
    let taken = subst (λ t. Takes c.unwinding.self c.take.new.self t) c.in-Mark.is c.take.ensures in
    let past : stops c.in-Mark.mark ≡ false = sym c.stops.ensures ∙ c.if-stops.false in
    dropped_then _ _ _ c.unwinding.invariant (drops_mark c.unwinding.self c.take.new.self c.in-Mark.mark taken past)
