use Rattle.std.proofs.Common.{[], refl, sym}
use Rattle.std.proofs.lemmas.List.{append-nil}
use Rattle.script_forms.specs.Flat.{nodes_of}
use Rattle.fiber_step.proofs.Settles.{one_more_turn, one_more_raise, has_called, turn_smaller, raise_smaller, long_enough}
use Rattle.fiber_step.proofs.Throws.{grown_then}
use Rattle.fiber_step.proofs.fiber.Fiber.go_on.Goals as goal

pub turns-init : goal.turns-init
turns-init c = (record { more = []; is = sym (append-nil c.args.texts.now) }, c.requires.texts, record { next = λ raises. (raises, refl); placed = c.requires.items; parts = c.requires.parts })

pub turns-preserved-in-Ok : goal.turns-preserved-in-Ok
turns-preserved-in-Ok c = (
  c.turns.invariant.0,
  c.turns.invariant.1,
  one_more_turn _ _ _ _ _ _ _ _ _ _ c.turns.invariant.2 c.in-GoesOn.is c.turns.invariant.1 c.in-Ok.ensures,
)

pub turns-smaller-in-Ok : goal.turns-smaller-in-Ok
turns-smaller-in-Ok c = turn_smaller _ _ _ _ _ _ c.in-GoesOn.is c.in-Ok.ensures.lighter

pub turns-smaller : goal.turns-smaller
turns-smaller c = raise_smaller _ _ _ _ _ _ c.in-Raises.is (c.in-Ok-raise.ensures.turn (nodes_of c.args.script.now)).lighter

pub turns-preserved : goal.turns-preserved
turns-preserved c = (
  grown_then _ _ _ c.turns.invariant.0 c.raise.ensures.grown,
  long_enough _ _ _ c.turns.invariant.1 c.raise.ensures.grown,
  one_more_raise _ _ _ _ _ _ _ _ _ _ c.turns.invariant.2 c.in-Raises.is (c.in-Ok-raise.ensures.turn (nodes_of c.args.script.now)),
)

pub returns-in-Calls-clause-come : goal.returns-in-Calls-clause-come
returns-in-Calls-clause-come c = has_called _ _ _ _ _ _ _ c.in-Calls.is c.turns.invariant.2
