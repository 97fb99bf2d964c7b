use Rattle.fiber_step.proofs.Passes.{cut_off_turns, tried_turns, bound_turns, looped_turns, repeated_turns, locked_turns, given_turns}
use Rattle.fiber_step.proofs.Results.{after_ok, if_ok}
use Rattle.fiber_step.proofs.fiber.Fiber.pass_silent.Goals as goal

pub returns-in-Cut : goal.returns-in-Cut
returns-in-Cut c =
    cut_off_turns c.args.mark c.in-Cut.keep c.args.value c.args.self.now _ _ c.in-Cut.is c.cut_off.ensures.turn c.cut_off.ensures.kept

pub returns-in-Try : goal.returns-in-Try
returns-in-Try c =
    tried_turns c.args.mark c.in-Try.handler c.in-Try.keep c.args.value c.args.self.now _ _ c.in-Try.is c.cut_off-in-Try.ensures.turn c.cut_off-in-Try.ensures.kept

pub returns-in-Bind : goal.returns-in-Bind
returns-in-Bind c =
    after_ok _ _ _ c.bound.result c.bound.ensures.turn c.bound.ensures.bound
    (λ t goes kept. bound_turns c.args.mark c.in-Bind.slot c.args.value c.args.self.now _ t c.in-Bind.is goes kept)

pub returns-in-Loop : goal.returns-in-Loop
returns-in-Loop c =
    after_ok _ _ _ c.loop_again.result c.loop_again.ensures.turn c.loop_again.ensures.goes
    (λ t goes kept. looped_turns c.args.mark c.in-Loop.body c.in-Loop.keep c.args.value c.args.self.now _ t c.in-Loop.is goes kept)

pub returns-in-Repeat : goal.returns-in-Repeat
returns-in-Repeat c =
    if_ok _ _ c.repeat_again.result c.repeat_again.ensures
    (λ t goes. repeated_turns c.args.mark c.in-Repeat.turn c.in-Repeat.left c.in-Repeat.body c.in-Repeat.keep c.args.value c.args.self.now _ t c.in-Repeat.is goes)

pub returns-in-Locking : goal.returns-in-Locking
returns-in-Locking c =
    after_ok _ _ _ c.locked.result c.locked.ensures.turn c.locked.ensures.goes
    (λ t goes kept. locked_turns c.args.mark c.in-Locking.mutex c.in-Locking.body c.args.value c.args.self.now _ t c.in-Locking.is goes kept)

pub returns-in-Using : goal.returns-in-Using
returns-in-Using c =
    after_ok _ _ _ c.given.result c.given.ensures.turn c.given.ensures.goes
    (λ t goes kept. given_turns c.args.mark c.in-Using.pool c.in-Using.body c.args.value c.args.self.now _ t c.in-Using.is goes kept)
