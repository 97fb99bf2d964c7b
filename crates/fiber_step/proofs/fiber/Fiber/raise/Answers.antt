use Rattle.std.proofs.Common.{rules, ◌≡◌, ◌+◌, sym, subst}
use Rattle.fiber_step.specs.Throwing.{shared_by, IsTurnWith}
use Rattle.fiber_step.specs.Turning.{next_behind}
use Rattle.fiber_step.specs.declared.progress.Progress.TheVariants as progress
use Rattle.fiber_step.proofs.Results.{if_ok}
use Rattle.fiber_step.proofs.Throws.{raised_turn}
use Rattle.fiber_step.proofs.fiber.Fiber.raise.Goals as goal

pub returns-clause-turn : goal.returns-clause-turn
returns-clause-turn c =
    let next : c.in_ok-serial.field-0 ≡ c.args.serial.now + 1 = search rules in
    if_ok _ _ c.throw.result c.throw.ensures.turn
    (λ t is nodes.
    subst (λ n. IsTurnWith nodes (next_behind nodes (progress.Raises c.args.what)) c.args.self.now (shared_by c.args.texts.now c.args.serial.now) t c.throw.new.self (shared_by c.throw.new.texts n)) (sym next)
    (raised_turn nodes c.args.what c.args.self.now c.throw.new.self t c.args.texts.now c.args.serial.now (shared_by c.throw.new.texts (c.args.serial.now + 1)) (is nodes (c.args.serial.now + 1))))
