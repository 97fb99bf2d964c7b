use Rattle.std.proofs.Common.{rules, ◌≡◌, ◌-◌, ◌∙◌, ap, refl}
use Rattle.fiber_step.specs.Stating.{binding}
use Rattle.fiber_step.specs.Turning.{with_mark}
use Rattle.fiber_step.specs.declared.mark.Mark.TheVariants as mark
use Rattle.fiber_step.proofs.Results.{if_ok}
use Rattle.fiber_step.proofs.Stated.{step_turns, step_raises, silent_step}
use Rattle.fiber_step.proofs.fiber.Fiber.take_step.Goals as goal

pub go_by-requires : goal.go_by-requires
go_by-requires c = silent_step c.args.stepped.step c.requires.step c.in_default.not-Raises

pub returns-in-Raises : goal.returns-in-Raises
returns-in-Raises c = λ nodes texts value is first found.
    step_raises nodes texts c.args.at c.args.form c.args.stepped c.in-Raises.text c.args.self.now value is found c.in-Raises.is

pub returns : goal.returns
returns c =
    let pushed : c.push.new.self ≡ with_mark (mark.Run c.args.stepped.after) c.args.self.now = search rules in
    let bound : c.bind.new.self ≡ binding (c.args.form - c.args.at) c.push.new.self = search rules in
    let mid = bound ∙ ap (λ k. binding (c.args.form - c.args.at) k) pushed in
    if_ok _ _ c.go_by.result c.go_by.ensures
    (λ t done nodes texts value is first found.
    step_turns nodes texts c.args.at c.args.form (c.args.form - c.args.at) c.args.stepped c.args.self.now c.bind.new.self c.go_by.new.self value t is first found c.requires.step refl mid done)
