use Rattle.std.proofs.Common.{rules, ◌≡◌, ◌<◌, ◌∙◌, ap, subst, arith}
use Rattle.fiber_step.specs.Turning.{with_mark}
use Rattle.fiber_step.specs.declared.mark.Mark.TheVariants as mark
use Rattle.fiber_step.specs.Stating.{binding}
use Rattle.fiber_step.proofs.Stated.{binding_more}
use Rattle.fiber_step.proofs.fiber.Fiber.bind.Goals as goal

pub binding-preserved : goal.binding-preserved
binding-preserved c =
    let was = c.binding.self in
    let pushed : c.push.new.self ≡ with_mark (mark.Bind c.slots-slot.result) was = search rules in
    let some : 0 < c.binding.left = search rules in
    binding_more c.binding.left was c.push.new.self some (pushed ∙ ap (λ n. with_mark (mark.Bind n) was) c.slots-slot.ensures) ∙ c.binding.invariant

pub returns : goal.returns
returns c =
    let none : c.binding.left ≡ 0 = let over = c.binding-test.false in omega (arith, over) in
    subst (λ n. binding n c.binding.self ≡ binding c.args.lets c.args.self.now) none c.binding.invariant
