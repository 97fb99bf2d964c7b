use Rattle.std.proofs.Common.{rules, ◌≡◌, refl}
use Rattle.fiber_step.specs.Turning.{with_mark, naming}
use Rattle.fiber_step.specs.declared.mark.Mark.TheVariants as mark
use Rattle.fiber_step.proofs.Dones.{past_by, named_by, calls_by, locks_by, uses_by}
use Rattle.fiber_step.proofs.fiber.Fiber.go_by.Goals as goal

pub returns-in-Past : goal.returns-in-Past
returns-in-Past c = past_by c.args.step c.in-Past.value c.args.self.now c.args.self.now c.in-Past.is refl

pub returns-in_ok-name-in-Named : goal.returns-in_ok-name-in-Named
returns-in_ok-name-in-Named c =
    let kept : c.name.new.self ≡ naming c.in-Named.value c.args.self.now = search rules in
    named_by c.args.step c.in-Named.value c.args.self.now c.name.new.self c.in-Named.is kept

pub returns-in-Calls : goal.returns-in-Calls
returns-in-Calls c = calls_by c.args.step c.in-Calls.call c.args.self.now c.args.self.now c.in-Calls.is refl

pub returns-in_ok-push-in-Locks : goal.returns-in_ok-push-in-Locks
returns-in_ok-push-in-Locks c =
    let kept : c.push.new.self ≡ with_mark (mark.Locking c.in-Locks.mutex c.in-Locks.body) c.args.self.now = search rules in
    locks_by c.args.step c.in-Locks.mutex c.in-Locks.body c.args.self.now c.push.new.self c.in-Locks.is kept

pub returns-in_ok-push-in-Uses : goal.returns-in_ok-push-in-Uses
returns-in_ok-push-in-Uses c =
    let kept : c.push-in-Uses.new.self ≡ with_mark (mark.Using c.in-Uses.pool c.in-Uses.body) c.args.self.now = search rules in
    uses_by c.args.step c.in-Uses.pool c.in-Uses.body c.args.self.now c.push-in-Uses.new.self c.in-Uses.is kept
