use Rattle.std.proofs.Common.{rules, ◌≡◌, ◌∙◌, ap, pos}
use Rattle.eio_value.specs.declared.value.Value.TheVariants as held
use Rattle.fiber_step.specs.Turning.{gone_into, naming}
use Rattle.fiber_step.specs.declared.mark.Mark.TheVariants as mark
use Rattle.fiber_step.proofs.Dones.{into_block, into_tried, into_loop, into_repeat}
use Rattle.fiber_step.proofs.fiber.Fiber.enter_by.Goals as goal

pub returns-in_ok-go_into-in-Block : goal.returns-in_ok-go_into-in-Block
returns-in_ok-go_into-in-Block c =
    let kept : c.go_into.new.self ≡ gone_into (mark.Cut c.slots-keep.result) c.in-Block.body c.args.self.now = search rules in
    into_block c.args.step c.in-Block.body c.args.self.now c.go_into.new.self c.in-Block.is (kept ∙ ap (λ n. gone_into (mark.Cut n) c.in-Block.body c.args.self.now) c.slots-keep.ensures)

pub returns-in_ok-go_into-in-Tried : goal.returns-in_ok-go_into-in-Tried
returns-in_ok-go_into-in-Tried c =
    let new = c.go_into-in-Tried.new.self in
    let kept : new ≡ gone_into (mark.Try c.in-Tried.handler c.slots-keep.result) c.in-Tried.tried c.args.self.now = search rules in
    into_tried c.args.step c.in-Tried.tried c.in-Tried.handler c.args.self.now new c.in-Tried.is (kept ∙ ap (λ n. gone_into (mark.Try c.in-Tried.handler n) c.in-Tried.tried c.args.self.now) c.slots-keep.ensures)

pub returns-in_ok-go_into-in-Looped : goal.returns-in_ok-go_into-in-Looped
returns-in_ok-go_into-in-Looped c =
    let new = c.go_into-in-Looped.new.self in
    let kept : new ≡ gone_into (mark.Loop c.in-Looped.body c.slots-keep.result) c.in-Looped.body c.args.self.now = search rules in
    into_loop c.args.step c.in-Looped.body c.args.self.now new c.in-Looped.is (kept ∙ ap (λ n. gone_into (mark.Loop c.in-Looped.body n) c.in-Looped.body c.args.self.now) c.slots-keep.ensures)

pub returns-in_ok-go_into-in-Repeated : goal.returns-in_ok-go_into-in-Repeated
returns-in_ok-go_into-in-Repeated c =
    let new = c.go_into-in-Repeated.new.self in
    let named : c.name.new.self ≡ naming (held.Int (pos 0)) c.args.self.now = search rules in
    let kept : new ≡ gone_into (mark.Repeat 1 c.in-Repeated.left c.in-Repeated.body c.slots-keep.result) c.in-Repeated.body c.name.new.self = search rules in
    into_repeat c.args.step c.in-Repeated.left c.in-Repeated.body c.args.self.now new c.in-Repeated.is
    (kept ∙ (ap (λ k. gone_into (mark.Repeat 1 c.in-Repeated.left c.in-Repeated.body c.slots-keep.result) c.in-Repeated.body k) named
    ∙ ap (λ n. gone_into (mark.Repeat 1 c.in-Repeated.left c.in-Repeated.body n) c.in-Repeated.body (naming (held.Int (pos 0)) c.args.self.now)) c.slots-keep.ensures))
