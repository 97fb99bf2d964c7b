use Rattle.std.proofs.Common.{rules, sym, ap, ◌∙◌, subst, arith, ◌≡◌, ◌<◌, ◌+◌, ◌-◌, ◌^◌, pos}
use Rattle.eio_value.specs.declared.raised.Outcome.TheVariants as outcome
use Rattle.eio_value.specs.declared.value.Value.TheVariants as held
use Rattle.fiber_step.specs.Turning.{with_mark, gone_into, naming, cut_to, IsTurn}
use Rattle.fiber_step.specs.declared.ask.Ask.TheVariants as ask
use Rattle.fiber_step.specs.declared.mark.Mark.TheVariants as mark
use Rattle.fiber_step.specs.declared.progress.Progress.TheVariants as progress
use Rattle.fiber_step.proofs.Passes.{no_turn_left, turn_left}
use Rattle.fiber_step.proofs.fiber.Fiber.repeat_again.Goals as goal

pub returns-then-left-eq0 : goal.returns-then-left-eq0
returns-then-left-eq0 c = λ nodes v.
    subst (λ k. IsTurn nodes (outcome.Ok v) (with_mark (mark.Repeat c.args.turn c.args.left c.args.body c.args.keep) c.args.self.now) (progress.GoesOn held.Unit) k) (sym c.cut.ensures)
    (no_turn_left nodes c.args.self.now c.args.turn c.args.left c.args.body c.args.keep v c.if-left-eq0.true)

pub returns : goal.returns
returns c =
    let end = mark.Repeat (c.args.turn + 1) (c.args.left - 1) c.args.body c.args.keep in
    let few : c.args.turn + c.args.left < 2 ^ 63 = c.requires in
    let some = c.if-left-eq0.false in
    let was = c.cut.ensures in
    let named : c.name.new.self ≡ naming (held.Int (pos c.args.turn)) (cut_to c.args.keep c.args.self.now) = search (rules, was) in
    let gone : c.go_into.new.self ≡ gone_into end c.args.body c.name.new.self = search rules in
    λ nodes v.
    subst (λ k. IsTurn nodes (outcome.Ok v) (with_mark (mark.Repeat c.args.turn c.args.left c.args.body c.args.keep) c.args.self.now) (progress.Calls ask.Turn) k)
    (sym (gone ∙ ap (λ k. gone_into end c.args.body k) named))
    (turn_left nodes c.args.self.now c.args.turn c.args.left c.args.body c.args.keep v few (omega (arith, some)))
