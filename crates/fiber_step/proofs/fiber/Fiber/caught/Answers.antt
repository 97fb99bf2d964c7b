use Rattle.std.proofs.Common.{rules, ◌≡◌, ◌∙◌, sym, ap, subst}
use Rattle.eio_value.specs.declared.raised.Outcome.TheVariants as outcome
use Rattle.eio_value.specs.declared.value.Value.TheVariants as held
use Rattle.fiber_step.specs.Throwing.{shared_by, IsTurnWith}
use Rattle.fiber_step.specs.Turning.{with_mark, next_call, gone_into, naming, cut_to}
use Rattle.fiber_step.specs.declared.mark.Mark.TheVariants as mark
use Rattle.fiber_step.specs.declared.progress.Progress.TheVariants as progress
use Rattle.fiber_step.proofs.Throws.{caught_turn}
use Rattle.fiber_step.proofs.fiber.Fiber.caught.Goals as goal

pub returns-clause-turn : goal.returns-clause-turn
returns-clause-turn c =
    let end = mark.Cut c.in-Try.keep in
    let was = c.cut.ensures in
    let named : c.name.new.self ≡ naming (held.Text c.in_ok-text.text) (cut_to c.in-Try.keep c.args.self.now) = search (rules, was) in
    let gone : c.go_into.new.self ≡ gone_into end c.in-Try.handler c.name.new.self = search rules in
    λ nodes serial.
    subst (λ m. IsTurnWith nodes (next_call nodes (outcome.Err c.args.raised.now)) (with_mark m c.args.self.now) (shared_by c.args.texts.now serial) (progress.GoesOn held.Unit) c.go_into.new.self (shared_by c.bound_id.new.texts serial)) (sym c.in-Try.is)
    (subst (λ k. IsTurnWith nodes (next_call nodes (outcome.Err c.args.raised.now)) (with_mark (mark.Try c.in-Try.handler c.in-Try.keep) c.args.self.now) (shared_by c.args.texts.now serial) (progress.GoesOn held.Unit) k (shared_by c.bound_id.new.texts serial))
    (sym (gone ∙ ap (λ k. gone_into end c.in-Try.handler k) named))
    (caught_turn nodes c.args.raised.now c.in-Try.handler c.in-Try.keep serial c.args.texts.now c.bound_id.new.texts c.in_ok-text.text c.args.self.now c.in_ok-text.ensures.ok))
