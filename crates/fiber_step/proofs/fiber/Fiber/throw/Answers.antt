use Rattle.std.proofs.Common.{sym, subst}
use Rattle.eio_value.specs.declared.raised.Outcome.TheVariants as outcome
use Rattle.fiber_step.specs.Standing.{Ends}
use Rattle.fiber_step.specs.Throwing.{shared_by, IsTurnWith}
use Rattle.fiber_step.specs.Turning.{with_mark, kept_to, next_call}
use Rattle.fiber_step.specs.Unwinding.{stopped, IsDropped, IsStop}
use Rattle.fiber_step.specs.declared.progress.Progress.TheVariants as progress
use Rattle.fiber_step.proofs.Passes.{end_turns}
use Rattle.fiber_step.proofs.Results.{if_ok}
use Rattle.fiber_step.proofs.Throws.{dropped_turn, ends_fiber, turn_with}
use Rattle.fiber_step.proofs.fiber.Fiber.throw.Goals as goal

pub returns-in_default-clause-turn : goal.returns-in_default-clause-turn
returns-in_default-clause-turn c =
    let dropped = subst (λ s. IsDropped c.args.self.now (stopped s c.unwind.new.self)) c.in_default.is c.unwind.ensures.dropped in
    let none = subst (λ s. IsStop s c.unwind.new.self) c.in_default.is c.unwind.ensures.stop in
    λ nodes serial.
    let shared = shared_by c.args.texts.now serial in
    dropped_turn nodes c.args.raised.now c.args.self.now c.unwind.new.self c.unwind.new.self _ shared shared dropped (ends_fiber nodes c.args.raised.now c.unwind.new.self shared none)

pub returns-in-Some-end-clause-turn : goal.returns-in-Some-end-clause-turn
returns-in-Some-end-clause-turn c =
    let old = c.args.self.now in
    let mid = c.unwind.new.self in
    let came = outcome.Err c.args.raised.now in
    let dropped = subst (λ s. IsDropped old (stopped s mid)) c.in-Some.is c.unwind.ensures.dropped in
    let ends = subst (λ r. Ends c.in-Some.mark came r) c.in-Some-end.is c.end.ensures.ends in
    let kept = c.ended.ensures.kept in
    λ nodes serial.
    let shared = shared_by c.args.texts.now serial in
    let is = end_turns nodes came c.in-Some.mark mid c.in-Some-end.end ends (c.in-Some-end.ensures.bodies nodes) in
    dropped_turn nodes c.args.raised.now old (with_mark c.in-Some.mark mid) c.ended.new.self c.ended.result shared shared dropped
    (subst (λ t. IsTurnWith nodes (next_call nodes came) (with_mark c.in-Some.mark mid) shared t c.ended.new.self shared) (sym c.ended.ensures.call)
    (subst (λ k. IsTurnWith nodes (next_call nodes came) (with_mark c.in-Some.mark mid) shared (progress.Calls c.in-Some-end.end.call) k shared) (sym kept)
    (turn_with nodes came (with_mark c.in-Some.mark mid) (kept_to c.in-Some-end.end.keep mid) (progress.Calls c.in-Some-end.end.call) shared is)))

pub returns-in-None-clause-turn : goal.returns-in-None-clause-turn
returns-in-None-clause-turn c =
    let old = c.args.self.now in
    let mid = c.unwind.new.self in
    let dropped = subst (λ s. IsDropped old (stopped s mid)) c.in-Some.is c.unwind.ensures.dropped in
    if_ok _ _ c.caught.result c.caught.ensures.turn
    (λ t is nodes serial.
    dropped_turn nodes c.args.raised.now old (with_mark c.in-Some.mark mid) c.caught.new.self t (shared_by c.args.texts.now serial) (shared_by c.caught.new.texts serial) dropped (is nodes serial))
