use Rattle.std.proofs.Common.{sym, subst}
use Rattle.eio_value.specs.declared.raised.Outcome.TheVariants as outcome
use Rattle.fiber_step.specs.Standing.{Ends}
use Rattle.fiber_step.specs.Turning.{with_mark, IsTurn}
use Rattle.fiber_step.specs.declared.progress.Progress.TheVariants as progress
use Rattle.fiber_step.proofs.Passes.{end_turns}
use Rattle.fiber_step.proofs.fiber.Fiber.pass.Goals as goal

pub returns-in-Some : goal.returns-in-Some
returns-in-Some c = λ nodes.
    let came = outcome.Ok c.args.value in
    let old = c.args.self.now in
    let ends = subst (λ r. Ends c.args.mark came r) c.in-Some.is c.end.ensures.ends in
    let is = end_turns nodes came c.args.mark old c.in-Some.end ends (c.in-Some.ensures.bodies nodes) in
    subst (λ t. IsTurn nodes came (with_mark c.args.mark old) t c.ended.new.self) (sym c.ended.ensures.call)
    (subst (λ k. IsTurn nodes came (with_mark c.args.mark old) (progress.Calls c.in-Some.end.call) k) (sym c.ended.ensures.kept) is)
