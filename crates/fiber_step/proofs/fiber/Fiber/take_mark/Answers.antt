use Rattle.std.proofs.Common.{sym, subst}
use Rattle.eio_value.specs.declared.raised.Outcome.TheVariants as outcome
use Rattle.script_forms.specs.Flat.{nodes_of}
use Rattle.fiber_step.specs.Placing.{IsPlacedMark}
use Rattle.fiber_step.specs.Turning.{with_mark, IsTurnOrRaise}
use Rattle.fiber_step.proofs.Results.{if_ok}
use Rattle.fiber_step.proofs.Settles.{is_no_run}
use Rattle.fiber_step.proofs.Turns.{turn_or_raise}
use Rattle.fiber_step.proofs.fiber.Fiber.take_mark.Goals as goal

pub run-requires : goal.run-requires
run-requires c = (subst (λ m. IsPlacedMark (nodes_of c.args.script.now) m) c.in-Run.is c.requires).0

pub returns-in-Run : goal.returns-in-Run
returns-in-Run c =
    if_ok _ _ c.run.result c.run.ensures
    (λ t is. subst (λ m. IsTurnOrRaise (nodes_of c.args.script.now) c.args.script.now.texts (outcome.Ok c.args.value) (with_mark m c.args.self.now) t c.run.new.self) (sym c.in-Run.is) (is c.args.value))

pub pass-requires-clause-mark : goal.pass-requires-clause-mark
pass-requires-clause-mark c = is_no_run c.args.mark c.in_default.not-Run

pub pass-requires-clause-turns : goal.pass-requires-clause-turns
pass-requires-clause-turns c = c.requires.1

pub returns-in_default : goal.returns-in_default
returns-in_default c =
    if_ok _ _ c.pass.result c.pass.ensures
    (λ t is. turn_or_raise (nodes_of c.args.script.now) c.args.script.now.texts (outcome.Ok c.args.value) (with_mark c.args.mark c.args.self.now) c.pass.new.self t (is (nodes_of c.args.script.now)))
