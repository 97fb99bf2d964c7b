use Rattle.std.proofs.Common.{sym, subst}
use Rattle.std.proofs.lemmas.Result.{on_ok_weaker}
use Rattle.fiber_step.specs.declared.ask.Ask.{Ask}
use Rattle.domain_core.specs.Answering.{Answers}
use Rattle.domain_core.proofs.domain.Domain.answer.Goals as goal

pub returns-in-Trace-clause-answers : goal.returns-in-Trace-clause-answers
returns-in-Trace-clause-answers c =
    subst (λ (call : Ask). Answers c.args.script.now call c.args.fiber c.args.self.now c.trace.new.told c.trace.new.self) (sym c.in-Trace.is) (c.trace.ensures.answers c.args.script.now)

pub returns-in-Yield-clause-answers : goal.returns-in-Yield-clause-answers
returns-in-Yield-clause-answers c =
    subst (λ (call : Ask). Answers c.args.script.now call c.args.fiber c.args.self.now c.yield_now.new.told c.yield_now.new.self) (sym c.in-Yield.is) (c.yield_now.ensures.answers c.args.script.now)

pub returns-in-Check-clause-answers : goal.returns-in-Check-clause-answers
returns-in-Check-clause-answers c = on_ok_weaker c.check.result
    (λ answers. subst (λ (call : Ask). Answers c.args.script.now call c.args.fiber c.args.self.now c.check.new.told c.check.new.self) (sym c.in-Check.is) (answers c.args.script.now))
    c.check.ensures.answers

pub returns-in-AwaitCancel-clause-answers : goal.returns-in-AwaitCancel-clause-answers
returns-in-AwaitCancel-clause-answers c =
    subst (λ (call : Ask). Answers c.args.script.now call c.args.fiber c.args.self.now c.await_cancel.new.told c.await_cancel.new.self) (sym c.in-AwaitCancel.is) (c.await_cancel.ensures.answers c.args.script.now)

pub returns-in-Turn-clause-answers : goal.returns-in-Turn-clause-answers
returns-in-Turn-clause-answers c =
    subst (λ (call : Ask). Answers c.args.script.now call c.args.fiber c.args.self.now c.turn_begins.new.told c.turn_begins.new.self) (sym c.in-Turn.is) (c.turn_begins.ensures.answers c.args.script.now)

pub returns-in-End-clause-answers : goal.returns-in-End-clause-answers
returns-in-End-clause-answers c =
    subst (λ (call : Ask). Answers c.args.script.now call c.args.fiber c.args.self.now c.end.new.told c.end.new.self) (sym c.in-End.is) (c.end.ensures.answers c.args.script.now)
