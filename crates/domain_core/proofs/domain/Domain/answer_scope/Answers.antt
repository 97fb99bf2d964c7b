use Rattle.std.proofs.Common.{sym, subst}
use Rattle.std.proofs.lemmas.Result.{on_ok_weaker}
use Rattle.fiber_step.specs.declared.ask.Ask.{Ask}
use Rattle.domain_core.specs.Answering.{Answers}
use Rattle.domain_core.proofs.domain.Domain.answer_scope.Goals as goal

pub returns-in-Leave-clause-answers : goal.returns-in-Leave-clause-answers
returns-in-Leave-clause-answers c = on_ok_weaker c.leave.result
    (λ answers. subst (λ (call : Ask). Answers c.args.script.now call c.args.fiber c.args.self.now c.leave.new.told c.leave.new.self) (sym c.in-Leave.is) (answers c.args.script.now))
    c.leave.ensures.answers

pub returns-in-Cancel-clause-answers : goal.returns-in-Cancel-clause-answers
returns-in-Cancel-clause-answers c = on_ok_weaker c.cancel.result
    (λ answers. subst (λ (call : Ask). Answers c.args.script.now call c.args.fiber c.args.self.now c.cancel.new.told c.cancel.new.self) (sym c.in-Cancel.is) (answers c.args.script.now))
    c.cancel.ensures.answers

pub returns-in-Fail-clause-answers : goal.returns-in-Fail-clause-answers
returns-in-Fail-clause-answers c = on_ok_weaker c.fail.result
    (λ answers. subst (λ (call : Ask). Answers c.args.script.now call c.args.fiber c.args.self.now c.fail.new.told c.fail.new.self) (sym c.in-Fail.is) (answers c.args.script.now))
    c.fail.ensures.answers

pub returns-in-Join-clause-answers : goal.returns-in-Join-clause-answers
returns-in-Join-clause-answers c = on_ok_weaker c.join.result
    (λ answers. subst (λ (call : Ask). Answers c.args.script.now call c.args.fiber c.args.self.now c.join.new.told c.join.new.self) (sym c.in-Join.is) (answers c.args.script.now))
    c.join.ensures.answers
