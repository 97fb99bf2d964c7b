use Rattle.std.proofs.Common.{subst}
use Rattle.std.specs.Prelude.{Contains, None}
use Rattle.std.proofs.lemmas.Result.{on_ok_weaker}
use Rattle.eio_value.specs.declared.plain.Plain.TheVariants.{Exit}
use Rattle.eio_value.specs.declared.raised.Outcome.TheVariants as outcome
use Rattle.trace_lines.specs.declared.line.Did.TheVariants as did
use Rattle.script_forms.specs.Flat.{nodes_of}
use Rattle.spec_fiber.specs.Asks as asks
use Rattle.spec_parts.specs.Switches as switches
use Rattle.spec_parts.specs.Switches.{switch_at}
use Rattle.law_domain.specs.Kinded.KindedStates.{handlers_of}
use Rattle.spec_machine.specs.ContextMoves.{leaves}
use Rattle.spec_machine.specs.Domain.{ForOthers}
use Rattle.spec_machine.specs.Steps.{answers, cancels, waits}
use Rattle.domain_core.specs.contracts.domain.Domain.{the_view}
use Rattle.domain_core.specs.Answering.{MakesUnder, closes_on}
use Rattle.domain_core.specs.Keeping.{KeptDomain}
use Rattle.domain_core.proofs.Composing.{makes_after}
use Rattle.domain_core.proofs.Closes.{closes_by, runs_its}
use Rattle.domain_core.proofs.domain.Domain.close_on.Goals as goal

pub run_handler-requires-clause-handler : goal.run_handler-requires-clause-handler
run_handler-requires-clause-handler c =
    c.requires.handlers c.in-RunHandler.handler
    (subst (λ (kept : KeptDomain). Contains (handlers_of (switch_at kept.switches c.args.switch)) c.in-RunHandler.handler) c.self.view_is
    (runs_its c.in-RunHandler.handler c.args.fiber (switch_at c.self.inside.switches c.args.switch) c.in-RunHandler.ensures.step))

pub returns-in-Wait-clause-makes : goal.returns-in-Wait-clause-makes
returns-in-Wait-clause-makes c =
    subst (λ (kept : KeptDomain). MakesUnder (nodes_of c.args.script.now) (closes_on c.args.script.now c.args.switch c.args.kept c.args.fiber) kept c.wait_for.new.told c.wait_for.new.self) c.self.view_is
    (closes_by c.args.script.now c.args.switch c.args.kept c.args.fiber switches.Wait c.context-context.result c.close_step.new.self (the_view c.self.inside) c.wait_for.new.told c.wait_for.new.self
    c.in-Wait.ensures.step c.in-Wait.ensures.switches c.context-context.ensures
    (c.wait_for.ensures.makes (nodes_of c.args.script.now)))

pub returns-in-CancelDaemons-clause-makes : goal.returns-in-CancelDaemons-clause-makes
returns-in-CancelDaemons-clause-makes c =
    subst (λ (kept : KeptDomain). MakesUnder (nodes_of c.args.script.now) (closes_on c.args.script.now c.args.switch c.args.kept c.args.fiber) kept c.wait_for-in-CancelDaemons.new.told c.wait_for-in-CancelDaemons.new.self) c.self.view_is
    (closes_by c.args.script.now c.args.switch c.args.kept c.args.fiber switches.CancelDaemons c.context-context.result c.close_step.new.self (the_view c.self.inside) c.wait_for-in-CancelDaemons.new.told c.wait_for-in-CancelDaemons.new.self
    c.in-CancelDaemons.ensures.step c.in-CancelDaemons.ensures.switches c.context-context.ensures
    (makes_after (nodes_of c.args.script.now) (cancels c.args.fiber c.context-context.result Exit) (waits (did.Close c.args.switch) (ForOthers (asks.Close c.args.switch None c.args.kept)) c.args.fiber)
    _ c.cancel_context.new.self c.wait_for-in-CancelDaemons.new.told c.wait_for-in-CancelDaemons.new.self
    (c.cancel_context.ensures.becomes (nodes_of c.args.script.now)) (c.wait_for-in-CancelDaemons.ensures.makes (nodes_of c.args.script.now))))

pub returns-in-RunHandler-clause-makes : goal.returns-in-RunHandler-clause-makes
returns-in-RunHandler-clause-makes c =
    on_ok_weaker c.run_handler.result
    (λ makes.
    subst (λ (kept : KeptDomain). MakesUnder (nodes_of c.args.script.now) (closes_on c.args.script.now c.args.switch c.args.kept c.args.fiber) kept c.run_handler.new.told c.run_handler.new.self) c.self.view_is
    (closes_by c.args.script.now c.args.switch c.args.kept c.args.fiber (switches.RunHandler c.in-RunHandler.handler) c.context-context.result c.close_step.new.self (the_view c.self.inside) c.run_handler.new.told c.run_handler.new.self
    c.in-RunHandler.ensures.step c.in-RunHandler.ensures.switches c.context-context.ensures makes))
    c.run_handler.ensures.makes

pub returns-in-Return-clause-makes : goal.returns-in-Return-clause-makes
returns-in-Return-clause-makes c =
    subst (λ (kept : KeptDomain). MakesUnder (nodes_of c.args.script.now) (closes_on c.args.script.now c.args.switch c.args.kept c.args.fiber) kept c.give.new.told c.give.new.self) c.self.view_is
    (closes_by c.args.script.now c.args.switch c.args.kept c.args.fiber switches.Return c.context-context.result c.close_step.new.self (the_view c.self.inside) c.give.new.told c.give.new.self
    c.in-Return.ensures.step c.in-Return.ensures.switches c.context-context.ensures
    (makes_after (nodes_of c.args.script.now) (leaves c.context-context.result c.args.fiber) (answers (did.Close c.args.switch) (outcome.Ok c.args.kept) c.args.fiber)
    _ c.leave_context.new.self c.give.new.told c.give.new.self
    (c.leave_context.ensures.becomes (nodes_of c.args.script.now)) (c.give.ensures.makes (nodes_of c.args.script.now))))

pub returns-in-Raise-clause-makes : goal.returns-in-Raise-clause-makes
returns-in-Raise-clause-makes c =
    on_ok_weaker c.raise_again.result
    (λ makes.
    subst (λ (kept : KeptDomain). MakesUnder (nodes_of c.args.script.now) (closes_on c.args.script.now c.args.switch c.args.kept c.args.fiber) kept c.raise_again.new.told c.raise_again.new.self) c.self.view_is
    (closes_by c.args.script.now c.args.switch c.args.kept c.args.fiber (switches.Raise c.in-Raise.errors) c.context-context.result c.close_step.new.self (the_view c.self.inside) c.raise_again.new.told c.raise_again.new.self
    c.in-Raise.ensures.step c.in-Raise.ensures.switches c.context-context.ensures
    (makes_after (nodes_of c.args.script.now) (leaves c.context-context.result c.args.fiber) (answers (did.Close c.args.switch) (outcome.Err c.in-Raise.errors) c.args.fiber)
    _ c.leave_context-in-Raise.new.self c.raise_again.new.told c.raise_again.new.self
    (c.leave_context-in-Raise.ensures.becomes (nodes_of c.args.script.now)) (makes (nodes_of c.args.script.now)))))
    c.raise_again.ensures.makes
