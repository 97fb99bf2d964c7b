use Rattle.std.proofs.Common.{sym}
use Rattle.domain_core.proofs.Scoping.{fails_leaves, fails_mirrors, fails_once, leaves_as, where_err, where_ok}
use Rattle.domain_core.proofs.domain.Domain.fails.Goals as goal

pub returns-then-is_ok-clause-becomes : goal.returns-then-is_ok-clause-becomes
returns-then-is_ok-clause-becomes c nodes texts l mirrors =
    fails_mirrors _ _ c.self.view_is c.args.maker c.args.switch c.args.raised.now c.cancel_context.new.self c.fail.new.self c.context-context.result c.reason.result
    c.reason.ensures c.requires.opened (where_ok c.fail.result (sym c.if-is_ok.ensures.value) c.fail.ensures.ok) c.context-context.ensures
    nodes texts l mirrors (c.cancel_context.ensures.becomes nodes)

pub returns-then-is_ok-clause-leaves : goal.returns-then-is_ok-clause-leaves
returns-then-is_ok-clause-leaves c =
    fails_leaves _ _ c.self.view_is c.args.maker c.args.switch c.args.raised.now c.cancel_context.new.self c.fail.new.self c.context-context.result c.reason.result
    c.reason.ensures c.requires.opened (where_ok c.fail.result (sym c.if-is_ok.ensures.value) c.fail.ensures.ok) c.context-context.ensures
    c.cancel_context.ensures.contexts c.cancel_context.ensures.fibers c.cancel_context.ensures.switches c.cancel_context.ensures.groups

pub returns-then-is_ok-clause-once : goal.returns-then-is_ok-clause-once
returns-then-is_ok-clause-once c =
    fails_once _ _ c.self.view_is c.args.maker c.args.switch c.args.raised.now c.cancel_context.new.self c.fail.new.self c.context-context.result c.reason.result
    c.reason.ensures c.requires.opened (where_ok c.fail.result (sym c.if-is_ok.ensures.value) c.fail.ensures.ok) c.context-context.ensures
    c.cancel_context.ensures.contexts

pub returns-else-is_ok-clause-leaves : goal.returns-else-is_ok-clause-leaves
returns-else-is_ok-clause-leaves c =
    leaves_as _ _ c.self.view_is c.fail.new.self (where_err c.fail.result (sym c.if-is_ok.ensures.value) c.fail.ensures.err)
