use Rattle.std.proofs.Common.{sym, subst}
use Rattle.domain_core.specs.Conditions.{MayEndContext}
use Rattle.domain_core.specs.Mirrors.{Mirrors}
use Rattle.domain_core.proofs.Scoping.{cancels_mirrors, ends_still}
use Rattle.domain_core.proofs.domain.Domain.cancel_context.Goals as goal

pub returns-clause-becomes : goal.returns-clause-becomes
returns-clause-becomes c nodes texts l mirrors =
    cancels_mirrors nodes texts _ l (subst (λ kept. Mirrors nodes texts kept l) (sym c.self.view_is) mirrors) c.args.maker c.args.context c.args.why
    c.cancel.new.contexts c.cancel.new.self c.cancel.ensures.after c.cancel.ensures.owed

pub returns-clause-ends : goal.returns-clause-ends
returns-clause-ends c context may =
    ends_still _ _ c.args.context c.args.why c.cancel.ensures.after context (subst (λ kept. MayEndContext kept context) (sym c.self.view_is) may)
