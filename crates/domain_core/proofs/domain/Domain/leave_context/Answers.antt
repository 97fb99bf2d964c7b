use Rattle.std.proofs.Common.{◌∙◌, ap, sym, subst}
use Rattle.std.specs.Option.{unwrap_or}
use Rattle.domain_core.specs.Conditions.{IsAwake, MayEndContext}
use Rattle.domain_core.specs.Mirrors.{Mirrors}
use Rattle.domain_core.proofs.Scoping.{awake_moved, leaves_mirrors}
use Rattle.domain_core.proofs.domain.Domain.leave_context.Goals as goal

pub returns-clause-becomes : goal.returns-clause-becomes
returns-clause-becomes c nodes texts l mirrors =
    leaves_mirrors nodes texts _ l (subst (λ kept. Mirrors nodes texts kept l) (sym c.self.view_is) mirrors) c.args.fiber c.args.context
    (subst (λ kept. IsAwake kept c.args.fiber) (sym c.self.view_is) c.requires.awake)
    (subst (λ kept. MayEndContext kept c.args.context) (sym c.self.view_is) c.requires.may)
    c.go_to.new.self c.end.new.self c.unwrap_or-above.result
    (c.unwrap_or-above.ensures ∙ ap (λ p. unwrap_or p 0) c.parent.ensures)
    c.end.ensures c.go_to.ensures

pub returns-clause-awake : goal.returns-clause-awake
returns-clause-awake c =
    awake_moved _ _ c.args.fiber c.unwrap_or-above.result (subst (λ kept. IsAwake kept c.args.fiber) (sym c.self.view_is) c.requires.awake) c.go_to.ensures
