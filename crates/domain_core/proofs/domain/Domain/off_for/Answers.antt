use Rattle.std.proofs.Common.{◌∙◌, sym, subst}
use Rattle.domain_core.specs.Conditions.{RunsInLive}
use Rattle.domain_core.specs.Mirrors.{Mirrors}
use Rattle.domain_core.proofs.Scoping.{off_there}
use Rattle.domain_core.proofs.domain.Domain.off_for.Goals as goal

pub is_off-requires : goal.is_off-requires
is_off-requires c = subst (λ kept. RunsInLive kept c.args.fiber) (sym c.self.view_is) c.requires.live _ c.at.ensures.1

pub returns : goal.returns
returns c nodes texts l mirrors = (
    let live = subst (λ kept. RunsInLive kept c.args.fiber) (sym c.self.view_is) c.requires.live _ c.at.ensures.1 in
    c.is_off.ensures ∙ off_there nodes texts _ l (subst (λ kept. Mirrors nodes texts kept l) (sym c.self.view_is) mirrors) c.args.fiber _ c.at.ensures.1 live)
