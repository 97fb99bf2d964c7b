use Rattle.std.proofs.Common.{◌∙◌, sym, subst}
use Rattle.domain_core.specs.Conditions.{RunsInLive}
use Rattle.domain_core.specs.Mirrors.{Mirrors}
use Rattle.domain_core.proofs.Scoping.{protected_number, protected_becomes}
use Rattle.domain_core.proofs.domain.Domain.new_protected.Goals as goal

pub protect-requires-clause-live : goal.protect-requires-clause-live
protect-requires-clause-live c = subst (λ kept. RunsInLive kept c.args.fiber) (sym c.self.view_is) c.requires.live _ c.at.ensures.1

pub returns-clause-number : goal.returns-clause-number
returns-clause-number c nodes texts l mirrors = (
    let live = subst (λ kept. RunsInLive kept c.args.fiber) (sym c.self.view_is) c.requires.live _ c.at.ensures.1 in
    c.ok.ensures.value ∙ (c.protect.ensures.number ∙ protected_number nodes texts _ l (subst (λ kept. Mirrors nodes texts kept l) (sym c.self.view_is) mirrors) c.args.fiber _ c.at.ensures.1 live))

pub returns-clause-becomes : goal.returns-clause-becomes
returns-clause-becomes c = (
    let live = subst (λ kept. RunsInLive kept c.args.fiber) (sym c.self.view_is) c.requires.live _ c.at.ensures.1 in
    protected_becomes _ _ c.self.view_is c.args.fiber _ c.at.ensures.1 live c.ok.result c.protect.new.self c.protect.ensures.after)
