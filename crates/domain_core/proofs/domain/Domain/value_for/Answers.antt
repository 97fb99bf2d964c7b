use Rattle.std.proofs.Common.{◌≡◌, ◌∙◌, ap, sym, subst}
use Rattle.eio_value.specs.declared.raised.Outcome.TheVariants as outcome
use Rattle.spec_parts.specs.Contexts.{off}
use Rattle.domain_core.specs.declared.standing.Next.{Next}
use Rattle.domain_core.specs.declared.standing.Next.TheVariants as next
use Rattle.domain_core.specs.declared.standing.Standing.TheVariants as standing
use Rattle.domain_core.specs.Conditions.{RunsInLive}
use Rattle.domain_core.specs.Keeping.{KeptDomain, kept_at}
use Rattle.domain_core.specs.Keyed.{standing_of}
use Rattle.domain_core.proofs.Coming.{goes_on, goes_past}
use Rattle.domain_core.proofs.domain.Domain.value_for.Goals as goal

pub is_off-requires : goal.is_off-requires
is_off-requires c = subst (λ kept. RunsInLive kept c.args.fiber) (sym c.self.view_is) c.requires.live _ c.at-found.ensures.1

pub returns-in-Ready-GoesOn : goal.returns-in-Ready-GoesOn
returns-in-Ready-GoesOn c = (
    let there = ap (λ (kept : KeptDomain). kept_at kept.fibers c.args.fiber) (sym c.self.view_is) ∙ c.at-found.ensures.1 in
    let is : c.in-Ready-GoesOn.field-0 ≡ next.GoesOn c.in-Ready-GoesOn.value = rw c.in-Ready-GoesOn.is at c.in-Ready-GoesOn.field-0-is in
    goes_on c.args.self.now c.args.fiber _ there (outcome.Ok c.in-Ready-GoesOn.value)
    (ap (standing_of c.at-found.ensures.0) (c.in-Ready-GoesOn.is ∙ ap (λ (it : Next). standing.Ready it) is)))

pub returns-in-None : goal.returns-in-None
returns-in-None c = (
    let there = ap (λ (kept : KeptDomain). kept_at kept.fibers c.args.fiber) (sym c.self.view_is) ∙ c.at-found.ensures.1 in
    let is : c.in-Ready-LooksUp.field-0 ≡ next.LooksUp = rw c.in-Ready-LooksUp.is at c.in-Ready-LooksUp.field-0-is in
    goes_past c.args.self.now c.args.fiber _ there (c.requires.live _ there)
    (ap (standing_of c.at-found.ensures.0) (c.in-Ready-LooksUp.is ∙ ap (λ (it : Next). standing.Ready it) is))
    (ap (λ (kept : KeptDomain). off kept.contexts.made c.at-found.result.now.context) (sym c.self.view_is) ∙ (sym c.is_off.ensures ∙ c.in-None.is)))
