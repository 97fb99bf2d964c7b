use Rattle.std.proofs.Common.{◌≡◌, ◌∙◌, Some, ap, sym, subst}
use Rattle.std.specs.Option.{unwrap_or, option_and_then, option_copied}
use Rattle.std.proofs.lemmas.Option.{same_Some}
use Rattle.eio_value.specs.declared.plain.Plain.TheVariants.{Exit}
use Rattle.eio_value.specs.declared.raised.Outcome.TheVariants as outcome
use Rattle.eio_value.specs.declared.raised.Raised.{Raised}
use Rattle.spec_parts.specs.Contexts.{off}
use Rattle.domain_core.specs.declared.standing.Next.{Next}
use Rattle.domain_core.specs.declared.standing.Next.TheVariants as next
use Rattle.domain_core.specs.declared.standing.Standing.TheVariants as standing
use Rattle.domain_core.specs.Conditions.{RunsInLive}
use Rattle.domain_core.specs.Keeping.{KeptDomain, kept_at}
use Rattle.domain_core.specs.Keyed.{raised_of, standing_of}
use Rattle.domain_core.specs.Moving.{GoesOnWith}
use Rattle.domain_core.proofs.Coming.{goes_on, goes_past, looks_off, finds_off}
use Rattle.domain_core.proofs.domain.Domain.came_to.Goals as goal

pub is_off-requires : goal.is_off-requires
is_off-requires c = subst (λ kept. RunsInLive kept c.args.fiber) (sym c.self.view_is) c.requires.live _ c.at-found.ensures.1

pub is_off-requires-in-Ready-FindsOff : goal.is_off-requires-in-Ready-FindsOff
is_off-requires-in-Ready-FindsOff c = subst (λ kept. RunsInLive kept c.args.fiber) (sym c.self.view_is) c.requires.live _ c.at-found.ensures.1

pub returns-in-Ready-GoesOn-clause-came : goal.returns-in-Ready-GoesOn-clause-came
returns-in-Ready-GoesOn-clause-came c = (
    let there = ap (λ (kept : KeptDomain). kept_at kept.fibers c.args.fiber) (sym c.self.view_is) ∙ c.at-found.ensures.1 in
    let is : c.in-Ready-GoesOn.field-0 ≡ next.GoesOn c.in-Ready-GoesOn.value = rw c.in-Ready-GoesOn.is at c.in-Ready-GoesOn.field-0-is in
    goes_on c.args.self.now c.args.fiber _ there (outcome.Ok c.in-Ready-GoesOn.value)
    (ap (standing_of c.at-found.ensures.0) (c.in-Ready-GoesOn.is ∙ ap (λ (it : Next). standing.Ready it) is)))

pub returns-in-None-clause-came : goal.returns-in-None-clause-came
returns-in-None-clause-came c = (
    let there = ap (λ (kept : KeptDomain). kept_at kept.fibers c.args.fiber) (sym c.self.view_is) ∙ c.at-found.ensures.1 in
    let is : c.in-Ready-LooksUp.field-0 ≡ next.LooksUp = rw c.in-Ready-LooksUp.is at c.in-Ready-LooksUp.field-0-is in
    goes_past c.args.self.now c.args.fiber _ there (c.requires.live _ there)
    (ap (standing_of c.at-found.ensures.0) (c.in-Ready-LooksUp.is ∙ ap (λ (it : Next). standing.Ready it) is))
    (ap (λ (kept : KeptDomain). off kept.contexts.made c.at-found.result.now.context) (sym c.self.view_is) ∙ (sym c.is_off.ensures ∙ c.in-None.is)))

pub returns-in_ok-new_raise-in-Some-clause-came : goal.returns-in_ok-new_raise-in-Some-clause-came
returns-in_ok-new_raise-in-Some-clause-came c = (
    let there = ap (λ (kept : KeptDomain). kept_at kept.fibers c.args.fiber) (sym c.self.view_is) ∙ c.at-found.ensures.1 in
    let is : c.in-Ready-LooksUp.field-0 ≡ next.LooksUp = rw c.in-Ready-LooksUp.is at c.in-Ready-LooksUp.field-0-is in
    looks_off c.args.self.now c.args.fiber _ there (c.requires.live _ there) c.in-Some.why
    (ap (standing_of c.at-found.ensures.0) (c.in-Ready-LooksUp.is ∙ ap (λ (it : Next). standing.Ready it) is))
    (ap (λ (kept : KeptDomain). off kept.contexts.made c.at-found.result.now.context) (sym c.self.view_is) ∙ (sym c.is_off.ensures ∙ c.in-Some.is))
    c.in_ok-new_raise-in-Some.field-0 c.new_raise.new.self
    c.in_ok-new_raise-in-Some.ensures.raises (ap (λ (kept : KeptDomain). kept.serial) c.in_ok-new_raise-in-Some.ensures.is))

pub returns-in_ok-new_raise-in-Ready-FindsOff-clause-came : goal.returns-in_ok-new_raise-in-Ready-FindsOff-clause-came
returns-in_ok-new_raise-in-Ready-FindsOff-clause-came c = (
    let there = ap (λ (kept : KeptDomain). kept_at kept.fibers c.args.fiber) (sym c.self.view_is) ∙ c.at-found.ensures.1 in
    let is : c.in-Ready-FindsOff.field-0 ≡ next.FindsOff = rw c.in-Ready-FindsOff.is at c.in-Ready-FindsOff.field-0-is in
    let off_is = ap (λ (kept : KeptDomain). off kept.contexts.made c.at-found.result.now.context) (sym c.self.view_is) ∙ sym c.is_off-in-Ready-FindsOff.ensures in
    finds_off c.args.self.now c.args.fiber _ there (c.requires.live _ there) c.unwrap_or-why.result
    (ap (standing_of c.at-found.ensures.0) (c.in-Ready-FindsOff.is ∙ ap (λ (it : Next). standing.Ready it) is))
    (c.unwrap_or-why.ensures ∙ ap (λ o. unwrap_or o Exit) (sym off_is))
    c.in_ok-new_raise-in-Ready-FindsOff.field-0 c.new_raise-in-Ready-FindsOff.new.self
    c.in_ok-new_raise-in-Ready-FindsOff.ensures.raises (ap (λ (kept : KeptDomain). kept.serial) c.in_ok-new_raise-in-Ready-FindsOff.ensures.is))

pub returns-in-Throws-clause-came : goal.returns-in-Throws-clause-came
returns-in-Throws-clause-came c = (
    let there = ap (λ (kept : KeptDomain). kept_at kept.fibers c.args.fiber) (sym c.self.view_is) ∙ c.at-found.ensures.1 in
    let thrown_is : raised_of (standing_of c.at-found.ensures.0 c.at-found.result.now.standing) ≡ Some c.unwrap.result.now =
    sym (c.thrown.ensures ∙ ap (λ o. option_and_then (λ fiber. raised_of fiber.standing) o) c.at-found.ensures.1) ∙ ap option_copied c.unwrap.ensures in
    let is : standing_of c.at-found.ensures.0 c.at-found.result.now.standing ≡ standing_of c.at-found.ensures.0 (standing.Throws c.in-Throws.field-0) = ap (standing_of c.at-found.ensures.0) c.in-Throws.is in
    let same = same_Some _ _ (sym (ap raised_of is) ∙ thrown_is) in
    subst (λ (it : Raised). GoesOnWith c.args.fiber (outcome.Err it) c.args.self.now c.args.self.now) same
    (goes_on c.args.self.now c.args.fiber _ there (outcome.Err (c.at-found.ensures.0 c.in-Throws.field-0)) is))
