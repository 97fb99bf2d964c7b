use Rattle.std.proofs.Common.{rules, ◌∙◌, ◌<◌, length, ap, sym, subst}
use Rattle.std.specs.Option.{option_map, unwrap_or}
use Rattle.std.proofs.lemmas.Option.{same_Some}
use Rattle.cancel_tree.specs.Waits.{waits}
use Rattle.eio_value.specs.declared.plain.Plain.{Plain}
use Rattle.eio_value.specs.declared.plain.Plain.TheVariants.{Exit}
use Rattle.spec_machine.specs.Steps.{member}
use Rattle.spec_parts.specs.Contexts.{off}
use Rattle.domain_core.specs.Conditions.{AwaitsCancel, RunsInLive}
use Rattle.domain_core.specs.Keeping.{KeptFiber, KeptDomain, kept_at}
use Rattle.domain_core.proofs.Striking.{awaits, loses, wins}
use Rattle.domain_core.proofs.domain.Domain.strike.Goals as goal

pub is_off-requires : goal.is_off-requires
is_off-requires c = (
    let awaited : AwaitsCancel c.args.self.now c.args.strike.fiber =
    subst (λ (kept : KeptDomain). AwaitsCancel kept c.args.strike.fiber) c.self.view_is
    (awaits c.standing.ensures.0 (kept_at c.self.inside.fibers c.args.strike.fiber) c.standing.result c.standing.ensures.1 (c.awaits_cancel.ensures.yes c.if-not-awaits_cancel.false)) in
    subst (λ (kept : KeptDomain). RunsInLive kept c.args.strike.fiber) (sym c.self.view_is) (c.requires.may.live awaited) _ c.at.ensures.1)

pub unwait-requires : goal.unwait-requires
unwait-requires c = (
    let awaited : AwaitsCancel c.args.self.now c.args.strike.fiber =
    subst (λ (kept : KeptDomain). AwaitsCancel kept c.args.strike.fiber) c.self.view_is
    (awaits c.standing.ensures.0 (kept_at c.self.inside.fibers c.args.strike.fiber) c.standing.result c.standing.ensures.1 (c.awaits_cancel.ensures.yes c.if-not-awaits_cancel.false)) in
    ap (λ (kept : KeptDomain). waits c.args.strike.fiber kept.contexts.waiting) (c.self-2.view_is ∙ c.in_ok-member.ensures.is) ∙ c.requires.may.waits awaited)

pub push_back_reserved-requires : goal.push_back_reserved-requires
push_back_reserved-requires c = (
    let awaited : AwaitsCancel c.args.self.now c.args.strike.fiber =
    subst (λ (kept : KeptDomain). AwaitsCancel kept c.args.strike.fiber) c.self.view_is
    (awaits c.standing.ensures.0 (kept_at c.self.inside.fibers c.args.strike.fiber) c.standing.result c.standing.ensures.1 (c.awaits_cancel.ensures.yes c.if-not-awaits_cancel.false)) in
    let room : length c.self-2.inside.ready.fibers < 1024 =
    subst (λ (kept : KeptDomain). length kept.ready < 1024) (sym (c.self-2.view_is ∙ c.in_ok-member.ensures.is)) (c.requires.may.room awaited) in
    search rules)

pub returns-then-not-awaits_cancel-clause-makes : goal.returns-then-not-awaits_cancel-clause-makes
returns-then-not-awaits_cancel-clause-makes c =
    loses c.args.strike.maker c.args.strike.fiber c.args.self.now c.self.inside.number (ap (λ (kept : KeptDomain). kept.number) c.self.view_is)
    c.standing.ensures.0 c.standing.result (c.awaits_cancel.ensures.no c.if-not-awaits_cancel.true)
    (c.standing.ensures.1 ∙ ap (λ (kept : KeptDomain). option_map (λ (f : KeptFiber). f.standing) (kept_at kept.fibers c.args.strike.fiber)) c.self.view_is)

pub returns-clause-makes : goal.returns-clause-makes
returns-clause-makes c = (
    let awaited : AwaitsCancel c.args.self.now c.args.strike.fiber =
    subst (λ (kept : KeptDomain). AwaitsCancel kept c.args.strike.fiber) c.self.view_is
    (awaits c.standing.ensures.0 (kept_at c.self.inside.fibers c.args.strike.fiber) c.standing.result c.standing.ensures.1 (c.awaits_cancel.ensures.yes c.if-not-awaits_cancel.false)) in
    let there = ap (λ (kept : KeptDomain). kept_at kept.fibers c.args.strike.fiber) (sym c.self.view_is) ∙ c.at.ensures.1 in
    let is = ap (λ (f : KeptFiber). f.standing) (same_Some _ _ (sym there ∙ awaited.1)) ∙ awaited.2 in
    let off_is = c.unwrap_or-why.ensures ∙ ap (λ o. unwrap_or o Exit) (c.is_off.ensures ∙ ap (λ (kept : KeptDomain). off kept.contexts.made c.at.result.now.context) c.self.view_is) in
    wins c.args.strike.maker c.args.strike.fiber c.args.self.now c.self.inside.number (ap (λ (kept : KeptDomain). kept.number) c.self.view_is)
    _ there is (c.requires.may.live awaited _ there) c.in_ok-member.member
    (λ nodes texts l mirrors. c.in_ok-member.ensures.raises.is nodes texts l mirrors ∙ ap (λ (why : Plain). member why l) off_is)
    _ (c.self-2.view_is ∙ c.in_ok-member.ensures.is) c.throw.new.self c.in_ok-throw.ensures.ok c.unwait.new.self c.unwait.ensures c.push_back_reserved.new.self.fibers
    (ap (λ ready. ready.fibers) c.push_back_reserved.ensures))
