use Rattle.std.proofs.Common.{◌<◌, ◌-◌, ◌∙◌, ap, length, sym, subst, List}
use Rattle.spec_parts.specs.Groups.{Group, group_at}
use Rattle.spec_machine.specs.GroupMoves.{branch_ended}
use Rattle.domain_core.specs.Answering.{BecomesUnder}
use Rattle.domain_core.specs.Conditions.{LeavesGroups}
use Rattle.domain_core.specs.contracts.domain.Domain.{the_view}
use Rattle.domain_core.specs.Keeping.{KeptDomain}
use Rattle.domain_core.proofs.Ends.{branch_becomes, branch_leaves, ended_left, group_then}
use Rattle.domain_core.proofs.domain.Domain.branch_ends.Goals as goal

pub returns-clause-becomes : goal.returns-clause-becomes
returns-clause-becomes c = λ nodes.
    subst (λ (kept : KeptDomain). BecomesUnder nodes (branch_ended c.args.group c.args.outcome.now c.args.fiber) kept c.wake.new.self) c.self.view_is
    (branch_becomes c.args.group c.args.fiber c.args.outcome.now _ c.branch_ends-ended.new.self
    (subst (λ (kept : KeptDomain). c.args.group < length kept.groups) (sym c.self.view_is) c.requires.made) c.branch_ends-ended.ensures.groups
    nodes c.context-context.result c.branch_ends-ended.result.cancels c.branch_ends-ended.result.woken c.cancel_if.new.self c.wake.new.self
    c.context-context.ensures c.branch_ends-ended.ensures.cancels c.branch_ends-ended.ensures.woken (c.cancel_if.ensures.becomes nodes) (c.wake.ensures.becomes nodes))

pub returns-clause-leaves : goal.returns-clause-leaves
returns-clause-leaves c =
    subst (λ (kept : KeptDomain). LeavesGroups kept c.wake.new.self) c.self.view_is
    (branch_leaves c.args.group c.args.fiber c.args.outcome.now _ c.branch_ends-ended.new.self
    (subst (λ (kept : KeptDomain). c.args.group < length kept.groups) (sym c.self.view_is) c.requires.made) c.branch_ends-ended.ensures.groups
    c.cancel_if.new.self c.wake.new.self c.cancel_if.ensures.fibers c.cancel_if.ensures.groups c.cancel_if.ensures.ends
    c.wake.ensures.awake c.wake.ensures.ready c.wake.ensures.contexts c.wake.ensures.groups)

pub returns-clause-left : goal.returns-clause-left
returns-clause-left c = (
    let is = group_then c.args.group c.args.fiber c.args.outcome.now (the_view c.self.inside) c.branch_ends-ended.new.self
    (subst (λ (kept : KeptDomain). c.args.group < length kept.groups) (sym c.self.view_is) c.requires.made) c.branch_ends-ended.ensures.groups in
    ap (λ (xs : List Group). (group_at xs c.args.group).left) (c.wake.ensures.groups ∙ c.cancel_if.ensures.groups)
    ∙ (ap (λ (x : Group). x.left) is ∙ (ended_left c.args.outcome.now _ ∙ ap (λ (kept : KeptDomain). (group_at kept.groups c.args.group).left - 1) c.self.view_is)))
