use Rattle.std.proofs.Common.{◌∙◌, ◌<◌, ap, List, length, ℕ, sym, subst}
use Rattle.std.proofs.lemmas.Result.{on_ok_weaker}
use Rattle.eio_value.specs.declared.raised.Outcome.TheVariants as outcome
use Rattle.trace_lines.specs.declared.line.Did.TheVariants as did
use Rattle.script_forms.specs.Flat.{nodes_of}
use Rattle.spec_parts.specs.Groups as groups
use Rattle.spec_parts.specs.Groups.{group_at}
use Rattle.spec_machine.specs.ContextMoves.{leaves}
use Rattle.spec_machine.specs.GroupMoves.{own_ended}
use Rattle.spec_machine.specs.Steps.{answers, raises_again}
use Rattle.domain_core.specs.contracts.domain.Domain.{the_view}
use Rattle.domain_core.specs.Answering.{BecomesUnder, Makes}
use Rattle.domain_core.specs.Conditions.{LeavesGroups}
use Rattle.domain_core.specs.Keeping.{KeptDomain}
use Rattle.domain_core.proofs.Calling.{room_for_caller}
use Rattle.domain_core.proofs.Composing.{makes_after}
use Rattle.domain_core.proofs.Joins.{joins_by, may_leave, room_still}
use Rattle.domain_core.proofs.domain.Domain.join.Goals as goal

pub leave_context-requires-clause-may : goal.leave_context-requires-clause-may
leave_context-requires-clause-may c =
    may_leave c.args.self.now (the_view c.self.inside) (subst (λ (kept : KeptDomain). LeavesGroups c.args.self.now kept) (sym c.self.view_is) c.own_ends.ensures.leaves)
    c.args.group c.args.own c.args.fiber (groups.Give c.in-Give.value) c.context-context.result c.join.new.self c.requires.may
    (ap (λ (kept : KeptDomain). (group_at kept.groups c.args.group).left) c.self.view_is ∙ c.own_ends.ensures.left)
    (λ is. cc) c.in-Give.ensures.step c.context-context.ensures

pub leave_context-requires-in-Raise-clause-may : goal.leave_context-requires-in-Raise-clause-may
leave_context-requires-in-Raise-clause-may c =
    may_leave c.args.self.now (the_view c.self.inside) (subst (λ (kept : KeptDomain). LeavesGroups c.args.self.now kept) (sym c.self.view_is) c.own_ends.ensures.leaves)
    c.args.group c.args.own c.args.fiber (groups.Raise c.in-Raise.raised) c.context-context.result c.join.new.self c.requires.may
    (ap (λ (kept : KeptDomain). (group_at kept.groups c.args.group).left) c.self.view_is ∙ c.own_ends.ensures.left)
    (λ is. cc) c.in-Raise.ensures.step c.context-context.ensures

pub give-requires-clause-room : goal.give-requires-clause-room
give-requires-clause-room c =
    subst (λ (xs : List ℕ). length xs < 1024) (sym (c.leave_context.ensures.ready ∙ ap (λ (kept : KeptDomain). kept.ready) c.self.view_is))
    (room_still c.args.self.now c.own_ends.new.self c.own_ends.ensures.leaves c.requires.can.parked (room_for_caller c.args.self.now c.args.fiber c.requires.can))

pub raise_again-requires-clause-room : goal.raise_again-requires-clause-room
raise_again-requires-clause-room c =
    subst (λ (xs : List ℕ). length xs < 1024) (sym (c.leave_context-in-Raise.ensures.ready ∙ ap (λ (kept : KeptDomain). kept.ready) c.self.view_is))
    (room_still c.args.self.now c.own_ends.new.self c.own_ends.ensures.leaves c.requires.can.parked (room_for_caller c.args.self.now c.args.fiber c.requires.can))

pub returns-in-Wait-clause-answers : goal.returns-in-Wait-clause-answers
returns-in-Wait-clause-answers c = λ script.
    joins_by script c.args.group c.args.own c.args.fiber groups.Wait c.context-context.result c.join.new.self c.args.self.now (the_view c.self.inside) c.wait_for.new.told c.wait_for.new.self
    (subst (λ (kept : KeptDomain). BecomesUnder (nodes_of script) (own_ended c.args.group c.args.own c.args.fiber) c.args.self.now kept) (sym c.self.view_is) (c.own_ends.ensures.becomes (nodes_of script)))
    c.in-Wait.ensures.step c.in-Wait.ensures.groups c.context-context.ensures (c.wait_for.ensures.makes (nodes_of script))

pub returns-in-Give-clause-answers : goal.returns-in-Give-clause-answers
returns-in-Give-clause-answers c = λ script.
    joins_by script c.args.group c.args.own c.args.fiber (groups.Give c.in-Give.value) c.context-context.result c.join.new.self c.args.self.now (the_view c.self.inside) c.give.new.told c.give.new.self
    (subst (λ (kept : KeptDomain). BecomesUnder (nodes_of script) (own_ended c.args.group c.args.own c.args.fiber) c.args.self.now kept) (sym c.self.view_is) (c.own_ends.ensures.becomes (nodes_of script)))
    c.in-Give.ensures.step c.in-Give.ensures.groups c.context-context.ensures
    (makes_after (nodes_of script) (leaves c.context-context.result c.args.fiber) (answers (did.Join c.context-context.result) (outcome.Ok c.in-Give.value) c.args.fiber)
    _ c.leave_context.new.self c.give.new.told c.give.new.self
    (c.leave_context.ensures.becomes (nodes_of script)) (c.give.ensures.makes (nodes_of script)))

pub returns-in-Raise-clause-answers : goal.returns-in-Raise-clause-answers
returns-in-Raise-clause-answers c =
    on_ok_weaker c.raise_again.result
    (λ (makes : Makes (raises_again (did.Join c.context-context.result) c.in-Raise.raised c.args.fiber) c.leave_context-in-Raise.new.self c.raise_again.new.told c.raise_again.new.self) script.
    joins_by script c.args.group c.args.own c.args.fiber (groups.Raise c.in-Raise.raised) c.context-context.result c.join.new.self c.args.self.now (the_view c.self.inside) c.raise_again.new.told c.raise_again.new.self
    (subst (λ (kept : KeptDomain). BecomesUnder (nodes_of script) (own_ended c.args.group c.args.own c.args.fiber) c.args.self.now kept) (sym c.self.view_is) (c.own_ends.ensures.becomes (nodes_of script)))
    c.in-Raise.ensures.step c.in-Raise.ensures.groups c.context-context.ensures
    (makes_after (nodes_of script) (leaves c.context-context.result c.args.fiber) (answers (did.Join c.context-context.result) (outcome.Err c.in-Raise.raised) c.args.fiber)
    _ c.leave_context-in-Raise.new.self c.raise_again.new.told c.raise_again.new.self
    (c.leave_context-in-Raise.ensures.becomes (nodes_of script)) (makes (nodes_of script))))
    c.raise_again.ensures.makes
