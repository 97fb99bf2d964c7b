use Rattle.std.proofs.Common.{◌≡◌, ◌<◌, ◌≤◌, ◌+◌, ◌-◌, ◌∙◌, ℕ, List, length, take, ap, ap₂, sym, subst, refl, Some}
use Rattle.std.specs.Prelude.{count_by, is_some}
use Rattle.std.proofs.lemmas.Result.{on_ok_weaker}
use Rattle.fiber_step.specs.Having.{HasStatements}
use Rattle.fiber_step.specs.Standing.{branches_at}
use Rattle.script_forms.specs.Calls.{group_of}
use Rattle.script_forms.specs.Flat.{nodes_of}
use Rattle.script_forms.specs.declared.node.Node.{Node}
use Rattle.spec_fiber.specs.Silent.{blocks_of}
use Rattle.trace_lines.specs.declared.line.Did.{Did}
use Rattle.trace_lines.specs.declared.line.Said2.{Said2}
use Rattle.spec_machine.specs.GroupMoves.{first_of}
use Rattle.spec_machine.specs.Steps.{halts}
use Rattle.domain_core.specs.declared.told.Told.{Told}
use Rattle.domain_core.specs.Answering.{MakesUnder}
use Rattle.domain_core.specs.Keeping.{KeptDomain, KeptFiber, kept_at}
use Rattle.domain_core.specs.Keyed.{fiber_of}
use Rattle.domain_core.specs.Stepping.{IsPlacedAt}
use Rattle.domain_core.proofs.Grouping.{each_taken, makes_raised, makes_full, makes_none, makes_gathered}
use Rattle.domain_core.proofs.domain.Domain.branches.Goals as goal

pub returns-in-Some-clause-answers : goal.returns-in-Some-clause-answers
returns-in-Some-clause-answers c = (
    let nodes : List Node = nodes_of c.args.script.now in
    let it : KeptFiber = fiber_of c.at.ensures.0 c.at.result.now in
    let there = subst (λ (kept : KeptDomain). kept_at kept.fibers c.args.fiber ≡ Some it) c.self.view_is c.at.ensures.1 in
    on_ok_weaker c.raise_cancelled.result
    (λ makes. makes_raised c.args.script.now nodes (blocks_of (branches_at nodes c.args.form))
    (group_of c.args.group) c.args.fiber c.args.self.now _ c.raise_cancelled.new.self it there c.did_branch-did.result c.did_branch-did.ensures
    c.in-Some.why c.in-Some.ensures (makes nodes))
    c.raise_cancelled.ensures.makes)

pub returns-then-live-others-gt-MOST_FIBERS-clause-answers : goal.returns-then-live-others-gt-MOST_FIBERS-clause-answers
returns-then-live-others-gt-MOST_FIBERS-clause-answers c = (
    let nodes : List Node = nodes_of c.args.script.now in
    let bodies : List ℕ = c.branch_bodies-bodies.result.now in
    let full = subst (λ (kept : KeptDomain). 1024 < count_by is_some kept.fibers + length (take (length bodies - 1) bodies)) c.self.view_is
    (subst (λ (n : ℕ). 1024 < n + length (take (length bodies - 1) bodies)) c.live.ensures c.if-live-others-gt-MOST_FIBERS.true) in
    makes_full c.args.script.now nodes (blocks_of (branches_at nodes c.args.form))
    (group_of c.args.group) c.args.fiber c.args.self.now _ c.halt.new.self bodies c.branch_bodies-bodies.ensures.blocks c.in_default.ensures full (c.halt.ensures.makes nodes))

pub returns-in_default-new_sub-clause-answers : goal.returns-in_default-new_sub-clause-answers
returns-in_default-new_sub-clause-answers c = (
    let nodes : List Node = nodes_of c.args.script.now in
    let bodies : List ℕ = c.branch_bodies-bodies.result.now in
    let room = subst (λ (kept : KeptDomain). count_by is_some kept.fibers + length (take (length bodies - 1) bodies) ≤ 1024) c.self.view_is
    (subst (λ (n : ℕ). n + length (take (length bodies - 1) bodies) ≤ 1024) c.live.ensures c.if-live-others-gt-MOST_FIBERS.false) in
    makes_none c.args.script.now nodes (blocks_of (branches_at nodes c.args.form))
    (group_of c.args.group) c.args.fiber c.args.self.now _ c.halt-in_default-new_sub.new.self bodies c.branch_bodies-bodies.ensures.blocks c.in_default.ensures room
    c.in_default-new_sub.ensures.number
    (subst (λ (kept : KeptDomain). MakesUnder nodes (halts c.args.fiber) kept c.halt-in_default-new_sub.new.told c.halt-in_default-new_sub.new.self)
    c.in_default-new_sub.ensures.none (c.halt-in_default-new_sub.ensures.makes nodes)))

pub enter-requires-clause-placed : goal.enter-requires-clause-placed
enter-requires-clause-placed c = (
    let nodes : List Node = nodes_of c.args.script.now in
    c.in_ok-number.ensures.placed nodes (subst (λ fibers. IsPlacedAt nodes c.args.fiber fibers) (sym c.in-Some-new_sub.ensures.fibers.fibers) c.requires.may.placed))

pub returns-clause-answers : goal.returns-clause-answers
returns-clause-answers c = (
    let nodes : List Node = nodes_of c.args.script.now in
    let bodies : List ℕ = c.branch_bodies-bodies.result.now in
    let others : List ℕ = take (length bodies - 1) bodies in
    let room = subst (λ (kept : KeptDomain). count_by is_some kept.fibers + length others ≤ 1024) c.self.view_is
    (subst (λ (n : ℕ). n + length others ≤ 1024) c.live.ensures c.if-live-others-gt-MOST_FIBERS.false) in
    let domain : c.self-3.inside.number ≡ c.args.self.now.number =
    ap (λ (kept : KeptDomain). kept.number) c.self-3.view_is
    ∙ (c.put_before_all.ensures.same.number ∙ (c.in_ok-enter.ensures.same.number ∙ (c.in_ok-number.ensures.same.number ∙ c.in-Some-new_sub.ensures.same.number))) in
    let first : c.made-first.result ≡ length c.args.self.now.fibers =
    c.made-first.ensures ∙ (ap (λ (kept : KeptDomain). length kept.fibers) c.self-2.view_is ∙ ap (λ fibers. length fibers) c.in-Some-new_sub.ensures.fibers.fibers) in
    let answered : Did → Said2 → Told = λ it reply. record { fiber = c.args.fiber; did = it; reply = reply } in
    makes_gathered c.args.script.now nodes (blocks_of (branches_at nodes c.args.form))
    (group_of c.args.group) c.args.fiber c.args.self.now _ c.put_before_all.new.self bodies c.branch_bodies-bodies.ensures.blocks c.in_default.ensures room
    c.in-Some-new_sub.context c.in_ok-number.number c.made-first.result (length others) c.branch_bodies-bodies.ensures.some refl
    c.in-Some-new_sub.ensures.number
    (c.in_ok-number.ensures.number ∙ ap (λ groups. length groups) c.in-Some-new_sub.ensures.groups)
    first
    (ap₂ answered c.did_branch.ensures (c.first_of.ensures ∙ ap (λ (n : ℕ). first_of n c.made-first.result (length others)) domain))
    (λ texts l mirrors.
    c.put_before_all.ensures.becomes nodes texts _
    (c.in_ok-enter.ensures.becomes texts _
    (c.in_ok-number.ensures.made nodes (each_taken (HasStatements nodes) (length bodies - 1) bodies c.branch_bodies-bodies.ensures.begin) texts _
    (c.in-Some-new_sub.ensures.becomes nodes texts l mirrors)))))
