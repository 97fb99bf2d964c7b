use Rattle.std.proofs.Common.{◌<◌, ◌≤◌, ◌+◌, ◌++◌, ◌∷◌, [], length, ap, ◌∙◌, sym, subst, refl, arith}
use Rattle.std.specs.Prelude.{count_by, is_some}
use Rattle.spec_parts.specs.Groups.{GroupKind, gathered}
use Rattle.script_forms.specs.Calls.{group_of}
use Rattle.spec_machine.specs.GroupMoves as groups
use Rattle.domain_core.specs.Answering.{SameCounts}
use Rattle.domain_core.specs.Conditions.{IsAwake}
use Rattle.domain_core.specs.Keeping.{KeptDomain}
use Rattle.domain_core.specs.Mirrors.{Mirrors}
use Rattle.domain_core.specs.Stepping.{IsPlacedAt}
use Rattle.domain_core.proofs.Awake.{awake_by}
use Rattle.domain_core.proofs.Gathering.{none_gathered, one_gathered, all_gathered, still_awake, still_placed, many_then, few_live}
use Rattle.domain_core.proofs.domain.Domain.gather.Goals as goal

pub loop-body-init : goal.loop-body-init
loop-body-init c = none_gathered c.args.maker c.args.context c.in_ok-number.number c.args.bodies.now _

pub make_branch-requires-clause-awake : goal.make_branch-requires-clause-awake
make_branch-requires-clause-awake c =
    still_awake _ _ _ _ _ _ _ c.loop-body.invariant c.args.maker (awake_by _ _ refl c.args.maker (subst (λ kept. IsAwake kept c.args.maker) (sym c.self.view_is) c.requires.awake))

pub make_branch-requires-clause-room : goal.make_branch-requires-clause-room
make_branch-requires-clause-room c = (
    let room = subst (λ (kept : KeptDomain). count_by is_some kept.fibers + length c.args.bodies.now ≤ 1024) (sym c.self.view_is) c.requires.room in
    let few = few_live _ _ _ _ _ _ _ c.loop-body.invariant in
    omega (arith, room, few, c.loop-body-test.true))

pub make_branch-requires-clause-few : goal.make_branch-requires-clause-few
make_branch-requires-clause-few c = (
    let few = subst (λ (kept : KeptDomain). length kept.fibers + length c.args.bodies.now < 4294967295) (sym c.self.view_is) c.requires.few_fibers in
    let many = many_then _ _ _ _ _ _ _ c.loop-body.invariant in
    omega (arith, few, many, c.loop-body-test.true))

pub loop-body-preserved : goal.loop-body-preserved
loop-body-preserved c =
    one_gathered c.args.maker c.args.context c.in_ok-number.number c.args.bodies.now c.loop-body.body-index _ c.loop-body.self c.loop-body.invariant
    (awake_by _ _ refl c.args.maker (subst (λ kept. IsAwake kept c.args.maker) (sym c.self.view_is) c.requires.awake)) c.loop-body-test.true c.make_branch.new.self
    c.in_ok-make_branch.ensures.made c.in_ok-make_branch.ensures.fibers.0 c.in_ok-make_branch.ensures.fibers.1
    c.in_ok-make_branch.ensures.ready c.in_ok-make_branch.ensures.same

pub returns-clause-made : goal.returns-clause-made
returns-clause-made c nodes has texts l mirrors =
    all_gathered c.args.maker c.args.context c.in_ok-number.number c.args.bodies.now c.loop-body.body-index c.loop-body-test.false
    (groups.kind_of (group_of c.args.group)) _ c.open.new.self c.loop-body.self
    c.in_ok-number.ensures.number
    (c.in_ok-number.ensures.ok
    ∙ ap (λ (kind : GroupKind). c.self.inside.groups ++ gathered kind c.args.context (length c.args.bodies.now + 1) ∷ []) c.kind_of.ensures)
    c.loop-body.invariant nodes has texts l (subst (λ kept. Mirrors nodes texts kept l) (sym c.self.view_is) mirrors)

pub returns-clause-awake : goal.returns-clause-awake
returns-clause-awake c g awake = still_awake _ _ _ _ _ _ _ c.loop-body.invariant g (awake_by _ _ refl g (subst (λ kept. IsAwake kept g) (sym c.self.view_is) awake))

pub returns-clause-placed : goal.returns-clause-placed
returns-clause-placed c nodes placed =
    still_placed _ _ _ _ _ _ _ c.loop-body.invariant c.args.maker (awake_by _ _ refl c.args.maker (subst (λ kept. IsAwake kept c.args.maker) (sym c.self.view_is) c.requires.awake)) nodes
    (subst (λ kept. IsPlacedAt nodes c.args.maker kept.fibers) (sym c.self.view_is) placed)

pub returns-clause-count : goal.returns-clause-count
returns-clause-count c = (
    let many = many_then _ _ _ _ _ _ _ c.loop-body.invariant in
    let same = ap (λ (kept : KeptDomain). length kept.fibers) c.self.view_is in
    omega (arith, many, same, c.loop-body-test.false, c.loop-body.auto))

pub returns-clause-ready : goal.returns-clause-ready
returns-clause-ready c = c.loop-body.invariant.ready ∙ ap (λ (kept : KeptDomain). kept.ready) c.self.view_is

pub returns-clause-same : goal.returns-clause-same
returns-clause-same c = subst (λ kept. SameCounts kept c.loop-body.self) c.self.view_is
    (record {
      number = c.loop-body.invariant.same.number;
      stamp = c.loop-body.invariant.same.stamp;
      lines = c.loop-body.invariant.same.lines;
      budget = c.loop-body.invariant.same.budget;
      mocked = c.loop-body.invariant.same.mocked;
    })
