-- A fiber has ended: what is kept of it goes, and the definition's stands as ended.
use Rattle.std.proofs.Common.{◌≡◌, ◌≢◌, inl, inr, ℕ, ◌<◌, Bool, List, [], length, Option, Some, None, slice_set, refl, ap, ◌∙◌, sym, subst, arith}
use Rattle.eio_value.specs.declared.raised.Outcome.{Outcome}
use Rattle.script_forms.specs.declared.node.Node.{Node}
use Rattle.spec_parts.specs.ContextCalls.{Contexts}
use Rattle.cancel_tree.specs.Ended.{left_by_end}
use Rattle.spec_machine.specs.Domain as model
use Rattle.spec_machine.specs.Domain.{DomainState, never_made, fiber_at, ended}
use Rattle.spec_machine.specs.EndMoves.{ends_context, after_end, ends}
use Rattle.spec_machine.specs.GroupMoves.{branch_ended}
use Rattle.spec_machine.specs.SwitchMoves.{detached}
use Rattle.domain_strikes.proofs.Waiting.Parts.{fibers_in_step}
use Rattle.domain_core.specs.Answering.{BecomesUnder}
use Rattle.domain_core.specs.Conditions.{IsAwake, MayEndContext, MayEnd, MayEndAs}
use Rattle.domain_core.specs.Keeping.{KeptFiber, KeptDomain, kept_at}
use Rattle.domain_core.specs.Mirrors.{IsKept, Mirrors}
use Rattle.domain_core.proofs.ByNumber as numbers
use Rattle.domain_core.proofs.ByNumber.{same_or_other}
use Rattle.domain_core.proofs.Ends.{may_end_as}
use Rattle.domain_core.proofs.Mirroring.{came_of, below_made, is_fiber, struck_as}
use Rattle.domain_core.proofs.Scoping.{ended_mirrors}

module _ (nodes : List Node) (texts : List (List ℕ)) (kept : KeptDomain) (l : DomainState) (mirrors : Mirrors nodes texts kept l) (g : ℕ) (awake : IsAwake kept g) (result : Outcome) where
  abbrev ended_fiber : model.Fiber
  ended_fiber = record (fiber_at l.fibers g) { work = []; variables = []; standing = model.Ended result }

  below : g < length kept.fibers
  below = below_made kept.fibers g awake.fiber awake.there

  below_there : g < length l.fibers
  below_there = omega (arith, mirrors.count, below)

  then_ended : fiber_at (slice_set l.fibers g ended_fiber) g ≡ ended_fiber
  then_ended = numbers.changed_itself never_made l.fibers g ended_fiber below_there

  both : (h : ℕ) (k j : Option KeptFiber) (x y : model.Fiber) → k ≡ j → x ≡ y → IsKept nodes h j y → IsKept nodes h k x
  both h k j x y e e2 it = subst (λ (o : Option KeptFiber). IsKept nodes h o x) (sym e) (subst (λ (z : model.Fiber). IsKept nodes h j z) (sym e2) it)

  each : (h : ℕ) → IsKept nodes h (kept_at (slice_set kept.fibers g None) h) (fiber_at (slice_set l.fibers g ended_fiber) h)
  each h = elim (same_or_other h g) as (λ _. IsKept nodes h (kept_at (slice_set kept.fibers g None) h) (fiber_at (slice_set l.fibers g ended_fiber) h)) [
    | inl e ↦ both h _ None _ ended_fiber (ap (kept_at (slice_set kept.fibers g None)) e ∙ numbers.changed_itself None kept.fibers g None below) (ap (fiber_at (slice_set l.fibers g ended_fiber)) e ∙ then_ended) refl
    | inr other ↦ both h _ _ _ _ (numbers.others_unchanged None kept.fibers g h None other) (numbers.others_unchanged never_made l.fibers g h ended_fiber other) (mirrors.fibers h)
  ]

  gone_as : (came : Option Outcome) → came_of (fiber_at (slice_set l.fibers g ended_fiber) 0).standing ≡ came → (fibers : List (Option KeptFiber)) → fibers ≡ slice_set kept.fibers g None
      → Mirrors nodes texts (record kept { fibers = fibers; came = came }) (ended result g l)
  gone_as came is fibers are = subst (λ (xs : List (Option KeptFiber)). Mirrors nodes texts (record kept { fibers = xs; came = came }) (ended result g l)) (sym are) (record {
    number = mirrors.number;
    count = numbers.set_keeps_length never_made l.fibers g ended_fiber ∙ (mirrors.count ∙ sym (numbers.set_keeps_length None kept.fibers g None));
    fibers = each;
    came = is;
    ready = mirrors.ready;
    duties = mirrors.duties;
    contexts = fibers_in_step.ends_there kept.contexts l g result mirrors.contexts (struck_as nodes texts kept l g awake.fiber awake.there mirrors ∙ awake.awake);
    switches = mirrors.switches;
    groups = mirrors.groups;
    texts = mirrors.texts;
    serial = mirrors.serial;
    stamp = mirrors.stamp;
    lines = mirrors.lines;
    halted = mirrors.halted;
  })

  -- any but the body
  gone_mirrors : g ≢ 0 → (fibers : List (Option KeptFiber)) → fibers ≡ slice_set kept.fibers g None → Mirrors nodes texts (record kept { fibers = fibers }) (ended result g l)
  gone_mirrors other = gone_as kept.came (ap (λ (x : model.Fiber). came_of x.standing) (numbers.others_unchanged never_made l.fibers g 0 ended_fiber (λ e. other (sym e))) ∙ mirrors.came)

  -- the body, with which its context ends
  body_mirrors : g ≡ 0 → (context : ℕ) → context ≡ awake.fiber.context → MayEndContext kept context → (fibers : List (Option KeptFiber)) (contexts : Contexts)
      → fibers ≡ slice_set kept.fibers g None → contexts ≡ left_by_end context kept.contexts
      → Mirrors nodes texts (record kept { fibers = fibers; came = Some result; contexts = contexts }) (ends_context (fiber_at (ended result g l).fibers g).context (ended result g l))
  body_mirrors is context is_context may fibers contexts are are_contexts = (
      let now : KeptDomain = record kept { fibers = fibers; came = Some result } in
      let gone : Mirrors nodes texts now (ended result g l)
      = gone_as (Some result) (ap (λ (x : model.Fiber). came_of x.standing) (ap (fiber_at (slice_set l.fibers g ended_fiber)) (sym is) ∙ then_ended)) fibers are in
      let there : (fiber_at (slice_set l.fibers g ended_fiber) g).context ≡ context
      = ap (λ (x : model.Fiber). x.context) then_ended ∙ ((is_fiber nodes texts kept l g awake.fiber awake.there mirrors).context ∙ sym is_context) in
      subst (λ (c : ℕ). Mirrors nodes texts (record now { contexts = contexts }) (ends_context c (ended result g l))) (sym there)
      (subst (λ (xs : Contexts). Mirrors nodes texts (record now { contexts = xs }) (ends_context context (ended result g l))) (sym are_contexts)
      (ended_mirrors nodes texts now (ended result g l) gone context (may_end_as kept now context refl may))))

  -- by the role
  by_role : (role : model.Role) → awake.fiber.role ≡ role → (new : KeptDomain) → Mirrors nodes texts new (after_end role result g (ended result g l)) → Mirrors nodes texts new (ends result g l)
  by_role role is new it =
      subst (λ (r : model.Role). Mirrors nodes texts new (after_end r result g (ended result g l))) (sym ((is_fiber nodes texts kept l g awake.fiber awake.there mirrors).role ∙ is)) it

  may_as : MayEnd kept g → (role : model.Role) → awake.fiber.role ≡ role → MayEndAs kept g awake.fiber.context role
  may_as may role is = subst (λ (r : model.Role). MayEndAs kept g awake.fiber.context r) is (may awake.fiber awake.there)

  pub ends_body : MayEnd kept g → awake.fiber.role ≡ model.OfBody → (context : ℕ) → context ≡ awake.fiber.context → (fibers : List (Option KeptFiber)) (contexts : Contexts)
      → fibers ≡ slice_set kept.fibers g None → contexts ≡ left_by_end context kept.contexts
      → Mirrors nodes texts (record kept { fibers = fibers; came = Some result; contexts = contexts }) (ends result g l)
  ends_body may is context is_context fibers contexts are are_contexts = (
      let it : MayEndAs kept g awake.fiber.context model.OfBody = may_as may model.OfBody is in
      by_role model.OfBody is (record kept { fibers = fibers; came = Some result; contexts = contexts })
      (body_mirrors it.0 context is_context (subst (λ (c : ℕ). MayEndContext kept c) (sym is_context) it.1) fibers contexts are are_contexts))

  pub ends_switched : MayEnd kept g → (switch : ℕ) (daemon : Bool) → awake.fiber.role ≡ model.OfSwitch switch daemon → (fibers : List (Option KeptFiber)) (new : KeptDomain) → fibers ≡ slice_set kept.fibers g None
      → BecomesUnder nodes (detached switch daemon result g) (record kept { fibers = fibers }) new
      → Mirrors nodes texts new (ends result g l)
  ends_switched may switch daemon is fibers new are becomes = (
      let it : MayEndAs kept g awake.fiber.context (model.OfSwitch switch daemon) = may_as may (model.OfSwitch switch daemon) is in
      by_role (model.OfSwitch switch daemon) is new
      (becomes texts (ended result g l) (gone_mirrors it.2 fibers are)))

  pub ends_branch : MayEnd kept g → (group : ℕ) → awake.fiber.role ≡ model.OfGroup group → (fibers : List (Option KeptFiber)) (new : KeptDomain) → fibers ≡ slice_set kept.fibers g None
      → BecomesUnder nodes (branch_ended group result g) (record kept { fibers = fibers }) new
      → Mirrors nodes texts new (ends result g l)
  ends_branch may group is fibers new are becomes = (
      let it : MayEndAs kept g awake.fiber.context (model.OfGroup group) = may_as may (model.OfGroup group) is in
      by_role (model.OfGroup group) is new
      (becomes texts (ended result g l) (gone_mirrors it.1 fibers are)))
