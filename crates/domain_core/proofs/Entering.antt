-- A fiber that goes into a block lives on, and what its items name stands at the nodes.
use Rattle.std.proofs.Common.{◌≡◌, ℕ, List, Option, Some, refl, ap, ap₂, ◌∙◌, sym, subst}
use Rattle.std.specs.Prelude.{IsSome}
use Rattle.std.proofs.lemmas.Option.{same_Some}
use Rattle.eio_value.specs.declared.value.Value.{Value}
use Rattle.script_code.specs.Standing.{block_at}
use Rattle.script_forms.specs.declared.node.Node.{Node}
use Rattle.fiber_step.specs.declared.ask.Ask.{Ask}
use Rattle.fiber_step.specs.Framing.{position_of}
use Rattle.fiber_step.specs.Placing.{ArePlaced}
use Rattle.fiber_step.specs.Standing.{ask_of}
use Rattle.spec_fiber.specs.Replies.{Position, entered, handled}
use Rattle.spec_machine.specs.ContextMoves.{before_block}
use Rattle.spec_machine.specs.Domain.{DomainState, Fiber, fiber_at, moved_to, never_made, placed}
use Rattle.domain_core.specs.Answering.{BecomesUnder}
use Rattle.domain_core.specs.Conditions.{IsAwake}
use Rattle.domain_core.specs.Keeping.{KeptFiber, KeptDomain, kept_at, changed_at}
use Rattle.domain_core.specs.Mirrors.{Mirrors}
use Rattle.domain_core.specs.Stepping.{IsPlacedAt, Reframes, Enters, Handles}
use Rattle.domain_core.proofs.Awake.{awake_changed, stays_awake}
use Rattle.domain_core.proofs.ByNumber as numbers
use Rattle.domain_core.proofs.Mirroring.{kept_there, below_fibers, lives_changed, changed_there, is_fiber, changed_mirrors, moved_mirrors}

-- ## The frames of a fiber

-- in another context it has the same items
pub placed_moved : (nodes : List Node) (fibers : List (Option KeptFiber)) (g context : ℕ) → IsSome (kept_at fibers g) → IsPlacedAt nodes g fibers
    → IsPlacedAt nodes g (changed_at g (λ fiber. record fiber { context = context }) fibers)
placed_moved nodes fibers g context lives placed fiber is = (
    let there = kept_there (kept_at fibers g) lives in
    let change : KeptFiber → KeptFiber = λ fiber. record fiber { context = context } in
    let now : kept_at (changed_at g change fibers) g ≡ Some (change there.0) = changed_there fibers g change there.0 there.1 in
    subst (λ (f : KeptFiber). ArePlaced nodes f.frames.items) (same_Some _ _ (sym now ∙ is)) (placed there.0 there.1))

pub reframed_lives : (g : ℕ) (old new : List (Option KeptFiber)) → Reframes g old new → IsSome (kept_at new g)
reframed_lives g old new it =
    subst (λ fibers. IsSome (kept_at fibers g)) (sym it.is)
    (lives_changed old g (λ fiber. record fiber { frames = it.frames }) (subst (λ (o : Option KeptFiber). IsSome o) (sym it.there) refl))

-- with other frames who doesn't wait goes on not to
pub reframed_awake : (kept : KeptDomain) (g : ℕ) (fibers : List (Option KeptFiber)) → Reframes g kept.fibers fibers → IsAwake kept g
    → (h : ℕ) → IsAwake kept h → IsAwake (record kept { fibers = fibers }) h
reframed_awake kept g fibers it awake =
    awake_changed kept (record kept { fibers = fibers }) g awake.fiber awake.there (λ fiber. record fiber { frames = it.frames }) awake.awake it.is

-- ## Before a block

-- with other frames, at the place that they stand for
pub reframed_mirrors : (nodes : List Node) (texts : List (List ℕ)) (kept : KeptDomain) (l : DomainState) → Mirrors nodes texts kept l → (g : ℕ) (fibers : List (Option KeptFiber))
    → (it : Reframes g kept.fibers fibers) → ArePlaced nodes it.frames.items
    → (position : Position) → position ≡ position_of nodes it.frames
    → Mirrors nodes texts (record kept { fibers = fibers }) (placed position g l)
reframed_mirrors nodes texts kept l mirrors g fibers it are position same = (
    let fiber = is_fiber nodes texts kept l g it.fiber it.there mirrors in
    subst (λ (xs : List (Option KeptFiber)). Mirrors nodes texts (record kept { fibers = xs }) (placed position g l)) (sym it.is)
    (changed_mirrors nodes texts kept l g it.fiber it.there mirrors (λ x. record x { frames = it.frames })
    (record (fiber_at l.fibers g) { work = position.work; variables = position.variables })
    (record {
      number = fiber.number;
      context = fiber.context;
      role = fiber.role;
      standing = fiber.standing;
      lives = fiber.lives;
      work = ap (λ (p : Position). p.work) same;
      variables = ap (λ (p : Position). p.variables) same;
      placed = are;
    })
    (record { strikes = refl; context = λ can. refl })))

-- before the block of its call on both sides
pub enters_mirrors : (nodes : List Node) (texts : List (List ℕ)) (kept : KeptDomain) (l : DomainState) → Mirrors nodes texts kept l → (call : Ask) (number g : ℕ) (fibers : List (Option KeptFiber))
    → Enters nodes call number g kept.fibers fibers
    → Mirrors nodes texts (record kept { fibers = fibers }) (placed (before_block (ask_of nodes call) number g l) g l)
enters_mirrors nodes texts kept l mirrors call number g fibers it = (
    let fiber = is_fiber nodes texts kept l g it.reframes.fiber it.reframes.there mirrors in
    reframed_mirrors nodes texts kept l mirrors g fibers it.reframes it.placed (before_block (ask_of nodes call) number g l)
    (ap₂ (entered (ask_of nodes call) number) fiber.work fiber.variables ∙ sym it.position))

-- and before a handler
pub handles_mirrors : (nodes : List Node) (texts : List (List ℕ)) (kept : KeptDomain) (l : DomainState) → Mirrors nodes texts kept l
    → (call : Ask) (context handler : ℕ) (registered : List Value) (g : ℕ) (fibers : List (Option KeptFiber))
    → Handles nodes call context handler registered g kept.fibers fibers
    → Mirrors nodes texts (record kept { fibers = fibers })
    (placed (handled (ask_of nodes call) context (block_at nodes handler) registered (fiber_at l.fibers g).work (fiber_at l.fibers g).variables) g l)
handles_mirrors nodes texts kept l mirrors call context handler registered g fibers it = (
    let fiber = is_fiber nodes texts kept l g it.reframes.fiber it.reframes.there mirrors in
    reframed_mirrors nodes texts kept l mirrors g fibers it.reframes it.placed _
    (ap₂ (handled (ask_of nodes call) context (block_at nodes handler) registered) fiber.work fiber.variables ∙ sym it.position))

-- ## In another context

module _ (inside now : KeptDomain) (same : inside ≡ now) (g : ℕ) (awake : IsAwake inside g) (context : ℕ) (moved : List (Option KeptFiber))
    (are : moved ≡ changed_at g (λ fiber. record fiber { context = context }) inside.fibers) where
  pub moved_awake : (h : ℕ) → IsAwake inside h → IsAwake (record inside { fibers = moved }) h
  moved_awake = stays_awake inside inside refl g awake (λ fiber. record fiber { context = context }) (λ f calm. calm) moved inside.ready are

  pub moved_becomes : (nodes : List Node) → BecomesUnder nodes (moved_to context g) inside (record inside { fibers = moved })
  moved_becomes nodes texts l mirrors =
      subst (λ (xs : List (Option KeptFiber)). Mirrors nodes texts (record inside { fibers = xs }) (moved_to context g l)) (sym are)
      (moved_mirrors nodes texts inside l g awake.fiber awake.there mirrors awake.awake context)

  -- there it goes before the block of its call
  module _ (nodes : List Node) (call : Ask) (number : ℕ) (fibers : List (Option KeptFiber)) (it : Enters nodes call number g moved fibers) where
    pub entered_awake : IsAwake (record inside { fibers = fibers }) g
    entered_awake = (let there = moved_awake g awake in reframed_awake (record inside { fibers = moved }) g fibers it.reframes there g there)

    pub enters_becomes : BecomesUnder nodes (λ l. placed (before_block (ask_of nodes call) number g l) g (moved_to context g l)) now (record inside { fibers = fibers })
    enters_becomes texts l mirrors_now = (
        let mirrors : Mirrors nodes texts inside l = subst (λ (kept : KeptDomain). Mirrors nodes texts kept l) (sym same) mirrors_now in
        let fiber : fiber_at (moved_to context g l).fibers g ≡ record (fiber_at l.fibers g) { context = context } =
        numbers.changed_itself never_made l.fibers g (record (fiber_at l.fibers g) { context = context }) (below_fibers nodes texts inside l g awake.fiber awake.there mirrors) in
        let position : before_block (ask_of nodes call) number g (moved_to context g l) ≡ before_block (ask_of nodes call) number g l =
        ap (λ (f : Fiber). entered (ask_of nodes call) number f.work f.variables) fiber in
        subst (λ (p : Position). Mirrors nodes texts (record inside { fibers = fibers }) (placed p g (moved_to context g l))) position
        (enters_mirrors nodes texts (record inside { fibers = moved }) (moved_to context g l) (moved_becomes nodes texts l mirrors) call number g fibers it))
