-- What is kept stands for a domain after each change that both make alike.
use Rattle.std.proofs.Common.{◌≡◌, inl, inr, ℕ, zero, suc, ◌<◌, Bool, true, false, List, [], ◌∷◌, ◌++◌, length, slice_set, Option, Some, None, refl, ap, ◌∙◌, sym, subst, true≢false, arith}
use Rattle.std.specs.Prelude.{IsSome}
use Rattle.std.specs.Option.{option_map}
use Rattle.std.proofs.lemmas.Option.{none-some}
use Rattle.eio_value.specs.declared.raised.Outcome.{Outcome}
use Rattle.script_forms.specs.declared.node.Node.{Node}
use Rattle.spec_machine.specs.Domain as model
use Rattle.spec_machine.specs.Domain.{Duty, DomainState, never_made, fiber_at, with_fiber, has_ended, stands, to_head, to_back}
use Rattle.spec_machine.specs.Steps.{Step}
use Rattle.spec_machine.specs.Trace.{body_end}
use Rattle.spec_parts.specs.ContextCalls.{Contexts}
use Rattle.spec_parts.specs.Contexts.{Context}
use Rattle.spec_parts.specs.Groups.{Group}
use Rattle.spec_parts.specs.Switches.{Switch}
use Rattle.domain_strikes.specs.Waiting.InStep.{AreContexts}
use Rattle.domain_strikes.specs.Waiting.WhoWaits.{WaitsAlike, can_be_struck, contexts_of}
use Rattle.domain_strikes.proofs.Waiting.Alike.{one_unseen}
use Rattle.domain_core.specs.declared.told.Told.{Told}
use Rattle.domain_core.specs.Answering.{Tells}
use Rattle.domain_core.specs.Conditions.{waits_so}
use Rattle.domain_core.specs.Keeping.{KeptFiber, KeptDomain, kept_at, changed_at}
use Rattle.domain_core.specs.Mirrors.{IsFiber, IsKept, Mirrors}
use Rattle.domain_core.proofs.ByNumber as numbers
use Rattle.domain_core.proofs.ByNumber.{same_or_other}

-- which fiber it is
pub kept_there : (found : Option KeptFiber) → IsSome found → (f : KeptFiber) × (found ≡ Some f)
kept_there None lives = absurd (true≢false (sym lives))
kept_there (Some f) lives = (f, refl)

pub is_there : (found : Option KeptFiber) (f : KeptFiber) → found ≡ Some f → IsSome found
is_there None f is = absurd (none-some _ is)
is_there (Some f) g is = refl

pub below_made : (fibers : List (Option KeptFiber)) (g : ℕ) (f : KeptFiber) → kept_at fibers g ≡ Some f → g < length fibers
below_made [] g f is = absurd (none-some _ is)
below_made (x ∷ fibers) zero f is = omega arith
below_made (x ∷ fibers) (suc g) f is = let h : g < length fibers = below_made fibers g f is in omega arith

-- a fiber that was changed is there still
pub changed_there : (fibers : List (Option KeptFiber)) (g : ℕ) (change : KeptFiber → KeptFiber) (f : KeptFiber) → kept_at fibers g ≡ Some f
    → kept_at (changed_at g change fibers) g ≡ Some (change f)
changed_there fibers g change f is =
    numbers.changed_itself None fibers g (option_map change (kept_at fibers g)) (below_made fibers g f is) ∙ ap (option_map change) is

pub lives_changed : (fibers : List (Option KeptFiber)) (g : ℕ) (change : KeptFiber → KeptFiber) → IsSome (kept_at fibers g) → IsSome (kept_at (changed_at g change fibers) g)
lives_changed fibers g change lives = (
    let there = kept_there (kept_at fibers g) lives in
    subst (λ (o : Option KeptFiber). IsSome o) (sym (changed_there fibers g change there.0 there.1)) refl)

-- what the body came to, by how its fiber stands
abbrev pub came_of : model.Standing → Option Outcome
came_of standing = elim standing [ model.Ended it ↦ Some it | model.Ready next ↦ None | model.Parked wait ↦ None ]

none_came : (standing : model.Standing) → elim standing as (λ _. Bool) [ model.Ended it ↦ true | model.Ready next ↦ false | model.Parked wait ↦ false ] ≡ false → came_of standing ≡ None
none_came (model.Ready next) lives = refl
none_came (model.Parked wait) lives = refl
none_came (model.Ended it) lives = absurd (true≢false lives)

both : (nodes : List Node) (h : ℕ) (k j : Option KeptFiber) (x y : model.Fiber) → k ≡ j → x ≡ y → IsKept nodes h j y → IsKept nodes h k x
both nodes h k j x y e f it = subst (λ (o : Option KeptFiber). IsKept nodes h o x) (sym e) (subst (λ (z : model.Fiber). IsKept nodes h j z) (sym f) it)

-- ## All but the fibers

module _ (nodes : List Node) (texts : List (List ℕ)) (kept : KeptDomain) (l : DomainState) (mirrors : Mirrors nodes texts kept l) where
  -- another ready list on both sides
  pub ready_mirrors : (ready : List ℕ) → Mirrors nodes texts (record kept { ready = ready }) (record l { ready = ready })
  ready_mirrors ready = record {
    number = mirrors.number;
    count = mirrors.count;
    fibers = mirrors.fibers;
    came = mirrors.came;
    ready = refl;
    duties = mirrors.duties;
    contexts = mirrors.contexts;
    switches = mirrors.switches;
    groups = mirrors.groups;
    texts = mirrors.texts;
    serial = mirrors.serial;
    stamp = mirrors.stamp;
    lines = mirrors.lines;
    halted = mirrors.halted;
  }

  -- other strikes that are owed
  pub owed_mirrors : (owed : List Duty) → Mirrors nodes texts (record kept { owed = owed }) (record l { duties = owed })
  owed_mirrors owed = record {
    number = mirrors.number;
    count = mirrors.count;
    fibers = mirrors.fibers;
    came = mirrors.came;
    ready = mirrors.ready;
    duties = refl;
    contexts = mirrors.contexts;
    switches = mirrors.switches;
    groups = mirrors.groups;
    texts = mirrors.texts;
    serial = mirrors.serial;
    stamp = mirrors.stamp;
    lines = mirrors.lines;
    halted = mirrors.halted;
  }

  -- other switches
  pub switches_mirrors : (switches : List Switch) → Mirrors nodes texts (record kept { switches = switches }) (record l { switches = switches })
  switches_mirrors switches = record {
    number = mirrors.number;
    count = mirrors.count;
    fibers = mirrors.fibers;
    came = mirrors.came;
    ready = mirrors.ready;
    duties = mirrors.duties;
    contexts = mirrors.contexts;
    switches = refl;
    groups = mirrors.groups;
    texts = mirrors.texts;
    serial = mirrors.serial;
    stamp = mirrors.stamp;
    lines = mirrors.lines;
    halted = mirrors.halted;
  }

  -- other groups
  pub groups_mirrors : (groups : List Group) → Mirrors nodes texts (record kept { groups = groups }) (record l { groups = groups })
  groups_mirrors groups = record {
    number = mirrors.number;
    count = mirrors.count;
    fibers = mirrors.fibers;
    came = mirrors.came;
    ready = mirrors.ready;
    duties = mirrors.duties;
    contexts = mirrors.contexts;
    switches = mirrors.switches;
    groups = refl;
    texts = mirrors.texts;
    serial = mirrors.serial;
    stamp = mirrors.stamp;
    lines = mirrors.lines;
    halted = mirrors.halted;
  }

  -- other contexts, to which the same calls have led
  pub contexts_mirrors : (contexts : Contexts) (made : List Context) → AreContexts contexts (contexts_of (record l { contexts = made }))
      → Mirrors nodes texts (record kept { contexts = contexts }) (record l { contexts = made })
  contexts_mirrors contexts made are = record {
    number = mirrors.number;
    count = mirrors.count;
    fibers = mirrors.fibers;
    came = mirrors.came;
    ready = mirrors.ready;
    duties = mirrors.duties;
    contexts = are;
    switches = mirrors.switches;
    groups = mirrors.groups;
    texts = mirrors.texts;
    serial = mirrors.serial;
    stamp = mirrors.stamp;
    lines = mirrors.lines;
    halted = mirrors.halted;
  }

  -- other texts, and another number for the next raise
  pub told_mirrors : (others : List (List ℕ)) (serial : ℕ) → Mirrors nodes others (record kept { serial = serial }) (record l { texts = others; serial = serial })
  told_mirrors others serial = record {
    number = mirrors.number;
    count = mirrors.count;
    fibers = mirrors.fibers;
    came = mirrors.came;
    ready = mirrors.ready;
    duties = mirrors.duties;
    contexts = mirrors.contexts;
    switches = mirrors.switches;
    groups = mirrors.groups;
    texts = refl;
    serial = refl;
    stamp = mirrors.stamp;
    lines = mirrors.lines;
    halted = mirrors.halted;
  }

  pub serial_mirrors : (serial : ℕ) → Mirrors nodes texts (record kept { serial = serial }) (record l { serial = serial })
  serial_mirrors serial = record {
    number = mirrors.number;
    count = mirrors.count;
    fibers = mirrors.fibers;
    came = mirrors.came;
    ready = mirrors.ready;
    duties = mirrors.duties;
    contexts = mirrors.contexts;
    switches = mirrors.switches;
    groups = mirrors.groups;
    texts = mirrors.texts;
    serial = refl;
    stamp = mirrors.stamp;
    lines = mirrors.lines;
    halted = mirrors.halted;
  }

  -- a limit was met
  pub halted_mirrors : (halted : Bool) → Mirrors nodes texts (record kept { halted = halted }) (record l { halted = halted })
  halted_mirrors halted = record {
    number = mirrors.number;
    count = mirrors.count;
    fibers = mirrors.fibers;
    came = mirrors.came;
    ready = mirrors.ready;
    duties = mirrors.duties;
    contexts = mirrors.contexts;
    switches = mirrors.switches;
    groups = mirrors.groups;
    texts = mirrors.texts;
    serial = mirrors.serial;
    stamp = mirrors.stamp;
    lines = mirrors.lines;
    halted = refl;
  }

-- ## A fiber that hasn't ended

-- it can be struck exactly where it is kept so
pub struck_as_kept : (nodes : List Node) (g : ℕ) (f : KeptFiber) (fiber : model.Fiber) → IsFiber nodes g f fiber → can_be_struck fiber ≡ waits_so f.standing
struck_as_kept nodes g f fiber is = ap waits_so is.standing

module _ (nodes : List Node) (texts : List (List ℕ)) (kept : KeptDomain) (l : DomainState) (g : ℕ) (f : KeptFiber) (there : kept_at kept.fibers g ≡ Some f) (mirrors : Mirrors nodes texts kept l) where
  below_kept : g < length kept.fibers
  below_kept = below_made kept.fibers g f there

  pub below_fibers : g < length l.fibers
  below_fibers = omega (arith, mirrors.count, below_kept)

  -- it stands for one of the definitions
  pub is_fiber : IsFiber nodes g f (fiber_at l.fibers g)
  is_fiber = subst (λ (o : Option KeptFiber). IsKept nodes g o (fiber_at l.fibers g)) there (mirrors.fibers g)

  pub lives : has_ended (fiber_at l.fibers g) ≡ false
  lives = is_fiber.lives

  -- it can be struck exactly where it waits so
  pub struck_as : can_be_struck (fiber_at l.fibers g) ≡ waits_so f.standing
  struck_as = struck_as_kept nodes g f (fiber_at l.fibers g) is_fiber

  module _ (change : KeptFiber → KeptFiber) (fiber : model.Fiber) (is : IsFiber nodes g (change f) fiber) where
    fiber_then : fiber_at (slice_set l.fibers g fiber) g ≡ fiber
    fiber_then = numbers.changed_itself never_made l.fibers g fiber below_fibers

    each : (h : ℕ) → IsKept nodes h (kept_at (changed_at g change kept.fibers) h) (fiber_at (slice_set l.fibers g fiber) h)
    each h = elim (same_or_other h g) as (λ _. IsKept nodes h (kept_at (changed_at g change kept.fibers) h) (fiber_at (slice_set l.fibers g fiber) h)) [
      | inl e ↦ subst (λ (m : ℕ). IsKept nodes m (kept_at (changed_at g change kept.fibers) m) (fiber_at (slice_set l.fibers g fiber) m)) (sym e)
          (both nodes g _ (Some (change f)) _ fiber (changed_there kept.fibers g change f there) fiber_then is)
      | inr other ↦ both nodes h _ _ _ _ (numbers.others_unchanged None kept.fibers g h (option_map change (kept_at kept.fibers g)) other)
          (numbers.others_unchanged never_made l.fibers g h fiber other) (mirrors.fibers h)
    ]

    came_then : body_end (with_fiber g fiber l) ≡ kept.came
    came_then = elim (same_or_other 0 g) as (λ _. body_end (with_fiber g fiber l) ≡ kept.came) [
      | inl e ↦ (
          let now : fiber_at (slice_set l.fibers g fiber) 0 ≡ fiber = ap (fiber_at (slice_set l.fibers g fiber)) e ∙ fiber_then in
          let was : came_of (fiber_at l.fibers 0).standing ≡ None = none_came (fiber_at l.fibers 0).standing (ap (λ m. has_ended (fiber_at l.fibers m)) e ∙ lives) in
          ap (λ (x : model.Fiber). came_of x.standing) now ∙ (none_came fiber.standing is.lives ∙ (sym was ∙ mirrors.came)))
      | inr other ↦ ap (λ (x : model.Fiber). came_of x.standing) (numbers.others_unchanged never_made l.fibers g 0 fiber other) ∙ mirrors.came
    ]

    -- it is changed, and with it who waits in which contexts
    pub changed_with : (contexts : Contexts) → AreContexts contexts (contexts_of (with_fiber g fiber l))
        → Mirrors nodes texts (record kept { fibers = changed_at g change kept.fibers; contexts = contexts }) (with_fiber g fiber l)
    changed_with contexts are = record {
      number = mirrors.number;
      count = numbers.set_keeps_length never_made l.fibers g fiber ∙ (mirrors.count ∙ sym (numbers.set_keeps_length None kept.fibers g (option_map change (kept_at kept.fibers g))));
      fibers = each;
      came = came_then;
      ready = mirrors.ready;
      duties = mirrors.duties;
      contexts = are;
      switches = mirrors.switches;
      groups = mirrors.groups;
      texts = mirrors.texts;
      serial = mirrors.serial;
      stamp = mirrors.stamp;
      lines = mirrors.lines;
      halted = mirrors.halted;
    }

    -- no wait sees the change
    pub changed_mirrors : WaitsAlike (fiber_at l.fibers g) fiber → Mirrors nodes texts (record kept { fibers = changed_at g change kept.fibers }) (with_fiber g fiber l)
    changed_mirrors alike = changed_with kept.contexts (one_unseen kept.contexts l mirrors.contexts g fiber alike)

  -- neither before nor then does it wait so that a cancellation ends its wait
  pub calm_alike : (fiber : model.Fiber) → waits_so f.standing ≡ false → can_be_struck fiber ≡ false → WaitsAlike (fiber_at l.fibers g) fiber
  calm_alike fiber calm then = record { strikes = then ∙ sym (struck_as ∙ calm); context = λ can. absurd (true≢false (sym can ∙ (struck_as ∙ calm))) }

  -- it stands otherwise, and hasn't ended
  standing_is : (standing : model.Standing) → has_ended (record (fiber_at l.fibers g) { standing = standing }) ≡ false
      → IsFiber nodes g (record f { standing = standing }) (record (fiber_at l.fibers g) { standing = standing })
  standing_is standing lives_so = record {
    number = is_fiber.number;
    context = is_fiber.context;
    role = is_fiber.role;
    standing = refl;
    lives = lives_so;
    work = is_fiber.work;
    variables = is_fiber.variables;
    placed = is_fiber.placed;
  }

  pub stands_with : (standing : model.Standing) → has_ended (record (fiber_at l.fibers g) { standing = standing }) ≡ false
      → (contexts : Contexts) → AreContexts contexts (contexts_of (stands standing g l))
      → Mirrors nodes texts (record kept { fibers = changed_at g (λ fiber. record fiber { standing = standing }) kept.fibers; contexts = contexts }) (stands standing g l)
  stands_with standing lives_so contexts are =
      changed_with (λ fiber. record fiber { standing = standing }) (record (fiber_at l.fibers g) { standing = standing }) (standing_is standing lives_so) contexts are

  module _ (calm : waits_so f.standing ≡ false) where
    pub stands_mirrors : (standing : model.Standing) → has_ended (record (fiber_at l.fibers g) { standing = standing }) ≡ false → waits_so standing ≡ false
        → Mirrors nodes texts (record kept { fibers = changed_at g (λ fiber. record fiber { standing = standing }) kept.fibers }) (stands standing g l)
    stands_mirrors standing lives_so calm_so =
        changed_mirrors (λ fiber. record fiber { standing = standing }) (record (fiber_at l.fibers g) { standing = standing }) (standing_is standing lives_so)
        (calm_alike (record (fiber_at l.fibers g) { standing = standing }) calm calm_so)

    pub stood_mirrors : (standing : model.Standing) (fibers : List (Option KeptFiber)) → has_ended (record (fiber_at l.fibers g) { standing = standing }) ≡ false
        → waits_so standing ≡ false → fibers ≡ changed_at g (λ fiber. record fiber { standing = standing }) kept.fibers
        → Mirrors nodes texts (record kept { fibers = fibers }) (stands standing g l)
    stood_mirrors standing fibers lives_so calm_so are =
        subst (λ (xs : List (Option KeptFiber)). Mirrors nodes texts (record kept { fibers = xs }) (stands standing g l)) (sym are) (stands_mirrors standing lives_so calm_so)

    -- it runs in another context
    pub moved_mirrors : (context : ℕ) → Mirrors nodes texts (record kept { fibers = changed_at g (λ fiber. record fiber { context = context }) kept.fibers }) (model.moved_to context g l)
    moved_mirrors context = changed_mirrors (λ fiber. record fiber { context = context }) (record (fiber_at l.fibers g) { context = context })
        (record {
          number = is_fiber.number;
          context = refl;
          role = is_fiber.role;
          standing = is_fiber.standing;
          lives = is_fiber.lives;
          work = is_fiber.work;
          variables = is_fiber.variables;
          placed = is_fiber.placed;
        })
        (calm_alike (record (fiber_at l.fibers g) { context = context }) calm (struck_as ∙ calm))

    -- it stands first in the ready list, or last
    pub head_mirrors : (next : model.Next) → Mirrors nodes texts (record kept { fibers = changed_at g (λ fiber. record fiber { standing = model.Ready next }) kept.fibers; ready = g ∷ kept.ready }) (to_head next g l)
    head_mirrors next =
        subst (λ ready. Mirrors nodes texts (record kept { fibers = changed_at g (λ fiber. record fiber { standing = model.Ready next }) kept.fibers; ready = g ∷ ready }) (to_head next g l)) mirrors.ready
        (ready_mirrors nodes texts _ _ (stands_mirrors (model.Ready next) refl refl) (g ∷ l.ready))

    pub back_mirrors : (next : model.Next) → Mirrors nodes texts (record kept { fibers = changed_at g (λ fiber. record fiber { standing = model.Ready next }) kept.fibers; ready = kept.ready ++ g ∷ [] }) (to_back next g l)
    back_mirrors next =
        subst (λ ready. Mirrors nodes texts (record kept { fibers = changed_at g (λ fiber. record fiber { standing = model.Ready next }) kept.fibers; ready = ready ++ g ∷ [] }) (to_back next g l)) mirrors.ready
        (ready_mirrors nodes texts _ _ (stands_mirrors (model.Ready next) refl refl) (l.ready ++ g ∷ []))

-- what a move that is another one tells, and what it leaves
pub tells_as : (step other : Step) (told : Told) → step ≡ other → Tells other told → Tells step told
tells_as step other told e it = subst (λ (s : Step). Tells s told) (sym e) it

pub mirrors_as : (nodes : List Node) (texts : List (List ℕ)) (kept : KeptDomain) (step other : Step) → step ≡ other → Mirrors nodes texts kept other.state → Mirrors nodes texts kept step.state
mirrors_as nodes texts kept step other e it = subst (λ (s : Step). Mirrors nodes texts kept s.state) (sym e) it
