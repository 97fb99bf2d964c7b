-- The fiber that moves goes into a new group, whose branches are made one by one: at first its own is the only one.
use Rattle.std.proofs.Common.{◌≡◌, ◌≢◌, ◌⊎◌, inl, inr, ℕ, ◌+◌, Bool, true, false, not, List, [], ◌∷◌, ◌++◌, length, Some, refl, ap, ◌∙◌, sym, subst, arith}
use Rattle.std.specs.Prelude.{All}
use Rattle.std.specs.List.{Contains}
use Rattle.std.proofs.lemmas.List.{length_push}
use Rattle.spec_parts.specs.Contexts as contexts
use Rattle.spec_parts.specs.Contexts.{Context, context_at, is_live, new_context}
use Rattle.spec_parts.specs.Groups.{GroupKind, Group, group_at, gathered, never_gathered}
use Rattle.spec_parts.specs.Switches.{switch_at}
use Rattle.spec_fiber.specs.Replies.{Position}
use Rattle.spec_machine.specs.Domain.{OfGroup, Fiber, DomainState, fiber_at, has_ended, live_fibers}
use Rattle.law_domain.specs.Sound.Scopes.{Entered, InGroup, scopes}
use Rattle.law_domain.specs.Sound.SoundStates.{IsCounted, IsSoundFiber, IsSoundPosition, IsSoundWith, IsStrike, attached_to, branches_of, own_branches}
use Rattle.law_domain.proofs.Sound.Attaching.{attached_same}
use Rattle.law_domain.proofs.Sound.ByNumber as numbers
use Rattle.law_domain.proofs.Sound.ByNumber.{same_or_other}
use Rattle.law_domain.proofs.Sound.Changes.{OnlyAt, of_only}
use Rattle.law_domain.proofs.Sound.Counting.{live_same}
use Rattle.law_domain.proofs.Sound.Branches.{no_branches}
use Rattle.law_domain.proofs.Sound.Into.{SamePeople, GoesInto, goes_into}
use Rattle.law_domain.proofs.Sound.Lists.{AreDistinct}
use Rattle.law_domain.proofs.Sound.Midst.{IsMid, fiber_grows, mid_lives}
use Rattle.law_domain.proofs.Sound.Scoping.{with_held, held_here, held_elsewhere, group_in, own_in}

-- what is there once it stands before the block
pub record GathersOne (g : ℕ) (kind : GroupKind) (position : Position) (l k : DomainState) : Type 0 where
  pub fibers : OnlyAt g l.fibers k.fibers (record (fiber_at l.fibers g) { context = length l.contexts; work = position.work; variables = position.variables })
  pub contexts : (protected : Bool) × (k.contexts ≡ l.contexts ++ new_context (Some (fiber_at l.fibers g).context) protected ∷ [])
  pub switches : k.switches ≡ l.switches
  pub groups : k.groups ≡ l.groups ++ gathered kind (length l.contexts) 1 ∷ []
  pub ready : k.ready ≡ l.ready
  pub duties : k.duties ≡ l.duties
  pub timers : k.timers ≡ l.timers
  pub sound : IsSoundPosition (length k.switches) (length k.contexts) position.work position.variables

module _ (g : ℕ) (held : ℕ → List Entered) (lines : ℕ) (l k : DomainState) (kind : GroupKind) (position : Position)
    (mid : IsMid g held lines l) (one : GathersOne g kind position l k) where
  abbrev scope : Entered
  scope = InGroup (length l.groups) true

  abbrev new : ℕ → List Entered
  new = with_held g (scope ∷ held g) held

  abbrev entering : Fiber
  entering = record (fiber_at l.fibers g) { context = length l.contexts; work = position.work; variables = position.variables }

  people : SamePeople l k
  people = record {
    ended = of_only g l.fibers k.fibers entering one.fibers (λ h f. has_ended f ≡ has_ended (fiber_at l.fibers h)) refl (λ h other. refl);
    role = of_only g l.fibers k.fibers entering one.fibers (λ h f. f.role ≡ (fiber_at l.fibers h).role) refl (λ h other. refl);
  }

  -- ## The context

  context_count : length k.contexts ≡ length l.contexts + 1
  context_count = ap length one.contexts.1 ∙ length_push l.contexts _

  newest_context : context_at k.contexts (length l.contexts) ≡ new_context (Some (fiber_at l.fibers g).context) one.contexts.0
  newest_context = ap (λ cs. context_at cs (length l.contexts)) one.contexts.1 ∙ numbers.made_last contexts.never_made l.contexts _

  other_context : (x : ℕ) → x ≢ length l.contexts → context_at k.contexts x ≡ context_at l.contexts x
  other_context x other = ap (λ cs. context_at cs x) one.contexts.1 ∙ numbers.pushed_other contexts.never_made l.contexts x _ other

  -- ## The group

  group_count : length k.groups ≡ length l.groups + 1
  group_count = ap length one.groups ∙ length_push l.groups _

  new_group : group_at k.groups (length l.groups) ≡ gathered kind (length l.contexts) 1
  new_group = ap (λ gs. group_at gs (length l.groups)) one.groups ∙ numbers.made_last never_gathered l.groups _

  no_group_there : group_at l.groups (length l.groups) ≡ never_gathered
  no_group_there = numbers.past_all never_gathered l.groups (length l.groups) (omega arith)

  abbrev IsAsBefore : ℕ → Type 0
  IsAsBefore n = (((group_at k.groups n).context ≡ (group_at l.groups n).context) × ((group_at k.groups n).left ≡ (group_at l.groups n).left)) ⊎ ((group_at l.groups n).context ≡ 0)

  each_group : (n : ℕ) → IsAsBefore n
  each_group n = elim (same_or_other n (length l.groups)) as (λ _. IsAsBefore n) [
    | inl e ↦ inr (ap (λ (m : ℕ). (group_at l.groups m).context) e ∙ ap (λ (x : Group). x.context) no_group_there)
    | inr other ↦ (
        let same : group_at k.groups n ≡ group_at l.groups n = ap (λ gs. group_at gs n) one.groups ∙ numbers.pushed_other never_gathered l.groups n _ other in
        inl (ap (λ (x : Group). x.context) same, ap (λ (x : Group). x.left) same))
  ]

  -- no branch of it is there yet
  no_branch_yet : (h : ℕ) → has_ended (fiber_at l.fibers h) ≡ false → (fiber_at l.fibers h).role ≡ OfGroup (length l.groups) → ⊥
  no_branch_yet h lives role = (
      let it = mid.sound.scoped.gathered (length l.groups) h role lives in
      let low = (mid.sound.scoped.entered (InGroup (length l.groups) it.0) it.1 it.2 it.3).low in
      let none : (group_at l.groups (length l.groups)).context ≡ 0 = ap (λ (x : Group). x.context) no_group_there in
      omega (arith, low, none))

  none_gathered : branches_of (length l.groups) k.fibers ≡ 0
  none_gathered = no_branches (length l.groups) k.fibers (λ h lives role. no_branch_yet h (sym (people.ended h) ∙ lives) (sym (people.role h) ∙ role))

  left_there : (n : ℕ) (own : Bool) → scope ≡ InGroup n own → (group_at k.groups n).left ≡ branches_of n k.fibers + own_branches own
  left_there n own e = (
      let number : length l.groups ≡ n = ap group_in e in
      let runs : true ≡ own = ap own_in e in
      let one_left : (group_at k.groups (length l.groups)).left ≡ 1 = ap (λ (x : Group). x.left) new_group in
      subst (λ (m : ℕ). (group_at k.groups m).left ≡ branches_of m k.fibers + own_branches own) number
      (subst (λ (b : Bool). (group_at k.groups (length l.groups)).left ≡ branches_of (length l.groups) k.fibers + own_branches b) runs (omega (arith, one_left, none_gathered))))

  into : GoesInto held new l k g scope (length l.contexts)
  into = record {
    lives = mid_lives g held lines l mid;
    people = people;
    contexts = λ h other. ap (λ (f : Fiber). f.context) (one.fibers.others h other);
    inner = ap (λ (f : Fiber). f.context) one.fibers.there;
    runs_in = ap (λ (x : Group). x.context) new_group;
    has = held_here g (scope ∷ held g) held;
    others = held_elsewhere g (scope ∷ held g) held;
    low = mid.sound.counted.some_context;
    unused = ap (λ (x : Context). not x.ended) (numbers.past_all contexts.never_made l.contexts (length l.contexts) (omega arith));
    used = ap (λ (x : Context). not x.ended) newest_context;
    parent = ap (λ (x : Context). x.parent) newest_context;
    parents = λ x other. ap (λ (y : Context). y.parent) (other_context x other);
    live = λ x other. ap (λ (y : Context). not y.ended) (other_context x other);
    switches = λ n. inl (ap (λ ss. (switch_at ss n).context) one.switches, ap (λ ss. (switch_at ss n).finished) one.switches);
    groups = each_group;
    unfinished = tt;
    left = left_there;
  }

  -- ## The domain

  counted : IsCounted (lines + 1) k
  counted = (
      let live : live_fibers k.fibers ≡ live_fibers l.fibers = live_same k.fibers l.fibers people.ended in
      let fibers = one.fibers.made in
      let switches : length k.switches ≡ length l.switches = ap length one.switches in
      let was = mid.sound.counted in
      record {
        live = omega (arith, live, was.live);
        fibers_made = omega (arith, live, fibers, was.fibers_made);
        some_context = omega (arith, context_count);
        contexts_made = omega (arith, context_count, was.contexts_made);
        switches_made = omega (arith, switches, was.switches_made);
        groups_made = omega (arith, group_count, was.groups_made);
      })

  same_standing : (h : ℕ) → (fiber_at k.fibers h).standing ≡ (fiber_at l.fibers h).standing
  same_standing = of_only g l.fibers k.fibers entering one.fibers (λ h f. f.standing ≡ (fiber_at l.fibers h).standing) refl (λ h other. refl)

  sound_then : IsSoundWith new (lines + 1) k
  sound_then = record {
    owes = subst (λ ds. All IsStrike ds) (sym one.duties) mid.sound.owes;
    sleeps = ap (λ ts. ts.standing) one.timers ∙ mid.sound.sleeps;
    fibers = of_only g l.fibers k.fibers entering one.fibers (λ h f. IsSoundFiber k h f)
        (record { stand = (mid.sound.fibers g).stand; role = (mid.sound.fibers g).role; position = λ lives. one.sound })
        (λ h other. (let switches : length k.switches ≡ length l.switches = ap length one.switches in fiber_grows l k h _ (omega (arith, switches)) (omega (arith, context_count)) (mid.sound.fibers h)));
    distinct = subst AreDistinct (sym one.ready) mid.sound.distinct;
    ready = λ h there. (
        let was = mid.sound.ready h (subst (λ xs. Contains xs h) one.ready there) in
        (was.0, same_standing h ∙ was.1));
    attaching = attached_same l k mid.sound.attaching (record {
      people = people;
      lists = λ n daemon. ap (λ ss. attached_to daemon (switch_at ss n)) one.switches;
      finished = λ n done. inl (ap (λ ss. (switch_at ss n).finished) (sym one.switches) ∙ done);
    });
    scoped = goes_into held new l k g scope (length l.contexts) mid.sound.scoped mid.sound.attaching into;
    counted = counted;
  }

  pub mid_gathers : IsMid g (with_held g (scope ∷ held g) held) (lines + 1) k
  mid_gathers = record {
    sound = sound_then;
    moves = (mid.moves.0, same_standing g ∙ mid.moves.1);
    away = λ there. mid.away (subst (λ xs. Contains xs g) one.ready there);
    others = λ h other. held_elsewhere g (scope ∷ held g) held h other ∙ (mid.others h other ∙ ap scopes (sym (one.fibers.others h other)));
  }
