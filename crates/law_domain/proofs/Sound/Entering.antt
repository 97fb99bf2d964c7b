-- The fiber that moves goes into a new context, for a block or for a new switch over it.
use Rattle.std.proofs.Common.{◌≡◌, ◌≢◌, ◌⊎◌, inl, inr, ℕ, ◌+◌, ◌≤◌, Bool, true, false, not, List, [], ◌∷◌, ◌++◌, length, Some, refl, ap, ◌∙◌, sym, subst, arith}
use Rattle.std.specs.Prelude.{All}
use Rattle.std.specs.List.{Contains}
use Rattle.std.proofs.lemmas.List.{length_push}
use Rattle.spec_parts.specs.Contexts as contexts
use Rattle.spec_parts.specs.Contexts.{Context, context_at, is_live, new_context}
use Rattle.spec_parts.specs.Groups.{group_at}
use Rattle.spec_parts.specs.Switches.{Switch, switch_at, opened, never_opened}
use Rattle.spec_fiber.specs.Replies.{Position}
use Rattle.spec_machine.specs.Domain.{Fiber, DomainState, fiber_at, has_ended, live_fibers}
use Rattle.law_domain.specs.Sound.Scopes.{Entered, InContext, InSwitch, InGroup, IsUnfinished, context_in, scopes}
use Rattle.law_domain.specs.Sound.SoundStates.{IsCounted, IsSoundFiber, IsSoundPosition, IsSoundWith, IsStrike, attached_to}
use Rattle.law_domain.proofs.Sound.Attaching.{attached_same}
use Rattle.law_domain.proofs.Sound.ByNumber as numbers
use Rattle.law_domain.proofs.Sound.ByNumber.{same_or_other}
use Rattle.law_domain.proofs.Sound.Changes.{OnlyAt, of_only}
use Rattle.law_domain.proofs.Sound.Counting.{live_same}
use Rattle.law_domain.proofs.Sound.Into.{SamePeople, GoesInto, goes_into}
use Rattle.law_domain.proofs.Sound.Lists.{AreDistinct}
use Rattle.law_domain.proofs.Sound.Midst.{IsMid, fiber_grows, mid_lives}
use Rattle.law_domain.proofs.Sound.Scoping.{with_held, held_here, held_elsewhere, context_no_group, switch_no_group}

-- what is there once it stands before the block
pub record EntersOne (g : ℕ) (scope : Entered) (position : Position) (l k : DomainState) : Type 0 where
  pub fibers : OnlyAt g l.fibers k.fibers (record (fiber_at l.fibers g) { context = length l.contexts; work = position.work; variables = position.variables })
  pub contexts : (protected : Bool) × (k.contexts ≡ l.contexts ++ new_context (Some (fiber_at l.fibers g).context) protected ∷ [])
  pub switches : ((k.switches ≡ l.switches) × (scope ≡ InContext (length l.contexts)))
      ⊎ ((k.switches ≡ l.switches ++ opened (length l.contexts) ∷ []) × (scope ≡ InSwitch (length l.switches)))
  pub groups : k.groups ≡ l.groups
  pub ready : k.ready ≡ l.ready
  pub duties : k.duties ≡ l.duties
  pub timers : k.timers ≡ l.timers
  pub sound : IsSoundPosition (length k.switches) (length k.contexts) position.work position.variables

module _ (g : ℕ) (held : ℕ → List Entered) (lines : ℕ) (l k : DomainState) (scope : Entered) (position : Position)
    (mid : IsMid g held lines l) (one : EntersOne g scope position l k) where
  abbrev new : ℕ → List Entered
  new = with_held g (scope ∷ held g) held

  abbrev entering : Fiber
  entering = record (fiber_at l.fibers g) { context = length l.contexts; work = position.work; variables = position.variables }

  people : SamePeople l k
  people = record {
    ended = of_only g l.fibers k.fibers entering one.fibers (λ h f. has_ended f ≡ has_ended (fiber_at l.fibers h)) refl (λ h other. refl);
    role = of_only g l.fibers k.fibers entering one.fibers (λ h f. f.role ≡ (fiber_at l.fibers h).role) refl (λ h other. refl);
  }

  -- ## The context

  context_count : length k.contexts ≡ length l.contexts + 1
  context_count = ap length one.contexts.1 ∙ length_push l.contexts _

  newest_context : context_at k.contexts (length l.contexts) ≡ new_context (Some (fiber_at l.fibers g).context) one.contexts.0
  newest_context = ap (λ cs. context_at cs (length l.contexts)) one.contexts.1 ∙ numbers.made_last contexts.never_made l.contexts _

  other_context : (x : ℕ) → x ≢ length l.contexts → context_at k.contexts x ≡ context_at l.contexts x
  other_context x other = ap (λ cs. context_at cs x) one.contexts.1 ∙ numbers.pushed_other contexts.never_made l.contexts x _ other

  -- ## Switches

  no_switch_there : (switch_at l.switches (length l.switches)) ≡ never_opened
  no_switch_there = numbers.past_all never_opened l.switches (length l.switches) (omega arith)

  switches_grow : length l.switches ≤ length k.switches
  switches_grow = elim one.switches as (λ _. length l.switches ≤ length k.switches) [
    | inl same ↦ (let count : length k.switches ≡ length l.switches = ap length same.0 in omega (arith, count))
    | inr it ↦ (let count : length k.switches ≡ length l.switches + 1 = ap length it.0 ∙ length_push l.switches _ in omega (arith, count))
  ]

  few_switches : length k.switches ≤ length l.switches + 1
  few_switches = elim one.switches as (λ _. length k.switches ≤ length l.switches + 1) [
    | inl same ↦ (let count : length k.switches ≡ length l.switches = ap length same.0 in omega (arith, count))
    | inr it ↦ (let count : length k.switches ≡ length l.switches + 1 = ap length it.0 ∙ length_push l.switches _ in omega (arith, count))
  ]

  abbrev IsAsBefore : ℕ → Type 0
  IsAsBefore n = (((switch_at k.switches n).context ≡ (switch_at l.switches n).context) × ((switch_at k.switches n).finished ≡ (switch_at l.switches n).finished))
      ⊎ (((switch_at l.switches n).finished ≡ true) × (scope ≡ InSwitch n))

  each_switch : (n : ℕ) → IsAsBefore n
  each_switch n = elim one.switches as (λ _. IsAsBefore n) [
    | inl same ↦ inl (ap (λ ss. (switch_at ss n).context) same.0, ap (λ ss. (switch_at ss n).finished) same.0)
    | inr it ↦ elim (same_or_other n (length l.switches)) as (λ _. IsAsBefore n) [
      | inl e ↦ inr (ap (λ (m : ℕ). (switch_at l.switches m).finished) e ∙ ap (λ (s : Switch). s.finished) no_switch_there, it.1 ∙ ap (λ (m : ℕ). InSwitch m) (sym e))
      | inr other ↦ (
          let same : switch_at k.switches n ≡ switch_at l.switches n = ap (λ ss. switch_at ss n) it.0 ∙ numbers.pushed_other never_opened l.switches n _ other in
          inl (ap (λ (s : Switch). s.context) same, ap (λ (s : Switch). s.finished) same))
    ]
  ]

  nobody_there : (daemon : Bool) → attached_to daemon (opened (length l.contexts)) ≡ attached_to daemon never_opened
  nobody_there true = refl
  nobody_there false = refl

  same_lists : (n : ℕ) (daemon : Bool) → attached_to daemon (switch_at k.switches n) ≡ attached_to daemon (switch_at l.switches n)
  same_lists n daemon = elim one.switches as (λ _. attached_to daemon (switch_at k.switches n) ≡ attached_to daemon (switch_at l.switches n)) [
    | inl same ↦ ap (λ ss. attached_to daemon (switch_at ss n)) same.0
    | inr it ↦ ap (λ ss. attached_to daemon (switch_at ss n)) it.0 ∙ numbers.pushed_same never_opened (attached_to daemon) l.switches _ (nobody_there daemon) n
  ]

  was_finished : (n : ℕ) → (switch_at k.switches n).finished ≡ true → (switch_at l.switches n).finished ≡ true
  was_finished n done = elim (each_switch n) as (λ _. (switch_at l.switches n).finished ≡ true) [ inl same ↦ sym same.1 ∙ done | inr it ↦ it.0 ]

  -- ## The scope

  opens_it : k.switches ≡ l.switches ++ opened (length l.contexts) ∷ [] → switch_at k.switches (length l.switches) ≡ opened (length l.contexts)
  opens_it is = ap (λ ss. switch_at ss (length l.switches)) is ∙ numbers.made_last never_opened l.switches _

  runs_in : context_in k scope ≡ length l.contexts
  runs_in = elim one.switches as (λ _. context_in k scope ≡ length l.contexts) [
    | inl same ↦ ap (context_in k) same.1
    | inr it ↦ ap (context_in k) it.1 ∙ ap (λ (s : Switch). s.context) (opens_it it.0)
  ]

  unfinished : IsUnfinished k scope
  unfinished = elim one.switches as (λ _. IsUnfinished k scope) [
    | inl same ↦ subst (IsUnfinished k) (sym same.1) tt
    | inr it ↦ subst (IsUnfinished k) (sym it.1) (ap (λ (s : Switch). s.finished) (opens_it it.0))
  ]

  no_group : (n : ℕ) (own : Bool) → scope ≡ InGroup n own → ⊥
  no_group n own e = elim one.switches as (λ _. ⊥) [
    | inl same ↦ context_no_group _ n own (sym same.1 ∙ e)
    | inr it ↦ switch_no_group _ n own (sym it.1 ∙ e)
  ]

  into : GoesInto held new l k g scope (length l.contexts)
  into = record {
    lives = mid_lives g held lines l mid;
    people = people;
    contexts = λ h other. ap (λ (f : Fiber). f.context) (one.fibers.others h other);
    inner = ap (λ (f : Fiber). f.context) one.fibers.there;
    runs_in = runs_in;
    has = held_here g (scope ∷ held g) held;
    others = held_elsewhere g (scope ∷ held g) held;
    low = mid.sound.counted.some_context;
    unused = ap (λ (x : Context). not x.ended) (numbers.past_all contexts.never_made l.contexts (length l.contexts) (omega arith));
    used = ap (λ (x : Context). not x.ended) newest_context;
    parent = ap (λ (x : Context). x.parent) newest_context;
    parents = λ x other. ap (λ (y : Context). y.parent) (other_context x other);
    live = λ x other. ap (λ (y : Context). not y.ended) (other_context x other);
    switches = each_switch;
    groups = λ n. inl (ap (λ gs. (group_at gs n).context) one.groups, ap (λ gs. (group_at gs n).left) one.groups);
    unfinished = unfinished;
    left = λ n own e. absurd (no_group n own e);
  }

  -- ## The domain

  counted : IsCounted (lines + 1) k
  counted = (
      let live : live_fibers k.fibers ≡ live_fibers l.fibers = live_same k.fibers l.fibers people.ended in
      let fibers = one.fibers.made in
      let groups : length k.groups ≡ length l.groups = ap length one.groups in
      let was = mid.sound.counted in
      record {
        live = omega (arith, live, was.live);
        fibers_made = omega (arith, live, fibers, was.fibers_made);
        some_context = omega (arith, context_count);
        contexts_made = omega (arith, context_count, was.contexts_made);
        switches_made = omega (arith, few_switches, was.switches_made);
        groups_made = omega (arith, groups, was.groups_made);
      })

  same_standing : (h : ℕ) → (fiber_at k.fibers h).standing ≡ (fiber_at l.fibers h).standing
  same_standing = of_only g l.fibers k.fibers entering one.fibers (λ h f. f.standing ≡ (fiber_at l.fibers h).standing) refl (λ h other. refl)

  sound_then : IsSoundWith new (lines + 1) k
  sound_then = record {
    owes = subst (λ ds. All IsStrike ds) (sym one.duties) mid.sound.owes;
    sleeps = ap (λ ts. ts.standing) one.timers ∙ mid.sound.sleeps;
    fibers = of_only g l.fibers k.fibers entering one.fibers (λ h f. IsSoundFiber k h f)
        (record { stand = (mid.sound.fibers g).stand; role = (mid.sound.fibers g).role; position = λ lives. one.sound })
        (λ h other. fiber_grows l k h _ switches_grow (omega (arith, context_count)) (mid.sound.fibers h));
    distinct = subst AreDistinct (sym one.ready) mid.sound.distinct;
    ready = λ h there. (
        let was = mid.sound.ready h (subst (λ xs. Contains xs h) one.ready there) in
        (was.0, same_standing h ∙ was.1));
    attaching = attached_same l k mid.sound.attaching (record { people = people; lists = same_lists; finished = λ n done. inl (was_finished n done) });
    scoped = goes_into held new l k g scope (length l.contexts) mid.sound.scoped mid.sound.attaching into;
    counted = counted;
  }

  pub mid_enters : IsMid g (with_held g (scope ∷ held g) held) (lines + 1) k
  mid_enters = record {
    sound = sound_then;
    moves = (mid.moves.0, same_standing g ∙ mid.moves.1);
    away = λ there. mid.away (subst (λ xs. Contains xs g) one.ready there);
    others = λ h other. held_elsewhere g (scope ∷ held g) held h other ∙ (mid.others h other ∙ ap scopes (sym (one.fibers.others h other)));
  }
