-- The fiber that moves goes out of its innermost scope: that of a block, or a switch, which is finished then.
use Rattle.std.proofs.Common.{◌≡◌, ◌⊎◌, inl, inr, ℕ, ◌<◌, Bool, true, false, not, List, [], ◌∷◌, length, refl, ap, ◌∙◌, sym, subst, arith}
use Rattle.std.specs.Prelude.{All, slice_get}
use Rattle.std.specs.List.{Contains}
use Rattle.std.specs.Option.{unwrap_or}
use Rattle.spec_parts.specs.Contexts as contexts
use Rattle.spec_parts.specs.Contexts.{Context, context_at, is_live, end}
use Rattle.spec_parts.specs.Groups.{group_at}
use Rattle.spec_parts.specs.Switches.{Switch, switch_at, with_switch, never_opened}
use Rattle.spec_machine.specs.Domain.{OfGroup, Fiber, DomainState, fiber_at, has_ended, live_fibers}
use Rattle.law_domain.specs.Sound.Scopes.{Entered, InSwitch, InGroup, IsUnfinished, ScopeAt, context_in, scopes}
use Rattle.law_domain.specs.Sound.SoundStates.{IsCounted, IsSoundFiber, IsSoundWith, IsStrike, attached_to}
use Rattle.law_domain.proofs.Sound.Attaching.{attached_same}
use Rattle.law_domain.proofs.Sound.ByNumber as numbers
use Rattle.law_domain.proofs.Sound.ByNumber.{same_or_other}
use Rattle.law_domain.proofs.Sound.Changes.{OnlyAt, of_only}
use Rattle.law_domain.proofs.Sound.Counting.{live_same}
use Rattle.law_domain.proofs.Sound.Into.{SamePeople}
use Rattle.law_domain.proofs.Sound.Lists.{AreDistinct}
use Rattle.law_domain.proofs.Sound.Midst.{IsMid, fiber_grows, mid_lives}
use Rattle.law_domain.proofs.Sound.Out.{GoesOut, goes_out}
use Rattle.law_domain.proofs.Sound.Scoping.{with_held, held_here, held_elsewhere, same_switch, live_below, unfinished_below}

-- a switch that nobody is attached to is finished, and nothing else of it has changed that scopes are seen by
pub record Finishes (l k : DomainState) (n : ℕ) : Type 0 where
  pub changed : Switch
  pub switches : k.switches ≡ with_switch n changed l.switches
  pub context : changed.context ≡ (switch_at l.switches n).context
  pub lists : (daemon : Bool) → attached_to daemon changed ≡ attached_to daemon (switch_at l.switches n)
  pub finished : changed.finished ≡ true
  pub nobody : (daemon : Bool) → attached_to daemon (switch_at l.switches n) ≡ []

-- what is there once it stands behind the scope
pub record LeavesOne (g : ℕ) (scope : Entered) (l k : DomainState) : Type 0 where
  pub fibers : OnlyAt g l.fibers k.fibers (record (fiber_at l.fibers g) { context = unwrap_or (context_at l.contexts (context_in l scope)).parent 0 })
  pub contexts : k.contexts ≡ end (context_in l scope) l.contexts
  pub switches : ((k.switches ≡ l.switches) × ((n : ℕ) → scope ≡ InSwitch n → ⊥)) ⊎ ((n : ℕ) × (scope ≡ InSwitch n) × Finishes l k n)
  -- no branch is left of the group
  pub nobody : (n : ℕ) (own : Bool) (h : ℕ) → scope ≡ InGroup n own → (fiber_at l.fibers h).role ≡ OfGroup n → has_ended (fiber_at l.fibers h) ≡ false → ⊥
  pub groups : k.groups ≡ l.groups
  pub ready : k.ready ≡ l.ready
  pub duties : k.duties ≡ l.duties
  pub timers : k.timers ≡ l.timers

module _ (g : ℕ) (held : ℕ → List Entered) (lines : ℕ) (l k : DomainState) (scope : Entered) (rest : List Entered)
    (mid : IsMid g held lines l) (has : held g ≡ scope ∷ rest) (one : LeavesOne g scope l k) where
  abbrev new : ℕ → List Entered
  new = with_held g rest held

  abbrev leaving : Fiber
  leaving = record (fiber_at l.fibers g) { context = unwrap_or (context_at l.contexts (context_in l scope)).parent 0 }

  people : SamePeople l k
  people = record {
    ended = of_only g l.fibers k.fibers leaving one.fibers (λ h f. has_ended f ≡ has_ended (fiber_at l.fibers h)) refl (λ h other. refl);
    role = of_only g l.fibers k.fibers leaving one.fibers (λ h f. f.role ≡ (fiber_at l.fibers h).role) refl (λ h other. refl);
  }

  here : ScopeAt held l scope g 0
  here = record { lives = mid_lives g held lines l mid; there = ap (λ xs. slice_get xs 0) has }

  -- ## The context

  below : context_in l scope < length l.contexts
  below = live_below l.contexts _ (mid.sound.scoped.entered scope g 0 here).live

  over_context : context_at k.contexts (context_in l scope) ≡ record (context_at l.contexts (context_in l scope)) { ended = true }
  over_context = ap (λ cs. context_at cs (context_in l scope)) one.contexts ∙ numbers.changed_itself contexts.never_made l.contexts (context_in l scope) _ below

  context_count : length k.contexts ≡ length l.contexts
  context_count = ap length one.contexts ∙ numbers.set_keeps_length contexts.never_made l.contexts (context_in l scope) _

  same_parents : (x : ℕ) → (context_at k.contexts x).parent ≡ (context_at l.contexts x).parent
  same_parents x = ap (λ cs. (context_at cs x).parent) one.contexts
      ∙ numbers.same_of_each contexts.never_made (λ (y : Context). y.parent) l.contexts (context_in l scope) _ below refl x

  -- ## Switches

  still_switch : (n : ℕ) → scope ≡ InSwitch n → n < length l.switches
  still_switch n e = unfinished_below l.switches n (subst (IsUnfinished l) e (mid.sound.scoped.entered scope g 0 here).unfinished)

  switch_count : length k.switches ≡ length l.switches
  switch_count = elim one.switches as (λ _. length k.switches ≡ length l.switches) [
    | inl it ↦ ap length it.0
    | inr it ↦ ap length it.2.switches ∙ numbers.set_keeps_length never_opened l.switches it.0 _
  ]

  -- what a finished switch has as before, each has
  module _ {Y : Type 0} (f : Switch → Y) (kept : (n : ℕ) (it : Finishes l k n) → f it.changed ≡ f (switch_at l.switches n)) where
    same_switches : (m : ℕ) → f (switch_at k.switches m) ≡ f (switch_at l.switches m)
    same_switches m = elim one.switches as (λ _. f (switch_at k.switches m) ≡ f (switch_at l.switches m)) [
      | inl it ↦ ap (λ ss. f (switch_at ss m)) it.0
      | inr it ↦ ap (λ ss. f (switch_at ss m)) it.2.switches ∙ numbers.same_of_each never_opened f l.switches it.0 it.2.changed (still_switch it.0 it.1) (kept it.0 it.2) m
    ]

  finishes : (n : ℕ) → scope ≡ InSwitch n → (switch_at k.switches n).finished ≡ true
  finishes n e = elim one.switches as (λ _. (switch_at k.switches n).finished ≡ true) [
    | inl it ↦ absurd (it.1 n e)
    | inr it ↦ subst (λ (m : ℕ). (switch_at k.switches m).finished ≡ true) (same_switch it.0 n (sym it.1 ∙ e))
        (ap (λ ss. (switch_at ss it.0).finished) it.2.switches
        ∙ (ap (λ (s : Switch). s.finished) (numbers.changed_itself never_opened l.switches it.0 it.2.changed (still_switch it.0 it.1)) ∙ it.2.finished))
  ]

  stays_open : (n : ℕ) → (scope ≡ InSwitch n → ⊥) → (switch_at k.switches n).finished ≡ (switch_at l.switches n).finished
  stays_open n other = elim one.switches as (λ _. (switch_at k.switches n).finished ≡ (switch_at l.switches n).finished) [
    | inl it ↦ ap (λ ss. (switch_at ss n).finished) it.0
    | inr it ↦ ap (λ ss. (switch_at ss n).finished) it.2.switches
        ∙ ap (λ (s : Switch). s.finished) (numbers.others_unchanged never_opened l.switches it.0 n it.2.changed (λ e. other (it.1 ∙ ap (λ (m : ℕ). InSwitch m) (sym e))))
  ]

  finished_or_same : (n : ℕ) → ((switch_at k.switches n).finished ≡ (switch_at l.switches n).finished) ⊎ ((switch_at k.switches n).finished ≡ true)
  finished_or_same n = elim one.switches as (λ _. ((switch_at k.switches n).finished ≡ (switch_at l.switches n).finished) ⊎ ((switch_at k.switches n).finished ≡ true)) [
    | inl it ↦ inl (ap (λ ss. (switch_at ss n).finished) it.0)
    | inr it ↦ elim (same_or_other n it.0) as (λ _. ((switch_at k.switches n).finished ≡ (switch_at l.switches n).finished) ⊎ ((switch_at k.switches n).finished ≡ true)) [
      | inl e ↦ inr (finishes n (it.1 ∙ ap (λ (m : ℕ). InSwitch m) (sym e)))
      | inr other ↦ inl (ap (λ ss. (switch_at ss n).finished) it.2.switches ∙ ap (λ (s : Switch). s.finished) (numbers.others_unchanged never_opened l.switches it.0 n it.2.changed other))
    ]
  ]

  finished_was : (n : ℕ) → (switch_at k.switches n).finished ≡ true
      → ((switch_at l.switches n).finished ≡ true) ⊎ ((daemon : Bool) → attached_to daemon (switch_at l.switches n) ≡ [])
  finished_was n done = elim one.switches as (λ _. ((switch_at l.switches n).finished ≡ true) ⊎ ((daemon : Bool) → attached_to daemon (switch_at l.switches n) ≡ [])) [
    | inl it ↦ inl (ap (λ ss. (switch_at ss n).finished) (sym it.0) ∙ done)
    | inr it ↦ elim (same_or_other n it.0) as (λ _. ((switch_at l.switches n).finished ≡ true) ⊎ ((daemon : Bool) → attached_to daemon (switch_at l.switches n) ≡ [])) [
      | inl e ↦ inr (subst (λ (m : ℕ). (daemon : Bool) → attached_to daemon (switch_at l.switches m) ≡ []) (sym e) it.2.nobody)
      | inr other ↦ inl (sym (stays_open n (λ e. other (same_switch n it.0 (sym e ∙ it.1)))) ∙ done)
    ]
  ]

  out : GoesOut held new l k g scope
  out = record {
    lives = mid_lives g held lines l mid;
    people = people;
    contexts = λ h other. ap (λ (f : Fiber). f.context) (one.fibers.others h other);
    outer = λ parent is. ap (λ (f : Fiber). f.context) one.fibers.there ∙ ap (λ found. unwrap_or found 0) is;
    has = has ∙ ap (λ xs. scope ∷ xs) (sym (held_here g rest held));
    others = held_elsewhere g rest held;
    over = ap (λ (x : Context). not x.ended) over_context;
    parents = same_parents;
    live = λ x other. ap (λ cs. is_live cs x) one.contexts ∙ ap (λ (y : Context). not y.ended) (numbers.others_unchanged contexts.never_made l.contexts (context_in l scope) x _ other);
    switches = same_switches (λ (s : Switch). s.context) (λ n it. it.context);
    finished = finished_or_same;
    finishes = finishes;
    stays_open = stays_open;
    group_contexts = λ n. ap (λ gs. (group_at gs n).context) one.groups;
    lefts = λ n. ap (λ gs. (group_at gs n).left) one.groups;
    nobody = one.nobody;
  }

  -- ## The domain

  counted : IsCounted lines k
  counted = (
      let live : live_fibers k.fibers ≡ live_fibers l.fibers = live_same k.fibers l.fibers people.ended in
      let fibers = one.fibers.made in
      let groups : length k.groups ≡ length l.groups = ap length one.groups in
      let was = mid.sound.counted in
      record {
        live = omega (arith, live, was.live);
        fibers_made = omega (arith, live, fibers, was.fibers_made);
        some_context = omega (arith, context_count, was.some_context);
        contexts_made = omega (arith, context_count, was.contexts_made);
        switches_made = omega (arith, switch_count, was.switches_made);
        groups_made = omega (arith, groups, was.groups_made);
      })

  same_standing : (h : ℕ) → (fiber_at k.fibers h).standing ≡ (fiber_at l.fibers h).standing
  same_standing = of_only g l.fibers k.fibers leaving one.fibers (λ h f. f.standing ≡ (fiber_at l.fibers h).standing) refl (λ h other. refl)

  sound_then : IsSoundWith new lines k
  sound_then = record {
    owes = subst (λ ds. All IsStrike ds) (sym one.duties) mid.sound.owes;
    sleeps = ap (λ ts. ts.standing) one.timers ∙ mid.sound.sleeps;
    fibers = of_only g l.fibers k.fibers leaving one.fibers (λ h f. IsSoundFiber k h f)
        (let was = fiber_grows l k g _ (omega (arith, switch_count)) (omega (arith, context_count)) (mid.sound.fibers g) in record { stand = was.stand; role = was.role; position = was.position })
        (λ h other. fiber_grows l k h _ (omega (arith, switch_count)) (omega (arith, context_count)) (mid.sound.fibers h));
    distinct = subst AreDistinct (sym one.ready) mid.sound.distinct;
    ready = λ h there. (
        let was = mid.sound.ready h (subst (λ xs. Contains xs h) one.ready there) in
        (was.0, same_standing h ∙ was.1));
    attaching = attached_same l k mid.sound.attaching (record {
      people = people;
      lists = λ n daemon. same_switches (attached_to daemon) (λ m it. it.lists daemon) n;
      finished = finished_was;
    });
    scoped = goes_out held new l k g scope mid.sound.scoped out;
    counted = counted;
  }

  pub mid_leaves : IsMid g (with_held g rest held) lines k
  mid_leaves = record {
    sound = sound_then;
    moves = (mid.moves.0, same_standing g ∙ mid.moves.1);
    away = λ there. mid.away (subst (λ xs. Contains xs g) one.ready there);
    others = λ h other. held_elsewhere g rest held h other ∙ (mid.others h other ∙ ap scopes (sym (one.fibers.others h other)));
  }
