-- A branch is made for a group that a fiber is in, of which one more is left then; it stands in no list yet.
use Rattle.std.proofs.Common.{◌≡◌, ◌≢◌, ◌⊎◌, inl, inr, ℕ, ◌+◌, ◌<◌, ◌≤◌, Bool, true, false, not, List, [], ◌∷◌, ◌++◌, length, refl, ap, ◌∙◌, sym, subst, true≢false, arith}
use Rattle.std.specs.Prelude.{All}
use Rattle.std.specs.List.{Contains}
use Rattle.std.proofs.lemmas.List.{length_push}
use Rattle.eio_value.specs.declared.raised.Outcome.TheVariants as outcome
use Rattle.eio_value.specs.declared.value.Value.TheVariants as value
use Rattle.spec_parts.specs.Groups.{group_at}
use Rattle.spec_parts.specs.Switches.{switch_at}
use Rattle.spec_parts.specs.Contexts.{context_at, is_live}
use Rattle.spec_machine.specs.Domain.{Role, OfBody, OfJob, OfSwitch, OfGroup, OfWriter, GoesOn, Ready, Fiber, DomainState, never_made, fiber_at, has_ended, live_fibers, most_fibers}
use Rattle.law_domain.specs.Sound.Scopes.{Entered, InGroup, ScopeAt, base_of, scopes, scopes_of}
use Rattle.law_domain.specs.Sound.SoundStates.{HasAttached, IsCounted, IsScoped, IsBuiltRole, IsBuiltStanding, IsSoundFiber, IsSoundPosition, IsSoundWith, IsStrike, attached_to, branches_of}
use Rattle.law_domain.proofs.Sound.Branches.{is_branch, is_none, is_one}
use Rattle.law_domain.proofs.Sound.ByNumber as numbers
use Rattle.law_domain.proofs.Sound.ByNumber.{same_or_other}
use Rattle.law_domain.proofs.Sound.Counting.{count_pushed, lives_below, one_if}
use Rattle.law_domain.proofs.Sound.Lists.{AreDistinct}
use Rattle.law_domain.proofs.Sound.Midst.{IsMid, fiber_grows, mid_lives, is_ready_lives}
use Rattle.law_domain.proofs.Sound.Staying.{StaysIn, IsNew, scopes_stay}

pub record BranchesOne (held : ℕ → List Entered) (n : ℕ) (fiber : Fiber) (l k : DomainState) : Type 0 where
  pub fibers : k.fibers ≡ l.fibers ++ fiber ∷ []
  pub role : fiber.role ≡ OfGroup n
  pub context : fiber.context ≡ (group_at l.groups n).context
  pub standing : fiber.standing ≡ Ready (GoesOn (outcome.Ok value.Unit))
  pub outside : scopes fiber ≡ []
  pub position : IsSoundPosition (length k.switches) (length k.contexts) fiber.work fiber.variables
  pub entered : (own : Bool) × (h : ℕ) × (i : ℕ) × ScopeAt held l (InGroup n own) h i
  pub group_contexts : (m : ℕ) → (group_at k.groups m).context ≡ (group_at l.groups m).context
  pub left : (group_at k.groups n).left ≡ (group_at l.groups n).left + 1
  pub left_elsewhere : (m : ℕ) → m ≢ n → (group_at k.groups m).left ≡ (group_at l.groups m).left
  pub groups_made : length k.groups ≡ length l.groups
  pub switches : k.switches ≡ l.switches
  pub contexts : k.contexts ≡ l.contexts
  pub ready : k.ready ≡ l.ready
  pub duties : k.duties ≡ l.duties
  pub timers : k.timers ≡ l.timers
  pub room : live_fibers l.fibers < most_fibers

abbrev group_of : Role → ℕ
group_of role = elim role [ OfBody ↦ 0 | OfJob executor number ↦ 0 | OfSwitch switch daemon ↦ 0 | OfGroup group ↦ group | OfWriter writer ↦ 0 ]

abbrev is_of_switch : Role → Bool
is_of_switch role = elim role [ OfBody ↦ false | OfJob executor number ↦ false | OfSwitch switch daemon ↦ true | OfGroup group ↦ false | OfWriter writer ↦ false ]

module _ (g : ℕ) (held : ℕ → List Entered) (lines : ℕ) (l k : DomainState) (n : ℕ) (fiber : Fiber)
    (mid : IsMid g held lines l) (one : BranchesOne held n fiber l k) where
  abbrev new : ℕ
  new = length l.fibers

  newest : fiber_at k.fibers new ≡ fiber
  newest = ap (λ fs. fiber_at fs new) one.fibers ∙ numbers.made_last never_made l.fibers fiber

  others : (h : ℕ) → h ≢ new → fiber_at k.fibers h ≡ fiber_at l.fibers h
  others h other = ap (λ fs. fiber_at fs h) one.fibers ∙ numbers.pushed_other never_made l.fibers h fiber other

  unmade : fiber_at l.fibers new ≡ never_made
  unmade = numbers.past_all never_made l.fibers new (omega arith)

  lives : has_ended fiber ≡ false
  lives = is_ready_lives fiber _ one.standing

  is_other : (h : ℕ) → has_ended (fiber_at l.fibers h) ≡ false → h ≢ new
  is_other h lived e = (let below : h < length l.fibers = lives_below l.fibers h lived in omega (arith, e, below))

  caller_other : g ≢ new
  caller_other = is_other g (mid_lives g held lines l mid)

  none_held : held new ≡ []
  none_held = mid.others new (λ e. caller_other (sym e)) ∙ ap scopes unmade

  -- what holds of the new one and of all others holds of all
  of_each : (P : ℕ → Fiber → Type 0) → P new fiber → ((h : ℕ) → h ≢ new → P h (fiber_at l.fibers h)) → (h : ℕ) → P h (fiber_at k.fibers h)
  of_each P itself rest h = elim (same_or_other h new) as (λ _. P h (fiber_at k.fibers h)) [
    | inl e ↦ subst (λ (m : ℕ). P m (fiber_at k.fibers m)) (sym e) (subst (λ (f : Fiber). P new f) (sym newest) itself)
    | inr other ↦ subst (λ (f : Fiber). P h f) (sym (others h other)) (rest h other)
  ]

  -- ## Who is attached

  not_attached : (m : ℕ) (d : Bool) → (fiber_at k.fibers new).role ≡ OfSwitch m d → ⊥
  not_attached m d role = true≢false (ap is_of_switch (sym role ∙ (ap (λ (f : Fiber). f.role) newest ∙ one.role)))

  attached_then : HasAttached k
  attached_then = record {
    attached = λ m d h there. (
        let was = mid.sound.attaching.attached m d h (subst (λ ss. Contains (attached_to d (switch_at ss m)) h) one.switches there) in
        let same = others h (is_other h was.1) in
        (ap (λ (f : Fiber). f.role) same ∙ was.0, ap has_ended same ∙ was.1));
    attaches = λ m d h role alive. elim (same_or_other h new) as (λ _. Contains (attached_to d (switch_at k.switches m)) h) [
      | inl e ↦ absurd (not_attached m d (ap (λ (x : ℕ). (fiber_at k.fibers x).role) (sym e) ∙ role))
      | inr other ↦ (
          let same = others h other in
          subst (λ ss. Contains (attached_to d (switch_at ss m)) h) (sym one.switches)
          (mid.sound.attaching.attaches m d h (ap (λ (f : Fiber). f.role) (sym same) ∙ role) (ap has_ended (sym same) ∙ alive)))
    ];
    emptied = λ m d done. ap (λ ss. attached_to d (switch_at ss m)) one.switches
        ∙ mid.sound.attaching.emptied m d (ap (λ ss. (switch_at ss m).finished) (sym one.switches) ∙ done);
  }

  -- ## Scopes

  is_at : (scope : Entered) (h i : ℕ) → ScopeAt held l scope h i → ScopeAt held k scope h i
  is_at scope h i at = record { lives = ap has_ended (others h (is_other h at.lives)) ∙ at.lives; there = at.there }

  count_then : (m : ℕ) → branches_of m k.fibers ≡ branches_of m l.fibers + one_if (is_branch m fiber)
  count_then m = ap (branches_of m) one.fibers ∙ count_pushed (is_branch m) refl l.fibers fiber

  lefts_then : (m : ℕ) → (group_at k.groups m).left + branches_of m l.fibers ≡ (group_at l.groups m).left + branches_of m k.fibers
  lefts_then m = elim (same_or_other m n) as (λ _. (group_at k.groups m).left + branches_of m l.fibers ≡ (group_at l.groups m).left + branches_of m k.fibers) [
    | inl e ↦ subst (λ (x : ℕ). (group_at k.groups x).left + branches_of x l.fibers ≡ (group_at l.groups x).left + branches_of x k.fibers) (sym e) (
        let more = count_then n in
        let here : one_if (is_branch n fiber) ≡ 1 = ap one_if (is_one n fiber lives one.role) in
        let left = one.left in
        omega (arith, more, here, left))
    | inr other ↦ (
        let more = count_then m in
        let here : one_if (is_branch m fiber) ≡ 0 = ap one_if (is_none m fiber (λ alive role. other (ap group_of (sym role ∙ one.role)))) in
        let left = one.left_elsewhere m other in
        omega (arith, more, here, left))
  ]

  abbrev IsThere : ℕ → Type 0
  IsThere h = StaysIn held held l k h ⊎ IsNew held k h

  newest_there : IsNew held k new
  newest_there = record {
    none = none_held;
    begins = ap (λ (f : Fiber). f.context) newest ∙ (one.context ∙ (sym (one.group_contexts n) ∙ ap (base_of k) (sym (ap (λ (f : Fiber). f.role) newest ∙ one.role))));
    gathers = λ m role. (
        let same : n ≡ m = ap group_of (sym (ap (λ (f : Fiber). f.role) newest ∙ one.role) ∙ role) in
        let it = one.entered in
        (it.0, it.1, it.2, subst (λ (x : ℕ). ScopeAt held k (InGroup x it.0) it.1 it.2) same (is_at (InGroup n it.0) it.1 it.2 it.3)));
  }

  each_there : (h : ℕ) → has_ended (fiber_at k.fibers h) ≡ false → IsThere h
  each_there h alive = elim (same_or_other h new) as (λ _. IsThere h) [
    | inl e ↦ subst IsThere (sym e) (inr newest_there)
    | inr other ↦ (
        let same = others h other in
        inl (record { lived = ap has_ended (sym same) ∙ alive; role = ap (λ (f : Fiber). f.role) same; context = ap (λ (f : Fiber). f.context) same; has = refl }))
  ]

  body_same : fiber_at k.fibers 0 ≡ fiber_at l.fibers 0
  body_same = (
      let some : g < length l.fibers = lives_below l.fibers g (mid_lives g held lines l mid) in
      others 0 (λ e. omega (arith, some, e)))

  scoped_then : IsScoped held k
  scoped_then = scopes_stay held held l k mid.sound.scoped (record {
    fibers = each_there;
    stay = λ h lived. inl (record { lives = ap has_ended (others h (is_other h lived)) ∙ lived; has = refl });
    contexts = λ m. ap (λ ss. (switch_at ss m).context) one.switches;
    finished = λ m. ap (λ ss. (switch_at ss m).finished) one.switches;
    group_contexts = one.group_contexts;
    lefts = lefts_then;
    parents = λ c. ap (λ cs. (context_at cs c).parent) one.contexts;
    live = λ c low. ap (λ cs. is_live cs c) one.contexts;
    body = λ live. ap has_ended body_same ∙ mid.sound.scoped.body (ap (λ cs. is_live cs 0) (sym one.contexts) ∙ live);
    rooted = λ alive. ap (λ cs. is_live cs 0) one.contexts ∙ mid.sound.scoped.rooted (ap has_ended (sym body_same) ∙ alive);
  })

  -- ## The domain

  counted : IsCounted lines k
  counted = (
      let live : live_fibers k.fibers ≡ live_fibers l.fibers + one_if (not (has_ended fiber)) =
      ap live_fibers one.fibers ∙ count_pushed (λ (f : Fiber). not (has_ended f)) refl l.fibers fiber in
      let new_one : one_if (not (has_ended fiber)) ≡ 1 = ap (λ (b : Bool). one_if (not b)) lives in
      let fibers : length k.fibers ≡ length l.fibers + 1 = ap length one.fibers ∙ length_push l.fibers fiber in
      let groups = one.groups_made in
      let switch_count : length k.switches ≡ length l.switches = ap length one.switches in
      let contexts : length k.contexts ≡ length l.contexts = ap length one.contexts in
      let room = one.room in
      let was = mid.sound.counted in
      record {
        live = omega (arith, live, new_one, room);
        fibers_made = omega (arith, live, new_one, fibers, was.fibers_made);
        some_context = omega (arith, contexts, was.some_context);
        contexts_made = omega (arith, contexts, was.contexts_made);
        switches_made = omega (arith, switch_count, was.switches_made);
        groups_made = omega (arith, groups, was.groups_made);
      })

  switch_count : length k.switches ≡ length l.switches
  switch_count = ap length one.switches

  context_count : length l.contexts ≤ length k.contexts
  context_count = (let same : length k.contexts ≡ length l.contexts = ap length one.contexts in omega (arith, same))

  new_sound : IsSoundFiber k new fiber
  new_sound = record {
    stand = subst IsBuiltStanding (sym one.standing) tt;
    role = λ alive. subst (λ (role : Role). IsBuiltRole new role) (sym one.role) (
        let some : g < length l.fibers = lives_below l.fibers g (mid_lives g held lines l mid) in omega (arith, some));
    position = λ alive. one.position;
  }

  sound_then : IsSoundWith held lines k
  sound_then = record {
    owes = subst (λ ds. All IsStrike ds) (sym one.duties) mid.sound.owes;
    sleeps = ap (λ ts. ts.standing) one.timers ∙ mid.sound.sleeps;
    fibers = of_each (λ h f. IsSoundFiber k h f) new_sound (λ h other. fiber_grows l k h _ (omega (arith, switch_count)) context_count (mid.sound.fibers h));
    distinct = subst AreDistinct (sym one.ready) mid.sound.distinct;
    ready = λ h there. (
        let was = mid.sound.ready h (subst (λ xs. Contains xs h) one.ready there) in
        (was.0, ap (λ (f : Fiber). f.standing) (others h (is_other h (is_ready_lives (fiber_at l.fibers h) was.0 was.1))) ∙ was.1));
    attaching = attached_then;
    scoped = scoped_then;
    counted = counted;
  }

  pub mid_branches : IsMid g held lines k
  mid_branches = record {
    sound = sound_then;
    moves = (mid.moves.0, ap (λ (f : Fiber). f.standing) (others g caller_other) ∙ mid.moves.1);
    away = λ there. mid.away (subst (λ xs. Contains xs g) one.ready there);
    others = λ h other. elim (same_or_other h new) as (λ _. held h ≡ scopes_of k h) [
      | inl e ↦ subst (λ (m : ℕ). held m ≡ scopes_of k m) (sym e) (none_held ∙ (sym one.outside ∙ ap scopes (sym newest)))
      | inr away ↦ mid.others h other ∙ ap scopes (sym (others h away))
    ];
  }
