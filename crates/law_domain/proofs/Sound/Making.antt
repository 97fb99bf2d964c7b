-- A fiber is made for a switch that isn't finished; it stands in no list yet.
use Rattle.std.proofs.Common.{◌≡◌, ◌≢◌, ◌⊎◌, inl, inr, ℕ, ◌+◌, ◌<◌, ◌≤◌, Bool, true, false, not, ◌&&◌, List, [], ◌∷◌, ◌++◌, length, refl, ap, ap₂, ◌∙◌, sym, subst, true≢false, arith}
use Rattle.std.specs.Prelude.{All}
use Rattle.std.specs.List.{Contains}
use Rattle.std.proofs.lemmas.List.{length_push}
use Rattle.std.proofs.lemmas.List.Elements.{Contains-append_left, Contains-push, Contains-push_cases}
use Rattle.eio_value.specs.declared.raised.Outcome.TheVariants as outcome
use Rattle.eio_value.specs.declared.value.Value.TheVariants as value
use Rattle.spec_parts.specs.Groups.{group_at}
use Rattle.spec_parts.specs.Switches as switches
use Rattle.spec_parts.specs.Switches.{Switch, switch_at, with_switch, never_opened}
use Rattle.spec_parts.specs.Contexts.{context_at, is_live}
use Rattle.spec_machine.specs.Domain.{Role, OfBody, OfJob, OfSwitch, OfGroup, OfWriter, GoesOn, Ready, Fiber, DomainState, never_made, fiber_at, has_ended, live_fibers, most_fibers}
use Rattle.law_domain.specs.Sound.Scopes.{Entered, base_of, scopes, scopes_of}
use Rattle.law_domain.specs.Sound.SoundStates.{HasAttached, IsCounted, IsScoped, IsBuiltRole, IsBuiltStanding, IsSoundFiber, IsSoundPosition, IsSoundWith, IsStrike, attached_to, branches_of, is_of_group}
use Rattle.law_domain.proofs.Sound.Attaching.{attached_one}
use Rattle.law_domain.proofs.Sound.ByNumber as numbers
use Rattle.law_domain.proofs.Sound.ByNumber.{same_or_other}
use Rattle.law_domain.proofs.Sound.Counting.{count_pushed, lives_below, one_if}
use Rattle.law_domain.proofs.Sound.Lists.{AreDistinct}
use Rattle.law_domain.proofs.Sound.Midst.{IsMid, fiber_grows, mid_lives, is_ready_lives}
use Rattle.law_domain.proofs.Sound.Scoping.{unfinished_below}
use Rattle.law_domain.proofs.Sound.Staying.{StaysIn, IsNew, scopes_stay}

pub record MakesOne (n : ℕ) (daemon : Bool) (fiber : Fiber) (l k : DomainState) : Type 0 where
  pub fibers : k.fibers ≡ l.fibers ++ fiber ∷ []
  pub role : fiber.role ≡ OfSwitch n daemon
  pub context : fiber.context ≡ (switch_at l.switches n).context
  pub standing : fiber.standing ≡ Ready (GoesOn (outcome.Ok value.Unit))
  pub outside : scopes fiber ≡ []
  pub position : IsSoundPosition (length k.switches) (length k.contexts) fiber.work fiber.variables
  pub unfinished : (switch_at l.switches n).finished ≡ false
  pub switches : k.switches ≡ with_switch n (switches.with_fiber (length l.fibers) daemon (switch_at l.switches n)) l.switches
  pub contexts : k.contexts ≡ l.contexts
  pub groups : k.groups ≡ l.groups
  pub ready : k.ready ≡ l.ready
  pub duties : k.duties ≡ l.duties
  pub timers : k.timers ≡ l.timers
  pub room : live_fibers l.fibers < most_fibers

abbrev switch_of : Role → ℕ
switch_of role = elim role [ OfBody ↦ 0 | OfJob executor number ↦ 0 | OfSwitch switch daemon ↦ switch | OfGroup group ↦ 0 | OfWriter writer ↦ 0 ]

abbrev is_daemon_of : Role → Bool
is_daemon_of role = elim role [ OfBody ↦ false | OfJob executor number ↦ false | OfSwitch switch daemon ↦ daemon | OfGroup group ↦ false | OfWriter writer ↦ false ]

abbrev is_of_switch : Role → Bool
is_of_switch role = elim role [ OfBody ↦ false | OfJob executor number ↦ false | OfSwitch switch daemon ↦ true | OfGroup group ↦ false | OfWriter writer ↦ false ]

-- ## The lists of the switch

-- one more stands in the list of its kind
list_here : (new : ℕ) (daemon : Bool) (s : Switch) → attached_to daemon (switches.with_fiber new daemon s) ≡ attached_to daemon s ++ new ∷ []
list_here new true s = refl
list_here new false s = refl

-- and the other list stays
list_by : (new : ℕ) (daemon d : Bool) (s : Switch)
    → (attached_to d (switches.with_fiber new daemon s) ≡ attached_to d s) ⊎ ((d ≡ daemon) × (attached_to d (switches.with_fiber new daemon s) ≡ attached_to d s ++ new ∷ []))
list_by new true true s = inr (refl, refl)
list_by new true false s = inl refl
list_by new false true s = inl refl
list_by new false false s = inr (refl, refl)

same_with : (new : ℕ) (daemon : Bool) (s : Switch) → ((switches.with_fiber new daemon s).context ≡ s.context) × ((switches.with_fiber new daemon s).finished ≡ s.finished)
same_with new true s = (refl, refl)
same_with new false s = (refl, refl)

module _ (g : ℕ) (held : ℕ → List Entered) (lines : ℕ) (l k : DomainState) (n : ℕ) (daemon : Bool) (fiber : Fiber)
    (mid : IsMid g held lines l) (one : MakesOne n daemon fiber l k) where
  abbrev new : ℕ
  new = length l.fibers

  newest : fiber_at k.fibers new ≡ fiber
  newest = ap (λ fs. fiber_at fs new) one.fibers ∙ numbers.made_last never_made l.fibers fiber

  others : (h : ℕ) → h ≢ new → fiber_at k.fibers h ≡ fiber_at l.fibers h
  others h other = ap (λ fs. fiber_at fs h) one.fibers ∙ numbers.pushed_other never_made l.fibers h fiber other

  unmade : fiber_at l.fibers new ≡ never_made
  unmade = numbers.past_all never_made l.fibers new (omega arith)

  lives : has_ended fiber ≡ false
  lives = is_ready_lives fiber _ one.standing

  is_other : (h : ℕ) → has_ended (fiber_at l.fibers h) ≡ false → h ≢ new
  is_other h lived e = (let below : h < length l.fibers = lives_below l.fibers h lived in omega (arith, e, below))

  caller_other : g ≢ new
  caller_other = is_other g (mid_lives g held lines l mid)

  none_held : held new ≡ []
  none_held = mid.others new (λ e. caller_other (sym e)) ∙ ap scopes unmade

  -- what holds of the new one and of all others holds of all
  of_each : (P : ℕ → Fiber → Type 0) → P new fiber → ((h : ℕ) → h ≢ new → P h (fiber_at l.fibers h)) → (h : ℕ) → P h (fiber_at k.fibers h)
  of_each P itself rest h = elim (same_or_other h new) as (λ _. P h (fiber_at k.fibers h)) [
    | inl e ↦ subst (λ (m : ℕ). P m (fiber_at k.fibers m)) (sym e) (subst (λ (f : Fiber). P new f) (sym newest) itself)
    | inr other ↦ subst (λ (f : Fiber). P h f) (sym (others h other)) (rest h other)
  ]

  -- ## Switches

  below : n < length l.switches
  below = unfinished_below l.switches n one.unfinished

  abbrev changed : Switch
  changed = switches.with_fiber new daemon (switch_at l.switches n)

  same_context : (m : ℕ) → (switch_at k.switches m).context ≡ (switch_at l.switches m).context
  same_context m = ap (λ ss. (switch_at ss m).context) one.switches
      ∙ numbers.same_of_each never_opened (λ (s : Switch). s.context) l.switches n changed below (same_with new daemon (switch_at l.switches n)).0 m

  same_finished : (m : ℕ) → (switch_at k.switches m).finished ≡ (switch_at l.switches m).finished
  same_finished m = ap (λ ss. (switch_at ss m).finished) one.switches
      ∙ numbers.same_of_each never_opened (λ (s : Switch). s.finished) l.switches n changed below (same_with new daemon (switch_at l.switches n)).1 m

  switch_count : length k.switches ≡ length l.switches
  switch_count = ap length one.switches ∙ numbers.set_keeps_length never_opened l.switches n changed

  here : switch_at k.switches n ≡ changed
  here = ap (λ ss. switch_at ss n) one.switches ∙ numbers.changed_itself never_opened l.switches n changed below

  elsewhere : (m : ℕ) → m ≢ n → switch_at k.switches m ≡ switch_at l.switches m
  elsewhere m other = ap (λ ss. switch_at ss m) one.switches ∙ numbers.others_unchanged never_opened l.switches n m changed other

  -- ## Who is attached

  abbrev WasIn : ℕ → Bool → ℕ → Type 0
  WasIn m d h = Contains (attached_to d (switch_at l.switches m)) h ⊎ ((h ≡ new) × (m ≡ n) × (d ≡ daemon))

  listed : (m : ℕ) (d : Bool) (h : ℕ) → Contains (attached_to d (switch_at k.switches m)) h → WasIn m d h
  listed m d h there = elim (same_or_other m n) as (λ _. WasIn m d h) [
    | inr other ↦ inl (subst (λ (s : Switch). Contains (attached_to d s) h) (elsewhere m other) there)
    | inl e ↦ (
        let at : Contains (attached_to d changed) h = subst (λ (s : Switch). Contains (attached_to d s) h) (ap (switch_at k.switches) e ∙ here) there in
        elim (list_by new daemon d (switch_at l.switches n)) as (λ _. WasIn m d h) [
          | inl same ↦ inl (subst (λ (x : ℕ). Contains (attached_to d (switch_at l.switches x)) h) (sym e) (subst (λ xs. Contains xs h) same at))
          | inr it ↦ elim (Contains-push_cases (attached_to d (switch_at l.switches n)) new h (subst (λ xs. Contains xs h) it.1 at)) as (λ _. WasIn m d h) [
            | inl older ↦ inl (subst (λ (x : ℕ). Contains (attached_to d (switch_at l.switches x)) h) (sym e) older)
            | inr is ↦ inr (sym is, e, it.0)
          ]
        ])
  ]

  stood : (m : ℕ) (d : Bool) (h : ℕ) → Contains (attached_to d (switch_at l.switches m)) h → Contains (attached_to d (switch_at k.switches m)) h
  stood m d h there = elim (same_or_other m n) as (λ _. Contains (attached_to d (switch_at k.switches m)) h) [
    | inr other ↦ subst (λ (s : Switch). Contains (attached_to d s) h) (sym (elsewhere m other)) there
    | inl e ↦ (
        let at : Contains (attached_to d (switch_at l.switches n)) h = subst (λ (x : ℕ). Contains (attached_to d (switch_at l.switches x)) h) e there in
        subst (λ (s : Switch). Contains (attached_to d s) h) (sym (ap (switch_at k.switches) e ∙ here))
        (elim (list_by new daemon d (switch_at l.switches n)) as (λ _. Contains (attached_to d changed) h) [
          | inl same ↦ subst (λ xs. Contains xs h) (sym same) at
          | inr it ↦ subst (λ xs. Contains xs h) (sym it.1) (Contains-append_left (attached_to d (switch_at l.switches n)) (new ∷ []) h at)
        ]))
  ]

  emptied : (m : ℕ) (d : Bool) → (switch_at k.switches m).finished ≡ true → attached_to d (switch_at k.switches m) ≡ []
  emptied m d done = (
      let was : (switch_at l.switches m).finished ≡ true = sym (same_finished m) ∙ done in
      let other : m ≢ n = λ e. true≢false (sym was ∙ (ap (λ (x : ℕ). (switch_at l.switches x).finished) e ∙ one.unfinished)) in
      ap (attached_to d) (elsewhere m other) ∙ mid.sound.attaching.emptied m d was)

  attached_then : HasAttached k
  attached_then = attached_one l k new n daemon mid.sound.attaching
      (record {
        ended = ap has_ended unmade;
        lives = ap has_ended newest ∙ lives;
        role = ap (λ (f : Fiber). f.role) newest ∙ one.role;
        others = others;
        stands = subst (λ (s : Switch). Contains (attached_to daemon s) new) (sym here)
            (subst (λ xs. Contains xs new) (sym (list_here new daemon (switch_at l.switches n))) (Contains-push (attached_to daemon (switch_at l.switches n)) new));
        stood = stood;
        list = listed;
        emptied = emptied;
      })
      (λ m d e. (ap switch_of e, ap is_daemon_of e)) (λ h. same_or_other h new)

  -- ## Scopes

  abbrev is_branch : ℕ → Fiber → Bool
  is_branch m f = not (has_ended f) && is_of_group m f.role

  no_branch : (m : ℕ) → is_branch m fiber ≡ false
  no_branch m = ap₂ (λ (b : Bool) (role : Role). not b && is_of_group m role) lives one.role

  same_count : (m : ℕ) → branches_of m k.fibers ≡ branches_of m l.fibers
  same_count m = (
      let more : branches_of m k.fibers ≡ branches_of m l.fibers + one_if (is_branch m fiber) =
      ap (branches_of m) one.fibers ∙ count_pushed (is_branch m) refl l.fibers fiber in
      let none : one_if (is_branch m fiber) ≡ 0 = ap one_if (no_branch m) in
      omega (arith, more, none))

  abbrev IsThere : ℕ → Type 0
  IsThere h = StaysIn held held l k h ⊎ IsNew held k h

  newest_there : IsNew held k new
  newest_there = record {
    none = none_held;
    begins = ap (λ (f : Fiber). f.context) newest ∙ (one.context ∙ (sym (same_context n) ∙ ap (base_of k) (sym (ap (λ (f : Fiber). f.role) newest ∙ one.role))));
    gathers = λ m role. absurd (true≢false (ap is_of_switch (sym (ap (λ (f : Fiber). f.role) newest ∙ one.role) ∙ role)));
  }

  each_there : (h : ℕ) → has_ended (fiber_at k.fibers h) ≡ false → IsThere h
  each_there h alive = elim (same_or_other h new) as (λ _. IsThere h) [
    | inl e ↦ subst IsThere (sym e) (inr newest_there)
    | inr other ↦ (
        let same = others h other in
        inl (record { lived = ap has_ended (sym same) ∙ alive; role = ap (λ (f : Fiber). f.role) same; context = ap (λ (f : Fiber). f.context) same; has = refl }))
  ]

  body_same : fiber_at k.fibers 0 ≡ fiber_at l.fibers 0
  body_same = (
      let some : g < length l.fibers = lives_below l.fibers g (mid_lives g held lines l mid) in
      others 0 (λ e. omega (arith, some, e)))

  scoped_then : IsScoped held k
  scoped_then = scopes_stay held held l k mid.sound.scoped (record {
    fibers = each_there;
    stay = λ h lived. inl (record { lives = ap has_ended (others h (is_other h lived)) ∙ lived; has = refl });
    contexts = same_context;
    finished = same_finished;
    group_contexts = λ m. ap (λ gs. (group_at gs m).context) one.groups;
    lefts = λ m. ap₂ (λ gs (count : ℕ). (group_at gs m).left + count) one.groups (sym (same_count m));
    parents = λ c. ap (λ cs. (context_at cs c).parent) one.contexts;
    live = λ c low. ap (λ cs. is_live cs c) one.contexts;
    body = λ live. ap has_ended body_same ∙ mid.sound.scoped.body (ap (λ cs. is_live cs 0) (sym one.contexts) ∙ live);
    rooted = λ alive. ap (λ cs. is_live cs 0) one.contexts ∙ mid.sound.scoped.rooted (ap has_ended (sym body_same) ∙ alive);
  })

  -- ## The domain

  counted : IsCounted lines k
  counted = (
      let live : live_fibers k.fibers ≡ live_fibers l.fibers + one_if (not (has_ended fiber)) =
      ap live_fibers one.fibers ∙ count_pushed (λ (f : Fiber). not (has_ended f)) refl l.fibers fiber in
      let new_one : one_if (not (has_ended fiber)) ≡ 1 = ap (λ (b : Bool). one_if (not b)) lives in
      let fibers : length k.fibers ≡ length l.fibers + 1 = ap length one.fibers ∙ length_push l.fibers fiber in
      let groups : length k.groups ≡ length l.groups = ap length one.groups in
      let contexts : length k.contexts ≡ length l.contexts = ap length one.contexts in
      let room = one.room in
      let was = mid.sound.counted in
      record {
        live = omega (arith, live, new_one, room);
        fibers_made = omega (arith, live, new_one, fibers, was.fibers_made);
        some_context = omega (arith, contexts, was.some_context);
        contexts_made = omega (arith, contexts, was.contexts_made);
        switches_made = omega (arith, switch_count, was.switches_made);
        groups_made = omega (arith, groups, was.groups_made);
      })

  context_count : length l.contexts ≤ length k.contexts
  context_count = (let same : length k.contexts ≡ length l.contexts = ap length one.contexts in omega (arith, same))

  new_sound : IsSoundFiber k new fiber
  new_sound = record {
    stand = subst IsBuiltStanding (sym one.standing) tt;
    role = λ alive. subst (λ (role : Role). IsBuiltRole new role) (sym one.role) (
        let some : g < length l.fibers = lives_below l.fibers g (mid_lives g held lines l mid) in omega (arith, some));
    position = λ alive. one.position;
  }

  sound_then : IsSoundWith held lines k
  sound_then = record {
    owes = subst (λ ds. All IsStrike ds) (sym one.duties) mid.sound.owes;
    sleeps = ap (λ ts. ts.standing) one.timers ∙ mid.sound.sleeps;
    fibers = of_each (λ h f. IsSoundFiber k h f) new_sound (λ h other. fiber_grows l k h _ (omega (arith, switch_count)) context_count (mid.sound.fibers h));
    distinct = subst AreDistinct (sym one.ready) mid.sound.distinct;
    ready = λ h there. (
        let was = mid.sound.ready h (subst (λ xs. Contains xs h) one.ready there) in
        (was.0, ap (λ (f : Fiber). f.standing) (others h (is_other h (is_ready_lives (fiber_at l.fibers h) was.0 was.1))) ∙ was.1));
    attaching = attached_then;
    scoped = scoped_then;
    counted = counted;
  }

  pub mid_makes : IsMid g held lines k
  mid_makes = record {
    sound = sound_then;
    moves = (mid.moves.0, ap (λ (f : Fiber). f.standing) (others g caller_other) ∙ mid.moves.1);
    away = λ there. mid.away (subst (λ xs. Contains xs g) one.ready there);
    others = λ h other. elim (same_or_other h new) as (λ _. held h ≡ scopes_of k h) [
      | inl e ↦ subst (λ (m : ℕ). held m ≡ scopes_of k m) (sym e) (none_held ∙ (sym one.outside ∙ ap scopes (sym newest)))
      | inr away ↦ mid.others h other ∙ ap scopes (sym (others h away))
    ];
  }
