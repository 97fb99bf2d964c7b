-- A fiber that is in no scope has ended: it is attached to no switch, and if it was the body, the first context has ended.
use Rattle.std.proofs.Common.{◌≡◌, ◌≢◌, ◌⊎◌, inl, inr, ℕ, ◌+◌, ◌<◌, true, false, not, List, [], length, slice_set, refl, ap, ap₂, ◌∙◌, sym, subst, true≢false, arith}
use Rattle.std.specs.Prelude.{All}
use Rattle.std.specs.List.{Contains}
use Rattle.spec_parts.specs.Contexts.{context_at, is_live}
use Rattle.spec_parts.specs.Groups.{Group, group_at}
use Rattle.spec_parts.specs.Switches.{switch_at}
use Rattle.spec_machine.specs.Domain.{Fiber, DomainState, never_made, fiber_at, has_ended, live_fibers}
use Rattle.law_domain.specs.Sound.Scopes.{Entered, scopes, scopes_of}
use Rattle.law_domain.specs.Sound.SoundStates.{IsBuiltStanding, IsCounted, IsScoped, IsSoundFiber, IsSoundWith, IsStrike, branches_of, is_of_group}
use Rattle.law_domain.proofs.Sound.Attaching.{DetachesOne, detached_one}
use Rattle.law_domain.proofs.Sound.Branches.{is_branch, is_none, role_of_group}
use Rattle.law_domain.proofs.Sound.ByNumber as numbers
use Rattle.law_domain.proofs.Sound.ByNumber.{same_or_other}
use Rattle.law_domain.proofs.Sound.Changes.{OnlyAt, of_only}
use Rattle.law_domain.proofs.Sound.Counting.{count_same, count_without, lives_below, live_same}
use Rattle.law_domain.proofs.Sound.Lists.{AreDistinct}
use Rattle.law_domain.proofs.Sound.Midst.{IsMid, fiber_grows, mid_lives}
use Rattle.law_domain.proofs.Sound.Staying.{StaysIn, IsNew, LivesOn, scopes_stay}

pub record EndsOne (held : ℕ → List Entered) (g : ℕ) (fiber : Fiber) (l k : DomainState) : Type 0 where
  pub none : held g ≡ []
  pub over : has_ended fiber ≡ true
  pub stand : IsBuiltStanding fiber.standing
  pub fibers : OnlyAt g l.fibers k.fibers fiber
  pub owes : All IsStrike k.duties
  pub sleeps : k.timers.standing ≡ []
  pub ready : k.ready ≡ l.ready
  pub groups_made : length k.groups ≡ length l.groups
  pub group_contexts : (n : ℕ) → (group_at k.groups n).context ≡ (group_at l.groups n).context
  pub lefts : (n : ℕ) → (group_at k.groups n).left + branches_of n l.fibers ≡ (group_at l.groups n).left + branches_of n k.fibers
  pub contexts_made : length k.contexts ≡ length l.contexts
  pub switches_made : length k.switches ≡ length l.switches
  pub parents : (c : ℕ) → (context_at k.contexts c).parent ≡ (context_at l.contexts c).parent
  pub live : (c : ℕ) → 0 < c → is_live k.contexts c ≡ is_live l.contexts c
  pub body : is_live k.contexts 0 ≡ true → (0 ≢ g) × (is_live l.contexts 0 ≡ true)
  pub rooted : 0 ≢ g → is_live l.contexts 0 ≡ true → is_live k.contexts 0 ≡ true
  pub contexts : (n : ℕ) → (switch_at k.switches n).context ≡ (switch_at l.switches n).context
  pub finished : (n : ℕ) → (switch_at k.switches n).finished ≡ (switch_at l.switches n).finished
  pub detaches : DetachesOne l k g

-- of a fiber that is in no group's stead, the end leaves as many branches
pub same_lefts : (g : ℕ) (fiber : Fiber) (l k : DomainState) → OnlyAt g l.fibers k.fibers fiber → has_ended fiber ≡ true → ((n : ℕ) → is_of_group n (fiber_at l.fibers g).role ≡ false)
    → k.groups ≡ l.groups → (n : ℕ) → (group_at k.groups n).left + branches_of n l.fibers ≡ (group_at l.groups n).left + branches_of n k.fibers
same_lefts g fiber l k only over aside groups n = (
    let before : is_branch n (fiber_at l.fibers g) ≡ false = is_none n (fiber_at l.fibers g) (λ lives role. true≢false (sym (role_of_group n _ role) ∙ aside n)) in
    let then : is_branch n fiber ≡ false = is_none n fiber (λ lives role. true≢false (sym over ∙ lives)) in
    let same : branches_of n k.fibers ≡ branches_of n l.fibers =
    count_same (is_branch n) refl k.fibers l.fibers (of_only g l.fibers k.fibers fiber only (λ h f. is_branch n f ≡ is_branch n (fiber_at l.fibers h)) (then ∙ sym before) (λ h other. refl)) in
    ap₂ (λ (gs : List Group) (count : ℕ). (group_at gs n).left + count) groups (sym same))

module _ (g : ℕ) (held : ℕ → List Entered) (lines : ℕ) (fiber : Fiber) (l k : DomainState) (mid : IsMid g held lines l) (one : EndsOne held g fiber l k) where
  -- what holds of the ended fiber and of all others holds of all
  of_each : (P : ℕ → Fiber → Type 0) → P g fiber → ((h : ℕ) → h ≢ g → P h (fiber_at l.fibers h)) → (h : ℕ) → P h (fiber_at k.fibers h)
  of_each = of_only g l.fibers k.fibers fiber one.fibers

  -- who lives then lived, and is another one
  lived : (h : ℕ) → has_ended (fiber_at k.fibers h) ≡ false → (h ≢ g) × (has_ended (fiber_at l.fibers h) ≡ false)
  lived = of_each (λ h f. has_ended f ≡ false → (h ≢ g) × (has_ended (fiber_at l.fibers h) ≡ false))
      (λ lives. absurd (true≢false (sym one.over ∙ lives))) (λ h other lives. (other, lives))

  lives_on : (h : ℕ) → h ≢ g → has_ended (fiber_at l.fibers h) ≡ false → has_ended (fiber_at k.fibers h) ≡ false
  lives_on h other lives = ap has_ended (one.fibers.others h other) ∙ lives

  seen : (h : ℕ) → h ≢ g → scopes_of k h ≡ held h
  seen h other = ap scopes (one.fibers.others h other) ∙ sym (mid.others h other)

  -- ## How many

  fewer_live : live_fibers k.fibers + 1 ≡ live_fibers l.fibers
  fewer_live = (
      let set : List Fiber = slice_set l.fibers g fiber in
      let same : live_fibers k.fibers ≡ live_fibers set = live_same k.fibers set
      (of_each (λ h f. has_ended f ≡ has_ended (fiber_at set h)) (sym (ap has_ended (numbers.changed_itself never_made l.fibers g fiber (lives_below l.fibers g (mid_lives g held lines l mid))))) (λ h other. ap has_ended (sym (numbers.others_unchanged never_made l.fibers g h fiber other)))) in
      let one_less : live_fibers set + 1 ≡ live_fibers l.fibers = count_without (λ (f : Fiber). not (has_ended f)) refl l.fibers g fiber (ap not (mid_lives g held lines l mid)) (ap not one.over) in
      omega (arith, same, one_less))

  -- ## Scopes

  each_there : (h : ℕ) → has_ended (fiber_at k.fibers h) ≡ false → StaysIn held (scopes_of k) l k h ⊎ IsNew (scopes_of k) k h
  each_there h lives = (
      let was = lived h lives in
      let same = one.fibers.others h was.0 in
      inl (record { lived = was.1; role = ap (λ (f : Fiber). f.role) same; context = ap (λ (f : Fiber). f.context) same; has = seen h was.0 }))

  each_stays : (h : ℕ) → has_ended (fiber_at l.fibers h) ≡ false → LivesOn held (scopes_of k) k h ⊎ (held h ≡ [])
  each_stays h lives = elim (same_or_other h g) as (λ _. LivesOn held (scopes_of k) k h ⊎ (held h ≡ [])) [
    | inl e ↦ inr (ap held e ∙ one.none)
    | inr other ↦ inl (record { lives = lives_on h other lives; has = seen h other })
  ]

  scoped_then : IsScoped (scopes_of k) k
  scoped_then = scopes_stay held (scopes_of k) l k mid.sound.scoped (record {
    fibers = each_there;
    stay = each_stays;
    contexts = one.contexts;
    finished = one.finished;
    group_contexts = one.group_contexts;
    lefts = one.lefts;
    parents = one.parents;
    live = one.live;
    body = λ live. (let it = one.body live in lives_on 0 it.0 (mid.sound.scoped.body it.1));
    rooted = λ lives. (let was = lived 0 lives in one.rooted was.0 (mid.sound.scoped.rooted was.1));
  })

  -- ## The domain

  counted : IsCounted (lines + 1) k
  counted = (
      let fibers = one.fibers.made in
      let groups = one.groups_made in
      let contexts = one.contexts_made in
      let switches = one.switches_made in
      let was = mid.sound.counted in
      record {
        live = omega (arith, fewer_live, was.live);
        fibers_made = omega (arith, fewer_live, fibers, was.fibers_made);
        some_context = omega (arith, contexts, was.some_context);
        contexts_made = omega (arith, contexts, was.contexts_made);
        switches_made = omega (arith, switches, was.switches_made);
        groups_made = omega (arith, groups, was.groups_made);
      })

  pub ends_one_sound : IsSoundWith (scopes_of k) (lines + 1) k
  ends_one_sound = (
      let contexts = one.contexts_made in
      let switches = one.switches_made in
      record {
        owes = one.owes;
        sleeps = one.sleeps;
        fibers = of_each (λ h f. IsSoundFiber k h f)
            (record { stand = one.stand; role = λ lives. absurd (true≢false (sym one.over ∙ lives)); position = λ lives. absurd (true≢false (sym one.over ∙ lives)) })
            (λ h other. fiber_grows l k h _ (omega (arith, switches)) (omega (arith, contexts)) (mid.sound.fibers h));
        distinct = subst AreDistinct (sym one.ready) mid.sound.distinct;
        ready = λ h there. (
            let stood : Contains l.ready h = subst (λ xs. Contains xs h) one.ready there in
            let other : h ≢ g = λ e. mid.away (subst (λ (x : ℕ). Contains l.ready x) e stood) in
            let was = mid.sound.ready h stood in
            (was.0, ap (λ (f : Fiber). f.standing) (one.fibers.others h other) ∙ was.1));
        attaching = detached_one l k g mid.sound.attaching one.detaches;
        scoped = scoped_then;
        counted = counted;
      })
