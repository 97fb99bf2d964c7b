-- A fiber goes into a scope: a new context below that in which it runs.
use Rattle.std.proofs.Common.{◌≡◌, ◌≢◌, ◌⊎◌, inl, inr, ℕ, zero, suc, ◌+◌, ◌<◌, Bool, true, false, not, ◌&&◌, List, [], ◌∷◌, Some, refl, ap, ap₂, ◌∙◌, sym, subst, true≢false, arith}
use Rattle.std.specs.Prelude.{slice_get}
use Rattle.std.specs.List.{Contains}
use Rattle.std.proofs.lemmas.Option.{same_Some}
use Rattle.spec_parts.specs.Contexts.{context_at, is_live}
use Rattle.spec_parts.specs.Groups.{group_at}
use Rattle.spec_parts.specs.Switches.{switch_at}
use Rattle.spec_machine.specs.Domain.{Role, OfBody, OfJob, OfSwitch, OfGroup, OfWriter, Fiber, DomainState, fiber_at, has_ended}
use Rattle.law_domain.specs.Sound.Scopes.{Entered, InContext, InSwitch, InGroup, Nests, ScopeAt, IsEntered, IsUnfinished, base_of, context_in}
use Rattle.law_domain.specs.Sound.SoundStates.{HasAttached, IsScoped, branches_of, is_of_group, own_branches}
use Rattle.law_domain.proofs.Sound.ByNumber.{same_or_other}
use Rattle.law_domain.proofs.Sound.Counting.{count_same}
use Rattle.law_domain.proofs.Sound.Lists.{none_stands}

-- the fibers live and have the roles that they had
pub record SamePeople (l k : DomainState) : Type 0 where
  pub ended : (h : ℕ) → has_ended (fiber_at k.fibers h) ≡ has_ended (fiber_at l.fibers h)
  pub role : (h : ℕ) → (fiber_at k.fibers h).role ≡ (fiber_at l.fibers h).role

pub same_branches : (l k : DomainState) → SamePeople l k → (n : ℕ) → branches_of n k.fibers ≡ branches_of n l.fibers
same_branches l k same n = count_same (λ (fiber : Fiber). not (has_ended fiber) && is_of_group n fiber.role) refl k.fibers l.fibers
    (λ h. ap₂ (λ (b : Bool) (role : Role). not b && is_of_group n role) (same.ended h) (same.role h))

-- a switch is unfinished where somebody lives who was forked onto it
pub forked_unfinished : (l : DomainState) → HasAttached l → (n : ℕ) (daemon : Bool) (h : ℕ) → (fiber_at l.fibers h).role ≡ OfSwitch n daemon → has_ended (fiber_at l.fibers h) ≡ false
    → (switch_at l.switches n).finished ≡ false
forked_unfinished l attaching n daemon h role lives = by_finished (switch_at l.switches n).finished refl where
  by_finished : (finished : Bool) → (switch_at l.switches n).finished ≡ finished → (switch_at l.switches n).finished ≡ false
  by_finished true is = absurd (none_stands h (subst (λ xs. Contains xs h) (attaching.emptied n daemon is) (attaching.attaches n daemon h role lives)))
  by_finished false is = is

-- what is there once it has gone into this scope, whose context is this one
pub record GoesInto (old new : ℕ → List Entered) (l k : DomainState) (g : ℕ) (scope : Entered) (c : ℕ) : Type 0 where
  pub lives : has_ended (fiber_at l.fibers g) ≡ false
  pub people : SamePeople l k
  pub contexts : (h : ℕ) → h ≢ g → (fiber_at k.fibers h).context ≡ (fiber_at l.fibers h).context
  pub inner : (fiber_at k.fibers g).context ≡ c
  pub runs_in : context_in k scope ≡ c
  pub has : new g ≡ scope ∷ old g
  pub others : (h : ℕ) → h ≢ g → new h ≡ old h
  pub low : 0 < c
  pub unused : is_live l.contexts c ≡ false
  pub used : is_live k.contexts c ≡ true
  pub parent : (context_at k.contexts c).parent ≡ Some (fiber_at l.fibers g).context
  pub parents : (x : ℕ) → x ≢ c → (context_at k.contexts x).parent ≡ (context_at l.contexts x).parent
  pub live : (x : ℕ) → x ≢ c → is_live k.contexts x ≡ is_live l.contexts x
  -- a switch is as it was, or it is the one that it has gone into
  pub switches : (n : ℕ) → (((switch_at k.switches n).context ≡ (switch_at l.switches n).context) × ((switch_at k.switches n).finished ≡ (switch_at l.switches n).finished))
      ⊎ (((switch_at l.switches n).finished ≡ true) × (scope ≡ InSwitch n))
  -- and so is a group
  pub groups : (n : ℕ) → (((group_at k.groups n).context ≡ (group_at l.groups n).context) × ((group_at k.groups n).left ≡ (group_at l.groups n).left)) ⊎ ((group_at l.groups n).context ≡ 0)
  pub unfinished : IsUnfinished k scope
  pub left : (n : ℕ) (own : Bool) → scope ≡ InGroup n own → (group_at k.groups n).left ≡ branches_of n k.fibers + own_branches own

module _ (old new : ℕ → List Entered) (l k : DomainState) (g : ℕ) (scope : Entered) (c : ℕ)
    (scoped : IsScoped old l) (attaching : HasAttached l) (into : GoesInto old new l k g scope c) where
  lived : (h : ℕ) → has_ended (fiber_at k.fibers h) ≡ false → has_ended (fiber_at l.fibers h) ≡ false
  lived h lives = sym (into.people.ended h) ∙ lives

  lives_on : (h : ℕ) → has_ended (fiber_at l.fibers h) ≡ false → has_ended (fiber_at k.fibers h) ≡ false
  lives_on h lives = into.people.ended h ∙ lives

  -- ## What was there

  unfinished_switch : (n : ℕ) → (switch_at l.switches n).finished ≡ false
      → ((switch_at k.switches n).context ≡ (switch_at l.switches n).context) × ((switch_at k.switches n).finished ≡ (switch_at l.switches n).finished)
  unfinished_switch n still = elim (into.switches n) as (λ _. ((switch_at k.switches n).context ≡ (switch_at l.switches n).context) × ((switch_at k.switches n).finished ≡ (switch_at l.switches n).finished)) [
    | inl same ↦ same
    | inr it ↦ absurd (true≢false (sym it.0 ∙ still))
  ]

  entered_group : (n : ℕ) → 0 < (group_at l.groups n).context
      → ((group_at k.groups n).context ≡ (group_at l.groups n).context) × ((group_at k.groups n).left ≡ (group_at l.groups n).left)
  entered_group n low = elim (into.groups n) as (λ _. ((group_at k.groups n).context ≡ (group_at l.groups n).context) × ((group_at k.groups n).left ≡ (group_at l.groups n).left)) [
    | inl same ↦ same
    | inr none ↦ absurd (omega (arith, low, none))
  ]

  same_context : (it : Entered) → IsEntered l it → context_in k it ≡ context_in l it
  same_context (InContext x) was = refl
  same_context (InSwitch n) was = (unfinished_switch n was.unfinished).0
  same_context (InGroup n own) was = (entered_group n was.low).0

  same_base : (h : ℕ) → has_ended (fiber_at l.fibers h) ≡ false → (role : Role) → (fiber_at l.fibers h).role ≡ role → base_of l role ≡ base_of k role
  same_base h lives OfBody is = refl
  same_base h lives (OfJob executor number) is = refl
  same_base h lives (OfSwitch n daemon) is = sym (unfinished_switch n (forked_unfinished l attaching n daemon h is lives)).0
  same_base h lives (OfGroup n) is = (
      let it = scoped.gathered n h is lives in
      sym (entered_group n (scoped.entered (InGroup n it.0) it.1 it.2 it.3).low).0)
  same_base h lives (OfWriter writer) is = refl

  -- a context that is live isn't the new one
  is_older : (x : ℕ) → is_live l.contexts x ≡ true → x ≢ c
  is_older x live e = true≢false (sym live ∙ (ap (is_live l.contexts) e ∙ into.unused))

  entered_on : (it : Entered) → IsEntered l it → IsEntered k it
  entered_on it was = record {
    low = subst (λ (x : ℕ). 0 < x) (sym (same_context it was)) was.low;
    live = ap (is_live k.contexts) (same_context it was) ∙ (into.live (context_in l it) (is_older _ was.live) ∙ was.live);
    unfinished = unfinished_on it was;
  } where
    unfinished_on : (it : Entered) → IsEntered l it → IsUnfinished k it
    unfinished_on (InContext x) was = tt
    unfinished_on (InSwitch n) was = (unfinished_switch n was.unfinished).1 ∙ was.unfinished
    unfinished_on (InGroup n own) was = tt

  -- scopes that a fiber was in lie in one another as they did
  nests_on : (h : ℕ) → has_ended (fiber_at l.fibers h) ≡ false → (held : List Entered) → ((i : ℕ) (it : Entered) → slice_get held i ≡ Some it → IsEntered l it)
      → (base context : ℕ) → Nests l base held context → Nests k base held context
  nests_on h lives [] all base context it = it
  nests_on h lives (one ∷ held) all base context it = (
      let was : IsEntered l one = all 0 one refl in
      let live : is_live l.contexts context ≡ true = ap (is_live l.contexts) (sym it.0) ∙ was.live in (
        same_context one was ∙ it.0,
        it.1,
        into.parents context (is_older context live) ∙ it.2,
        nests_on h lives held (λ i. all (suc i)) base it.1 it.3,
      ))

  nests_was : (h : ℕ) → has_ended (fiber_at l.fibers h) ≡ false → Nests k (base_of k (fiber_at k.fibers h).role) (old h) (fiber_at l.fibers h).context
  nests_was h lives =
      subst (λ (base : ℕ). Nests k base (old h) (fiber_at l.fibers h).context)
      (same_base h lives (fiber_at l.fibers h).role refl ∙ ap (base_of k) (sym (into.people.role h)))
      (nests_on h lives (old h) (λ i it there. scoped.entered it h i (record { lives = lives; there = there })) _ _ (scoped.nests h lives))

  nests_there : (h : ℕ) → h ≢ g → has_ended (fiber_at l.fibers h) ≡ false → Nests k (base_of k (fiber_at k.fibers h).role) (new h) (fiber_at k.fibers h).context
  nests_there h other lives =
      subst (λ xs. Nests k (base_of k (fiber_at k.fibers h).role) xs (fiber_at k.fibers h).context) (sym (into.others h other))
      (subst (λ (x : ℕ). Nests k (base_of k (fiber_at k.fibers h).role) (old h) x) (sym (into.contexts h other)) (nests_was h lives))

  nests_here : Nests k (base_of k (fiber_at k.fibers g).role) (new g) (fiber_at k.fibers g).context
  nests_here =
      subst (λ xs. Nests k (base_of k (fiber_at k.fibers g).role) xs (fiber_at k.fibers g).context) (sym into.has)
      (into.runs_in ∙ sym into.inner, (fiber_at l.fibers g).context, ap (λ (x : ℕ). (context_at k.contexts x).parent) into.inner ∙ into.parent, nests_was g into.lives)

  nests_then : (h : ℕ) → has_ended (fiber_at k.fibers h) ≡ false → Nests k (base_of k (fiber_at k.fibers h).role) (new h) (fiber_at k.fibers h).context
  nests_then h lives = elim (same_or_other h g) as (λ _. Nests k (base_of k (fiber_at k.fibers h).role) (new h) (fiber_at k.fibers h).context) [
    | inl e ↦ subst (λ (m : ℕ). Nests k (base_of k (fiber_at k.fibers m).role) (new m) (fiber_at k.fibers m).context) (sym e) nests_here
    | inr other ↦ nests_there h other (lived h lives)
  ]

  -- ## Where scopes are

  -- the new one; one of the fiber that went in; or one of another fiber
  data WasAt (it : Entered) (h i : ℕ) : Type 0 where
    IsNewest : it ≡ scope → h ≡ g → i ≡ 0 → WasAt it h i
    Deeper : (j : ℕ) → h ≡ g → i ≡ suc j → ScopeAt old l it h j → WasAt it h i
    Elsewhere : h ≢ g → ScopeAt old l it h i → WasAt it h i

  was_deeper : (it : Entered) (h i : ℕ) → h ≡ g → has_ended (fiber_at l.fibers h) ≡ false → slice_get (scope ∷ old h) i ≡ Some it → WasAt it h i
  was_deeper it h zero e lives there = IsNewest (sym (same_Some _ _ there)) e refl
  was_deeper it h (suc j) e lives there = Deeper j e refl (record { lives = lives; there = there })

  held_by : (h : ℕ) → h ≡ g → new h ≡ scope ∷ old h
  held_by h e = subst (λ (m : ℕ). new m ≡ scope ∷ old m) (sym e) into.has

  was_at : (it : Entered) (h i : ℕ) → ScopeAt new k it h i → WasAt it h i
  was_at it h i at = elim (same_or_other h g) as (λ _. WasAt it h i) [
    | inl e ↦ was_deeper it h i e (lived h at.lives) (ap (λ xs. slice_get xs i) (sym (held_by h e)) ∙ at.there)
    | inr other ↦ Elsewhere other (record { lives = lived h at.lives; there = ap (λ xs. slice_get xs i) (sym (into.others h other)) ∙ at.there })
  ]

  newest_at : ScopeAt new k scope g 0
  newest_at = record { lives = lives_on g into.lives; there = ap (λ xs. slice_get xs 0) into.has }

  is_at : (it : Entered) (h i : ℕ) → ScopeAt old l it h i → (m : ℕ) × (j : ℕ) × ScopeAt new k it m j
  is_at it h i at = elim (same_or_other h g) as (λ _. (m : ℕ) × (j : ℕ) × ScopeAt new k it m j) [
    | inl e ↦ (h, suc i, record { lives = lives_on h at.lives; there = ap (λ xs. slice_get xs (suc i)) (held_by h e) ∙ at.there })
    | inr other ↦ (h, i, record { lives = lives_on h at.lives; there = ap (λ xs. slice_get xs i) (into.others h other) ∙ at.there })
  ]

  -- the context of a scope that was entered isn't the new one
  not_newest : (it : Entered) (h i : ℕ) → ScopeAt old l it h i → context_in k it ≡ c → ⊥
  not_newest it h i at same = (
      let was = scoped.entered it h i at in
      is_older (context_in l it) was.live (sym (same_context it was) ∙ same))

  newest_context : (it : Entered) → it ≡ scope → context_in k it ≡ c
  newest_context it e = ap (context_in k) e ∙ into.runs_in

  both_old : (one other : Entered) (g h i j : ℕ) → ScopeAt old l one g i → ScopeAt old l other h j → context_in k one ≡ context_in k other → (g ≡ h) × (i ≡ j)
  both_old one other g h i j it that same =
      scoped.once one other g h i j it that
      (sym (same_context one (scoped.entered one g i it)) ∙ (same ∙ same_context other (scoped.entered other h j that)))

  once : (one other : Entered) (h m i j : ℕ) → WasAt one h i → WasAt other m j → context_in k one ≡ context_in k other → (h ≡ m) × (i ≡ j)
  once one other h m i j (IsNewest is a p) (IsNewest that b q) same = (a ∙ sym b, p ∙ sym q)
  once one other h m i j (IsNewest is a p) (Deeper d b q at) same = absurd (not_newest other m d at (sym same ∙ newest_context one is))
  once one other h m i j (IsNewest is a p) (Elsewhere away at) same = absurd (not_newest other m j at (sym same ∙ newest_context one is))
  once one other h m i j (Deeper d a p at) (IsNewest that b q) same = absurd (not_newest one h d at (same ∙ newest_context other that))
  once one other h m i j (Deeper d a p at) (Deeper e b q on) same = (let it = both_old one other h m d e at on same in (it.0, p ∙ (ap suc it.1 ∙ sym q)))
  once one other h m i j (Deeper d a p at) (Elsewhere away on) same = (let it = both_old one other h m d j at on same in absurd (away (sym it.0 ∙ a)))
  once one other h m i j (Elsewhere away at) (IsNewest that b q) same = absurd (not_newest one h i at (same ∙ newest_context other that))
  once one other h m i j (Elsewhere away at) (Deeper e b q on) same = (let it = both_old one other h m i e at on same in absurd (away (it.0 ∙ b)))
  once one other h m i j (Elsewhere away at) (Elsewhere far on) same = both_old one other h m i j at on same

  newest_entered : IsEntered k scope
  newest_entered = record {
    low = subst (λ (x : ℕ). 0 < x) (sym into.runs_in) into.low;
    live = ap (is_live k.contexts) into.runs_in ∙ into.used;
    unfinished = into.unfinished;
  }

  entered_by : (it : Entered) (h i : ℕ) → WasAt it h i → IsEntered k it
  entered_by it h i (IsNewest is a p) = subst (IsEntered k) (sym is) newest_entered
  entered_by it h i (Deeper j a p at) = entered_on it (scoped.entered it h j at)
  entered_by it h i (Elsewhere away at) = entered_on it (scoped.entered it h i at)

  left_on : (n : ℕ) (own : Bool) (h i : ℕ) → ScopeAt old l (InGroup n own) h i → (group_at k.groups n).left ≡ branches_of n k.fibers + own_branches own
  left_on n own h i at =
      (entered_group n (scoped.entered (InGroup n own) h i at).low).1
      ∙ (scoped.left n own h i at ∙ ap (λ (count : ℕ). count + own_branches own) (sym (same_branches l k into.people n)))

  left_by : (n : ℕ) (own : Bool) (h i : ℕ) → WasAt (InGroup n own) h i → (group_at k.groups n).left ≡ branches_of n k.fibers + own_branches own
  left_by n own h i (IsNewest is a p) = into.left n own (sym is)
  left_by n own h i (Deeper j a p at) = left_on n own h j at
  left_by n own h i (Elsewhere away at) = left_on n own h i at

  opened_then : (n : ℕ) → (switch_at k.switches n).finished ≡ false → (h : ℕ) × (i : ℕ) × ScopeAt new k (InSwitch n) h i
  opened_then n unclosed = elim (into.switches n) as (λ _. (h : ℕ) × (i : ℕ) × ScopeAt new k (InSwitch n) h i) [
    | inl same ↦ (let it = scoped.opened n (sym same.1 ∙ unclosed) in is_at (InSwitch n) it.0 it.1 it.2)
    | inr it ↦ (g, 0, subst (λ (s : Entered). ScopeAt new k s g 0) it.1 newest_at)
  ]

  owned_then : (x : ℕ) → is_live k.contexts x ≡ true → (x ≡ 0) ⊎ ((it : Entered) × (h : ℕ) × (i : ℕ) × ScopeAt new k it h i × (context_in k it ≡ x))
  owned_then x live = elim (same_or_other x c) as (λ _. (x ≡ 0) ⊎ ((it : Entered) × (h : ℕ) × (i : ℕ) × ScopeAt new k it h i × (context_in k it ≡ x))) [
    | inl e ↦ inr (scope, g, 0, newest_at, into.runs_in ∙ sym e)
    | inr other ↦ elim (scoped.owned x (sym (into.live x other) ∙ live)) as (λ _. (x ≡ 0) ⊎ ((it : Entered) × (h : ℕ) × (i : ℕ) × ScopeAt new k it h i × (context_in k it ≡ x))) [
      | inl e ↦ inl e
      | inr it ↦ (
          let on = is_at it.0 it.1 it.2 it.3 in
          inr (it.0, on.0, on.1, on.2, same_context it.0 (scoped.entered it.0 it.1 it.2 it.3) ∙ it.4))
    ]
  ]

  root_same : 0 ≢ c
  root_same e = (let low = into.low in omega (arith, e, low))

  pub goes_into : IsScoped new k
  goes_into = record {
    nests = nests_then;
    entered = λ it h i at. entered_by it h i (was_at it h i at);
    once = λ one other h m i j it that same. once one other h m i j (was_at one h i it) (was_at other m j that) same;
    opened = opened_then;
    gathered = λ n h role lives. (
        let it = scoped.gathered n h (sym (into.people.role h) ∙ role) (lived h lives) in
        let on = is_at (InGroup n it.0) it.1 it.2 it.3 in
        (it.0, on.0, on.1, on.2));
    left = λ n own h i at. left_by n own h i (was_at (InGroup n own) h i at);
    owned = owned_then;
    root = into.parents 0 root_same ∙ scoped.root;
    body = λ live. lives_on 0 (scoped.body (sym (into.live 0 root_same) ∙ live));
    rooted = λ lives. into.live 0 root_same ∙ scoped.rooted (lived 0 lives);
  }
