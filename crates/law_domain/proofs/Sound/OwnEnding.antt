-- The own branch of the fiber that moves has ended: one is left less, and the fiber waits for the others or goes out.
use Rattle.std.proofs.Common.{◌≡◌, ◌≢◌, ◌⊎◌, inl, inr, ℕ, zero, suc, ◌+◌, ◌<◌, Bool, true, false, List, [], ◌∷◌, Some, refl, ap, ◌∙◌, sym, subst, arith}
use Rattle.std.specs.Prelude.{slice_get}
use Rattle.std.proofs.lemmas.Option.{same_Some}
use Rattle.spec_parts.specs.Contexts.{context_at, is_live}
use Rattle.spec_parts.specs.Groups.{group_at}
use Rattle.spec_parts.specs.Switches.{switch_at}
use Rattle.spec_machine.specs.Domain.{Role, OfBody, OfJob, OfSwitch, OfGroup, OfWriter, Fiber, DomainState, fiber_at, has_ended}
use Rattle.law_domain.specs.Sound.Scopes.{Entered, InContext, InSwitch, InGroup, Nests, ScopeAt, IsEntered, IsUnfinished, base_of, context_in}
use Rattle.law_domain.specs.Sound.SoundStates.{IsScoped, branches_of, own_branches}
use Rattle.law_domain.proofs.Sound.ByNumber.{same_or_other}
use Rattle.law_domain.proofs.Sound.Scoping.{group_in, own_in, switch_no_group}

-- what is there then
pub record OwnEnds (old new : ℕ → List Entered) (l k : DomainState) (g n : ℕ) (behind : List Entered) : Type 0 where
  pub lives : has_ended (fiber_at l.fibers g) ≡ false
  pub fibers : k.fibers ≡ l.fibers
  pub contexts : k.contexts ≡ l.contexts
  pub switches : k.switches ≡ l.switches
  pub had : old g ≡ InGroup n true ∷ behind
  pub has : new g ≡ InGroup n false ∷ behind
  pub others : (h : ℕ) → h ≢ g → new h ≡ old h
  pub group_contexts : (m : ℕ) → (group_at k.groups m).context ≡ (group_at l.groups m).context
  pub left : (group_at k.groups n).left + 1 ≡ (group_at l.groups n).left
  pub left_elsewhere : (m : ℕ) → m ≢ n → (group_at k.groups m).left ≡ (group_at l.groups m).left

module _ (old new : ℕ → List Entered) (l k : DomainState) (g n : ℕ) (behind : List Entered) (scoped : IsScoped old l) (one : OwnEnds old new l k g n behind) where
  same_fiber : (h : ℕ) → fiber_at k.fibers h ≡ fiber_at l.fibers h
  same_fiber h = ap (λ fs. fiber_at fs h) one.fibers

  same_context : (it : Entered) → context_in k it ≡ context_in l it
  same_context (InContext x) = refl
  same_context (InSwitch m) = ap (λ ss. (switch_at ss m).context) one.switches
  same_context (InGroup m own) = one.group_contexts m

  same_base : (role : Role) → base_of l role ≡ base_of k role
  same_base OfBody = refl
  same_base (OfJob executor number) = refl
  same_base (OfSwitch m daemon) = ap (λ ss. (switch_at ss m).context) (sym one.switches)
  same_base (OfGroup m) = sym (one.group_contexts m)
  same_base (OfWriter writer) = refl

  nests_on : (base : ℕ) (held : List Entered) (context : ℕ) → Nests l base held context → Nests k base held context
  nests_on base [] context it = it
  nests_on base (scope ∷ held) context it = (same_context scope ∙ it.0, it.1, ap (λ cs. (context_at cs context).parent) one.contexts ∙ it.2, nests_on base held it.1 it.3)

  -- ## Where scopes are

  -- the one whose own branch has ended, or one that was there
  data WasAt (it : Entered) (h i : ℕ) : Type 0 where
    IsOwn : it ≡ InGroup n false → h ≡ g → i ≡ 0 → WasAt it h i
    IsSame : ScopeAt old l it h i → ((h ≡ g) × (i ≡ 0) → ⊥) → WasAt it h i

  here : ScopeAt old l (InGroup n true) g 0
  here = record { lives = one.lives; there = ap (λ xs. slice_get xs 0) one.had }

  here_then : ScopeAt new k (InGroup n false) g 0
  here_then = record { lives = ap has_ended (same_fiber g) ∙ one.lives; there = ap (λ xs. slice_get xs 0) one.has }

  at_caller : (it : Entered) (i : ℕ) → slice_get (InGroup n false ∷ behind) i ≡ Some it → WasAt it g i
  at_caller it zero there = IsOwn (sym (same_Some _ _ there)) refl refl
  at_caller it (suc i) there = IsSame (record { lives = one.lives; there = ap (λ xs. slice_get xs (suc i)) one.had ∙ there }) (λ e. (let places = e.1 in omega (arith, places)))

  was_at : (it : Entered) (h i : ℕ) → ScopeAt new k it h i → WasAt it h i
  was_at it h i at = elim (same_or_other h g) as (λ _. WasAt it h i) [
    | inl e ↦ subst (λ (m : ℕ). WasAt it m i) (sym e)
        (at_caller it i (ap (λ xs. slice_get xs i) (sym one.has) ∙ subst (λ (m : ℕ). slice_get (new m) i ≡ Some it) e at.there))
    | inr other ↦ IsSame
        (record { lives = ap has_ended (sym (same_fiber h)) ∙ at.lives; there = ap (λ xs. slice_get xs i) (sym (one.others h other)) ∙ at.there }) (λ e. other e.0)
  ]

  from_caller : (it : Entered) (i : ℕ) → slice_get (InGroup n true ∷ behind) i ≡ Some it → ScopeAt new k it g i ⊎ (it ≡ InGroup n true)
  from_caller it zero there = inr (sym (same_Some _ _ there))
  from_caller it (suc i) there = inl (record { lives = ap has_ended (same_fiber g) ∙ one.lives; there = ap (λ xs. slice_get xs (suc i)) one.has ∙ there })

  is_at : (it : Entered) (h i : ℕ) → ScopeAt old l it h i → ScopeAt new k it h i ⊎ (it ≡ InGroup n true)
  is_at it h i at = elim (same_or_other h g) as (λ _. ScopeAt new k it h i ⊎ (it ≡ InGroup n true)) [
    | inl e ↦ subst (λ (m : ℕ). ScopeAt new k it m i ⊎ (it ≡ InGroup n true)) (sym e)
        (from_caller it i (ap (λ xs. slice_get xs i) (sym one.had) ∙ subst (λ (m : ℕ). slice_get (old m) i ≡ Some it) e at.there))
    | inr other ↦ inl (record { lives = ap has_ended (same_fiber h) ∙ at.lives; there = ap (λ xs. slice_get xs i) (one.others h other) ∙ at.there })
  ]

  -- as if its own branch still ran
  before : (it : Entered) (h i : ℕ) → WasAt it h i → (was : Entered) × ScopeAt old l was h i × (context_in l was ≡ context_in k it)
  before it h i (IsOwn e a p) = (
    InGroup n true,
    subst (λ (m : ℕ). ScopeAt old l (InGroup n true) m i) (sym a) (subst (λ (j : ℕ). ScopeAt old l (InGroup n true) g j) (sym p) here),
    sym (one.group_contexts n) ∙ ap (context_in k) (sym e),
  )
  before it h i (IsSame at away) = (it, at, sym (same_context it))

  nests_was : (h : ℕ) → has_ended (fiber_at l.fibers h) ≡ false → Nests k (base_of k (fiber_at l.fibers h).role) (old h) (fiber_at l.fibers h).context
  nests_was h lives = subst (λ (base : ℕ). Nests k base (old h) (fiber_at l.fibers h).context) (same_base (fiber_at l.fibers h).role) (nests_on _ (old h) _ (scoped.nests h lives))

  -- the context of a group is the same, whether the own branch runs or not
  nests_caller : Nests k (base_of k (fiber_at l.fibers g).role) (new g) (fiber_at l.fibers g).context
  nests_caller = (
      let was : Nests k (base_of k (fiber_at l.fibers g).role) (InGroup n true ∷ behind) (fiber_at l.fibers g).context =
      subst (λ xs. Nests k (base_of k (fiber_at l.fibers g).role) xs (fiber_at l.fibers g).context) one.had (nests_was g one.lives) in
      subst (λ xs. Nests k (base_of k (fiber_at l.fibers g).role) xs (fiber_at l.fibers g).context) (sym one.has) was)

  nests_by : (h : ℕ) → has_ended (fiber_at l.fibers h) ≡ false → Nests k (base_of k (fiber_at l.fibers h).role) (new h) (fiber_at l.fibers h).context
  nests_by h lives = elim (same_or_other h g) as (λ _. Nests k (base_of k (fiber_at l.fibers h).role) (new h) (fiber_at l.fibers h).context) [
    | inl e ↦ subst (λ (m : ℕ). Nests k (base_of k (fiber_at l.fibers m).role) (new m) (fiber_at l.fibers m).context) (sym e) nests_caller
    | inr other ↦ subst (λ xs. Nests k (base_of k (fiber_at l.fibers h).role) xs (fiber_at l.fibers h).context) (sym (one.others h other)) (nests_was h lives)
  ]

  nests_then : (h : ℕ) → has_ended (fiber_at k.fibers h) ≡ false → Nests k (base_of k (fiber_at k.fibers h).role) (new h) (fiber_at k.fibers h).context
  nests_then h lives = subst (λ (f : Fiber). Nests k (base_of k f.role) (new h) f.context) (sym (same_fiber h)) (nests_by h (ap has_ended (sym (same_fiber h)) ∙ lives))

  unfinished_on : (it : Entered) → IsUnfinished l it → IsUnfinished k it
  unfinished_on (InContext x) is = tt
  unfinished_on (InSwitch m) is = ap (λ ss. (switch_at ss m).finished) one.switches ∙ is
  unfinished_on (InGroup m own) is = tt

  unfinished_by : (it : Entered) (h i : ℕ) → WasAt it h i → IsUnfinished k it
  unfinished_by it h i (IsOwn e a p) = subst (IsUnfinished k) (sym e) tt
  unfinished_by it h i (IsSame at away) = unfinished_on it (scoped.entered it h i at).unfinished

  entered_then : (it : Entered) (h i : ℕ) → WasAt it h i → IsEntered k it
  entered_then it h i was = (
      let prior = before it h i was in
      let entered = scoped.entered prior.0 h i prior.1 in
      record {
        low = subst (λ (x : ℕ). 0 < x) prior.2 entered.low;
        live = ap (λ cs. is_live cs (context_in k it)) one.contexts ∙ (ap (is_live l.contexts) (sym prior.2) ∙ entered.live);
        unfinished = unfinished_by it h i was;
      })

  once_then : (it other : Entered) (h m i j : ℕ) → WasAt it h i → WasAt other m j → context_in k it ≡ context_in k other → (h ≡ m) × (i ≡ j)
  once_then it other h m i j this that same = (
      let a = before it h i this in
      let b = before other m j that in
      scoped.once a.0 b.0 h m i j a.1 b.1 (a.2 ∙ (same ∙ sym b.2)))

  opened_then : (m : ℕ) → (switch_at k.switches m).finished ≡ false → (h : ℕ) × (i : ℕ) × ScopeAt new k (InSwitch m) h i
  opened_then m unclosed = (
      let it = scoped.opened m (ap (λ ss. (switch_at ss m).finished) (sym one.switches) ∙ unclosed) in
      elim (is_at (InSwitch m) it.0 it.1 it.2) as (λ _. (h : ℕ) × (i : ℕ) × ScopeAt new k (InSwitch m) h i) [
        | inl on ↦ (it.0, it.1, on)
        | inr e ↦ absurd (switch_no_group m n true e)
      ])

  gathered_then : (m h : ℕ) → (fiber_at k.fibers h).role ≡ OfGroup m → has_ended (fiber_at k.fibers h) ≡ false → (own : Bool) × (j : ℕ) × (i : ℕ) × ScopeAt new k (InGroup m own) j i
  gathered_then m h role lives = (
      let it = scoped.gathered m h (ap (λ (f : Fiber). f.role) (sym (same_fiber h)) ∙ role) (ap has_ended (sym (same_fiber h)) ∙ lives) in
      elim (is_at (InGroup m it.0) it.1 it.2 it.3) as (λ _. (own : Bool) × (j : ℕ) × (i : ℕ) × ScopeAt new k (InGroup m own) j i) [
        | inl on ↦ (it.0, it.1, it.2, on)
        | inr e ↦ (false, g, 0, subst (λ (x : ℕ). ScopeAt new k (InGroup x false) g 0) (sym (ap group_in e)) here_then)
      ])

  same_branches : (m : ℕ) → branches_of m k.fibers ≡ branches_of m l.fibers
  same_branches m = ap (branches_of m) one.fibers

  left_here : (group_at k.groups n).left ≡ branches_of n k.fibers + own_branches false
  left_here = (
      let was : (group_at l.groups n).left ≡ branches_of n l.fibers + 1 = scoped.left n true g 0 here in
      let less = one.left in
      let same = same_branches n in
      omega (arith, was, less, same))

  left_then : (m : ℕ) (own : Bool) (h i : ℕ) → WasAt (InGroup m own) h i → (group_at k.groups m).left ≡ branches_of m k.fibers + own_branches own
  left_then m own h i (IsOwn e a p) =
      subst (λ (it : Entered). (group_at k.groups (group_in it)).left ≡ branches_of (group_in it) k.fibers + own_branches (own_in it)) (sym e) left_here
  left_then m own h i (IsSame at away) = (
      let other : m ≢ n = λ e. away (scoped.once (InGroup m own) (InGroup n true) h g i 0 at here (ap (λ (x : ℕ). (group_at l.groups x).context) e)) in
      one.left_elsewhere m other ∙ (scoped.left m own h i at ∙ ap (λ (count : ℕ). count + own_branches own) (sym (same_branches m))))

  owned_then : (x : ℕ) → is_live k.contexts x ≡ true → (x ≡ 0) ⊎ ((it : Entered) × (h : ℕ) × (i : ℕ) × ScopeAt new k it h i × (context_in k it ≡ x))
  owned_then x live = elim (scoped.owned x (ap (λ cs. is_live cs x) (sym one.contexts) ∙ live)) as (λ _. (x ≡ 0) ⊎ ((it : Entered) × (h : ℕ) × (i : ℕ) × ScopeAt new k it h i × (context_in k it ≡ x))) [
    | inl e ↦ inl e
    | inr it ↦ elim (is_at it.0 it.1 it.2 it.3) as (λ _. (x ≡ 0) ⊎ ((it : Entered) × (h : ℕ) × (i : ℕ) × ScopeAt new k it h i × (context_in k it ≡ x))) [
      | inl on ↦ inr (it.0, it.1, it.2, on, same_context it.0 ∙ it.4)
      | inr e ↦ inr (InGroup n false, g, 0, here_then, one.group_contexts n ∙ (ap (context_in l) (sym e) ∙ it.4))
    ]
  ]

  pub own_ends : IsScoped new k
  own_ends = record {
    nests = nests_then;
    entered = λ it h i at. entered_then it h i (was_at it h i at);
    once = λ it other h m i j this that same. once_then it other h m i j (was_at it h i this) (was_at other m j that) same;
    opened = opened_then;
    gathered = gathered_then;
    left = λ m own h i at. left_then m own h i (was_at (InGroup m own) h i at);
    owned = owned_then;
    root = ap (λ cs. (context_at cs 0).parent) one.contexts ∙ scoped.root;
    body = λ live. ap has_ended (same_fiber 0) ∙ scoped.body (ap (λ cs. is_live cs 0) (sym one.contexts) ∙ live);
    rooted = λ lives. ap (λ cs. is_live cs 0) one.contexts ∙ scoped.rooted (ap has_ended (sym (same_fiber 0)) ∙ lives);
  }
