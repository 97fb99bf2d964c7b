-- The scopes stay where they are: of fibers that are in none some may be made and some may end, and no context but that of the body may.
use Rattle.std.proofs.Common.{◌≡◌, ◌⊎◌, inl, inr, ℕ, ◌+◌, ◌<◌, Bool, true, false, List, [], ◌∷◌, refl, ap, ◌∙◌, sym, subst, arith}
use Rattle.std.specs.Prelude.{slice_get}
use Rattle.std.proofs.lemmas.Option.{none-some}
use Rattle.spec_parts.specs.Contexts.{context_at, is_live}
use Rattle.spec_parts.specs.Groups.{group_at}
use Rattle.spec_parts.specs.Switches.{switch_at}
use Rattle.spec_machine.specs.Domain.{Role, OfBody, OfJob, OfSwitch, OfGroup, OfWriter, DomainState, fiber_at, has_ended}
use Rattle.law_domain.specs.Sound.Scopes.{Entered, InContext, InSwitch, InGroup, Nests, ScopeAt, IsEntered, IsUnfinished, base_of, context_in}
use Rattle.law_domain.specs.Sound.SoundStates.{IsScoped, branches_of}
use Rattle.law_domain.proofs.Sound.ByNumber.{same_or_other}

-- ## What is the same

-- a fiber lived, in these scopes
pub record StaysIn (old new : ℕ → List Entered) (l k : DomainState) (h : ℕ) : Type 0 where
  pub lived : has_ended (fiber_at l.fibers h) ≡ false
  pub role : (fiber_at k.fibers h).role ≡ (fiber_at l.fibers h).role
  pub context : (fiber_at k.fibers h).context ≡ (fiber_at l.fibers h).context
  pub has : new h ≡ old h

-- or it was made, and is in none yet
pub record IsNew (new : ℕ → List Entered) (k : DomainState) (h : ℕ) : Type 0 where
  pub none : new h ≡ []
  pub begins : (fiber_at k.fibers h).context ≡ base_of k (fiber_at k.fibers h).role
  pub gathers : (n : ℕ) → (fiber_at k.fibers h).role ≡ OfGroup n → (own : Bool) × (g : ℕ) × (i : ℕ) × ScopeAt new k (InGroup n own) g i

-- who lived lives on
pub record LivesOn (old new : ℕ → List Entered) (k : DomainState) (h : ℕ) : Type 0 where
  pub lives : has_ended (fiber_at k.fibers h) ≡ false
  pub has : new h ≡ old h

pub record ScopesStay (old new : ℕ → List Entered) (l k : DomainState) : Type 0 where
  pub fibers : (h : ℕ) → has_ended (fiber_at k.fibers h) ≡ false → StaysIn old new l k h ⊎ IsNew new k h
  pub stay : (h : ℕ) → has_ended (fiber_at l.fibers h) ≡ false → LivesOn old new k h ⊎ (old h ≡ [])
  pub contexts : (n : ℕ) → (switch_at k.switches n).context ≡ (switch_at l.switches n).context
  pub finished : (n : ℕ) → (switch_at k.switches n).finished ≡ (switch_at l.switches n).finished
  pub group_contexts : (n : ℕ) → (group_at k.groups n).context ≡ (group_at l.groups n).context
  pub lefts : (n : ℕ) → (group_at k.groups n).left + branches_of n l.fibers ≡ (group_at l.groups n).left + branches_of n k.fibers
  pub parents : (c : ℕ) → (context_at k.contexts c).parent ≡ (context_at l.contexts c).parent
  pub live : (c : ℕ) → 0 < c → is_live k.contexts c ≡ is_live l.contexts c
  pub body : is_live k.contexts 0 ≡ true → has_ended (fiber_at k.fibers 0) ≡ false
  pub rooted : has_ended (fiber_at k.fibers 0) ≡ false → is_live k.contexts 0 ≡ true

-- ## That they are sound

module _ (old new : ℕ → List Entered) (l k : DomainState) (scoped : IsScoped old l) (stays : ScopesStay old new l k) where
  same_context : (scope : Entered) → context_in k scope ≡ context_in l scope
  same_context (InContext c) = refl
  same_context (InSwitch n) = stays.contexts n
  same_context (InGroup n own) = stays.group_contexts n

  same_base : (role : Role) → base_of l role ≡ base_of k role
  same_base OfBody = refl
  same_base (OfJob executor number) = refl
  same_base (OfSwitch n daemon) = sym (stays.contexts n)
  same_base (OfGroup n) = sym (stays.group_contexts n)
  same_base (OfWriter writer) = refl

  nests_on : (base : ℕ) (held : List Entered) (context : ℕ) → Nests l base held context → Nests k base held context
  nests_on base [] context it = it
  nests_on base (scope ∷ held) context it = (same_context scope ∙ it.0, it.1, stays.parents context ∙ it.2, nests_on base held it.1 it.3)

  was_at : (scope : Entered) (h i : ℕ) → ScopeAt new k scope h i → ScopeAt old l scope h i
  was_at scope h i it = elim (stays.fibers h it.lives) as (λ _. ScopeAt old l scope h i) [
    | inl on ↦ record { lives = on.lived; there = ap (λ xs. slice_get xs i) (sym on.has) ∙ it.there }
    | inr made ↦ absurd (none-some _ (ap (λ xs. slice_get xs i) (sym made.none) ∙ it.there))
  ]

  is_at : (scope : Entered) (h i : ℕ) → ScopeAt old l scope h i → ScopeAt new k scope h i
  is_at scope h i it = elim (stays.stay h it.lives) as (λ _. ScopeAt new k scope h i) [
    | inl on ↦ record { lives = on.lives; there = ap (λ xs. slice_get xs i) on.has ∙ it.there }
    | inr none ↦ absurd (none-some _ (ap (λ xs. slice_get xs i) (sym none) ∙ it.there))
  ]

  nests_then : (h : ℕ) → has_ended (fiber_at k.fibers h) ≡ false → Nests k (base_of k (fiber_at k.fibers h).role) (new h) (fiber_at k.fibers h).context
  nests_then h lives = elim (stays.fibers h lives) as (λ _. Nests k (base_of k (fiber_at k.fibers h).role) (new h) (fiber_at k.fibers h).context) [
    | inl on ↦
        subst (λ xs. Nests k (base_of k (fiber_at k.fibers h).role) xs (fiber_at k.fibers h).context) (sym on.has)
        (subst (λ (c : ℕ). Nests k (base_of k (fiber_at k.fibers h).role) (old h) c) (sym on.context)
        (subst (λ (base : ℕ). Nests k base (old h) (fiber_at l.fibers h).context) (same_base (fiber_at l.fibers h).role ∙ ap (base_of k) (sym on.role))
        (nests_on _ (old h) _ (scoped.nests h on.lived))))
    | inr made ↦ subst (λ xs. Nests k (base_of k (fiber_at k.fibers h).role) xs (fiber_at k.fibers h).context) (sym made.none) made.begins
  ]

  unfinished_then : (scope : Entered) → IsUnfinished l scope → IsUnfinished k scope
  unfinished_then (InContext c) is = tt
  unfinished_then (InSwitch n) is = stays.finished n ∙ is
  unfinished_then (InGroup n own) is = tt

  entered_then : (scope : Entered) → IsEntered l scope → IsEntered k scope
  entered_then scope was = record {
    low = subst (λ (c : ℕ). 0 < c) (sym (same_context scope)) was.low;
    live = ap (is_live k.contexts) (same_context scope) ∙ (stays.live (context_in l scope) was.low ∙ was.live);
    unfinished = unfinished_then scope was.unfinished;
  }

  owned_then : (c : ℕ) → is_live k.contexts c ≡ true → (c ≡ 0) ⊎ ((scope : Entered) × (g : ℕ) × (i : ℕ) × ScopeAt new k scope g i × (context_in k scope ≡ c))
  owned_then c live = elim (same_or_other c 0) as (λ _. (c ≡ 0) ⊎ ((scope : Entered) × (g : ℕ) × (i : ℕ) × ScopeAt new k scope g i × (context_in k scope ≡ c))) [
    | inl e ↦ inl e
    | inr other ↦ elim (scoped.owned c (sym (stays.live c (omega (arith, other))) ∙ live)) as (λ _. (c ≡ 0) ⊎ ((scope : Entered) × (g : ℕ) × (i : ℕ) × ScopeAt new k scope g i × (context_in k scope ≡ c))) [
      | inl e ↦ inl e
      | inr it ↦ inr (it.0, it.1, it.2, is_at it.0 it.1 it.2 it.3, same_context it.0 ∙ it.4)
    ]
  ]

  gathered_then : (n h : ℕ) → (fiber_at k.fibers h).role ≡ OfGroup n → has_ended (fiber_at k.fibers h) ≡ false
      → (own : Bool) × (g : ℕ) × (i : ℕ) × ScopeAt new k (InGroup n own) g i
  gathered_then n h role lives = elim (stays.fibers h lives) as (λ _. (own : Bool) × (g : ℕ) × (i : ℕ) × ScopeAt new k (InGroup n own) g i) [
    | inl on ↦ (let it = scoped.gathered n h (sym on.role ∙ role) on.lived in (it.0, it.1, it.2, is_at (InGroup n it.0) it.1 it.2 it.3))
    | inr made ↦ made.gathers n role
  ]

  pub scopes_stay : IsScoped new k
  scopes_stay = record {
    nests = nests_then;
    entered = λ scope h i it. entered_then scope (scoped.entered scope h i (was_at scope h i it));
    once = λ one other g h i j it that same.
        scoped.once one other g h i j (was_at one g i it) (was_at other h j that) (sym (same_context one) ∙ (same ∙ same_context other));
    opened = λ n still. (let it = scoped.opened n (sym (stays.finished n) ∙ still) in (it.0, it.1, is_at (InSwitch n) it.0 it.1 it.2));
    gathered = gathered_then;
    left = λ n own g i it. (
        let was = scoped.left n own g i (was_at (InGroup n own) g i it) in
        let count = stays.lefts n in
        omega (arith, was, count));
    owned = owned_then;
    root = stays.parents 0 ∙ scoped.root;
    body = stays.body;
    rooted = stays.rooted;
  }
