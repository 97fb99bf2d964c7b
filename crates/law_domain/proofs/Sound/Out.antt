-- A fiber goes out of its innermost scope, whose context has ended then.
use Rattle.std.proofs.Common.{◌≡◌, ◌≢◌, ◌⊎◌, inl, inr, ℕ, zero, suc, ◌+◌, ◌<◌, Bool, true, false, List, [], ◌∷◌, Some, refl, ap, ◌∙◌, sym, subst, true≢false, arith}
use Rattle.std.specs.Prelude.{slice_get}
use Rattle.std.proofs.lemmas.Option.{same_Some}
use Rattle.spec_parts.specs.Contexts.{context_at, is_live}
use Rattle.spec_parts.specs.Groups.{group_at}
use Rattle.spec_parts.specs.Switches.{switch_at}
use Rattle.spec_machine.specs.Domain.{Role, OfBody, OfJob, OfSwitch, OfGroup, OfWriter, DomainState, fiber_at, has_ended}
use Rattle.law_domain.specs.Sound.Scopes.{Entered, InContext, InSwitch, InGroup, Nests, ScopeAt, IsEntered, IsUnfinished, base_of, context_in}
use Rattle.law_domain.specs.Sound.SoundStates.{IsScoped, branches_of, own_branches}
use Rattle.law_domain.proofs.Sound.ByNumber.{same_or_other}
use Rattle.law_domain.proofs.Sound.Into.{SamePeople, same_branches}

-- what is there then
pub record GoesOut (old new : ℕ → List Entered) (l k : DomainState) (g : ℕ) (scope : Entered) : Type 0 where
  pub lives : has_ended (fiber_at l.fibers g) ≡ false
  pub people : SamePeople l k
  pub contexts : (h : ℕ) → h ≢ g → (fiber_at k.fibers h).context ≡ (fiber_at l.fibers h).context
  pub outer : (parent : ℕ) → (context_at l.contexts (context_in l scope)).parent ≡ Some parent → (fiber_at k.fibers g).context ≡ parent
  pub has : old g ≡ scope ∷ new g
  pub others : (h : ℕ) → h ≢ g → new h ≡ old h
  pub over : is_live k.contexts (context_in l scope) ≡ false
  pub parents : (x : ℕ) → (context_at k.contexts x).parent ≡ (context_at l.contexts x).parent
  pub live : (x : ℕ) → x ≢ context_in l scope → is_live k.contexts x ≡ is_live l.contexts x
  pub switches : (n : ℕ) → (switch_at k.switches n).context ≡ (switch_at l.switches n).context
  -- the switch that it goes out of is finished, and no other
  pub finished : (n : ℕ) → ((switch_at k.switches n).finished ≡ (switch_at l.switches n).finished) ⊎ ((switch_at k.switches n).finished ≡ true)
  pub finishes : (n : ℕ) → scope ≡ InSwitch n → (switch_at k.switches n).finished ≡ true
  pub stays_open : (n : ℕ) → (scope ≡ InSwitch n → ⊥) → (switch_at k.switches n).finished ≡ (switch_at l.switches n).finished
  pub group_contexts : (n : ℕ) → (group_at k.groups n).context ≡ (group_at l.groups n).context
  pub lefts : (n : ℕ) → (group_at k.groups n).left ≡ (group_at l.groups n).left
  -- and no branch is left of the group that it goes out of
  pub nobody : (n : ℕ) (own : Bool) (h : ℕ) → scope ≡ InGroup n own → (fiber_at l.fibers h).role ≡ OfGroup n → has_ended (fiber_at l.fibers h) ≡ false → ⊥

module _ (old new : ℕ → List Entered) (l k : DomainState) (g : ℕ) (scope : Entered)
    (scoped : IsScoped old l) (out : GoesOut old new l k g scope) where
  lived : (h : ℕ) → has_ended (fiber_at k.fibers h) ≡ false → has_ended (fiber_at l.fibers h) ≡ false
  lived h lives = sym (out.people.ended h) ∙ lives

  lives_on : (h : ℕ) → has_ended (fiber_at l.fibers h) ≡ false → has_ended (fiber_at k.fibers h) ≡ false
  lives_on h lives = out.people.ended h ∙ lives

  here : ScopeAt old l scope g 0
  here = record { lives = out.lives; there = ap (λ xs. slice_get xs 0) out.has }

  was_entered : IsEntered l scope
  was_entered = scoped.entered scope g 0 here

  -- ## How scopes lie

  same_context : (it : Entered) → context_in k it ≡ context_in l it
  same_context (InContext x) = refl
  same_context (InSwitch n) = out.switches n
  same_context (InGroup n own) = out.group_contexts n

  same_base : (role : Role) → base_of l role ≡ base_of k role
  same_base OfBody = refl
  same_base (OfJob executor number) = refl
  same_base (OfSwitch n daemon) = sym (out.switches n)
  same_base (OfGroup n) = sym (out.group_contexts n)
  same_base (OfWriter writer) = refl

  nests_on : (base : ℕ) (held : List Entered) (context : ℕ) → Nests l base held context → Nests k base held context
  nests_on base [] context it = it
  nests_on base (one ∷ held) context it = (same_context one ∙ it.0, it.1, out.parents context ∙ it.2, nests_on base held it.1 it.3)

  base_same : (h : ℕ) → base_of l (fiber_at l.fibers h).role ≡ base_of k (fiber_at k.fibers h).role
  base_same h = same_base (fiber_at l.fibers h).role ∙ ap (base_of k) (sym (out.people.role h))

  nests_there : (h : ℕ) → h ≢ g → has_ended (fiber_at l.fibers h) ≡ false → Nests k (base_of k (fiber_at k.fibers h).role) (new h) (fiber_at k.fibers h).context
  nests_there h other lives =
      subst (λ xs. Nests k (base_of k (fiber_at k.fibers h).role) xs (fiber_at k.fibers h).context) (sym (out.others h other))
      (subst (λ (x : ℕ). Nests k (base_of k (fiber_at k.fibers h).role) (old h) x) (sym (out.contexts h other))
      (subst (λ (base : ℕ). Nests k base (old h) (fiber_at l.fibers h).context) (base_same h) (nests_on _ (old h) _ (scoped.nests h lives))))

  nests_here : Nests k (base_of k (fiber_at k.fibers g).role) (new g) (fiber_at k.fibers g).context
  nests_here = (
      let was : Nests l (base_of l (fiber_at l.fibers g).role) (scope ∷ new g) (fiber_at l.fibers g).context =
      subst (λ xs. Nests l (base_of l (fiber_at l.fibers g).role) xs (fiber_at l.fibers g).context) out.has (scoped.nests g out.lives) in
      let up : (context_at l.contexts (context_in l scope)).parent ≡ Some was.1 = ap (λ (x : ℕ). (context_at l.contexts x).parent) was.0 ∙ was.2 in
      subst (λ (x : ℕ). Nests k (base_of k (fiber_at k.fibers g).role) (new g) x) (sym (out.outer was.1 up))
      (subst (λ (base : ℕ). Nests k base (new g) was.1) (base_same g) (nests_on _ (new g) _ was.3)))

  nests_then : (h : ℕ) → has_ended (fiber_at k.fibers h) ≡ false → Nests k (base_of k (fiber_at k.fibers h).role) (new h) (fiber_at k.fibers h).context
  nests_then h lives = elim (same_or_other h g) as (λ _. Nests k (base_of k (fiber_at k.fibers h).role) (new h) (fiber_at k.fibers h).context) [
    | inl e ↦ subst (λ (m : ℕ). Nests k (base_of k (fiber_at k.fibers m).role) (new m) (fiber_at k.fibers m).context) (sym e) nests_here
    | inr other ↦ nests_there h other (lived h lives)
  ]

  -- ## Where scopes are

  data WasAt (it : Entered) (h i : ℕ) : Type 0 where
    Deeper : h ≡ g → ScopeAt old l it h (suc i) → WasAt it h i
    Elsewhere : h ≢ g → ScopeAt old l it h i → WasAt it h i

  held_by : (h : ℕ) → h ≡ g → old h ≡ scope ∷ new h
  held_by h e = subst (λ (m : ℕ). old m ≡ scope ∷ new m) (sym e) out.has

  was_at : (it : Entered) (h i : ℕ) → ScopeAt new k it h i → WasAt it h i
  was_at it h i at = elim (same_or_other h g) as (λ _. WasAt it h i) [
    | inl e ↦ Deeper e (record { lives = lived h at.lives; there = ap (λ xs. slice_get xs (suc i)) (held_by h e) ∙ at.there })
    | inr other ↦ Elsewhere other (record { lives = lived h at.lives; there = ap (λ xs. slice_get xs i) (sym (out.others h other)) ∙ at.there })
  ]

  once : (one other : Entered) (h m i j : ℕ) → WasAt one h i → WasAt other m j → context_in l one ≡ context_in l other → (h ≡ m) × (i ≡ j)
  once one other h m i j (Deeper a it) (Deeper b that) same = (let both = scoped.once one other h m (suc i) (suc j) it that same in let places = both.1 in (both.0, omega (arith, places)))
  once one other h m i j (Deeper a it) (Elsewhere away that) same = (let both = scoped.once one other h m (suc i) j it that same in absurd (away (sym both.0 ∙ a)))
  once one other h m i j (Elsewhere away it) (Deeper b that) same = (let both = scoped.once one other h m i (suc j) it that same in absurd (away (both.0 ∙ b)))
  once one other h m i j (Elsewhere away it) (Elsewhere far that) same = scoped.once one other h m i j it that same

  -- none of them has the context that has ended
  not_over : (it : Entered) (h i : ℕ) → WasAt it h i → context_in l it ≢ context_in l scope
  not_over it h i (Deeper a at) same = (let both = scoped.once it scope h g (suc i) 0 at here same in let places = both.1 in omega (arith, places))
  not_over it h i (Elsewhere away at) same = (let both = scoped.once it scope h g i 0 at here same in away both.0)

  was_entered_by : (it : Entered) (h i : ℕ) → WasAt it h i → IsEntered l it
  was_entered_by it h i (Deeper a at) = scoped.entered it h (suc i) at
  was_entered_by it h i (Elsewhere away at) = scoped.entered it h i at

  entered_on : (it : Entered) → context_in l it ≢ context_in l scope → IsEntered l it → IsEntered k it
  entered_on it other was = record {
    low = subst (λ (x : ℕ). 0 < x) (sym (same_context it)) was.low;
    live = ap (is_live k.contexts) (same_context it) ∙ (out.live (context_in l it) other ∙ was.live);
    unfinished = unfinished_on it other was.unfinished;
  } where
    unfinished_on : (it : Entered) → context_in l it ≢ context_in l scope → IsUnfinished l it → IsUnfinished k it
    unfinished_on (InContext x) other is = tt
    unfinished_on (InSwitch n) other is = out.stays_open n (λ e. other (ap (context_in l) (sym e))) ∙ is
    unfinished_on (InGroup n own) other is = tt

  -- it is still there, or it is the one that was gone out of
  is_at : (it : Entered) (h i : ℕ) → ScopeAt old l it h i → ((m : ℕ) × (j : ℕ) × ScopeAt new k it m j) ⊎ (scope ≡ it)
  is_at it h i at = elim (same_or_other h g) as (λ _. ((m : ℕ) × (j : ℕ) × ScopeAt new k it m j) ⊎ (scope ≡ it)) [
    | inl e ↦ deeper it h i at.lives (ap (λ xs. slice_get xs i) (sym (held_by h e)) ∙ at.there)
    | inr other ↦ inl (h, i, record { lives = lives_on h at.lives; there = ap (λ xs. slice_get xs i) (out.others h other) ∙ at.there })
  ] where
    deeper : (it : Entered) (h i : ℕ) → has_ended (fiber_at l.fibers h) ≡ false → slice_get (scope ∷ new h) i ≡ Some it
        → ((m : ℕ) × (j : ℕ) × ScopeAt new k it m j) ⊎ (scope ≡ it)
    deeper it h zero lives there = inr (same_Some _ _ there)
    deeper it h (suc i) lives there = inl (h, i, record { lives = lives_on h lives; there = there })

  opened_then : (n : ℕ) → (switch_at k.switches n).finished ≡ false → (h : ℕ) × (i : ℕ) × ScopeAt new k (InSwitch n) h i
  opened_then n still = elim (out.finished n) as (λ _. (h : ℕ) × (i : ℕ) × ScopeAt new k (InSwitch n) h i) [
    | inl same ↦ (
        let it = scoped.opened n (sym same ∙ still) in
        elim (is_at (InSwitch n) it.0 it.1 it.2) as (λ _. (h : ℕ) × (i : ℕ) × ScopeAt new k (InSwitch n) h i) [
          | inl on ↦ on
          | inr e ↦ absurd (true≢false (sym (out.finishes n e) ∙ still))
        ])
    | inr over ↦ absurd (true≢false (sym over ∙ still))
  ]

  gathered_then : (n h : ℕ) → (fiber_at k.fibers h).role ≡ OfGroup n → has_ended (fiber_at k.fibers h) ≡ false
      → (own : Bool) × (m : ℕ) × (i : ℕ) × ScopeAt new k (InGroup n own) m i
  gathered_then n h role lives = (
      let was : (fiber_at l.fibers h).role ≡ OfGroup n = sym (out.people.role h) ∙ role in
      let it = scoped.gathered n h was (lived h lives) in
      elim (is_at (InGroup n it.0) it.1 it.2 it.3) as (λ _. (own : Bool) × (m : ℕ) × (i : ℕ) × ScopeAt new k (InGroup n own) m i) [
        | inl on ↦ (it.0, on.0, on.1, on.2)
        | inr e ↦ absurd (out.nobody n it.0 h e was (lived h lives))
      ])

  left_was : (n : ℕ) (own : Bool) (h i : ℕ) → WasAt (InGroup n own) h i → (group_at l.groups n).left ≡ branches_of n l.fibers + own_branches own
  left_was n own h i (Deeper a at) = scoped.left n own h (suc i) at
  left_was n own h i (Elsewhere away at) = scoped.left n own h i at

  owned_then : (x : ℕ) → is_live k.contexts x ≡ true → (x ≡ 0) ⊎ ((it : Entered) × (h : ℕ) × (i : ℕ) × ScopeAt new k it h i × (context_in k it ≡ x))
  owned_then x live = (
      let other : x ≢ context_in l scope = λ e. true≢false (sym live ∙ (ap (is_live k.contexts) e ∙ out.over)) in
      elim (scoped.owned x (sym (out.live x other) ∙ live)) as (λ _. (x ≡ 0) ⊎ ((it : Entered) × (h : ℕ) × (i : ℕ) × ScopeAt new k it h i × (context_in k it ≡ x))) [
        | inl e ↦ inl e
        | inr it ↦ elim (is_at it.0 it.1 it.2 it.3) as (λ _. (x ≡ 0) ⊎ ((it : Entered) × (h : ℕ) × (i : ℕ) × ScopeAt new k it h i × (context_in k it ≡ x))) [
          | inl on ↦ inr (it.0, on.0, on.1, on.2, same_context it.0 ∙ it.4)
          | inr e ↦ absurd (other (sym it.4 ∙ ap (context_in l) (sym e)))
        ]
      ])

  root_live : is_live k.contexts 0 ≡ is_live l.contexts 0
  root_live = (let low = was_entered.low in out.live 0 (λ e. omega (arith, e, low)))

  pub goes_out : IsScoped new k
  goes_out = record {
    nests = nests_then;
    entered = λ it h i at. (let was = was_at it h i at in entered_on it (not_over it h i was) (was_entered_by it h i was));
    once = λ one other h m i j it that same. once one other h m i j (was_at one h i it) (was_at other m j that) (sym (same_context one) ∙ (same ∙ same_context other));
    opened = opened_then;
    gathered = gathered_then;
    left = λ n own h i at.
        out.lefts n ∙ (left_was n own h i (was_at (InGroup n own) h i at) ∙ ap (λ (count : ℕ). count + own_branches own) (sym (same_branches l k out.people n)));
    owned = owned_then;
    root = out.parents 0 ∙ scoped.root;
    body = λ live. lives_on 0 (scoped.body (sym root_live ∙ live));
    rooted = λ lives. root_live ∙ scoped.rooted (lived 0 lives);
  }
