-- What follows of a sound domain, by which code may make its calls: which contexts are live, that nothing lives and nobody runs in one that ends, and that there is
-- room in the ready list.
use Rattle.std.proofs.Common.{◌≡◌, ◌≢◌, ◌⊎◌, inl, inr, ℕ, zero, suc, ◌+◌, ◌<◌, ◌≤◌, Bool, true, false, List, [], ◌∷◌, length, Some, refl, ap, ◌∙◌, sym, subst, true≢false, arith}
use Rattle.std.specs.Prelude.{slice_get}
use Rattle.std.specs.List.{Contains}
use Rattle.std.proofs.lemmas.Option.{none-some, same_Some}
use Rattle.spec_parts.specs.Contexts.{context_at, is_live}
use Rattle.spec_parts.specs.Switches.{switch_at}
use Rattle.spec_machine.specs.Domain.{Role, OfBody, OfSwitch, OfGroup, DomainState, never_made, fiber_at, has_ended, live_fibers, most_fibers}
use Rattle.law_domain.specs.Sound.Scopes.{Entered, InSwitch, InGroup, Nests, ScopeAt, base_of, context_in}
use Rattle.law_domain.specs.Sound.SoundStates.{IsBuiltRole, IsSoundWith, attached_to}
use Rattle.law_domain.proofs.Sound.ByNumber as numbers
use Rattle.law_domain.proofs.Sound.Counting.{few_stand}
use Rattle.law_domain.proofs.Sound.Into.{forked_unfinished}
use Rattle.law_domain.proofs.Sound.Lists.{none_stands}
use Rattle.law_domain.proofs.Sound.Midst.{is_ready_lives}
use Rattle.law_domain.proofs.Sound.Scoping.{unfinished_below}

-- ## What lies above a scope

-- the context of the scope around it, or the one that the fiber began in
abbrev LiesIn : DomainState → (base : ℕ) → List Entered → (place : ℕ) → Entered → Type 0
LiesIn l base held i it =
    ((around : Entered) × (slice_get held (suc i) ≡ Some around) × ((context_at l.contexts (context_in l it)).parent ≡ Some (context_in l around)))
    ⊎ ((context_at l.contexts (context_in l it)).parent ≡ Some base)

lies_by : (l : DomainState) (base parent : ℕ) (one it : Entered) (held : List Entered) → Nests l base held parent → (context_at l.contexts (context_in l it)).parent ≡ Some parent
    → LiesIn l base (one ∷ held) 0 it
lies_by l base parent one it [] nests is = inr (is ∙ ap (λ (c : ℕ). Some c) nests)
lies_by l base parent one it (around ∷ held) nests is = inl (around, refl, is ∙ ap (λ (c : ℕ). Some c) (sym nests.0))

lies_in : (l : DomainState) (base : ℕ) (held : List Entered) (context : ℕ) → Nests l base held context → (i : ℕ) (it : Entered) → slice_get held i ≡ Some it → LiesIn l base held i it
lies_in l base [] context nests i it is = absurd (none-some _ is)
lies_in l base (one ∷ held) context nests zero it is = (
    let same : one ≡ it = same_Some _ _ is in
    lies_by l base nests.1 one it held nests.3
    (ap (λ (c : ℕ). (context_at l.contexts c).parent) (ap (context_in l) (sym same) ∙ nests.0) ∙ nests.2))
lies_in l base (one ∷ held) context nests (suc i) it is = lies_in l base held nests.1 nests.3 i it is

module _ (held : ℕ → List Entered) (lines : ℕ) (l : DomainState) (sound : IsSoundWith held lines l) where
  -- ## Live contexts

  -- that of a switch that isn't finished
  pub unfinished_live : (n : ℕ) → (switch_at l.switches n).finished ≡ false → is_live l.contexts (switch_at l.switches n).context ≡ true
  unfinished_live n still = (let it = sound.scoped.opened n still in (sound.scoped.entered (InSwitch n) it.0 it.1 it.2).live)

  -- a switch that a fiber was forked onto isn't finished, and was made
  pub role_unfinished : (n : ℕ) (daemon : Bool) (g : ℕ) → (fiber_at l.fibers g).role ≡ OfSwitch n daemon → has_ended (fiber_at l.fibers g) ≡ false
      → (switch_at l.switches n).finished ≡ false
  role_unfinished = forked_unfinished l sound.attaching

  pub role_below : (n : ℕ) (daemon : Bool) (g : ℕ) → (fiber_at l.fibers g).role ≡ OfSwitch n daemon → has_ended (fiber_at l.fibers g) ≡ false → n < length l.switches
  role_below n daemon g role lives = unfinished_below l.switches n (role_unfinished n daemon g role lives)

  base_live : (g : ℕ) → has_ended (fiber_at l.fibers g) ≡ false → (role : Role) → (fiber_at l.fibers g).role ≡ role → IsBuiltRole g role
      → is_live l.contexts (base_of l role) ≡ true
  base_live g lives OfBody is may = sound.scoped.rooted (subst (λ (h : ℕ). has_ended (fiber_at l.fibers h) ≡ false) may lives)
  base_live g lives (OfSwitch n daemon) is may = unfinished_live n (role_unfinished n daemon g is lives)
  base_live g lives (OfGroup n) is may = (let it = sound.scoped.gathered n g is lives in (sound.scoped.entered (InGroup n it.0) it.1 it.2 it.3).live)
  base_live g lives role is may = absurd may

  live_by : (g : ℕ) → has_ended (fiber_at l.fibers g) ≡ false → (these : List Entered) → held g ≡ these
      → Nests l (base_of l (fiber_at l.fibers g).role) these (fiber_at l.fibers g).context → is_live l.contexts (fiber_at l.fibers g).context ≡ true
  live_by g lives [] are nests = ap (is_live l.contexts) nests ∙ base_live g lives (fiber_at l.fibers g).role refl ((sound.fibers g).role lives)
  live_by g lives (one ∷ these) are nests =
      ap (is_live l.contexts) (sym nests.0) ∙ (sound.scoped.entered one g 0 (record { lives = lives; there = ap (λ xs. slice_get xs 0) are })).live

  -- that of a fiber that lives
  pub context_live : (g : ℕ) → has_ended (fiber_at l.fibers g) ≡ false → is_live l.contexts (fiber_at l.fibers g).context ≡ true
  context_live g lives = live_by g lives (held g) refl (sound.scoped.nests g lives)

  -- ## What lies in a context

  -- nobody is attached who wasn't made
  pub nobody_new : (n : ℕ) (daemon : Bool) → Contains (attached_to daemon (switch_at l.switches n)) (length l.fibers) → ⊥
  nobody_new n daemon there = true≢false (sym (ap has_ended (numbers.past_all never_made l.fibers (length l.fibers) (omega arith))) ∙ (sound.attaching.attached n daemon (length l.fibers) there).1)

  -- no context, where it is neither that of a scope around another one, nor the one that a fiber began in
  childless_by : (c : ℕ) → ((it : Entered) (h i : ℕ) → ScopeAt held l it h (suc i) → context_in l it ≡ c → ⊥)
      → ((h : ℕ) (i : ℕ) (it : Entered) → ScopeAt held l it h i → base_of l (fiber_at l.fibers h).role ≡ c → ⊥)
      → (x : ℕ) → is_live l.contexts x ≡ true → (context_at l.contexts x).parent ≢ Some c
  childless_by c no_next no_base x live is = elim (sound.scoped.owned x live) as (λ _. ⊥) [
    | inl e ↦ none-some _ (sym sound.scoped.root ∙ (ap (λ (y : ℕ). (context_at l.contexts y).parent) (sym e) ∙ is))
    | inr own ↦ (
        let at : ScopeAt held l own.0 own.1 own.2 = own.3 in
        let up : (context_at l.contexts (context_in l own.0)).parent ≡ Some c = ap (λ (y : ℕ). (context_at l.contexts y).parent) own.4 ∙ is in
        elim (lies_in l _ (held own.1) _ (sound.scoped.nests own.1 at.lives) own.2 own.0 at.there) as (λ _. ⊥) [
          | inl next ↦ no_next next.0 own.1 own.2 (record { lives = at.lives; there = next.1 }) (same_Some _ _ (sym next.2 ∙ up))
          | inr base ↦ no_base own.1 own.2 own.0 at (same_Some _ _ (sym base ∙ up))
        ])
  ]

  -- ### Of the innermost scope of a fiber, to which nobody is attached

  module _ (scope : Entered) (g : ℕ) (here : ScopeAt held l scope g 0)
      (nobody : (n : ℕ) → scope ≡ InSwitch n → (daemon : Bool) → attached_to daemon (switch_at l.switches n) ≡ [])
      (no_branch : (n : ℕ) (own : Bool) (h : ℕ) → scope ≡ InGroup n own → (fiber_at l.fibers h).role ≡ OfGroup n → has_ended (fiber_at l.fibers h) ≡ false → ⊥) where
    at_same_place : (it : Entered) (h i : ℕ) → ScopeAt held l it h i → context_in l it ≡ context_in l scope → scope ≡ it
    at_same_place it h i at same = (
        let both = sound.scoped.once it scope h g i 0 at here same in
        same_Some _ _ (sym here.there ∙ (ap (λ (m : ℕ). slice_get (held m) 0) (sym both.0) ∙ (ap (λ (j : ℕ). slice_get (held h) j) (sym both.1) ∙ at.there))))

    no_next : (it : Entered) (h i : ℕ) → ScopeAt held l it h (suc i) → context_in l it ≡ context_in l scope → ⊥
    no_next it h i at same = (let both = sound.scoped.once it scope h g (suc i) 0 at here same in let places = both.1 in omega (arith, places))

    no_role : (h : ℕ) → has_ended (fiber_at l.fibers h) ≡ false → (role : Role) → (fiber_at l.fibers h).role ≡ role → IsBuiltRole h role → base_of l role ≡ context_in l scope → ⊥
    no_role h lives OfBody is may same = (let low = (sound.scoped.entered scope g 0 here).low in omega (arith, low, same))
    no_role h lives (OfSwitch n daemon) is may same = (
        let it = sound.scoped.opened n (role_unfinished n daemon h is lives) in
        let one : scope ≡ InSwitch n = at_same_place (InSwitch n) it.0 it.1 it.2 same in
        none_stands h (subst (λ xs. Contains xs h) (nobody n one daemon) (sound.attaching.attaches n daemon h is lives)))
    no_role h lives (OfGroup n) is may same = (
        let it = sound.scoped.gathered n h is lives in
        no_branch n it.0 h (at_same_place (InGroup n it.0) it.1 it.2 it.3 same) is lives)
    no_role h lives role is may same = absurd may

    -- no live context lies in it
    pub scope_childless : (x : ℕ) → is_live l.contexts x ≡ true → (context_at l.contexts x).parent ≢ Some (context_in l scope)
    scope_childless = childless_by (context_in l scope) no_next
        (λ h i it at same. no_role h at.lives (fiber_at l.fibers h).role refl ((sound.fibers h).role at.lives) same)

    runs_by : (h : ℕ) → has_ended (fiber_at l.fibers h) ≡ false → (these : List Entered) → held h ≡ these
        → Nests l (base_of l (fiber_at l.fibers h).role) these (fiber_at l.fibers h).context → (fiber_at l.fibers h).context ≡ context_in l scope → h ≡ g
    runs_by h lives [] are nests same = absurd (no_role h lives (fiber_at l.fibers h).role refl ((sound.fibers h).role lives) (sym nests ∙ same))
    runs_by h lives (one ∷ these) are nests same =
        (sound.scoped.once one scope h g 0 0 (record { lives = lives; there = ap (λ xs. slice_get xs 0) are }) here (nests.0 ∙ same)).0

    -- and nobody else runs in it
    pub scope_runs : (h : ℕ) → has_ended (fiber_at l.fibers h) ≡ false → (fiber_at l.fibers h).context ≡ context_in l scope → h ≡ g
    scope_runs h lives same = runs_by h lives (held h) refl (sound.scoped.nests h lives) same

  -- ### Of the body, which is in no scope

  module _ (outside : held 0 ≡ []) where
    not_root : (it : Entered) (h i : ℕ) → ScopeAt held l it h i → context_in l it ≡ 0 → ⊥
    not_root it h i at same = (let low = (sound.scoped.entered it h i at).low in omega (arith, low, same))

    only_body : (h : ℕ) → has_ended (fiber_at l.fibers h) ≡ false → (role : Role) → (fiber_at l.fibers h).role ≡ role → IsBuiltRole h role → base_of l role ≡ 0 → h ≡ 0
    only_body h lives OfBody is may same = may
    only_body h lives (OfSwitch n daemon) is may same = (
        let it = sound.scoped.opened n (role_unfinished n daemon h is lives) in
        absurd (not_root (InSwitch n) it.0 it.1 it.2 same))
    only_body h lives (OfGroup n) is may same = (let it = sound.scoped.gathered n h is lives in absurd (not_root (InGroup n it.0) it.1 it.2 it.3 same))
    only_body h lives role is may same = absurd may

    pub body_childless : (x : ℕ) → is_live l.contexts x ≡ true → (context_at l.contexts x).parent ≢ Some 0
    body_childless = childless_by 0 (λ it h i at same. not_root it h (suc i) at same)
        (λ h i it at same. (
        let e : h ≡ 0 = only_body h at.lives (fiber_at l.fibers h).role refl ((sound.fibers h).role at.lives) same in
        none-some _ (ap (λ xs. slice_get xs i) (sym (ap held e ∙ outside)) ∙ at.there)))

    body_by : (h : ℕ) → has_ended (fiber_at l.fibers h) ≡ false → (these : List Entered) → held h ≡ these
        → Nests l (base_of l (fiber_at l.fibers h).role) these (fiber_at l.fibers h).context → (fiber_at l.fibers h).context ≡ 0 → h ≡ 0
    body_by h lives [] are nests same = only_body h lives (fiber_at l.fibers h).role refl ((sound.fibers h).role lives) (sym nests ∙ same)
    body_by h lives (one ∷ these) are nests same =
        absurd (not_root one h 0 (record { lives = lives; there = ap (λ xs. slice_get xs 0) are }) (nests.0 ∙ same))

    pub body_runs : (h : ℕ) → has_ended (fiber_at l.fibers h) ≡ false → (fiber_at l.fibers h).context ≡ 0 → h ≡ 0
    body_runs h lives same = body_by h lives (held h) refl (sound.scoped.nests h lives) same

  -- ## The ready list

  -- who stands in it lives
  pub ready_live : (g : ℕ) → Contains l.ready g → has_ended (fiber_at l.fibers g) ≡ false
  ready_live g there = (let it = sound.ready g there in is_ready_lives (fiber_at l.fibers g) it.0 it.1)

  pub few_ready : length l.ready ≤ live_fibers l.fibers
  few_ready = few_stand l.ready l.fibers sound.distinct ready_live

  -- behind its head there is room for one more
  module _ (g : ℕ) (others : List ℕ) (is : l.ready ≡ g ∷ others) where
    pub room_among_live : length others + 1 ≤ live_fibers l.fibers
    room_among_live = (
        let few = few_ready in
        let count : length l.ready ≡ length (g ∷ others) = ap length is in
        omega (arith, few, count))

    pub room_behind : length others < most_fibers
    room_behind = (let room = room_among_live in omega (arith, room, sound.counted.live))
