-- Who is attached to which switch, after a change.
use Rattle.std.proofs.Common.{◌≡◌, ◌≢◌, ◌⊎◌, inl, inr, ℕ, Bool, true, false, [], ap, ◌∙◌, sym, subst, true≢false}
use Rattle.std.specs.List.{Contains}
use Rattle.spec_parts.specs.Switches.{switch_at}
use Rattle.spec_machine.specs.Domain.{OfSwitch, DomainState, fiber_at, has_ended}
use Rattle.law_domain.specs.Sound.SoundStates.{HasAttached, attached_to}
use Rattle.law_domain.proofs.Sound.Into.{SamePeople}

-- ## The same people in the same lists

-- a switch that is finished was so, or nobody is attached to it
pub record SameLists (l k : DomainState) : Type 0 where
  pub people : SamePeople l k
  pub lists : (n : ℕ) (daemon : Bool) → attached_to daemon (switch_at k.switches n) ≡ attached_to daemon (switch_at l.switches n)
  pub finished : (n : ℕ) → (switch_at k.switches n).finished ≡ true
      → ((switch_at l.switches n).finished ≡ true) ⊎ ((daemon : Bool) → attached_to daemon (switch_at l.switches n) ≡ [])

pub attached_same : (l k : DomainState) → HasAttached l → SameLists l k → HasAttached k
attached_same l k attaching same = record {
  attached = λ n daemon h there. (
      let was = attaching.attached n daemon h (subst (λ xs. Contains xs h) (same.lists n daemon) there) in
      (same.people.role h ∙ was.0, same.people.ended h ∙ was.1));
  attaches = λ n daemon h role lives. subst (λ xs. Contains xs h) (sym (same.lists n daemon))
      (attaching.attaches n daemon h (sym (same.people.role h) ∙ role) (sym (same.people.ended h) ∙ lives));
  emptied = λ n daemon done. same.lists n daemon ∙ elim (same.finished n done) as (λ _. attached_to daemon (switch_at l.switches n) ≡ []) [
    | inl was ↦ attaching.emptied n daemon was
    | inr none ↦ none daemon
  ];
}

-- ## One more

-- a new fiber stands in the list of its switch, which isn't finished
pub record AttachesOne (l k : DomainState) (new n : ℕ) (daemon : Bool) : Type 0 where
  pub ended : has_ended (fiber_at l.fibers new) ≡ true
  pub lives : has_ended (fiber_at k.fibers new) ≡ false
  pub role : (fiber_at k.fibers new).role ≡ OfSwitch n daemon
  pub others : (h : ℕ) → h ≢ new → fiber_at k.fibers h ≡ fiber_at l.fibers h
  pub stands : Contains (attached_to daemon (switch_at k.switches n)) new
  pub stood : (m : ℕ) (d : Bool) (h : ℕ) → Contains (attached_to d (switch_at l.switches m)) h → Contains (attached_to d (switch_at k.switches m)) h
  pub list : (m : ℕ) (d : Bool) (h : ℕ) → Contains (attached_to d (switch_at k.switches m)) h
      → Contains (attached_to d (switch_at l.switches m)) h ⊎ ((h ≡ new) × (m ≡ n) × (d ≡ daemon))
  pub emptied : (m : ℕ) (d : Bool) → (switch_at k.switches m).finished ≡ true → attached_to d (switch_at k.switches m) ≡ []

module _ (l k : DomainState) (new n : ℕ) (daemon : Bool) (attaching : HasAttached l) (one : AttachesOne l k new n daemon)
    (alone : (m : ℕ) (d : Bool) → OfSwitch n daemon ≡ OfSwitch m d → (n ≡ m) × (daemon ≡ d)) (cases : (h : ℕ) → (h ≡ new) ⊎ (h ≢ new)) where
  is_other : (h : ℕ) → has_ended (fiber_at l.fibers h) ≡ false → h ≢ new
  is_other h lives e = true≢false (sym one.ended ∙ (ap (λ (m : ℕ). has_ended (fiber_at l.fibers m)) (sym e) ∙ lives))

  attached_then : (m : ℕ) (d : Bool) (h : ℕ) → Contains (attached_to d (switch_at k.switches m)) h → ((fiber_at k.fibers h).role ≡ OfSwitch m d) × (has_ended (fiber_at k.fibers h) ≡ false)
  attached_then m d h there = elim (one.list m d h there) as (λ _. ((fiber_at k.fibers h).role ≡ OfSwitch m d) × (has_ended (fiber_at k.fibers h) ≡ false)) [
    | inl older ↦ (
        let was = attaching.attached m d h older in
        let same = one.others h (is_other h was.1) in
        (ap (λ f. f.role) same ∙ was.0, ap has_ended same ∙ was.1))
    | inr newest ↦
        subst (λ (x : ℕ). ((fiber_at k.fibers x).role ≡ OfSwitch m d) × (has_ended (fiber_at k.fibers x) ≡ false)) (sym newest.0)
        (subst (λ (x : ℕ). ((fiber_at k.fibers new).role ≡ OfSwitch x d) × (has_ended (fiber_at k.fibers new) ≡ false)) (sym newest.1)
        (subst (λ (x : Bool). ((fiber_at k.fibers new).role ≡ OfSwitch n x) × (has_ended (fiber_at k.fibers new) ≡ false)) (sym newest.2) (one.role, one.lives)))
  ]

  attaches_then : (m : ℕ) (d : Bool) (h : ℕ) → (fiber_at k.fibers h).role ≡ OfSwitch m d → has_ended (fiber_at k.fibers h) ≡ false → Contains (attached_to d (switch_at k.switches m)) h
  attaches_then m d h role lives = elim (cases h) as (λ _. Contains (attached_to d (switch_at k.switches m)) h) [
    | inl e ↦ (
        let same = alone m d (sym one.role ∙ (ap (λ (x : ℕ). (fiber_at k.fibers x).role) (sym e) ∙ role)) in
        subst (λ (x : ℕ). Contains (attached_to d (switch_at k.switches m)) x) (sym e)
        (subst (λ (x : ℕ). Contains (attached_to d (switch_at k.switches x)) new) same.0
        (subst (λ (x : Bool). Contains (attached_to x (switch_at k.switches n)) new) same.1 one.stands)))
    | inr other ↦ (
        let same = one.others h other in
        one.stood m d h (attaching.attaches m d h (ap (λ f. f.role) (sym same) ∙ role) (ap has_ended (sym same) ∙ lives)))
  ]

  pub attached_one : HasAttached k
  attached_one = record { attached = attached_then; attaches = attaches_then; emptied = one.emptied }

-- ## One less

-- a fiber has ended, and stands in no list
pub record DetachesOne (l k : DomainState) (g : ℕ) : Type 0 where
  pub over : has_ended (fiber_at k.fibers g) ≡ true
  pub others : (h : ℕ) → h ≢ g → fiber_at k.fibers h ≡ fiber_at l.fibers h
  pub left : (m : ℕ) (d : Bool) (h : ℕ) → Contains (attached_to d (switch_at k.switches m)) h → Contains (attached_to d (switch_at l.switches m)) h × (h ≢ g)
  pub stays : (m : ℕ) (d : Bool) (h : ℕ) → h ≢ g → Contains (attached_to d (switch_at l.switches m)) h → Contains (attached_to d (switch_at k.switches m)) h
  pub emptied : (m : ℕ) (d : Bool) → (switch_at k.switches m).finished ≡ true → attached_to d (switch_at k.switches m) ≡ []

pub detached_one : (l k : DomainState) (g : ℕ) → HasAttached l → DetachesOne l k g → HasAttached k
detached_one l k g attaching one = record {
  attached = λ m d h there. (
      let it = one.left m d h there in
      let was = attaching.attached m d h it.0 in
      let same = one.others h it.1 in
      (ap (λ f. f.role) same ∙ was.0, ap has_ended same ∙ was.1));
  attaches = λ m d h role lives. (
      let other : h ≢ g = λ e. true≢false (sym one.over ∙ (ap (λ (x : ℕ). has_ended (fiber_at k.fibers x)) (sym e) ∙ lives)) in
      let same = one.others h other in
      one.stays m d h other (attaching.attaches m d h (ap (λ f. f.role) (sym same) ∙ role) (ap has_ended (sym same) ∙ lives)));
  emptied = one.emptied;
}
