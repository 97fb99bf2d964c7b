-- A fiber that waits goes on: it stands last in the ready list then.
use Rattle.std.proofs.Common.{◌≡◌, ◌≢◌, inl, inr, ℕ, Bool, true, false, [], ◌∷◌, ◌++◌, refl, ap, ◌∙◌, sym, true≢false, arith}
use Rattle.std.specs.List.{Contains}
use Rattle.std.proofs.lemmas.List.Elements.{Contains-push_cases}
use Rattle.spec_machine.specs.Domain.{Next, Wait, Standing, Ready, Parked, Ended, DomainState, fiber_at, has_ended, to_back}
use Rattle.law_domain.specs.Sound.Scopes.{scope_held, scopes, scopes_in, scopes_of}
use Rattle.law_domain.specs.Sound.SoundStates.{IsBuiltNext, IsSoundWith}
use Rattle.law_domain.proofs.Sound.Changes.{OnlyAt, of_only}
use Rattle.law_domain.proofs.Sound.Lists.{distinct_back}
use Rattle.law_domain.proofs.Sound.Midst.{reheld, standing_ended, stands_only, stood_sound}

abbrev is_ready : Standing → Bool
is_ready standing = elim standing [ Ready next ↦ true | Parked wait ↦ false | Ended it ↦ false ]

-- sound, with as many lines
pub record StillSound (lines told : ℕ) (l : DomainState) : Type 0 where
  pub sound : IsSoundWith (scopes_of l) lines l
  pub told_by : l.lines ≡ told

module _ (lines told : ℕ) (l : DomainState) (still : StillSound lines told l) (g : ℕ) (wait : Wait) (next : Next)
    (is : (fiber_at l.fibers g).standing ≡ Parked wait) (same : scope_held (Ready next) ≡ scope_held (Parked wait)) (may : IsBuiltNext next) where
  lives : has_ended (fiber_at l.fibers g) ≡ false
  lives = ap standing_ended is

  not_ready : Contains l.ready g → ⊥
  not_ready there = (let it = still.sound.ready g there in true≢false (ap is_ready (sym it.1 ∙ is)))

  rest : (h : ℕ) → h ≢ g → Contains (l.ready ++ g ∷ []) h → Contains l.ready h
  rest h other there = elim (Contains-push_cases l.ready g h there) as (λ _. Contains l.ready h) [ inl it ↦ it | inr e ↦ absurd (other (sym e)) ]

  abbrev then : DomainState
  then = to_back next g l

  only : OnlyAt g l.fibers then.fibers (record (fiber_at l.fibers g) { standing = Ready next })
  only = stands_only (scopes_of l) lines l still.sound g (Ready next) (l.ready ++ g ∷ []) lives refl may
      (distinct_back l.ready g still.sound.distinct not_ready) rest (λ there. (next, refl))

  same_scopes : (h : ℕ) → scopes_of then h ≡ scopes_of l h
  same_scopes = of_only g l.fibers then.fibers _ only (λ h f. scopes f ≡ scopes_of l h)
      (ap (λ xs. xs ++ scopes_in (fiber_at l.fibers g).work) same ∙ ap (λ (s : Standing). scope_held s ++ scopes_in (fiber_at l.fibers g).work) (sym is)) (λ h other. refl)

  pub parked_back : StillSound lines told (to_back next g l)
  parked_back = record {
    sound = reheld (scopes_of l) (scopes_of then) lines lines then (omega arith) (λ h alive. same_scopes h)
        (stood_sound (scopes_of l) lines l still.sound g (Ready next) (l.ready ++ g ∷ []) lives refl may
        (distinct_back l.ready g still.sound.distinct not_ready) rest (λ there. (next, refl)));
    told_by = still.told_by;
  }
