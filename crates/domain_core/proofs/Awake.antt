-- Who hasn't ended and waits in nothing that a cancellation ends, after a fiber of the kind was changed; and how such a fiber goes on.
use Rattle.std.proofs.Common.{◌≡◌, ◌≢◌, inl, inr, ℕ, false, List, [], ◌∷◌, ◌++◌, Option, Some, None, refl, ap, ◌∙◌, sym, subst}
use Rattle.std.specs.Prelude.{IsSome}
use Rattle.std.specs.Option.{option_map}
use Rattle.spec_machine.specs.Domain as model
use Rattle.spec_machine.specs.Domain.{to_head, to_back, moved_to, stands}
use Rattle.spec_fiber.specs.Asks.{Ask}
use Rattle.domain_core.specs.Answering.{Becomes}
use Rattle.domain_core.specs.Conditions.{IsAwake, waits_so}
use Rattle.domain_core.specs.Keeping.{KeptFiber, KeptDomain, kept_at, changed_at}
use Rattle.domain_core.proofs.ByNumber as numbers
use Rattle.domain_core.proofs.ByNumber.{same_or_other}
use Rattle.domain_core.proofs.Mirroring.{is_there, changed_there, stood_mirrors, head_mirrors, back_mirrors}

pub awake_there : (kept : KeptDomain) (g : ℕ) → IsAwake kept g → IsSome (kept_at kept.fibers g)
awake_there kept g it = is_there (kept_at kept.fibers g) it.fiber it.there

-- it depends on the fibers alone
pub awake_by : (old new : KeptDomain) → new.fibers ≡ old.fibers → (g : ℕ) → IsAwake old g → IsAwake new g
awake_by old new same g it = record { fiber = it.fiber; there = ap (λ fibers. kept_at fibers g) same ∙ it.there; awake = it.awake }

-- a fiber is changed into one that doesn't wait so
module _ (old new : KeptDomain) (g : ℕ) (f : KeptFiber) (there : kept_at old.fibers g ≡ Some f) (change : KeptFiber → KeptFiber) (calm : waits_so (change f).standing ≡ false)
    (are : new.fibers ≡ changed_at g change old.fibers) where
  pub awake_itself : IsAwake new g
  awake_itself = record { fiber = change f; there = ap (λ fibers. kept_at fibers g) are ∙ changed_there old.fibers g change f there; awake = calm }

  pub awake_other : (h : ℕ) → h ≢ g → IsAwake old h → IsAwake new h
  awake_other h other it = record {
    fiber = it.fiber;
    there = ap (λ fibers. kept_at fibers h) are ∙ (numbers.others_unchanged None old.fibers g h (option_map change (kept_at old.fibers g)) other ∙ it.there);
    awake = it.awake;
  }

  pub awake_changed : (h : ℕ) → IsAwake old h → IsAwake new h
  awake_changed h it = elim (same_or_other h g) as (λ _. IsAwake new h) [ inl e ↦ subst (λ n. IsAwake new n) (sym e) awake_itself | inr other ↦ awake_other h other it ]

-- ## A fiber that doesn't wait so goes on

-- of what is kept, as code sees it from within, and as its contract does
module _ (inside now : KeptDomain) (same : inside ≡ now) (g : ℕ) (awake : IsAwake now g) where
  pub awake_inside : IsAwake inside g
  awake_inside = subst (λ (kept : KeptDomain). IsAwake kept g) (sym same) awake

  pub lives_inside : IsSome (kept_at inside.fibers g)
  lives_inside = awake_there inside g awake_inside

  -- the others and itself do so then
  pub stays_awake : (change : KeptFiber → KeptFiber) → ((f : KeptFiber) → waits_so f.standing ≡ false → waits_so (change f).standing ≡ false) → (fibers : List (Option KeptFiber)) (ready : List ℕ)
      → fibers ≡ changed_at g change inside.fibers → (h : ℕ) → IsAwake now h → IsAwake (record inside { fibers = fibers; ready = ready }) h
  stays_awake change calm fibers ready are h it =
      awake_changed inside (record inside { fibers = fibers; ready = ready }) g awake_inside.fiber awake_inside.there change (calm awake_inside.fiber awake_inside.awake) are h
      (subst (λ (kept : KeptDomain). IsAwake kept h) (sym same) it)

  pub becomes_at_head : (next : model.Next) (fibers : List (Option KeptFiber)) (ready : List ℕ)
      → fibers ≡ changed_at g (λ fiber. record fiber { standing = model.Ready next }) inside.fibers → ready ≡ g ∷ inside.ready
      → Becomes (to_head next g) now (record inside { fibers = fibers; ready = ready })
  becomes_at_head next fibers ready are is = subst (λ (kept : KeptDomain). Becomes (to_head next g) kept (record inside { fibers = fibers; ready = ready })) same
      (subst (λ (xs : List (Option KeptFiber)). Becomes (to_head next g) inside (record inside { fibers = xs; ready = ready })) (sym are)
      (subst (λ (xs : List ℕ). Becomes (to_head next g) inside (record inside { fibers = changed_at g (λ fiber. record fiber { standing = model.Ready next }) inside.fibers; ready = xs })) (sym is)
      (λ nodes texts l mirrors. head_mirrors nodes texts inside l g awake_inside.fiber awake_inside.there mirrors awake_inside.awake next)))

  pub becomes_at_back : (next : model.Next) (fibers : List (Option KeptFiber)) (ready : List ℕ)
      → fibers ≡ changed_at g (λ fiber. record fiber { standing = model.Ready next }) inside.fibers → ready ≡ inside.ready ++ g ∷ []
      → Becomes (to_back next g) now (record inside { fibers = fibers; ready = ready })
  becomes_at_back next fibers ready are is = subst (λ (kept : KeptDomain). Becomes (to_back next g) kept (record inside { fibers = fibers; ready = ready })) same
      (subst (λ (xs : List (Option KeptFiber)). Becomes (to_back next g) inside (record inside { fibers = xs; ready = ready })) (sym are)
      (subst (λ (xs : List ℕ). Becomes (to_back next g) inside (record inside { fibers = changed_at g (λ fiber. record fiber { standing = model.Ready next }) inside.fibers; ready = xs })) (sym is)
      (λ nodes texts l mirrors. back_mirrors nodes texts inside l g awake_inside.fiber awake_inside.there mirrors awake_inside.awake next)))

  -- it waits for others
  pub becomes_parked : (call : Ask) (fibers : List (Option KeptFiber))
      → fibers ≡ changed_at g (λ fiber. record fiber { standing = model.Parked (model.ForOthers call) }) inside.fibers
      → Becomes (stands (model.Parked (model.ForOthers call)) g) now (record inside { fibers = fibers })
  becomes_parked call fibers are = subst (λ (kept : KeptDomain). Becomes (stands (model.Parked (model.ForOthers call)) g) kept (record inside { fibers = fibers })) same
      (λ nodes texts l mirrors. stood_mirrors nodes texts inside l g awake_inside.fiber awake_inside.there mirrors awake_inside.awake (model.Parked (model.ForOthers call)) fibers refl refl are)
