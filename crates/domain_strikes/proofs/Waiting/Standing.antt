-- How one fiber stands in the list of those that wait: by whether a cancellation ends its wait, and by its context.
use Rattle.std.proofs.Common.{◌≡◌, ◌≢◌, ℕ, Bool, true, false, ◌==◌, Option, Some, None, List, ◌∷◌, refl, sym, true≢false, eqb-true, eq-eqb}
use Rattle.spec_parts.specs.Contexts.{Waiting}
use Rattle.spec_machine.specs.Domain.{Standing, Ready, Parked, Ended, Fiber, has_ended}
use Rattle.spec_machine.specs.Steps.{can_be_cancelled, waiting_one, with_waiting}
use Rattle.domain_strikes.specs.Waiting.WhoWaits.{can_be_struck, waits_as}

-- by whether it waits so
abbrev pub listed_by : Bool → Waiting → List Waiting → List Waiting
listed_by true one others = one ∷ others
listed_by false one others = others

one_by : (can : Bool) (one : Waiting) (others : List Waiting) → with_waiting (elim can as (λ _. Option Waiting) [ true ↦ Some one | false ↦ None ]) others ≡ listed_by can one others
one_by true one others = refl
one_by false one others = refl

pub one_listed : (g : ℕ) (fiber : Fiber) (others : List Waiting) → with_waiting (waiting_one g fiber) others ≡ listed_by (can_be_struck fiber) (waits_as g fiber) others
one_listed g fiber others = by fiber.standing where
  by : (standing : Standing) → with_waiting (elim standing as (λ _. Option Waiting) [
    | Parked wait ↦ elim (can_be_cancelled wait) [ true ↦ Some (waits_as g fiber) | false ↦ None ]
    | Ready next ↦ None
    | Ended it ↦ None
  ]) others ≡ listed_by (elim standing as (λ _. Bool) [ Parked wait ↦ can_be_cancelled wait | Ready next ↦ false | Ended it ↦ false ]) (waits_as g fiber) others
  by (Parked wait) = one_by (can_be_cancelled wait) (waits_as g fiber) others
  by (Ready next) = refl
  by (Ended it) = refl

-- who waits lives
pub waits_lives : (fiber : Fiber) → can_be_struck fiber ≡ true → has_ended fiber ≡ false
waits_lives fiber can = by fiber.standing can where
  by : (standing : Standing) → elim standing as (λ _. Bool) [ Parked wait ↦ can_be_cancelled wait | Ready next ↦ false | Ended it ↦ false ] ≡ true
      → elim standing as (λ _. Bool) [ Ended it ↦ true | Ready next ↦ false | Parked wait ↦ false ] ≡ false
  by (Parked wait) e = refl
  by (Ready next) e = refl
  by (Ended it) e = absurd (true≢false (sym e))

-- ## Tests on numbers

pub tells_same : (x y : ℕ) → x ≡ y → (x == y) ≡ true
tells_same x y e = eq-eqb x y e

pub tells_other : (x y : ℕ) → x ≢ y → (x == y) ≡ false
tells_other x y other = by (x == y) refl where
  by : (b : Bool) → (x == y) ≡ b → b ≡ false
  by true e = absurd (other (eqb-true x y e))
  by false e = refl
