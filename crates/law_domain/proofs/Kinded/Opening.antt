-- In the opening domain of a sound script all variables hold what they are to hold: there are none.
use Rattle.std.proofs.Common.{◌≡◌, ℕ, zero, suc, List, [], ◌∷◌, refl, subst}
use Rattle.std.specs.Prelude.{slice_get, slice_index_or}
use Rattle.std.specs.Option.{unwrap_or}
use Rattle.spec_script.specs.Opening.{opening_texts}
use Rattle.spec_script.specs.Scripts.{Script}
use Rattle.spec_script.specs.Syntax.{Block}
use Rattle.spec_machine.specs.Domain.{DomainState, fiber_at}
use Rattle.spec_machine.specs.Mock.{opening_domain}
use Rattle.law_fiber.specs.Kinded.Kinds.{FitsBlock, HasKindsAt}
use Rattle.law_fiber.proofs.Kinded.Between.{kinds_stay_between}
use Rattle.law_domain.specs.Sound.Laws.{body_of}
use Rattle.law_domain.proofs.Sound.Lists.{all_none}
use Rattle.law_domain.specs.Kinded.KindedStates.{IsKinded, made_facts, names_made, position_of}
use Rattle.law_domain.specs.Kinded.Laws.{OpensKinded}
use Rattle.law_domain.proofs.Kinded.Changing.{nothing_kinded}

index_or : {X : Type 0} (xs : List X) (n : ℕ) (otherwise : X) → slice_index_or xs n otherwise ≡ unwrap_or (slice_get xs n) otherwise
index_or [] n otherwise = refl
index_or (x ∷ xs) zero otherwise = refl
index_or (x ∷ xs) (suc n) otherwise = index_or xs n otherwise

module _ (script : Script) (number : ℕ) (texts : List (List ℕ)) (block : Block) (fits : FitsBlock (made_facts script 0 1) [] block) where
  abbrev opening : DomainState
  opening = opening_domain number texts block

  each : (g : ℕ) → HasKindsAt (made_facts script 0 1) (position_of (fiber_at opening.fibers g))
  each zero = kinds_stay_between.begins script (names_made 0 1) [] block [] fits tt
  each (suc g) = nothing_kinded (made_facts script 0 1)

  pub opening_kinded : IsKinded script opening
  opening_kinded = record { position = each; handlers = λ n. all_none _ }

pub opens_kinded : OpensKinded
opens_kinded script body sound numbered below =
    opening_kinded script body (opening_texts script) (body_of script body)
    (subst (FitsBlock (made_facts script 0 1) []) (index_or script.bodies body _) (kinds_stay_between.bodies script (names_made 0 1) sound numbered body _ below))
