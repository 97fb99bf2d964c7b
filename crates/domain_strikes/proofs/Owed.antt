-- Strikes that are owed, by how many fibers were struck.
use Rattle.std.proofs.Common.{◌≡◌, ℕ, zero, suc, ◌≤◌, List, [], ◌∷◌, length, drop, refl, ap, ◌∙◌, sym, arith}
use Rattle.std.proofs.lemmas.List.{length-drop, length-map}
use Rattle.spec_machine.specs.Steps.{strike_by}
use Rattle.domain_strikes.specs.Owing.{owed_by}

many_owed : (maker : ℕ) (fibers : List ℕ) (struck : ℕ) → length (owed_by maker fibers struck) ≡ length (drop struck fibers)
many_owed maker fibers struck = length-map (drop struck fibers) (strike_by maker)

pub none_owed : (maker : ℕ) (fibers : List ℕ) (struck : ℕ) → length fibers ≤ struck → owed_by maker fibers struck ≡ []
none_owed maker [] zero all = refl
none_owed maker [] (suc struck) all = refl
none_owed maker (fiber ∷ fibers) zero all = absurd (omega arith)
none_owed maker (fiber ∷ fibers) (suc struck) all = none_owed maker fibers struck (omega arith)

pub all_struck : (maker : ℕ) (fibers : List ℕ) (struck : ℕ) → owed_by maker fibers struck ≡ [] → length fibers ≤ struck
all_struck maker fibers struck none = (
    let count : 0 ≡ length (drop struck fibers) = ap length (sym none) ∙ many_owed maker fibers struck in
    omega (arith, count, length-drop struck fibers))
