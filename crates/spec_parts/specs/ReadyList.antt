-- The ready list of a domain: the fibers that can move, the one that moves next first.
use Rattle.std.specs.Prelude.{ℕ, Bool, nat_le, List, [], ◌∷◌, ◌++◌, length, Option, Some, None}

-- as many stand in it as may
abbrev pub is_full : (most : ℕ) → List ℕ → Bool
is_full most ready = nat_le most (length ready)

abbrev pub push_head : (fiber : ℕ) → List ℕ → List ℕ
push_head fiber ready = fiber ∷ ready

abbrev pub push_back : (fiber : ℕ) → List ℕ → List ℕ
push_back fiber ready = ready ++ fiber ∷ []

-- new fibers, in order, and behind them the fiber that made them, stand before all others
abbrev pub push_made : (fibers : List ℕ) → (maker : ℕ) → List ℕ → List ℕ
push_made fibers maker ready = fibers ++ maker ∷ ready

-- the fiber that moves next, and the others
pub record Popped : Type 0 where
  pub fiber : Option ℕ
  pub others : List ℕ

abbrev pub pop : List ℕ → Popped
pop [] = record { fiber = None; others = [] }
pop (fiber ∷ others) = record { fiber = Some fiber; others = others }
