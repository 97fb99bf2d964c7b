-- The parts of a path that ask for something are its components.
use Rattle.std.proofs.Common.{ℕ, List}
use Rattle.std.specs.Prelude.{filter, not}
use Rattle.spec_parts.specs.Walk.{asks_nothing}

-- the parts that ask for something
abbrev pub asking : List (List ℕ) → List (List ℕ)
asking parts = filter (λ component. not (asks_nothing component)) parts
