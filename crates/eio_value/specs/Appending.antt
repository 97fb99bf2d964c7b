-- What stands in bytes to which was appended.
use Rattle.std.specs.Prelude.{◌≡◌, ℕ, List, length, take}

-- what was there before still stands in front
abbrev pub IsFront : List ℕ → List ℕ → Type 0
IsFront old new = take (length old) new ≡ old
