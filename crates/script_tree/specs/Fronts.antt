-- Bytes at the front of others.
use Rattle.std.specs.Prelude.{◌≡◌, ℕ, List, length, take}

-- the second bytes begin with the first
pub record IsFront (front whole : List ℕ) : Type 0 where
  pub same : take (length front) whole ≡ front
