-- Bytes that were searched for LF.
use Rattle.std.specs.Prelude.{◌≢◌, ℕ, ◌<◌, List, slice_index}

-- none of the first `count` bytes is LF
abbrev pub HasNoLineFeed : (count : ℕ) → List ℕ → Type 0
HasNoLineFeed count bytes = (place : ℕ) → place < count → slice_index bytes place ≢ 10

-- bytes, and how many at their front were searched
pub record Searched : Type 0 where
  pub bytes : List ℕ
  pub searched : ℕ
