-- What a word begins by a table of words.
use Rattle.std.specs.Prelude.{ℕ, List, [], ◌∷◌, Option, Some, None, if◌then◌else◌}
use Rattle.std.specs.Borrow.{Bor}
use Rattle.std.specs.Str.{bytes_eq}

-- a row of the code's table
abbrev pub seen : {A : Type 0} → Bor (List ℕ) × A → List ℕ × A
seen row = (row.0.now, row.1)

abbrev pub begun : {A : Type 0} → List ℕ → List (List ℕ × A) → Option A
begun word [] = None
begun word (row ∷ table) = if bytes_eq row.0 word then Some row.1 else begun word table
