-- The texts with which a fiber may fail.
use Rattle.std.specs.Prelude.{ℕ, List, All}
use Rattle.eio_value.specs.Table.{HasText}
use Rattle.eio_value.specs.declared.value.TextId.{TextId}

-- they stand in the table
abbrev pub HasFailures : List (List ℕ) → List TextId → Type 0
HasFailures texts failures = All (HasText texts) failures
