-- The table with which a script starts, by its own texts and those with which a fiber may fail.
use Rattle.std.specs.Prelude.{ℕ, List, ◌++◌, map, fold}
use Rattle.eio_value.specs.declared.plain.Plain.TheVariants.{Failure}
use Rattle.eio_value.specs.declared.value.TextId.{TextId}
use Rattle.spec_script.specs.Opening.{textless, with_bound}

-- the texts that a `try` can bind are put behind the others: those of failures first, then those of exceptions that hold no text
abbrev pub opened_texts : List (List ℕ) → (failures : List TextId) → List (List ℕ)
opened_texts texts failures = fold with_bound texts (map Failure failures ++ textless)
