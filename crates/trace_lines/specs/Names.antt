-- The names of what a script declares.
use Rattle.std.specs.Prelude.{ℕ, List, [], slice_get, Some, None}
use Rattle.eio_value.specs.declared.value.TextId.{TextId}
use Rattle.eio_value.specs.Table.{text_at}

-- the name of the declaration with this number: declarations are numbered from 0 in order,
-- and a number without a name stands for no bytes
abbrev pub name_at : (texts : List (List ℕ)) → (names : List TextId) → (number : ℕ) → List ℕ
name_at texts names number = elim (slice_get names number) [ Some id ↦ text_at texts id | None ↦ [] ]
