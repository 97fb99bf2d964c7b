-- A table of texts, in which equal texts have equal numbers: the list of the texts, where the number of a text is its place.
use Rattle.std.specs.Prelude.{◌≢◌, ℕ, ◌<◌, List, [], ◌∷◌, ◌++◌, length, Some, None, slice_get, position}
use Rattle.std.specs.List.{AllPairs}
use Rattle.std.specs.Option.{unwrap_or}
use Rattle.std.specs.Str.{bytes_eq}
use Rattle.eio_value.specs.declared.value.TextId.{TextId}

abbrev pub text_id : ℕ → TextId
text_id n = record { 0 = n }

-- no text stands in the table twice
abbrev pub AreDifferent : List (List ℕ) → Type 0
AreDifferent texts = AllPairs (λ s t. s ≢ t) texts

-- the table has a text with this number
abbrev pub HasText : List (List ℕ) → TextId → Type 0
HasText texts id = id.0 < length texts

-- the text with this number; a number that isn't in the table stands for no bytes
abbrev pub text_at : List (List ℕ) → TextId → List ℕ
text_at texts id = unwrap_or (slice_get texts id.0) []

-- the number of a text, and the table that has it
pub record Interned : Type 0 where
  pub id : TextId
  pub texts : List (List ℕ)

-- a text that is in the table has its place there, and the table stays; else it is put at the end
abbrev pub intern : List (List ℕ) → List ℕ → Interned
intern texts text =
    elim (position (bytes_eq text) texts) [
      | Some at ↦ record { id = text_id at; texts = texts }
      | None ↦ record { id = text_id (length texts); texts = texts ++ text ∷ [] }
    ]
