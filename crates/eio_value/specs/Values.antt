-- The text of a value.
-- A number is written in decimal, unit as `()`, a context as `#` and its number, a switch as `%` and its number.
use Rattle.std.specs.Prelude.{⊤, ℕ, List, ◌∷◌, codes}
use Rattle.std.specs.Fmt.{decimal, signed_decimal}
use Rattle.eio_value.specs.declared.value.Value.{Value}
use Rattle.eio_value.specs.declared.value.Value.TheVariants.{Unit, Int, Text, Ctx, Switch}
use Rattle.eio_value.specs.Escapes.{shown, quoted}
use Rattle.eio_value.specs.Table.{HasText, text_at}

-- a text by its bytes, with LF, CR and tab escaped
abbrev pub show : List (List ℕ) → Value → List ℕ
show texts Unit = codes "()"
show texts (Int number) = signed_decimal number
show texts (Text id) = shown (text_at texts id)
show texts (Ctx number) = 35 ∷ decimal number
show texts (Switch number) = 37 ∷ decimal number

-- the same, but a text in quotes
abbrev pub quote : List (List ℕ) → Value → List ℕ
quote texts (Text id) = quoted (text_at texts id)
quote texts value = show texts value

-- the table has the text of this value, where it is one
abbrev pub HasTextsOf : List (List ℕ) → Value → Type 0
HasTextsOf texts (Text id) = HasText texts id
HasTextsOf texts value = ⊤
