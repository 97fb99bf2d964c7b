-- How the bytes of a text are written, inside quotes and without.
use Rattle.std.specs.Prelude.{ℕ, Bool, ◌||◌, ◌==◌, if◌then◌else◌, List, [], ◌∷◌, ◌++◌}
use Rattle.std.specs.List.{flat_map}

-- how a byte is written where no quotes stand around: LF, CR and tab as a backslash and `n`, `r`, `t`; any other byte stands for itself
abbrev pub shown_byte : ℕ → List ℕ
shown_byte b =
    if b == 10 then 92 ∷ 110 ∷ []
    else
    (if b == 13 then 92 ∷ 114 ∷ []
    else
    (if b == 9 then 92 ∷ 116 ∷ []
    else b ∷ []))

-- how a byte is written inside quotes: as without, and a quote and a backslash with a backslash before them
abbrev pub quoted_byte : ℕ → List ℕ
quoted_byte b = if b == 34 || b == 92 then 92 ∷ b ∷ [] else shown_byte b

-- the one or the other
abbrev pub byte_text : Bool → ℕ → List ℕ
byte_text in_quotes b = if in_quotes then quoted_byte b else shown_byte b

-- a text without quotes
abbrev pub shown : List ℕ → List ℕ
shown text = flat_map shown_byte text

-- a text in quotes
abbrev pub quoted : List ℕ → List ℕ
quoted text = 34 ∷ (flat_map quoted_byte text ++ 34 ∷ [])
