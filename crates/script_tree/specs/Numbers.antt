-- The number that a run is, if it is one.
use Rattle.std.specs.Prelude.{ℕ, ℤ, Bool, false, ◌==◌, if◌then◌else◌, List, [], ◌∷◌, Option, Some, None}
use Rattle.std.specs.Str.Parse.{signed_digits_value}
use Rattle.spec_script.specs.Bytes.{minus}
use Rattle.spec_script.specs.Reading.{is_numeral, is_number}

abbrev pub number_of : List ℕ → Option ℤ
number_of run = if is_number run then Some (signed_digits_value 10 run) else None

-- a numeral, or `-` and a numeral
abbrev pub is_signed_numeral : List ℕ → Bool
is_signed_numeral [] = false
is_signed_numeral (b ∷ bytes) = if b == minus then is_numeral bytes else is_numeral (b ∷ bytes)
