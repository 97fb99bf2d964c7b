-- Lines and columns.
use Rattle.std.specs.Prelude.{ℕ, ◌+◌, ◌==◌, List, [], ◌∷◌, if◌then◌else◌}
use Rattle.cli_program.specs.declared.line_column.LineColumn.{LineColumn}

-- the beginning of the next line, and the next column
abbrev pub line_behind : LineColumn → LineColumn
line_behind place = record { line = place.line + 1; column = 1 }

abbrev pub column_behind : LineColumn → LineColumn
column_behind place = record { line = place.line; column = place.column + 1 }

-- behind a line feed begins the next line
abbrev pub behind : LineColumn → ℕ → LineColumn
behind place byte = if byte == 10 then line_behind place else column_behind place

unfoldable pub behind_all : LineColumn → List ℕ → LineColumn
behind_all place [] = place
behind_all place (byte ∷ bytes) = behind_all (behind place byte) bytes

-- the place behind some bytes; a text begins at line 1, column 1
abbrev pub place_behind : List ℕ → LineColumn
place_behind bytes = behind_all (record { line = 1; column = 1 }) bytes
