-- The rows of trees that are left of the lists around a piece, by how many lists lie between.
use Rattle.std.specs.Prelude.{ℕ, zero, suc, ◌+◌, ◌-◌, List}
use Rattle.spec_script.specs.Trees.{Trees}
use Rattle.script_tree.specs.Pieces.{Piece, Opens, Closes, first, others}

abbrev pub level : ℕ → List Trees → Trees
level zero rows = first rows
level (suc lists) rows = level lists (others rows)

-- how many lists are open behind a piece
abbrev pub lists_behind : (lists : ℕ) → Piece → ℕ
lists_behind lists (Opens at) = lists + 1
lists_behind lists Closes = lists - 1
lists_behind lists piece = lists
