-- Numbers of pieces that fit into 64 bits.
use Rattle.std.specs.Prelude.{IsTrue}
use Rattle.spec_script.specs.Limits.{is_within}
use Rattle.script_tree.specs.Pieces.{Piece, Numbers}

abbrev pub Fits : Piece → Type 0
Fits (Numbers at z) = IsTrue (is_within z)
Fits piece = Unit {0}
