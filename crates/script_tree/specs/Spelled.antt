-- The canonical spelling of a tree, piece by piece.
use Rattle.std.specs.Prelude.{ℕ, Bool, true, false, List, [], ◌∷◌, ◌++◌}
use Rattle.std.specs.Fmt.{signed_decimal}
use Rattle.spec_script.specs.Bytes.{space, open_paren, close_paren}
use Rattle.spec_script.specs.Spelling.{text_spelling}
use Rattle.script_tree.specs.Pieces.{Piece, Words, Numbers, Texts, Opens, Closes}

-- how a piece is spelled
abbrev pub piece_spelling : Piece → List ℕ
piece_spelling (Words at word) = word
piece_spelling (Numbers at z) = signed_decimal z
piece_spelling (Texts at text) = text_spelling text
piece_spelling (Opens at) = open_paren ∷ []
piece_spelling Closes = close_paren ∷ []

-- whether a tree ends with a piece
abbrev pub ends_tree : Piece → Bool
ends_tree (Opens at) = false
ends_tree _ = true

-- whether a space is due before a piece: before each tree that has one before it in its list
abbrev pub is_space_due : (behind_tree : Bool) → Piece → Bool
is_space_due behind_tree Closes = false
is_space_due behind_tree _ = behind_tree

-- a space, where it is due
abbrev pub gap_if : Bool → List ℕ
gap_if true = space ∷ []
gap_if false = []

-- pieces, one after another
unfoldable pub spelled : (behind_tree : Bool) → List Piece → List ℕ
spelled behind_tree [] = []
spelled behind_tree (piece ∷ rest) = gap_if (is_space_due behind_tree piece) ++ (piece_spelling piece ++ spelled (ends_tree piece) rest)
