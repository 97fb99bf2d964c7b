-- A tree as the list of its pieces, which give it back.
use Rattle.std.specs.Prelude.{◌≡◌, ℕ, ℤ, pos, zero, suc, List, [], ◌∷◌, ◌++◌, refl}
use Rattle.std.proofs.Common.{ap, sym, ◌∙◌, append_assoc, append-nil}
use Rattle.std.specs.Coded.{Coded, code_by, coded×, coded_ℕ, coded_ℤ, coded_list}
use Rattle.spec_script.specs.Trees.{Tree, Word, Number, Text, Branch, Trees, Nil, And}
use Rattle.script_tree.specs.Pieces.{Piece, Words, Numbers, Texts, Opens, Closes, pieces, row_pieces, first, others, rows, first_tree, tree_of}

mutual
  unfolding pieces row_pieces

  rows_of_tree : (tree : Tree) (behind : List Piece) → rows (pieces tree ++ behind) ≡ And tree (first (rows behind)) ∷ others (rows behind)
  rows_of_tree (Word at word) behind = refl
  rows_of_tree (Number at z) behind = refl
  rows_of_tree (Text at text) behind = refl
  rows_of_tree (Branch at row) behind =
      ap (λ ps. And (Branch at (first (rows ps))) (first (others (rows ps))) ∷ others (others (rows ps))) (append_assoc (row_pieces row) (Closes ∷ []) behind)
      ∙ ap (λ (rs : List Trees). And (Branch at (first rs)) (first (others rs)) ∷ others (others rs)) (rows_of_row row behind)

  rows_of_row : (row : Trees) (behind : List Piece) → rows (row_pieces row ++ Closes ∷ behind) ≡ row ∷ rows behind
  rows_of_row Nil behind = refl
  rows_of_row (And tree rest) behind =
      ap rows (append_assoc (pieces tree) (row_pieces rest) (Closes ∷ behind))
      ∙ (rows_of_tree tree (row_pieces rest ++ Closes ∷ behind) ∙ ap (λ (rs : List Trees). And tree (first rs) ∷ others rs) (rows_of_row rest behind))

-- a tree is the one that its pieces spell
pub tree_of-pieces : (tree : Tree) → tree_of (pieces tree) ≡ tree
unfolding tree_of
tree_of-pieces tree = ap tree_of (sym (append-nil (pieces tree))) ∙ ap (λ (rs : List Trees). first_tree (first rs)) (rows_of_tree tree [])

-- a piece as a number for its kind, its place, and its word or text or its number
abbrev pub Token : Type 0
Token = ℕ × (ℕ × (List ℕ × ℤ))

abbrev pub token_of : Piece → Token
token_of (Words at word) = (0, (at, (word, pos 0)))
token_of (Numbers at z) = (1, (at, ([], z)))
token_of (Texts at text) = (2, (at, (text, pos 0)))
token_of (Opens at) = (3, (at, ([], pos 0)))
token_of Closes = (4, (0, ([], pos 0)))

abbrev pub piece_by : (kind at : ℕ) → List ℕ → ℤ → Piece
piece_by zero at text z = Words at text
piece_by (suc zero) at text z = Numbers at z
piece_by (suc (suc zero)) at text z = Texts at text
piece_by (suc (suc (suc zero))) at text z = Opens at
piece_by _ at text z = Closes

abbrev pub piece_in : Token → Piece
piece_in token = piece_by token.0 token.1.0 token.1.1.0 token.1.1.1

pub piece_in-token_of : (piece : Piece) → piece_in (token_of piece) ≡ piece
piece_in-token_of (Words at word) = refl
piece_in-token_of (Numbers at z) = refl
piece_in-token_of (Texts at text) = refl
piece_in-token_of (Opens at) = refl
piece_in-token_of Closes = refl

abbrev pub piece_code : Coded Piece
piece_code = code_by Token (coded× coded_ℕ (coded× coded_ℕ (coded× (coded_list coded_ℕ) coded_ℤ))) token_of piece_in piece_in-token_of

abbrev pub tree_code : Coded Tree
tree_code = code_by (List Piece) (coded_list piece_code) pieces tree_of tree_of-pieces
