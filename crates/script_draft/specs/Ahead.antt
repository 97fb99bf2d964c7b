-- What is left of a tree, from a piece on: the trees left of the list that the piece stands in, and those left of the lists around it.
use Rattle.std.specs.Prelude.{◌≡◌, ℕ, ℤ, ◌+◌, ◌<◌, ◌≤◌, Bool, true, false, List, [], ◌∷◌, length, Option, Some, None}
use Rattle.spec_script.specs.Trees.{Tree, Word, Number, Text, Branch, Trees, Nil, And}
use Rattle.script_tree.specs.Pieces.{Piece, Words, Numbers, Texts, Opens, Closes, first, others, rows, first_tree}

unfoldable pub ahead : List Piece → Trees
ahead pieces = first (rows pieces)

unfoldable pub around : List Piece → List Trees
around pieces = others (rows pieces)

-- the trees behind the first
abbrev pub rest_of : Trees → Trees
rest_of Nil = Nil
rest_of (And tree rest) = rest

abbrev pub tree_count : Trees → ℕ
tree_count Nil = 0
tree_count (And tree rest) = tree_count rest + 1

-- the pieces behind the first
abbrev pub behind : List Piece → List Piece
behind [] = []
behind (piece ∷ pieces) = pieces

abbrev pub front : List Piece → Option Piece
front [] = None
front (piece ∷ pieces) = Some piece

-- whether a tree begins with a piece
abbrev pub begins_tree : Piece → Bool
begins_tree Closes = false
begins_tree piece = true

-- whether a tree comes next, and no end
abbrev pub has_tree : List Piece → Bool
has_tree [] = false
has_tree (piece ∷ pieces) = begins_tree piece

-- the tree that comes next
abbrev pub tree_ahead : List Piece → Tree
tree_ahead pieces = first_tree (ahead pieces)

-- from the first pieces to the second one tree was passed
pub record IsPast (old new : List Piece) : Type 0 where
  pub trees : ahead new ≡ rest_of (ahead old)
  pub around : around new ≡ around old
  pub fewer : length new < length old

-- a list was gone into
pub record IsInside (at : ℕ) (old new : List Piece) : Type 0 where
  pub tree : ahead old ≡ And (Branch at (ahead new)) (first (around new))
  pub around : around old ≡ others (around new)
  pub fewer : length new < length old

-- the rest of a list was passed, with its end
pub record IsBehind (old new : List Piece) : Type 0 where
  pub trees : ahead new ≡ first (around old)
  pub around : around new ≡ others (around old)
  pub fewer : length new ≤ length old

-- the same list is read on
pub record IsWithin (old new : List Piece) : Type 0 where
  pub around : around new ≡ around old
  pub fewer : length new ≤ length old

-- ## What comes next

-- the place and the bytes of a word
abbrev pub word_at : Tree → Option (ℕ × List ℕ)
word_at (Word at word) = Some (at, word)
word_at tree = None

abbrev pub text_at : Tree → Option (ℕ × List ℕ)
text_at (Text at text) = Some (at, text)
text_at tree = None

abbrev pub number_at : Tree → Option (ℕ × ℤ)
number_at (Number at z) = Some (at, z)
number_at tree = None

-- the place of a list
abbrev pub list_at : Tree → Option ℕ
list_at (Branch at row) = Some at
list_at tree = None

-- the place of a list and the word that it begins with
abbrev pub form_at : Tree → Option (ℕ × List ℕ)
form_at (Branch at (And (Word place word) items)) = Some (at, word)
form_at tree = None

-- a list was gone into, behind the word that it begins with
pub record IsInForm (at : ℕ) (word : List ℕ) (old new : List Piece) : Type 0 where
  pub place : ℕ
  pub tree : ahead old ≡ And (Branch at (And (Word place word) (ahead new))) (first (around new))
  pub around : around old ≡ others (around new)
  pub fewer : length new < length old

-- ## What a piece is

abbrev pub place_in : Piece → ℕ
place_in (Words at word) = at
place_in (Numbers at z) = at
place_in (Texts at text) = at
place_in (Opens at) = at
place_in Closes = 0

abbrev pub open_in : Piece → Option ℕ
open_in (Opens at) = Some at
open_in piece = None

abbrev pub word_in : Piece → Option (ℕ × List ℕ)
word_in (Words at word) = Some (at, word)
word_in piece = None

abbrev pub text_in : Piece → Option (ℕ × List ℕ)
text_in (Texts at text) = Some (at, text)
text_in piece = None

abbrev pub number_in : Piece → Option (ℕ × ℤ)
number_in (Numbers at z) = Some (at, z)
number_in piece = None
