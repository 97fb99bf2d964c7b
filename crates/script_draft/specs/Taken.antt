-- What the cursor gave of the tree that came next.
use Rattle.std.specs.Prelude.{◌≡◌, ℕ, ℤ, List, Option, Some, None, Result, Ok, Err}
use Rattle.spec_script.specs.Trees.{Tree, Word, Number, Text, place_of}
use Rattle.std.specs.Borrow.{Bor}
use Rattle.script_tree.specs.Pieces.{Piece, piece_of}
use Rattle.script_tree.specs.declared.tree.TreeNode.{TreeNode}
use Rattle.script_draft.specs.Ahead.{word_at, number_at, text_at, list_at, form_at, tree_ahead, IsInside, IsInForm}
use Rattle.script_draft.specs.declared.cursor.Word.{Word as WordRead}
use Rattle.script_draft.specs.declared.cursor.Text.{Text as TextRead}
use Rattle.script_draft.specs.declared.cursor.Number.{Number as NumberRead}
use Rattle.script_forms.specs.declared.fault.ScriptFault.{ScriptFault}
use Rattle.script_forms.specs.declared.fault.ScriptFault.TheVariants.{Shape}

-- the piece that a reference points to
abbrev pub seen : Bor TreeNode → Piece
seen it = piece_of it.now

abbrev pub word_of : WordRead → ℕ × List ℕ
word_of it = (it.at, it.word.now)

abbrev pub text_of : TextRead → ℕ × List ℕ
text_of it = (it.at, it.text.now)

abbrev pub number_of : NumberRead → ℕ × ℤ
number_of it = (it.at, it.number)

-- the tree was this word, or no word and so of the wrong shape
abbrev pub TakesWord : Tree → Result WordRead ScriptFault → Type 0
TakesWord tree (Ok it) = tree ≡ Word it.at it.word.now
TakesWord tree (Err f) = (word_at tree ≡ None) × (f ≡ Shape (place_of tree))

abbrev pub TakesText : Tree → Result TextRead ScriptFault → Type 0
TakesText tree (Ok it) = tree ≡ Text it.at it.text.now
TakesText tree (Err f) = (text_at tree ≡ None) × (f ≡ Shape (place_of tree))

abbrev pub TakesNumber : Tree → Result NumberRead ScriptFault → Type 0
TakesNumber tree (Ok it) = tree ≡ Number it.at it.number
TakesNumber tree (Err f) = (number_at tree ≡ None) × (f ≡ Shape (place_of tree))

-- the tree was a list, which was gone into; or not, and nothing was passed
abbrev pub Opens : Option ℕ → (old new : List Piece) → Type 0
Opens (Some at) old new = IsInside at old new
Opens None old new = (list_at (tree_ahead old) ≡ None) × (new ≡ old)

-- the tree was a list that begins with a word, which was gone into; or not, and nothing was passed
abbrev pub Enters : Option WordRead → (old new : List Piece) → Type 0
Enters (Some it) old new = IsInForm it.at it.word.now old new
Enters None old new = (form_at (tree_ahead old) ≡ None) × (new ≡ old)
