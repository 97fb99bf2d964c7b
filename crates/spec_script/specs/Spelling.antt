-- Which bytes spell which tree, with its places: the grammar of the notation as a relation.
-- Words, numbers and texts have one spelling each; a list may have any gap between its trees.
use Rattle.std.specs.Prelude.{◌≡◌, ◌≢◌, ℕ, zero, suc, ◌+◌, ◌⊎◌, Bool, true, false, ◌&&◌, ◌||◌, ◌==◌, nat_le, not, if◌then◌else◌, List, [], ◌∷◌, ◌++◌, length, IsTrue}
use Rattle.std.specs.List.{list_all, flat_map}
use Rattle.std.specs.Fmt.{signed_decimal}
use Rattle.spec_script.specs.Bytes.{tab, line_feed, carriage_return, quote, open_paren, close_paren, semicolon, backslash, letter_n, letter_r, letter_t, is_gap_byte, is_letter, is_run_byte, is_plain, has_escape}
use Rattle.spec_script.specs.Limits.{most_word_bytes, most_text_items, most_open_lists, is_within}
use Rattle.spec_script.specs.Trees.{Tree, Word, Number, Text, Branch, Trees, Nil, And, is_run}

-- ## The gap

-- a gap is gap bytes and comments; a comment goes from `;` to the next LF, and is whole with that LF
abbrev pub IsGap : (in_comment : Bool) → List ℕ → Type 0
IsGap false [] = Unit {0}
IsGap true [] = ⊥
IsGap true (b ∷ bytes) = IsGap (not (b == line_feed)) bytes
IsGap false (b ∷ bytes) = (IsTrue (is_gap_byte b) × IsGap false bytes) ⊎ ((b ≡ semicolon) × IsGap true bytes)

-- the gap at the end of the input, where the last comment may lack its LF
abbrev pub IsLastGap : (in_comment : Bool) → List ℕ → Type 0
IsLastGap in_comment [] = Unit {0}
IsLastGap true (b ∷ bytes) = IsLastGap (not (b == line_feed)) bytes
IsLastGap false (b ∷ bytes) = (IsTrue (is_gap_byte b) × IsLastGap false bytes) ⊎ ((b ≡ semicolon) × IsLastGap true bytes)

-- ## Words and texts

-- a word begins with a letter, goes on with run bytes, and isn't too long
abbrev pub is_word : List ℕ → Bool
is_word [] = false
is_word (b ∷ bytes) = is_letter b && list_all is_run_byte bytes && nat_le (length (b ∷ bytes)) most_word_bytes

-- a text holds plain bytes and bytes that have an escape, and not too many
abbrev pub is_text : List ℕ → Bool
is_text text = list_all (λ b. is_plain b || has_escape b) text && nat_le (length text) most_text_items

-- how one byte of a text is spelled: `\n`, `\r`, `\t`, `\"`, `\\`, or itself
abbrev pub item_spelling : ℕ → List ℕ
item_spelling b =
    if b == line_feed then backslash ∷ letter_n ∷ []
    else
    (if b == carriage_return then backslash ∷ letter_r ∷ []
    else
    (if b == tab then backslash ∷ letter_t ∷ []
    else (if b == quote || b == backslash then backslash ∷ b ∷ [] else b ∷ [])))

-- a text is spelled in quotes, item by item
abbrev pub text_spelling : List ℕ → List ℕ
text_spelling text = quote ∷ (flat_map item_spelling text ++ quote ∷ [])

-- ## Trees

abbrev mutual
  -- `bytes`, which begin at `at`, spell the tree, in which at most `lists` lists are open in one another
  pub Spells : (lists at : ℕ) → (bytes : List ℕ) → Tree → Type 0
  Spells lists at bytes (Word place word) = (place ≡ at) × (bytes ≡ word) × IsTrue (is_word word)
  Spells lists at bytes (Number place z) = (place ≡ at) × (bytes ≡ signed_decimal z) × IsTrue (is_within z)
  Spells lists at bytes (Text place text) = (place ≡ at) × (bytes ≡ text_spelling text) × IsTrue (is_text text)
  Spells zero at bytes (Branch place row) = ⊥
  Spells (suc lists) at bytes (Branch place row) =
      (place ≡ at) × (inner : List ℕ) × (bytes ≡ open_paren ∷ (inner ++ close_paren ∷ [])) × SpellsRow lists (at + 1) inner row false

  -- `bytes` are a gap, a tree, a gap, a tree, and so on, and a last gap.
  -- The gap isn't empty where runs stand on both its sides; `behind_run` says that one stands before it.
  pub SpellsRow : (lists at : ℕ) → (bytes : List ℕ) → Trees → (behind_run : Bool) → Type 0
  SpellsRow lists at bytes Nil behind_run = IsGap false bytes
  SpellsRow lists at bytes (And tree rest) behind_run =
      (gap own others : List ℕ) × (bytes ≡ gap ++ own ++ others)
      × IsGap false gap × (IsTrue (behind_run && is_run tree) → gap ≢ [])
      × Spells lists (at + length gap) own tree
      × SpellsRow lists (at + length gap + length own) others rest (is_run tree)

-- an input spells a tree: a gap, the tree, and a last gap
abbrev pub IsDocument : (bytes : List ℕ) → Tree → Type 0
IsDocument bytes tree =
    (before own behind : List ℕ) × (bytes ≡ before ++ own ++ behind)
    × IsGap false before × Spells most_open_lists (length before) own tree × IsLastGap false behind
