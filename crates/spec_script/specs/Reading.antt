-- The one tree that bytes spell, or their one fault. Tokens are read from the left: a paren, a text, or a run, the
-- longest row of run bytes. The first token that is refused gives the fault (the list of faults stands in Faults).
use Rattle.std.specs.Prelude.{ℕ, zero, suc, ◌+◌, ◌^◌, Bool, true, false, ◌&&◌, ◌||◌, ◌==◌, nat_le, nat_lt, not, if◌then◌else◌, List, [], ◌∷◌, length, drop, take_while, Result, Ok, Err, Option, Some, None}
use Rattle.std.specs.List.{list_all}
use Rattle.std.specs.Str.Parse.{digits_value, signed_digits_value}
use Rattle.spec_script.specs.declared.TextByte.{TextByte}
use Rattle.spec_script.specs.declared.TextByte.TheVariants.{Item, Backslash, Quote, Unsound}
use Rattle.spec_script.specs.Results.{◌>>=◌}
use Rattle.spec_script.specs.Bytes.{tab, line_feed, carriage_return, quote, open_paren, close_paren, minus, digit_zero, semicolon, backslash, underscore, letter_n, letter_r, letter_t, is_gap_byte, is_digit, is_letter, is_run_byte, is_plain}
use Rattle.spec_script.specs.Limits.{most_word_bytes, most_text_items, most_open_lists}
use Rattle.spec_script.specs.Trees.{Tree, Word, Number, Text, Branch, Trees, Nil, And}
use Rattle.spec_script.specs.Faults as fault
use Rattle.spec_script.specs.Faults.{TreeFault}

-- a place in the input, and the bytes from there on
pub record Here : Type 0 where
  pub at : ℕ
  pub bytes : List ℕ

abbrev pub here : ℕ → List ℕ → Here
here at bytes = record { at = at; bytes = bytes }

-- ## The gap

-- whether a byte belongs to the gap, and if so, whether a comment goes on behind it:
-- a comment begins with `;` and ends with the next LF
abbrev pub gap_step : (in_comment : Bool) → ℕ → Option Bool
gap_step true b = Some (not (b == line_feed))
gap_step false b = if b == semicolon then Some true else (if is_gap_byte b then Some false else None)

-- the place behind the gap
unfoldable pub past_gap : (in_comment : Bool) → ℕ → List ℕ → Here
past_gap in_comment at [] = here at []
past_gap in_comment at (b ∷ bytes) = elim (gap_step in_comment b) [ Some next ↦ past_gap next (at + 1) bytes | None ↦ here at (b ∷ bytes) ]

-- ## Texts

-- the item that an escape stands for, by the byte behind its backslash
abbrev pub escape_of : ℕ → Option ℕ
escape_of b =
    if b == letter_n then Some line_feed
    else
    (if b == letter_r then Some carriage_return
    else
    (if b == letter_t then Some tab
    else (if b == quote || b == backslash then Some b else None)))

-- what a byte of a text is, behind a backslash or not
abbrev pub text_step : (escaped : Bool) → ℕ → TextByte
text_step true b = elim (escape_of b) [ Some item ↦ Item item | None ↦ Unsound ]
text_step false b =
    if b == quote then Quote
    else
    (if b == backslash then Backslash
    else (if is_plain b then Item b else Unsound))

-- the items of a text, and the place behind it
pub record Items : Type 0 where
  pub items : List ℕ
  pub next : Here

abbrev pub with_item : ℕ → Items → Items
with_item item others = record { items = item ∷ others.items; next = others.next }

-- the rest of the text that began at `start`, where n items are read and a backslash was read last or not.
-- The first item too many is refused as soon as it is read whole.
unfoldable pub text_items : (start : ℕ) → (escaped : Bool) → (n at : ℕ) → List ℕ → Result Items TreeFault
text_items start escaped n at [] = Err (fault.Unclosed start)
text_items start escaped n at (b ∷ bytes) =
    elim (text_step escaped b) [
      | Item item ↦ elim (nat_lt n most_text_items) [
        | true ↦ (text_items start false (n + 1) (at + 1) bytes >>= λ others. Ok (with_item item others))
        | false ↦ Err (fault.LongText start)
      ]
      | Backslash ↦ text_items start true n (at + 1) bytes
      | Quote ↦ Ok (record { items = []; next = here (at + 1) bytes })
      | Unsound ↦ Err (fault.Byte at)
    ]

-- ## Runs

-- digits that don't begin with 0, or 0 alone
abbrev pub is_numeral : List ℕ → Bool
is_numeral [] = false
is_numeral (b ∷ []) = is_digit b
is_numeral (b ∷ c ∷ bytes) = is_digit b && not (b == digit_zero) && list_all is_digit (c ∷ bytes)

-- a numeral below 2^63, or `-` and a numeral from 1 to 2^63
abbrev pub is_number : List ℕ → Bool
is_number [] = false
is_number (b ∷ bytes) =
    if b == minus then is_numeral bytes && not (digits_value 10 bytes == 0) && nat_le (digits_value 10 bytes) (2 ^ 63)
    else is_numeral (b ∷ bytes) && nat_lt (digits_value 10 (b ∷ bytes)) (2 ^ 63)

-- the tree that a run is: a word where it begins with a letter, a number where it begins with a digit or `-`
unfoldable pub run_tree : ℕ → List ℕ → Result Tree TreeFault
run_tree at [] = Err (fault.Byte at)
run_tree at (b ∷ run) =
    elim (is_letter b) [
      | true ↦ elim (nat_le (length (b ∷ run)) most_word_bytes) [ true ↦ Ok (Word at (b ∷ run)) | false ↦ Err (fault.LongText at) ]
      | false ↦ elim (b == underscore) [
        | true ↦ Err (fault.Byte at)
        | false ↦ elim (is_number (b ∷ run)) [ true ↦ Ok (Number at (signed_digits_value 10 (b ∷ run))) | false ↦ Err (fault.Number at) ]
      ]
    ]

-- ## Trees

-- a tree, and the place behind it
pub record Found : Type 0 where
  pub tree : Tree
  pub next : Here

abbrev pub found : Tree → Here → Found
found tree next = record { tree = tree; next = next }

-- the trees of a list, and the place behind its `)`
pub record Row : Type 0 where
  pub row : Trees
  pub next : Here

abbrev pub with_tree : Tree → Row → Row
with_tree tree others = record { row = And tree others.row; next = others.next }

-- what a byte is where a tree or the end of a list may come
pub data Start : Type 0 where
  Opens : Start
  Closes : Start
  Quotes : Start
  Runs : Start
  Strange : Start

abbrev pub start_of : ℕ → Start
start_of b =
    if b == open_paren then Opens
    else
    (if b == close_paren then Closes
    else
    (if b == quote then Quotes
    else (if is_run_byte b then Runs else Strange)))

-- the text that begins at this quote
abbrev pub text_at : ℕ → List ℕ → Result Found TreeFault
text_at at bytes = text_items at false 0 (at + 1) bytes >>= λ text. Ok (found (Text at text.items) text.next)

-- the word or number that begins here: the longest run
abbrev pub run_at : ℕ → List ℕ → Result Found TreeFault
run_at at bytes =
    let run = take_while is_run_byte bytes in
    run_tree at run >>= λ tree. Ok (found tree (here (at + length run) (drop (length run) bytes)))

-- the tree that begins here, where `list_at` reads what follows a `(`. An input that ends before any tree is Unclosed
-- at its end.
abbrev pub tree_by : (list_at : ℕ → List ℕ → Result Found TreeFault) → Here → Result Found TreeFault
tree_by list_at from = elim from.bytes [
  | [] ↦ Err (fault.Unclosed from.at)
  | b ∷ bytes ↦ elim (start_of b) [
    | Opens ↦ list_at from.at bytes
    | Closes ↦ Err (fault.Stray from.at)
    | Quotes ↦ text_at from.at bytes
    | Runs ↦ run_at from.at (b ∷ bytes)
    | Strange ↦ Err (fault.Byte from.at)
  ]
]

-- how a list goes on: the input ends, the list ends, or a tree comes
pub data Going : Type 0 where
  InputEnds : Going
  ListEnds : (behind : List ℕ) → Going
  TreeComes : Going

abbrev pub going_of : List ℕ → Going
going_of [] = InputEnds
going_of (b ∷ bytes) = if b == close_paren then ListEnds bytes else TreeComes

-- the rest of the list that began at `paren`: trees that `tree_here` reads, with any gap before each and before the `)`.
-- There are at most `most` of them; a list never has more trees than bytes, so it never comes to that.
unfoldable pub trees_by : (tree_here : Here → Result Found TreeFault) → (most paren : ℕ) → Here → Result Row TreeFault
trees_by tree_here zero paren from = Err (fault.Unclosed paren)
trees_by tree_here (suc most) paren from =
    elim (going_of from.bytes) [
      | InputEnds ↦ Err (fault.Unclosed paren)
      | ListEnds behind ↦ Ok (record { row = Nil; next = here (from.at + 1) behind })
      | TreeComes ↦ (tree_here from >>= λ first. trees_by tree_here most paren (past_gap false first.next.at first.next.bytes) >>= λ others. Ok (with_tree first.tree others))
    ]

-- the list that begins at `paren`
abbrev pub list_by : (tree_here : Here → Result Found TreeFault) → (paren : ℕ) → List ℕ → Result Found TreeFault
list_by tree_here paren bytes = trees_by tree_here (length bytes + 1) paren (past_gap false (paren + 1) bytes) >>= λ list. Ok (found (Branch paren list.row) list.next)

-- the tree that begins here, where so many lists may be opened in one another
unfoldable pub tree_at : (lists : ℕ) → Here → Result Found TreeFault
tree_at zero from = tree_by (λ paren bytes. Err (fault.Deep paren)) from
tree_at (suc lists) from = tree_by (λ paren bytes. list_by (tree_at lists) paren bytes) from

-- nothing but gap stands behind the whole tree
abbrev pub alone : Found → Result Tree TreeFault
alone whole =
    let behind = past_gap false whole.next.at whole.next.bytes in
    elim behind.bytes [ [] ↦ Ok whole.tree | b ∷ bytes ↦ Err (fault.Stray behind.at) ]

-- the tree of an input, or its fault
unfoldable pub reading : List ℕ → Result Tree TreeFault
reading bytes = tree_at most_open_lists (past_gap false 0 bytes) >>= alone
