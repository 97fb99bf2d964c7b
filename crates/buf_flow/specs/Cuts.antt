-- How the bytes of a flow are cut into pieces has no part in what its reader gives.
use Rattle.std.specs.Prelude.{◌≡◌, ◌≢◌, ℕ, Bool, true, false, List, [], ◌∷◌, ◌++◌}
use Rattle.std.specs.List.{concat}
use Rattle.spec_parts.specs.BytesToCome.{ReaderCall, Item, Bytes, Flag, EndOfFile, BufferLimit, NeedMore, Taken, taken}
use Rattle.spec_parts.specs.Readers.{Reader, new_reader, feed, finish, item, after_item}

-- the same is given, and these bytes are left behind what is left
abbrev pub with_behind : List ℕ → Taken → Taken
with_behind more t = record t { left = t.left ++ more }

-- A call that some bytes decide gives the same with more bytes behind them, and leaves those too. Whether the end is behind them has no part in it.
abbrev pub DecidedStays : Type 0
DecidedStays = (most : ℕ) (call : ReaderCall) (front more : List ℕ) (over : Bool) → (taken most false call front).item ≢ NeedMore → taken most over call (front ++ more) ≡ with_behind more (taken most false call front)

-- Where the end is behind the bytes, they decide every call.
abbrev pub EndDecides : Type 0
EndDecides = (most : ℕ) (call : ReaderCall) (bytes : List ℕ) → (taken most true call bytes).item ≢ NeedMore

-- A call that isn't decided takes nothing.
abbrev pub UndecidedLeaves : Type 0
UndecidedLeaves = (most : ℕ) (over : Bool) (call : ReaderCall) (bytes : List ℕ) → (taken most over call bytes).item ≡ NeedMore → (taken most over call bytes).left ≡ bytes

-- what calls give, one behind the other, of bytes that are all there, with the end behind them
abbrev pub given_at_once : (most : ℕ) → List ReaderCall → List ℕ → List Item
given_at_once most [] bytes = []
given_at_once most (call ∷ calls) bytes = (taken most true call bytes).item ∷ given_at_once most calls (taken most true call bytes).left

-- A reader that asks for more: each call is made again behind each piece that comes, until it is decided; behind the last piece the end
-- is read.

-- what a call gave, and the reader and the pieces that it left
pub record Asked : Type 0 where
  pub item : Item
  pub reader : Reader
  pub pieces : List (List ℕ)

-- the call by the bytes that are there
abbrev pub asked : ReaderCall → Reader → List (List ℕ) → Asked
asked call reader pieces = record { item = item call reader; reader = after_item call reader; pieces = pieces }

-- what was given, unless more was asked for
abbrev pub unless_more : Item → (more given : Asked) → Asked
unless_more NeedMore more given = more
unless_more (Bytes bytes) more given = given
unless_more (Flag flag) more given = given
unless_more EndOfFile more given = given
unless_more BufferLimit more given = given

-- one call, made until it is decided
abbrev pub ask : ReaderCall → Reader → List (List ℕ) → Asked
ask call reader [] = unless_more (item call reader) (asked call (finish reader) []) (asked call reader [])
ask call reader (piece ∷ pieces) = unless_more (item call reader) (ask call (feed piece reader) pieces) (asked call reader (piece ∷ pieces))

-- what calls give of pieces
abbrev pub given_of_pieces : List ReaderCall → Reader → List (List ℕ) → List Item
given_of_pieces [] reader pieces = []
given_of_pieces (call ∷ calls) reader pieces =
    let now : Asked = ask call reader pieces in
    now.item ∷ given_of_pieces calls now.reader now.pieces

-- Calls give the same of pieces as of all bytes at once.
abbrev pub GivenAsAtOnce : Type 0
GivenAsAtOnce = (most : ℕ) (calls : List ReaderCall) (pieces : List (List ℕ)) → given_of_pieces calls (new_reader most) pieces ≡ given_at_once most calls (concat pieces)

-- Calls give the same of any two cuts of the same bytes.
abbrev pub CutsAlike : Type 0
CutsAlike = (most : ℕ) (calls : List ReaderCall) (one other : List (List ℕ)) → concat one ≡ concat other → given_of_pieces calls (new_reader most) one ≡ given_of_pieces calls (new_reader most) other
