-- Whatever happens to a reader, and in whatever order: what it gives is decided by the bytes that came, joined, and by the calls that were decided.
use Rattle.std.specs.Prelude.{◌≡◌, ℕ, Bool, true, false, List, [], ◌∷◌, ◌++◌}
use Rattle.spec_parts.specs.BytesToCome.{ReaderCall, Item, NeedMore}
use Rattle.spec_parts.specs.Readers.{Reader, new_reader, feed, finish, item, after_item}
use Rattle.buf_flow.specs.Cuts.{given_at_once}

-- a piece comes, the end is read, or a call is made
pub data Event : Type 0 where
  Comes : (piece : List ℕ) → Event
  Ends : Event
  Asks : (call : ReaderCall) → Event

-- pieces come before the end alone
abbrev pub IsInOrder : (over : Bool) → List Event → Type 0
IsInOrder over [] = Unit {0}
IsInOrder true (Comes piece ∷ events) = ⊥
IsInOrder false (Comes piece ∷ events) = IsInOrder false events
IsInOrder over (Ends ∷ events) = IsInOrder true events
IsInOrder over (Asks call ∷ events) = IsInOrder over events

-- the bytes that come, joined
abbrev pub bytes_in : List Event → List ℕ
bytes_in [] = []
bytes_in (Comes piece ∷ events) = piece ++ bytes_in events
bytes_in (Ends ∷ events) = bytes_in events
bytes_in (Asks call ∷ events) = bytes_in events

-- calls that were decided, in order, and what they gave
pub record Given : Type 0 where
  pub calls : List ReaderCall
  pub items : List Item

-- a call before these, unless it wasn't decided
abbrev pub before : ReaderCall → Item → Given → Given
before call NeedMore rest = rest
before call item rest = record { calls = call ∷ rest.calls; items = item ∷ rest.items }

-- what a reader gives
abbrev pub given : Reader → List Event → Given
given reader [] = record { calls = []; items = [] }
given reader (Comes piece ∷ events) = given (feed piece reader) events
given reader (Ends ∷ events) = given (finish reader) events
given reader (Asks call ∷ events) = before call (item call reader) (given (after_item call reader) events)

-- The calls that were decided gave what they give of all bytes at once.
abbrev pub HistoriesAsAtOnce : Type 0
HistoriesAsAtOnce = (most : ℕ) (events : List Event) → IsInOrder false events → (given (new_reader most) events).items ≡ given_at_once most (given (new_reader most) events).calls (bytes_in events)

-- Two histories with the same bytes and the same decided calls gave the same.
abbrev pub HistoriesAlike : Type 0
HistoriesAlike = (most : ℕ) (one other : List Event) → IsInOrder false one → IsInOrder false other → bytes_in one ≡ bytes_in other → (given (new_reader most) one).calls ≡ (given (new_reader most) other).calls → (given (new_reader most) one).items ≡ (given (new_reader most) other).items
