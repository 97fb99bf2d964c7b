-- Whatever happens to a reader: the calls that are decided give what they give of all bytes at once.
use Rattle.std.proofs.Common.{◌≡◌, ◌≢◌, ℕ, List, [], ◌∷◌, ◌++◌, Bool, true, false, refl, ap, sym, ◌∙◌, append_assoc}
use Rattle.spec_parts.specs.BytesToCome.{ReaderCall, Item, Bytes, Flag, EndOfFile, BufferLimit, NeedMore, Taken, taken}
use Rattle.spec_parts.specs.Readers.{Reader, new_reader, feed, finish, item, after_item}
use Rattle.buf_flow.specs.Cuts.{with_behind, given_at_once}
use Rattle.buf_flow.specs.Histories.{Event, Comes, Ends, Asks, IsInOrder, bytes_in, Given, before, given, HistoriesAsAtOnce, HistoriesAlike}
use Rattle.buf_flow.proofs.Cutting.{given_of_all}
use Rattle.buf_flow.proofs.Deciding.{undecided_leaves}

none_behind : (events : List Event) → IsInOrder true events → bytes_in events ≡ []
none_behind [] ordered = refl
none_behind (Comes piece ∷ events) ordered = absurd ordered
none_behind (Ends ∷ events) ordered = none_behind events ordered
none_behind (Asks call ∷ events) ordered = none_behind events ordered

none_when : (over : Bool) (events : List Event) → IsInOrder over events → over ≡ true → bytes_in events ≡ []
none_when true events ordered is = none_behind events ordered
none_when false events ordered is = absurd (cc)

-- a decided call and the next ones
decided_next : (most : ℕ) (over : Bool) (call : ReaderCall) (bytes more : List ℕ) (given : Item) (rest : Given) → (taken most over call bytes).item ≡ given → (over ≡ true → more ≡ []) → given ≢ NeedMore → rest.items ≡ given_at_once most rest.calls ((taken most over call bytes).left ++ more) → given ∷ rest.items ≡ given_at_once most (call ∷ rest.calls) (bytes ++ more)
decided_next most over call bytes more given rest same last decided items =
    let all : taken most true call (bytes ++ more) ≡ with_behind more (taken most over call bytes) = given_of_all most over call bytes more last (λ undecided. decided (sym same ∙ undecided)) in
    ap (λ i. i ∷ rest.items) (sym same) ∙ (ap (λ is. (taken most over call bytes).item ∷ is) items ∙ ap (λ (t : Taken). t.item ∷ given_at_once most rest.calls t.left) (sym all))

next : (most : ℕ) (over : Bool) (call : ReaderCall) (bytes more : List ℕ) (given : Item) (rest : Given) → (taken most over call bytes).item ≡ given → (over ≡ true → more ≡ []) → rest.items ≡ given_at_once most rest.calls ((taken most over call bytes).left ++ more) → (before call given rest).items ≡ given_at_once most (before call given rest).calls (bytes ++ more)
next most over call bytes more NeedMore rest same last items = items ∙ ap (λ left. given_at_once most rest.calls (left ++ more)) (undecided_leaves most over call bytes same)
next most over call bytes more (Bytes given) rest same last items = decided_next most over call bytes more (Bytes given) rest same last (λ e. cc) items
next most over call bytes more (Flag flag) rest same last items = decided_next most over call bytes more (Flag flag) rest same last (λ e. cc) items
next most over call bytes more EndOfFile rest same last items = decided_next most over call bytes more EndOfFile rest same last (λ e. cc) items
next most over call bytes more BufferLimit rest same last items = decided_next most over call bytes more BufferLimit rest same last (λ e. cc) items

still_open : (piece : List ℕ) (events : List Event) (over : Bool) → IsInOrder over (Comes piece ∷ events) → IsInOrder over events
still_open piece events true ordered = absurd ordered
still_open piece events false ordered = ordered

goes_on : (events : List Event) (reader : Reader) → IsInOrder reader.over events → (given reader events).items ≡ given_at_once reader.most (given reader events).calls (reader.bytes ++ bytes_in events)
goes_on [] reader ordered = refl
goes_on (Comes piece ∷ events) reader ordered =
    goes_on events (feed piece reader) (still_open piece events reader.over ordered)
    ∙ ap (given_at_once reader.most (given (feed piece reader) events).calls) (append_assoc reader.bytes piece (bytes_in events))
goes_on (Ends ∷ events) reader ordered = goes_on events (finish reader) ordered
goes_on (Asks call ∷ events) reader ordered =
    next reader.most reader.over call reader.bytes (bytes_in events) (item call reader) (given (after_item call reader) events) refl (none_when reader.over events ordered) (goes_on events (after_item call reader) ordered)

pub histories_as_at_once : HistoriesAsAtOnce
histories_as_at_once most events ordered = goes_on events (new_reader most) ordered

pub histories_alike : HistoriesAlike
histories_alike most one other ordered ordered_other same calls =
    histories_as_at_once most one ordered
    ∙ (ap (given_at_once most (given (new_reader most) one).calls) same
    ∙ (ap (λ cs. given_at_once most cs (bytes_in other)) calls ∙ sym (histories_as_at_once most other ordered_other)))
