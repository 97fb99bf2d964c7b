-- A reader gives of pieces what it gives of all bytes at once.
-- The idea: what decides a call stays decided by all the bytes to come, and leaves those to the next call.
use Rattle.std.proofs.Common.{◌≡◌, ◌≢◌, ℕ, List, [], ◌∷◌, ◌++◌, Bool, true, false, refl, ap, sym, ◌∙◌, append_assoc, append-nil}
use Rattle.std.specs.List.{concat}
use Rattle.spec_parts.specs.BytesToCome.{ReaderCall, Item, Bytes, Flag, EndOfFile, BufferLimit, NeedMore, Taken, taken}
use Rattle.spec_parts.specs.Readers.{Reader, new_reader, feed, finish, item}
use Rattle.buf_flow.specs.Cuts.{with_behind, given_at_once, Asked, asked, unless_more, ask, given_of_pieces, GivenAsAtOnce, CutsAlike}
use Rattle.buf_flow.proofs.Deciding.{decided_stays}

-- what is decided now is given of all bytes, those that still come with the end behind them; behind the end none come
pub given_of_all : (most : ℕ) (over : Bool) (call : ReaderCall) (bytes more : List ℕ) → (over ≡ true → more ≡ []) → (taken most over call bytes).item ≢ NeedMore → taken most true call (bytes ++ more) ≡ with_behind more (taken most over call bytes)
given_of_all most true call bytes more last decided =
    let none : more ≡ [] = last refl in
    ap (λ m. taken most true call (bytes ++ m)) none
    ∙ (ap (taken most true call) (append-nil bytes)
    ∙ (ap (λ left. let t : Taken = record { item = (taken most true call bytes).item; left = left } in t) (sym (append-nil (taken most true call bytes).left))
    ∙ ap (λ m. with_behind m (taken most true call bytes)) (sym none)))
given_of_all most false call bytes more last decided = decided_stays most call bytes more true decided

-- a call was answered by what all bytes give, and the next ones go on behind it
record AsAtOnce (most : ℕ) (all : Taken) (now : Asked) : Type 0 where
  item : now.item ≡ all.item
  left : now.reader.bytes ++ concat now.pieces ≡ all.left
  limit : now.reader.most ≡ most
  last : now.reader.over ≡ true → now.pieces ≡ []

decided_as_at_once : (call : ReaderCall) (reader : Reader) (pieces : List (List ℕ)) → (reader.over ≡ true → pieces ≡ []) → item call reader ≢ NeedMore → AsAtOnce reader.most (taken reader.most true call (reader.bytes ++ concat pieces)) (asked call reader pieces)
decided_as_at_once call reader pieces last decided =
    let all : taken reader.most true call (reader.bytes ++ concat pieces) ≡ with_behind (concat pieces) (taken reader.most reader.over call reader.bytes) = given_of_all reader.most reader.over call reader.bytes (concat pieces) (λ over. ap concat (last over)) decided in
    record {
      item = ap (λ (t : Taken). t.item) (sym all);
      left = ap (λ (t : Taken). t.left) (sym all);
      limit = refl;
      last = last;
    }

-- by what the bytes that are there give
by_item : (given : Item) (most : ℕ) (all : Taken) (more now : Asked) → (given ≡ NeedMore → AsAtOnce most all more) → (given ≢ NeedMore → AsAtOnce most all now) → AsAtOnce most all (unless_more given more now)
by_item NeedMore most all more now undecided decided = undecided refl
by_item (Bytes bytes) most all more now undecided decided = decided (λ same. cc)
by_item (Flag flag) most all more now undecided decided = decided (λ same. cc)
by_item EndOfFile most all more now undecided decided = decided (λ same. cc)
by_item BufferLimit most all more now undecided decided = decided (λ same. cc)

asks_as_at_once : (pieces : List (List ℕ)) (call : ReaderCall) (reader : Reader) → (reader.over ≡ true → pieces ≡ []) → AsAtOnce reader.most (taken reader.most true call (reader.bytes ++ concat pieces)) (ask call reader pieces)
asks_as_at_once [] call reader last =
    let all : taken reader.most true call (reader.bytes ++ []) ≡ taken reader.most true call reader.bytes = ap (taken reader.most true call) (append-nil reader.bytes) in
    by_item (item call reader) reader.most (taken reader.most true call (reader.bytes ++ [])) (asked call (finish reader) []) (asked call reader [])
    (λ undecided. record {
      item = ap (λ (t : Taken). t.item) (sym all);
      left = append-nil (taken reader.most true call reader.bytes).left ∙ ap (λ (t : Taken). t.left) (sym all);
      limit = refl;
      last = λ over. refl;
    })
    (decided_as_at_once call reader [] last)
asks_as_at_once (piece ∷ pieces) call reader last =
    by_item (item call reader) reader.most (taken reader.most true call (reader.bytes ++ (piece ++ concat pieces))) (ask call (feed piece reader) pieces) (asked call reader (piece ∷ pieces))
    (λ undecided.
    let rest : AsAtOnce reader.most (taken reader.most true call ((reader.bytes ++ piece) ++ concat pieces)) (ask call (feed piece reader) pieces) = asks_as_at_once pieces call (feed piece reader) (λ over. absurd (let none : piece ∷ pieces ≡ [] = last over in cc)) in
    let same : taken reader.most true call ((reader.bytes ++ piece) ++ concat pieces) ≡ taken reader.most true call (reader.bytes ++ (piece ++ concat pieces)) = ap (taken reader.most true call) (append_assoc reader.bytes piece (concat pieces)) in
    record {
      item = rest.item ∙ ap (λ (t : Taken). t.item) same;
      left = rest.left ∙ ap (λ (t : Taken). t.left) same;
      limit = rest.limit;
      last = rest.last;
    })
    (decided_as_at_once call reader (piece ∷ pieces) last)

calls_as_at_once : (calls : List ReaderCall) (reader : Reader) (pieces : List (List ℕ)) → (reader.over ≡ true → pieces ≡ []) → given_of_pieces calls reader pieces ≡ given_at_once reader.most calls (reader.bytes ++ concat pieces)
calls_as_at_once [] reader pieces last = refl
calls_as_at_once (call ∷ calls) reader pieces last =
    let now : Asked = ask call reader pieces in
    let all : Taken = taken reader.most true call (reader.bytes ++ concat pieces) in
    let first : AsAtOnce reader.most all now = asks_as_at_once pieces call reader last in
    let rest : given_of_pieces calls now.reader now.pieces ≡ given_at_once now.reader.most calls (now.reader.bytes ++ concat now.pieces) = calls_as_at_once calls now.reader now.pieces first.last in
    ap (λ given. given ∷ given_of_pieces calls now.reader now.pieces) first.item
    ∙ ap (λ items. all.item ∷ items) (rest ∙ (ap (λ most. given_at_once most calls (now.reader.bytes ++ concat now.pieces)) first.limit ∙ ap (given_at_once reader.most calls) first.left))

pub given_as_at_once : GivenAsAtOnce
given_as_at_once most calls pieces = calls_as_at_once calls (new_reader most) pieces (λ over. absurd (cc))

pub cuts_alike : CutsAlike
cuts_alike most calls one other same = given_as_at_once most calls one ∙ (ap (given_at_once most calls) same ∙ sym (given_as_at_once most calls other))
