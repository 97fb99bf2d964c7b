-- What some bytes decide stays decided, with more bytes behind them and behind the end.
use Rattle.std.proofs.Common.{◌≡◌, ◌≢◌, ℕ, zero, suc, ◌+◌, ◌-◌, ◌<◌, ◌≤◌, List, [], ◌∷◌, ◌++◌, length, take, drop, get_or, Bool, true, false, Option, Some, None, refl, ap, sym, ◌∙◌, arith}
use Rattle.std.proofs.lemmas.Grind.{common_steps}
use Rattle.std.proofs.lemmas.List.{length-append, length-take, take-append-le, drop-append-le, take_all, get_or_append_left}
use Rattle.std.proofs.lemmas.List.Quantifiers.{position-Some}
use Rattle.std.specs.Prelude.{◌==◌, nat_lt, position}
use Rattle.spec_parts.specs.BytesToCome.{Line, TakeBytes, TakeAll, Char, AtEnd, NeedMore, BufferLimit, Taken, gives, leaves, too_few, without_cr, line_end, last_line, line, counted, take_bytes, whole, take_all as all_bytes, at_end}
use Rattle.buf_flow.specs.Cuts.{with_behind, DecidedStays, EndDecides, UndecidedLeaves}
use Rattle.buf_flow.proofs.Lines.{first_line_feed, searched_before}

abbrev unended : (over long : Bool) → List ℕ → Taken
unended over true bytes = leaves BufferLimit bytes
unended over false bytes = last_line over bytes

-- a line by the place of its end, and by whether more bytes are there than it may have
abbrev line_by : (over long : Bool) → List ℕ → Option ℕ → Taken
line_by over long bytes (Some place) = gives (without_cr (take place bytes)) (drop (place + 1) bytes)
line_by over long bytes None = unended over long bytes

by_end : (over long : Bool) (bytes : List ℕ) (end : Option ℕ) → (let t : Taken = elim end [ Some place ↦ gives (without_cr (take place bytes)) (drop (place + 1) bytes) | None ↦ elim long [ true ↦ leaves BufferLimit bytes | false ↦ last_line over bytes ] ] in t) ≡ line_by over long bytes end
by_end over long bytes (Some place) = refl
by_end over true bytes None = refl
by_end over false bytes None = refl

line-by : (most : ℕ) (over long : Bool) (bytes : List ℕ) (end : Option ℕ) → nat_lt most (length bytes) ≡ long → line_end most bytes ≡ end → line most over bytes ≡ line_by over long bytes end
line-by most over long bytes end size same =
    by_end over (nat_lt most (length bytes)) bytes (line_end most bytes) ∙ (ap (λ is_long. line_by over is_long bytes (line_end most bytes)) size ∙ ap (line_by over long bytes) same)

-- the first LF of a front is that of the whole
position-append : (front more : List ℕ) (place : ℕ) → position (λ b. b == 10) front ≡ Some place → (place < length front) × (position (λ b. b == 10) (front ++ more) ≡ Some place)
position-append front more place found =
    let whole : take (length front) front ≡ front = take_all (length front) front (omega arith) in
    let before = searched_before front (length front) place (omega arith) (sym found ∙ ap (position (λ b. b == 10)) (sym whole)) in
    let first = position-Some (λ b. b == 10) front place 0 found in
    let at_place : get_or front place 0 ≡ 10 = grind (arith, common_steps, first.1) in
    let size : length (front ++ more) ≡ length front + length more = length-append front more in (
      before.0,
      sym (first_line_feed (front ++ more) place
          (λ k less is. before.1 k less (sym (get_or_append_left front more 0 k (omega (arith, less, before.0))) ∙ is))
          (omega (arith, size, before.0))
          (get_or_append_left front more 0 place before.0 ∙ at_place)),
    )

-- a front of two lists joined, also where it goes beyond the first
front_of : (n rest : ℕ) (xs ys : List ℕ) → n - length xs ≡ rest → take n (xs ++ ys) ≡ take n xs ++ take rest ys
front_of zero rest xs ys behind =
    let none : rest ≡ 0 = omega (arith, behind) in
    ap (λ r. take r ys) (sym none)
front_of (suc n) rest [] ys behind =
    let all : rest ≡ suc n = omega (arith, behind) in
    ap (λ r. take r ys) (sym all)
front_of (suc n) rest (x ∷ xs) ys behind = ap (λ zs. x ∷ zs) (front_of n rest xs ys (omega (arith, behind)))

line_end-append : (most place : ℕ) (front more : List ℕ) → line_end most front ≡ Some place → (place < length front) × (line_end most (front ++ more) ≡ Some place)
line_end-append most place front more found =
    let joined : take (most + 1) (front ++ more) ≡ take (most + 1) front ++ take (most + 1 - length front) more = front_of (most + 1) (most + 1 - length front) front more refl in
    let first = position-append (take (most + 1) front) (take (most + 1 - length front) more) place found in
    let size : length (take (most + 1) front) ≤ length front = omega (arith, length-take (most + 1) front) in
    (omega (arith, first.0, size), ap (position (λ b. b == 10)) joined ∙ first.1)

line_end-long : (most : ℕ) (front more : List ℕ) → most < length front → line_end most front ≡ None → line_end most (front ++ more) ≡ None
line_end-long most front more less none = ap (position (λ b. b == 10)) (take-append-le (most + 1) front more (omega (arith, less))) ∙ none

longer : (most : ℕ) (front more : List ℕ) → nat_lt most (length front) ≡ true → nat_lt most (length (front ++ more)) ≡ true
longer most front more test =
    let size : length (front ++ more) ≡ length front + length more = length-append front more in
    grind (arith, common_steps)

-- lines, by the place of their end and by whether there is more than they may have
line_stays : (most : ℕ) (front more : List ℕ) (over long : Bool) (end : Option ℕ) → nat_lt most (length front) ≡ long → line_end most front ≡ end → (line_by false long front end).item ≢ NeedMore → line most over (front ++ more) ≡ with_behind more (line_by false long front end)
line_stays most front more over long (Some place) size same decided =
    let there = line_end-append most place front more same in
    line-by most over (nat_lt most (length (front ++ more))) (front ++ more) (Some place) refl there.1
    ∙ (ap (λ bytes. gives (without_cr bytes) (drop (place + 1) (front ++ more))) (take-append-le place front more (omega (arith, there.0)))
    ∙ ap (gives (without_cr (take place front))) (drop-append-le (place + 1) front more (omega (arith, there.0))))
line_stays most front more over true None size same decided =
    let less : most < length front = grind (arith, common_steps, size) in
    line-by most over true (front ++ more) None (longer most front more size) (line_end-long most front more less same)
line_stays most front more over false None size same decided = absurd (decided refl)

-- `take_bytes`, by whether it asks for more than the limit, and for more than is there
abbrev take_by : (over far short : Bool) → (count : ℕ) → List ℕ → Taken
take_by over true short count bytes = leaves BufferLimit bytes
take_by over false true count bytes = too_few over bytes
take_by over false false count bytes = gives (take count bytes) (drop count bytes)

by_tests : (over far short : Bool) (count : ℕ) (bytes : List ℕ) → (let t : Taken = elim far [ true ↦ leaves BufferLimit bytes | false ↦ elim short [ true ↦ too_few over bytes | false ↦ gives (take count bytes) (drop count bytes) ] ] in t) ≡ take_by over far short count bytes
by_tests over true short count bytes = refl
by_tests over false true count bytes = refl
by_tests over false false count bytes = refl

take-by : (most count : ℕ) (over : Bool) (bytes : List ℕ) → take_bytes most count over bytes ≡ take_by over (nat_lt most count) (nat_lt (length bytes) count) count bytes
take-by most count over bytes = by_tests over (nat_lt most count) (nat_lt (length bytes) count) count bytes

take_stays : (count : ℕ) (front more : List ℕ) (over far short longer_short : Bool) → nat_lt (length front) count ≡ short → nat_lt (length (front ++ more)) count ≡ longer_short → (take_by false far short count front).item ≢ NeedMore → take_by over far longer_short count (front ++ more) ≡ with_behind more (take_by false far short count front)
take_stays count front more over true short longer_short few still decided = refl
take_stays count front more over false true longer_short few still decided = absurd (decided refl)
take_stays count front more over false false true few still decided =
    let size : length (front ++ more) ≡ length front + length more = length-append front more in
    absurd (grind (arith, common_steps, few, still))
take_stays count front more over false false false few still decided =
    let within : count ≤ length front = grind (arith, common_steps, few) in
    ap (λ bytes. gives bytes (drop count (front ++ more))) (take-append-le count front more within) ∙ ap (gives (take count front)) (drop-append-le count front more within)

-- `take_all`, by whether more is there than the limit
abbrev all_by : (over long : Bool) → List ℕ → Taken
all_by over true bytes = leaves BufferLimit bytes
all_by over false bytes = whole over bytes

all-by : (most : ℕ) (over : Bool) (bytes : List ℕ) → all_bytes most over bytes ≡ all_by over (nat_lt most (length bytes)) bytes
all-by most over bytes = by_test over (nat_lt most (length bytes)) bytes where
  by_test : (over long : Bool) (bytes : List ℕ) → (let t : Taken = elim long [ true ↦ leaves BufferLimit bytes | false ↦ whole over bytes ] in t) ≡ all_by over long bytes
  by_test over true bytes = refl
  by_test over false bytes = refl

all_stays : (most : ℕ) (front more : List ℕ) (over long : Bool) → nat_lt most (length front) ≡ long → (all_by false long front).item ≢ NeedMore → all_bytes most over (front ++ more) ≡ with_behind more (all_by false long front)
all_stays most front more over true size decided =
    all-by most over (front ++ more) ∙ ap (λ long. all_by over long (front ++ more)) (longer most front more size)
all_stays most front more over false size decided = absurd (decided refl)

end_stays : (b : ℕ) (bytes more : List ℕ) (over : Bool) → at_end over (b ∷ (bytes ++ more)) ≡ with_behind more (at_end false (b ∷ bytes))
end_stays b bytes more true = refl
end_stays b bytes more false = refl

pub decided_stays : DecidedStays
decided_stays most Line front more over decided =
    let by : line most false front ≡ line_by false (nat_lt most (length front)) front (line_end most front) = line-by most false (nat_lt most (length front)) front (line_end most front) refl refl in
    line_stays most front more over (nat_lt most (length front)) (line_end most front) refl refl (λ undecided. decided (ap (λ (t : Taken). t.item) by ∙ undecided))
    ∙ ap (with_behind more) (sym by)
decided_stays most (TakeBytes count) front more over decided =
    let by : take_bytes most (counted count) false front ≡ take_by false (nat_lt most (counted count)) (nat_lt (length front) (counted count)) (counted count) front = take-by most (counted count) false front in
    take-by most (counted count) over (front ++ more)
    ∙ (take_stays (counted count) front more over (nat_lt most (counted count)) (nat_lt (length front) (counted count)) (nat_lt (length (front ++ more)) (counted count)) refl refl (λ undecided. decided (ap (λ (t : Taken). t.item) by ∙ undecided))
    ∙ ap (with_behind more) (sym by))
decided_stays most TakeAll front more over decided =
    let by : all_bytes most false front ≡ all_by false (nat_lt most (length front)) front = all-by most false front in
    all_stays most front more over (nat_lt most (length front)) refl (λ undecided. decided (ap (λ (t : Taken). t.item) by ∙ undecided))
    ∙ ap (with_behind more) (sym by)
decided_stays most Char [] more over decided = absurd (decided refl)
decided_stays most Char (b ∷ bytes) more over decided = refl
decided_stays most AtEnd [] more over decided = absurd (decided refl)
decided_stays most AtEnd (b ∷ bytes) more over decided = end_stays b bytes more over

line_ends : (long : Bool) (bytes : List ℕ) (end : Option ℕ) → (line_by true long bytes end).item ≢ NeedMore
line_ends long bytes (Some place) same = cc
line_ends true bytes None same = cc
line_ends false [] None same = cc
line_ends false (b ∷ bytes) None same = cc

take_ends : (far short : Bool) (count : ℕ) (bytes : List ℕ) → (take_by true far short count bytes).item ≢ NeedMore
take_ends true short count bytes same = cc
take_ends false true count bytes same = cc
take_ends false false count bytes same = cc

all_ends : (long : Bool) (bytes : List ℕ) → (all_by true long bytes).item ≢ NeedMore
all_ends true bytes same = cc
all_ends false bytes same = cc

pub end_decides : EndDecides
end_decides most Line bytes same =
    line_ends (nat_lt most (length bytes)) bytes (line_end most bytes) (ap (λ (t : Taken). t.item) (sym (line-by most true (nat_lt most (length bytes)) bytes (line_end most bytes) refl refl)) ∙ same)
end_decides most (TakeBytes count) bytes same =
    take_ends (nat_lt most (counted count)) (nat_lt (length bytes) (counted count)) (counted count) bytes (ap (λ (t : Taken). t.item) (sym (take-by most (counted count) true bytes)) ∙ same)
end_decides most TakeAll bytes same =
    all_ends (nat_lt most (length bytes)) bytes (ap (λ (t : Taken). t.item) (sym (all-by most true bytes)) ∙ same)
end_decides most Char [] same = cc
end_decides most Char (b ∷ bytes) same = cc
end_decides most AtEnd [] same = cc
end_decides most AtEnd (b ∷ bytes) same = cc

line_leaves : (over long : Bool) (bytes : List ℕ) (end : Option ℕ) → (line_by over long bytes end).item ≡ NeedMore → (line_by over long bytes end).left ≡ bytes
line_leaves over long bytes (Some place) same = absurd (cc)
line_leaves over true bytes None same = refl
line_leaves true false [] None same = refl
line_leaves true false (b ∷ bytes) None same = absurd (cc)
line_leaves false false bytes None same = refl

take_leaves : (over far short : Bool) (count : ℕ) (bytes : List ℕ) → (take_by over far short count bytes).item ≡ NeedMore → (take_by over far short count bytes).left ≡ bytes
take_leaves over true short count bytes same = refl
take_leaves true false true count bytes same = refl
take_leaves false false true count bytes same = refl
take_leaves over false false count bytes same = absurd (cc)

all_leaves : (over long : Bool) (bytes : List ℕ) → (all_by over long bytes).item ≡ NeedMore → (all_by over long bytes).left ≡ bytes
all_leaves over true bytes same = refl
all_leaves true false bytes same = absurd (cc)
all_leaves false false bytes same = refl

pub undecided_leaves : UndecidedLeaves
undecided_leaves most over Line bytes same =
    let by : line most over bytes ≡ line_by over (nat_lt most (length bytes)) bytes (line_end most bytes) = line-by most over (nat_lt most (length bytes)) bytes (line_end most bytes) refl refl in
    ap (λ (t : Taken). t.left) by ∙ line_leaves over (nat_lt most (length bytes)) bytes (line_end most bytes) (ap (λ (t : Taken). t.item) (sym by) ∙ same)
undecided_leaves most over (TakeBytes count) bytes same =
    let by : take_bytes most (counted count) over bytes ≡ take_by over (nat_lt most (counted count)) (nat_lt (length bytes) (counted count)) (counted count) bytes = take-by most (counted count) over bytes in
    ap (λ (t : Taken). t.left) by ∙ take_leaves over (nat_lt most (counted count)) (nat_lt (length bytes) (counted count)) (counted count) bytes (ap (λ (t : Taken). t.item) (sym by) ∙ same)
undecided_leaves most over TakeAll bytes same =
    let by : all_bytes most over bytes ≡ all_by over (nat_lt most (length bytes)) bytes = all-by most over bytes in
    ap (λ (t : Taken). t.left) by ∙ all_leaves over (nat_lt most (length bytes)) bytes (ap (λ (t : Taken). t.item) (sym by) ∙ same)
undecided_leaves most true Char [] same = refl
undecided_leaves most false Char [] same = refl
undecided_leaves most over Char (b ∷ bytes) same = absurd (cc)
undecided_leaves most true AtEnd [] same = refl
undecided_leaves most false AtEnd [] same = refl
undecided_leaves most true AtEnd (b ∷ bytes) same = refl
undecided_leaves most false AtEnd (b ∷ bytes) same = refl
