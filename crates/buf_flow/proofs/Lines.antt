-- The first LF of bytes, and a line without its CR.
use Rattle.std.proofs.Common.{◌≡◌, ◌≢◌, ℕ, zero, suc, ◌+◌, ◌<◌, ◌≤◌, List, [], ◌∷◌, length, take, get_or, Bool, true, false, Some, None, refl, ap, sym, ◌∙◌, arith, true≢false}
use Rattle.std.proofs.lemmas.Grind.{common_steps}
use Rattle.std.proofs.lemmas.List.{take_all, length-take-le, get_or-take}
use Rattle.std.proofs.lemmas.List.Quantifiers.{position-Some}
use Rattle.std.proofs.lemmas.List.Sums.{position_or_len_is}
use Rattle.std.specs.Prelude.{◌==◌, nat_lt, position}
use Rattle.std.specs.List.{position_or_len}
use Rattle.spec_parts.specs.BytesToCome.{without_cr}
use Rattle.buf_flow.specs.LineFeeds.{HasNoLineFeed}

-- a CR at the end is dropped
pub without_cr-cr : (line : List ℕ) (last : ℕ) → length line ≡ last + 1 → get_or line last 0 ≡ 13 → take last line ≡ without_cr line
without_cr-cr [] last behind is = absurd (omega (arith, behind))
without_cr-cr (b ∷ []) zero behind is =
    let test : (b == 13) ≡ true = grind (arith, common_steps) in
    rw (test, without_cr) refl
without_cr-cr (b ∷ []) (suc last) behind is = absurd (omega (arith, behind))
without_cr-cr (b ∷ c ∷ line) zero behind is = absurd (omega (arith, behind))
without_cr-cr (b ∷ c ∷ line) (suc last) behind is = ap (λ bytes. b ∷ bytes) (without_cr-cr (c ∷ line) last (omega (arith, behind)) is)

-- any other byte stays
without_cr-other : (line : List ℕ) (last : ℕ) → length line ≡ last + 1 → get_or line last 0 ≢ 13 → line ≡ without_cr line
without_cr-other [] last behind other = refl
without_cr-other (b ∷ []) zero behind other =
    let test : (b == 13) ≡ false = grind (arith, common_steps) in
    rw (test, without_cr) refl
without_cr-other (b ∷ []) (suc last) behind other = absurd (omega (arith, behind))
without_cr-other (b ∷ c ∷ line) zero behind other = absurd (omega (arith, behind))
without_cr-other (b ∷ c ∷ line) (suc last) behind other = ap (λ bytes. b ∷ bytes) (without_cr-other (c ∷ line) last (omega (arith, behind)) other)

-- a line without CR at its end stays whole
pub without_cr-whole : (line : List ℕ) (last : ℕ) → length line ≡ last + 1 → get_or line last 0 ≢ 13 → take (length line) line ≡ without_cr line
without_cr-whole line last behind other = take_all (length line) line (omega arith) ∙ without_cr-other line last behind other

abbrev is_line_feed : ℕ → Bool
is_line_feed b = b == 10

failing : (bytes : List ℕ) (place : ℕ) → HasNoLineFeed place bytes → (k : ℕ) → k < place → is_line_feed (get_or bytes k 0) ≡ false
failing bytes place none k less =
    let other : get_or bytes k 0 ≢ 10 = none k less in
    grind (arith, common_steps)

by_place : (bytes : List ℕ) (place : ℕ) → place ≤ length bytes → HasNoLineFeed place bytes → (place < length bytes → get_or bytes place 0 ≡ 10) → position_or_len is_line_feed bytes ≡ place
by_place bytes place within none found =
    position_or_len_is is_line_feed bytes place 0 within (failing bytes place none) (λ less. let is : get_or bytes place 0 ≡ 10 = found less in rw is refl)

-- LF at a place before which none is, is the first
pub first_line_feed : (bytes : List ℕ) (place : ℕ) → HasNoLineFeed place bytes → place < length bytes → get_or bytes place 0 ≡ 10 → Some place ≡ position (λ b. b == 10) bytes
first_line_feed bytes place none less is =
    let first : position_or_len is_line_feed bytes ≡ place = by_place bytes place (omega arith) none (λ l. is) in
    let test : nat_lt place (length bytes) ≡ true = grind (arith, common_steps) in
    rw (first, test) refl

-- bytes none of which is LF have no first
pub no_line_feed : (bytes : List ℕ) (place : ℕ) → HasNoLineFeed place bytes → length bytes ≤ place → None ≡ position (λ b. b == 10) bytes
no_line_feed bytes place none past =
    let first : position_or_len is_line_feed bytes ≡ length bytes = by_place bytes (length bytes) (omega arith) (λ k less. none k (omega arith)) (λ l. absurd (omega arith)) in
    let test : nat_lt (length bytes) (length bytes) ≡ false = grind (arith, common_steps) in
    rw (first, test) refl

-- before the first LF of a front no byte is LF
pub searched_before : (bytes : List ℕ) (count place : ℕ) → count ≤ length bytes → Some place ≡ position (λ b. b == 10) (take count bytes) → (place < count) × HasNoLineFeed place bytes
searched_before bytes count place within found =
    let first = position-Some is_line_feed (take count bytes) place 0 (sym found) in
    let size : length (take count bytes) ≡ count = length-take-le count bytes within in
    let less : place < count = omega (arith, size, first.0) in (
      less,
      λ k before is.
          let same : get_or (take count bytes) k 0 ≡ 10 = get_or-take count bytes k 0 (omega (arith, less, before)) ∙ is in
          absurd (true≢false (sym (ap is_line_feed same) ∙ first.2 k before)),
    )
