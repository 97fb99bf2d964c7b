-- The gap that the reader skips is a gap, and it skips each gap up to a byte that is none (`gap_sound`, `gap_back`).
use Rattle.std.proofs.Common.{◌≡◌, ℕ, suc, ◌+◌, inl, inr, Bool, true, false, cond, not, ◌==◌, List, [], ◌∷◌, ◌++◌, length, Option, Some, None, refl, ap, ◌∙◌, subst, arith}
use Rattle.std.proofs.lemmas.Bool.{eqb-true}
use Rattle.std.proofs.lemmas.Option.{same_Some}
use Rattle.std.proofs.lemmas.Bool.Decides.{nat_tests}
use Rattle.spec_script.specs.Bytes.{line_feed, semicolon, is_gap_byte}
use Rattle.spec_script.specs.Spelling.{IsGap, IsLastGap}
use Rattle.spec_script.specs.Reading.{Here, here, gap_step, past_gap}

-- the gap that is skipped; it may lack the end of its last comment only at the end of the input
pub record IsSkipped (in_comment : Bool) (at : ℕ) (bytes : List ℕ) (next : Here) : Type 0 where
  pub gap : List ℕ
  pub spelling : bytes ≡ gap ++ next.bytes
  pub place : next.at ≡ at + length gap
  pub last : IsLastGap in_comment gap
  pub whole : (b : ℕ) (more : List ℕ) → next.bytes ≡ b ∷ more → IsGap in_comment gap

-- a byte of the gap, before any gap
record StepsOn (in_comment : Bool) (b : ℕ) (next : Bool) : Type 0 where
  more : (gap : List ℕ) → IsGap next gap → IsGap in_comment (b ∷ gap)
  last : (gap : List ℕ) → IsLastGap next gap → IsLastGap in_comment (b ∷ gap)

begins_comment : (b : ℕ) → (b == semicolon) ≡ true → StepsOn false b true
begins_comment b e = record { more = λ gap h. inr (eqb-true b 59 e, h); last = λ gap h. inr (eqb-true b 59 e, h) }

goes_on : (b : ℕ) → is_gap_byte b ≡ true → StepsOn false b false
goes_on b e = record { more = λ gap h. inl (e, h); last = λ gap h. inl (e, h) }

steps_by : (b : ℕ) (comment gap : Bool) (next : Bool) → (b == semicolon) ≡ comment → is_gap_byte b ≡ gap →
    cond comment (Some true) (cond gap (Some false) None) ≡ Some next → StepsOn false b next
steps_by b true gap next c g e = subst (λ (n : Bool). StepsOn false b n) (same_Some _ _ e) (begins_comment b c)
steps_by b false true next c g e = subst (λ (n : Bool). StepsOn false b n) (same_Some _ _ e) (goes_on b g)
steps_by b false false next c g e = cc

steps_on : (in_comment : Bool) (b : ℕ) (next : Bool) → gap_step in_comment b ≡ Some next → StepsOn in_comment b next
steps_on true b next e = subst (λ (n : Bool). StepsOn true b n) (same_Some _ _ e) (record { more = λ gap h. h; last = λ gap h. h })
steps_on false b next e = steps_by b _ _ next refl refl e

nothing_skipped : (in_comment : Bool) (at : ℕ) (b : ℕ) (bytes : List ℕ) → gap_step in_comment b ≡ None → IsSkipped in_comment at (b ∷ bytes) (here at (b ∷ bytes))
nothing_skipped true at b bytes e = cc
nothing_skipped false at b bytes e = record { gap = []; spelling = refl; place = omega arith; last = tt; whole = λ c more h. tt }

one_skipped : (in_comment next : Bool) (at : ℕ) (b : ℕ) (bytes : List ℕ) (past : Here) → StepsOn in_comment b next → IsSkipped next (at + 1) bytes past → IsSkipped in_comment at (b ∷ bytes) past
one_skipped in_comment next at b bytes past step rest = record {
  gap = b ∷ rest.gap;
  spelling = ap (λ (bs : List ℕ). b ∷ bs) rest.spelling;
  place = let p = rest.place in omega arith;
  last = step.last rest.gap rest.last;
  whole = λ c more h. step.more rest.gap (rest.whole c more h);
}

step_sound : (in_comment : Bool) (at : ℕ) (b : ℕ) (bytes : List ℕ) (step : Option Bool) → gap_step in_comment b ≡ step →
    ((next : Bool) → IsSkipped next (at + 1) bytes (past_gap next (at + 1) bytes)) →
    IsSkipped in_comment at (b ∷ bytes) (elim step [ Some next ↦ past_gap next (at + 1) bytes | None ↦ here at (b ∷ bytes) ])
step_sound in_comment at b bytes None e rest = nothing_skipped in_comment at b bytes e
step_sound in_comment at b bytes (Some next) e rest = one_skipped in_comment next at b bytes _ (steps_on in_comment b next e) (rest next)

pub gap_sound : (in_comment : Bool) (at : ℕ) (bytes : List ℕ) → IsSkipped in_comment at bytes (past_gap in_comment at bytes)
unfolding past_gap
gap_sound true at [] = record { gap = []; spelling = refl; place = omega arith; last = tt; whole = λ b more h. cc }
gap_sound false at [] = record { gap = []; spelling = refl; place = omega arith; last = tt; whole = λ b more h. tt }
gap_sound in_comment at (b ∷ bytes) = step_sound in_comment at b bytes _ refl (λ next. gap_sound next (at + 1) bytes)

-- ## Back

-- the reader stops here
abbrev pub Stops : List ℕ → Type 0
Stops rest = (at : ℕ) → past_gap false at rest ≡ here at rest

pub stops_end : Stops []
unfolding past_gap
stops_end at = refl

pub stops_at : (b : ℕ) (bytes : List ℕ) → gap_step false b ≡ None → Stops (b ∷ bytes)
unfolding past_gap
stops_at b bytes e at = rw (past_gap, e) refl

gap_byte_steps : (b : ℕ) → is_gap_byte b ≡ true → gap_step false b ≡ Some false
gap_byte_steps b e = grind (arith, nat_tests)

semicolon_steps : (b : ℕ) → b ≡ semicolon → gap_step false b ≡ Some true
semicolon_steps b e = rw e refl

past_one : (in_comment next : Bool) (at n : ℕ) (b : ℕ) (bytes rest : List ℕ) → gap_step in_comment b ≡ Some next →
    past_gap next (at + 1) bytes ≡ here (at + 1 + n) rest → past_gap in_comment at (b ∷ bytes) ≡ here (at + suc n) rest
unfolding past_gap
past_one in_comment next at n b bytes rest e h = rw (past_gap, e) (h ∙ ap (λ (p : ℕ). here p rest) (omega arith))

pub gap_back : (in_comment : Bool) (at : ℕ) (gap rest : List ℕ) → IsGap in_comment gap → Stops rest → past_gap in_comment at (gap ++ rest) ≡ here (at + length gap) rest
gap_back true at [] rest h stops = absurd h
gap_back false at [] rest h stops = stops at ∙ ap (λ (p : ℕ). here p rest) (omega arith)
gap_back true at (b ∷ gap) rest h stops = past_one true (not (b == line_feed)) at (length gap) b (gap ++ rest) rest refl (gap_back (not (b == line_feed)) (at + 1) gap rest h stops)
gap_back false at (b ∷ gap) rest (inl h) stops = past_one false false at (length gap) b (gap ++ rest) rest (gap_byte_steps b h.0) (gap_back false (at + 1) gap rest h.1 stops)
gap_back false at (b ∷ gap) rest (inr h) stops = past_one false true at (length gap) b (gap ++ rest) rest (semicolon_steps b h.0) (gap_back true (at + 1) gap rest h.1 stops)

pub last_gap_back : (in_comment : Bool) (at : ℕ) (gap : List ℕ) → IsLastGap in_comment gap → past_gap in_comment at gap ≡ here (at + length gap) []
unfolding past_gap
last_gap_back in_comment at [] h = ap (λ (p : ℕ). here p []) (omega arith)
last_gap_back true at (b ∷ gap) h = past_one true (not (b == line_feed)) at (length gap) b gap [] refl (last_gap_back (not (b == line_feed)) (at + 1) gap h)
last_gap_back false at (b ∷ gap) (inl h) = past_one false false at (length gap) b gap [] (gap_byte_steps b h.0) (last_gap_back false (at + 1) gap h.1)
last_gap_back false at (b ∷ gap) (inr h) = past_one false true at (length gap) b gap [] (semicolon_steps b h.0) (last_gap_back true (at + 1) gap h.1)
