-- In a history each wait is decided at most once; and where a word tells it decided, before.
use Rattle.std.proofs.Common.{◌≡◌, ◌≢◌, ℕ, ◌+◌, ◌*◌, ◌/◌, ◌<◌, ◌≤◌, ◌⊎◌, Bool, List, [], ◌∷◌, ◌++◌, length, refl, sym, ap, ◌∙◌, subst, inl, inr, ⊎_elim, arith, Option, Some, None, eq-eqb, ne_eqb}
use Rattle.std.specs.Prelude.{if◌then◌else◌}
use mathlib.Core.Logic.{dite}
use native.Mathlib.Decide.{ℕ_discrete}
use Rattle.spec_parts.specs.ResumeWords as words
use Rattle.spec_parts.specs.ResumeWords.{Arms, Decides, Woken, Cancelled}
use Rattle.resume_cells.specs.Known.{waiting}
use Rattle.resume_cells.specs.Laws.{decisions_of, Begins, IsDecided, DecidedOnce, FoundStays}
use Rattle.resume_cells.proofs.Cases.{some_is, none-ne-some}
use Rattle.resume_cells.proofs.Agreeing.{At, Fits, after}

-- the wait that stands open has a stamp that isn't above the last one
abbrev Within : Option ℕ → ℕ → Type 0
Within None last = Unit {0}
Within (Some open') last = open' ≤ last

skip : (armed : ℕ) (d : words.Decision) (other stamp maker : ℕ) (ms : List words.Mark) → other ≢ armed → decisions_of armed (Decides d other stamp maker ∷ ms) ≡ decisions_of armed ms
skip armed d other stamp maker ms ne = ap (λ (b : Bool). if b then Decides d other stamp maker ∷ decisions_of armed ms else decisions_of armed ms) (ne_eqb other armed ne)

take_it : (armed : ℕ) (d : words.Decision) (other stamp maker : ℕ) (ms : List words.Mark) → other ≡ armed → decisions_of armed (Decides d other stamp maker ∷ ms) ≡ Decides d armed stamp maker ∷ decisions_of armed ms
take_it armed d other stamp maker ms e = ap (λ (b : Bool). if b then Decides d other stamp maker ∷ decisions_of armed ms else decisions_of armed ms) (eq-eqb other armed e)
    ∙ ap (λ (o : ℕ). Decides d o stamp maker ∷ decisions_of armed ms) e

-- behind a stamp no wait is decided that began no later than that and doesn't stand open
pub none_later : (armed : ℕ) (standing : Option ℕ) (last : ℕ) (ms : List words.Mark) → words.Continues standing last ms → armed ≤ last → standing ≢ Some armed → decisions_of armed ms ≡ []
none_later armed standing last [] h le ne = refl
none_later armed standing last (Arms other maker ∷ ms) h le ne = let lt : last < other = h.0 in
    none_later armed (Some other) other ms h.1 (omega arith) (λ e. let s : other ≡ armed = some_is e in absurd (omega arith))
none_later armed None last (Decides d other stamp maker ∷ ms) h le ne = absurd h
none_later armed (Some open') last (Decides d other stamp maker ∷ ms) h le ne = let lt : last < stamp = h.1 in
    skip armed d other stamp maker ms (λ (e : other ≡ armed). ne (ap Some (sym h.0 ∙ e)))
    ∙ none_later armed None stamp ms h.2 (omega arith) (λ e. none-ne-some e)

once : (armed : ℕ) (standing : Option ℕ) (last : ℕ) (ms : List words.Mark) → words.Continues standing last ms → Within standing last → length (decisions_of armed ms) ≤ 1
once armed standing last [] h w = omega arith
once armed standing last (Arms other maker ∷ ms) h w = once armed (Some other) other ms h.1 (omega arith)
once armed None last (Decides d other stamp maker ∷ ms) h w = absurd h
once armed (Some open') last (Decides d other stamp maker ∷ ms) h w = dite (ℕ_discrete other armed)
    (λ e. let lt : last < stamp = h.1 in let le : open' ≤ last = w in let is : other ≡ open' = h.0 in
    subst (λ (l : List words.Mark). length l ≤ 1) (sym (take_it armed d other stamp maker ms e ∙ ap (λ (l : List words.Mark). Decides d armed stamp maker ∷ l) (none_later armed None stamp ms h.2 (omega arith) (λ x. none-ne-some x)))) (omega arith))
    (λ ne. subst (λ (l : List words.Mark). length l ≤ 1) (sym (skip armed d other stamp maker ms ne)) (once armed None stamp ms h.2 tt))

pub decided_once : DecidedOnce
decided_once history h armed = once armed None 0 history h tt

-- stamps rise
rises : (standing : Option ℕ) (last : ℕ) (ms : List words.Mark) → words.Continues standing last ms → last ≤ (after (standing, last) ms).1
rises standing last [] h = omega arith
rises standing last (Arms other maker ∷ ms) h = let lt : last < other = h.0 in let r = rises (Some other) other ms h.1 in omega arith
rises None last (Decides d other stamp maker ∷ ms) h = absurd h
rises (Some open') last (Decides d other stamp maker ∷ ms) h = let lt : last < stamp = h.1 in let r = rises None stamp ms h.2 in omega arith

-- a wait that begins later has a later stamp
begins_above : (armed : ℕ) (standing : Option ℕ) (last : ℕ) (ms : List words.Mark) → words.Continues standing last ms → Begins armed ms → last < armed
begins_above armed standing last [] h b = absurd b
begins_above armed standing last (Arms other maker ∷ ms) h b = let lt : last < other = h.0 in
    ⊎_elim (λ (e : other ≡ armed). omega arith) (λ c. let r = begins_above armed (Some other) other ms h.1 c in omega arith) b
begins_above armed None last (Decides d other stamp maker ∷ ms) h b = absurd h
begins_above armed (Some open') last (Decides d other stamp maker ∷ ms) h b = let lt : last < stamp = h.1 in let r = begins_above armed None stamp ms h.2 b in omega arith

-- a wait that stands open and does no more in the end was decided, before any other began
open_decided : (armed last : ℕ) (ms : List words.Mark) → Fits (Some armed, last) ms → armed ≤ last → (after (Some armed, last) ms).0 ≢ Some armed → IsDecided armed (after (Some armed, last) ms).1 ms
open_decided armed last [] h le ne = absurd (ne refl)
open_decided armed last (Arms other maker ∷ ms) h le ne = absurd h.1
open_decided armed last (Decides d other stamp maker ∷ ms) h le ne = let lt : last < stamp = h.0.1 in record {
  decision = d;
  stamp = stamp;
  maker = maker;
  one = take_it armed d other stamp maker ms h.0.0 ∙ ap (λ (l : List words.Mark). Decides d armed stamp maker ∷ l) (none_later armed None stamp ms h.0.2 (omega arith) (λ x. none-ne-some x));
  at_most = rises None stamp ms h.0.2;
}

-- as was decided before, so behind a mark that decides another wait
earlier : (armed last : ℕ) (d : words.Decision) (other stamp maker : ℕ) (ms : List words.Mark) → other ≢ armed → IsDecided armed last ms → IsDecided armed last (Decides d other stamp maker ∷ ms)
earlier armed last d other stamp maker ms ne i = record { decision = i.decision; stamp = i.stamp; maker = i.maker; one = skip armed d other stamp maker ms ne ∙ i.one; at_most = i.at_most }

-- a wait that begins and doesn't stand open in the end is decided
begun_decided : (armed : ℕ) (standing : Option ℕ) (last : ℕ) (ms : List words.Mark) → Fits (standing, last) ms → Within standing last → Begins armed ms → (after (standing, last) ms).0 ≢ Some armed
    → IsDecided armed (after (standing, last) ms).1 ms
begun_decided armed standing last [] h w b ne = absurd b
begun_decided armed None last (Arms other maker ∷ ms) h w b ne = ⊎_elim
    (λ (e : other ≡ armed). let i = open_decided other other ms (h.0.1, h.1) (omega arith) (λ f. ne (f ∙ ap Some e)) in
    record { decision = i.decision; stamp = i.stamp; maker = i.maker; one = subst (λ (a : ℕ). decisions_of a ms ≡ Decides i.decision a i.stamp i.maker ∷ []) e i.one; at_most = i.at_most })
    (λ c. let i = begun_decided armed (Some other) other ms (h.0.1, h.1) (omega arith) c ne in
    record { decision = i.decision; stamp = i.stamp; maker = i.maker; one = i.one; at_most = i.at_most })
    b
begun_decided armed (Some open') last (Arms other maker ∷ ms) h w b ne = absurd h.1
begun_decided armed None last (Decides d other stamp maker ∷ ms) h w b ne = absurd h.0
begun_decided armed (Some open') last (Decides d other stamp maker ∷ ms) h w b ne =
    let lt : last < stamp = h.0.1 in let le : open' ≤ last = w in let is : other ≡ open' = h.0.0 in let above = begins_above armed None stamp ms h.0.2 b in
    earlier armed _ d other stamp maker ms (λ (e : other ≡ armed). absurd (omega arith)) (begun_decided armed None stamp ms (h.0.2, h.1) tt b ne)

-- what a word says of the marks that lead to it
abbrev IsLed : At → ℕ → Type 0
IsLed at word = (word / 4 ≡ at.1) × ((a : ℕ) → at.0 ≡ Some a → word ≡ waiting a)

led_on : (at : At) (word : ℕ) (ms : List words.Mark) → IsLed at word → IsLed (after at ms) (words.word_after word ms)
led_on at word [] l = l
led_on at word (Arms armed maker ∷ ms) l = led_on (Some armed, armed) (4 * armed + 1) ms (omega arith, λ a e. ap waiting (some_is e))
led_on at word (Decides Woken armed stamp maker ∷ ms) l = led_on (None, stamp) (4 * stamp + 2) ms (omega arith, λ a e. absurd (none-ne-some e))
led_on at word (Decides Cancelled armed stamp maker ∷ ms) l = led_on (None, stamp) (4 * stamp + 3) ms (omega arith, λ a e. absurd (none-ne-some e))

-- the first marks, and the others behind them
split : (standing : Option ℕ) (last : ℕ) (ms ns : List words.Mark) → Fits (standing, last) (ms ++ ns) → Fits (standing, last) ms × Fits (after (standing, last) ms) ns
split standing last [] ns h = ((tt, tt), h)
split None last (Arms armed maker ∷ ms) ns h = let t = split (Some armed) armed ms ns (h.0.1, h.1) in (((h.0.0, t.0.0), t.0.1), t.1)
split (Some other) last (Arms armed maker ∷ ms) ns h = absurd h.1
split None last (Decides decision armed stamp maker ∷ ms) ns h = absurd h.0
split (Some other) last (Decides decision armed stamp maker ∷ ms) ns h = let t = split None stamp ms ns (h.0.2, h.1) in (((h.0.0, h.0.1, t.0.0), t.0.1), t.1)

begins_in : (armed : ℕ) (ms ns : List words.Mark) → Begins armed (ms ++ ns) → Begins armed ms ⊎ Begins armed ns
begins_in armed [] ns b = inr b
begins_in armed (Arms other maker ∷ ms) ns b = ⊎_elim (λ e. inl (inl e)) (λ c. ⊎_elim (λ d. inl (inr d)) inr (begins_in armed ms ns c)) b
begins_in armed (Decides d other stamp maker ∷ ms) ns b = begins_in armed ms ns b

pub found_stays : FoundStays
found_stays before later h armed le ne b =
    let led = led_on (None, 0) 0 before (refl, λ a e. absurd (none-ne-some e)) in
    let two = split None 0 before later h in
    let at = after (None, 0) before in
    let le' : armed ≤ at.1 = subst (λ (n : ℕ). armed ≤ n) led.0 le in
    let closed : at.0 ≢ Some armed = λ e. ne (led.1 armed e) in (
      ⊎_elim
          (λ c. subst (λ (n : ℕ). IsDecided armed n before) (sym led.0) (begun_decided armed None 0 before two.0 tt c closed))
          (λ c. let above = begins_above armed at.0 at.1 later two.1.0 c in absurd (omega arith))
          (begins_in armed before later b),
      none_later armed at.0 at.1 later two.1.0 le' closed,
    )
