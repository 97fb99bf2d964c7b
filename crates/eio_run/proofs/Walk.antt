-- What `clap` answers at the words behind `mock`, as a walk over them.
--
-- The walk is in one of few states, by what stood before: nothing, `--steps=TEXT`, `--steps`, or `--steps TEXT`. A word fails, or leads on to one
-- other state. From a second option on each way fails, whatever comes, since an option that is used twice is a fault.
use Rattle.std.proofs.Common.{◌≡◌, ℕ, zero, suc, List, [], ◌∷◌, Bool, true, false, Option, Some, None, codes, refl, ap, inl, inr, ◌∙◌, length}
use Rattle.std.specs.Prelude.{◌||◌, ◌⊎◌, slice_get, fold}
use Rattle.std.specs.List.{list_any}
use Rattle.std.specs.Str.{bytes_eq, chars}
use Rattle.clap.specs.Faults.{defaults_fault, flags_fault, turn_fault, walk_fault, settle_fault, check_fault}
use Rattle.clap.specs.Kinds.{or_else}
use Rattle.clap.specs.Lexer.{long_of, short_of}
use Rattle.clap.specs.Simple.{Shape, built}
use Rattle.clap.specs.Walk.{Held, Text, Walk, Row, Waiting, idle, option, positional, bundle_met, plain, walked, settled, finished, with_values}
use Rattle.clap.specs.Words.{Kinds}
use Rattle.clap.specs.declared.parser.matches.ValueSource.TheVariants.{CommandLine}
use Rattle.clap.specs.Walk.{reading_by}
use Rattle.eio_run.specs.Steps.{mock_app, steps_rule}

abbrev pub top : Shape
top = (built mock_app).top

abbrev pub name_of_option : Text
name_of_option = codes "steps"

abbrev pub has_fault : Kinds → Bool
has_fault [] = false
has_fault (k ∷ ks) = true

-- ## The states of the walk

-- the rows behind `--steps=TEXT`
abbrev pub row_of_text : Text → List Row
row_of_text text = with_values name_of_option (reading_by steps_rule) CommandLine (text ∷ []) []

-- between two words, where no `--` came and no subcommand
abbrev pub at : List Row → Option (Text × List Text) → Waiting → Walk
at rows pending waiting = record { held = record { rows = rows; pending = pending; skip = 0 }; waiting = waiting; position = 1; is_trailing = false; stopped = None }

-- before the first word
abbrev pub begun : Walk
begun = at [] None idle

-- behind `--steps=TEXT`
abbrev pub taken : Text → Walk
taken text = at (row_of_text text) None idle

-- behind `--steps`, with these rows before it
abbrev pub waits : List Row → Walk
waits rows = at rows (Some (name_of_option, [])) (option name_of_option)

-- behind `--steps TEXT`
abbrev pub given : List Row → Text → Walk
given rows text = at rows (Some (name_of_option, text ∷ [])) idle

-- ## The faults from a state on

-- behind the last word
abbrev pub end_fault : Held → Kinds
end_fault end = or_else (settle_fault top.rules false end) (or_else (defaults_fault (settled top.rules end).rows top.rules) (check_fault top (finished top.rules end) false))

-- at these words and behind them
abbrev pub from_fault : Walk → List Text → Kinds
from_fault w words = or_else (walk_fault top [] w words) (end_fault (fold (walked top.rules []) w words).held)

-- ## One word

abbrev pub turn : Walk → Text → Kinds
turn w word = turn_fault top [] w word

abbrev pub Fails : Walk → Text → Type 0
Fails w word = has_fault (turn w word) ≡ true

abbrev pub Goes : Walk → Text → Walk → Type 0
Goes w word next = (turn w word ≡ []) × (walked top.rules [] w word ≡ next)

-- an option that isn't known fails in every state
pub other_long : (rows : List Row) (pending : Option (Text × List Text)) (waiting : Waiting) (word name : Text) (value : Option Text) → bytes_eq word (codes "--") ≡ false → long_of word ≡ Some (name, value) → bytes_eq name_of_option name ≡ false
    → Fails (at rows pending waiting) word
other_long rows pending idle word name value other long differs = rw (other, long, differs) refl
other_long rows pending (option id) word name value other long differs = rw (other, long, differs) refl
other_long rows pending positional word name value other long differs = rw (other, long, differs) refl

-- the option itself, with a value behind `=` or without, in each state
pub begun_takes : (word name text : Text) → bytes_eq word (codes "--") ≡ false → long_of word ≡ Some (name, Some text) → bytes_eq name_of_option name ≡ true → Goes begun word (taken text)
unfolding walked
begun_takes word name text other long same = (rw (other, long, same) refl, rw (other, long, same) refl)

pub begun_waits : (word name : Text) → bytes_eq word (codes "--") ≡ false → long_of word ≡ Some (name, None) → bytes_eq name_of_option name ≡ true → Goes begun word (waits [])
unfolding walked
begun_waits word name other long same = (rw (other, long, same) refl, rw (other, long, same) refl)

taken_long : (text word name : Text) (value : Option Text) → bytes_eq word (codes "--") ≡ false → long_of word ≡ Some (name, value) → bytes_eq name_of_option name ≡ true → Fails (taken text) word ⊎ Goes (taken text) word (waits (row_of_text text))
unfolding walked
taken_long text word name (Some more) other long same = inl (rw (other, long, same) refl)
taken_long text word name None other long same = inr (rw (other, long, same) refl, rw (other, long, same) refl)

given_long : (text word name : Text) (value : Option Text) → bytes_eq word (codes "--") ≡ false → long_of word ≡ Some (name, value) → bytes_eq name_of_option name ≡ true → Fails (given [] text) word ⊎ Goes (given [] text) word (waits (row_of_text text))
unfolding walked
given_long text word name (Some more) other long same = inl (rw (other, long, same) refl)
given_long text word name None other long same = inr (rw (other, long, same) refl, rw (other, long, same) refl)

waits_long : (rows : List Row) (word name : Text) (value : Option Text) → bytes_eq word (codes "--") ≡ false → long_of word ≡ Some (name, value) → bytes_eq name_of_option name ≡ true → Fails (waits rows) word
waits_long rows word name (Some more) other long same = rw (other, long, same) refl
waits_long rows word name None other long same = rw (other, long, same) refl

lost_long : (text more word name : Text) (value : Option Text) → bytes_eq word (codes "--") ≡ false → long_of word ≡ Some (name, value) → bytes_eq name_of_option name ≡ true → Fails (given (row_of_text text) more) word
lost_long text more word name (Some v) other long same = rw (other, long, same) refl
lost_long text more word name None other long same = rw (other, long, same) refl

pub neither : (a b : Bool) → (a || b) ≡ false → (a ≡ false) × (b ≡ false)
neither true b none = cc
neither false b none = (refl, none)

abbrev pub name_in : Option (Text × Option Text) → Text
name_in None = []
name_in (Some p) = p.0

-- ## Words that aren't options

pub or_fails : (a b : Kinds) → has_fault a ≡ true → has_fault (or_else a b) ≡ true
or_fails [] b wrong = cc
or_fails (k ∷ ks) b some = refl

-- a word that begins with one `-` is refused, or is like any other word where no character is behind it
flags_fail : (k : ℕ) (flags : Text) (h : Held) (first : Option ℕ) → slice_get (chars flags) 0 ≡ first
    → (has_fault (flags_fault top.rules false k flags 0 h) ≡ true) ⊎ ((flags_fault top.rules false k flags 0 h ≡ []) × (bundle_met top.rules k flags 0 plain h ≡ (h, plain)))
unfolding flags_fault bundle_met
flags_fail zero flags h first is = inr (refl, refl)
flags_fail (suc k) flags h None is = inr (rw is refl, rw is refl)
flags_fail (suc k) flags h (Some x) is = inl (rw is refl)

pub idle_word : (rows : List Row) (pending : Option (Text × List Text)) (word : Text) (short : Option Text) → bytes_eq word (codes "--") ≡ false → long_of word ≡ None → short_of word ≡ short → Fails (at rows pending idle) word
idle_word rows pending word None other long is = rw (other, long, is) refl
idle_word rows pending word (Some flags) other long is =
    elim (flags_fail (length flags) flags (record { rows = rows; pending = pending; skip = 0 }) (slice_get (chars flags) 0) refl) [
      | inl fails ↦ rw (other, long, is) (or_fails _ _ fails)
      | inr goes ↦ rw (other, long, is, goes.0, goes.1) refl
    ]

pub waits_word : (rows : List Row) (word : Text) (short : Option Text) → bytes_eq word (codes "--") ≡ false → long_of word ≡ None → short_of word ≡ short → Fails (waits rows) word ⊎ Goes (waits rows) word (given rows word)
unfolding walked
waits_word rows word None other long is = inr (rw (other, long, is) refl, rw (other, long, is) refl)
waits_word rows word (Some flags) other long is =
    elim (flags_fail (length flags) flags (waits rows).held (slice_get (chars flags) 0) refl) [
      | inl fails ↦ inl (rw (other, long, is) (or_fails _ _ fails))
      | inr goes ↦ inr (rw (other, long, is, goes.0, goes.1) refl, rw (other, long, is, goes.1) refl)
    ]

-- ## Any word

taken_by : (text word : Text) (long : Option (Text × Option Text)) (same : Bool) → bytes_eq word (codes "--") ≡ false → long_of word ≡ long → bytes_eq name_of_option (name_in long) ≡ same → Fails (taken text) word ⊎ Goes (taken text) word (waits (row_of_text text))
taken_by text word None same other long is = inl (idle_word (row_of_text text) None word (short_of word) other long refl)
taken_by text word (Some p) true other long is = taken_long text word p.0 p.1 other long is
taken_by text word (Some p) false other long is = inl (other_long (row_of_text text) None idle word p.0 p.1 other long is)

taken_step : (text word : Text) → bytes_eq word (codes "--") ≡ false → Fails (taken text) word ⊎ Goes (taken text) word (waits (row_of_text text))
taken_step text word other = taken_by text word (long_of word) (bytes_eq name_of_option (name_in (long_of word))) other refl refl

given_by : (text word : Text) (long : Option (Text × Option Text)) (same : Bool) → bytes_eq word (codes "--") ≡ false → long_of word ≡ long → bytes_eq name_of_option (name_in long) ≡ same → Fails (given [] text) word ⊎ Goes (given [] text) word (waits (row_of_text text))
given_by text word None same other long is = inl (idle_word [] (Some (name_of_option, text ∷ [])) word (short_of word) other long refl)
given_by text word (Some p) true other long is = given_long text word p.0 p.1 other long is
given_by text word (Some p) false other long is = inl (other_long [] (Some (name_of_option, text ∷ [])) idle word p.0 p.1 other long is)

given_step : (text word : Text) → bytes_eq word (codes "--") ≡ false → Fails (given [] text) word ⊎ Goes (given [] text) word (waits (row_of_text text))
given_step text word other = given_by text word (long_of word) (bytes_eq name_of_option (name_in (long_of word))) other refl refl

waits_by : (rows : List Row) (word : Text) (long : Option (Text × Option Text)) (same : Bool) → bytes_eq word (codes "--") ≡ false → long_of word ≡ long → bytes_eq name_of_option (name_in long) ≡ same → Fails (waits rows) word ⊎ Goes (waits rows) word (given rows word)
waits_by rows word None same other long is = waits_word rows word (short_of word) other long refl
waits_by rows word (Some p) true other long is = inl (waits_long rows word p.0 p.1 other long is)
waits_by rows word (Some p) false other long is = inl (other_long rows (Some (name_of_option, [])) (option name_of_option) word p.0 p.1 other long is)

pub waits_step : (rows : List Row) (word : Text) → bytes_eq word (codes "--") ≡ false → Fails (waits rows) word ⊎ Goes (waits rows) word (given rows word)
waits_step rows word other = waits_by rows word (long_of word) (bytes_eq name_of_option (name_in (long_of word))) other refl refl

lost_by : (text more word : Text) (long : Option (Text × Option Text)) (same : Bool) → bytes_eq word (codes "--") ≡ false → long_of word ≡ long → bytes_eq name_of_option (name_in long) ≡ same → Fails (given (row_of_text text) more) word
lost_by text more word None same other long is = idle_word (row_of_text text) (Some (name_of_option, more ∷ [])) word (short_of word) other long refl
lost_by text more word (Some p) true other long is = lost_long text more word p.0 p.1 other long is
lost_by text more word (Some p) false other long is = other_long (row_of_text text) (Some (name_of_option, more ∷ [])) idle word p.0 p.1 other long is

lost_step : (text more word : Text) → bytes_eq word (codes "--") ≡ false → Fails (given (row_of_text text) more) word
lost_step text more word other = lost_by text more word (long_of word) (bytes_eq name_of_option (name_in (long_of word))) other refl refl

-- ## All words

abbrev pub has_separator : List Text → Bool
has_separator words = list_any (λ word. bytes_eq word (codes "--")) words

abbrev pub AlwaysFails : Walk → List Text → Type 0
AlwaysFails w words = has_fault (from_fault w words) ≡ true

pub fails_from : (w : Walk) (word : Text) (words : List Text) → Fails w word → AlwaysFails w (word ∷ words)
unfolding walk_fault
fails_from w word words fails = or_fails _ _ (or_fails _ _ fails)

pub goes_from : (w next : Walk) (word : Text) (words : List Text) → Goes w word next → from_fault w (word ∷ words) ≡ from_fault next words
unfolding walk_fault
goes_from w next word words goes =
    ap (λ (v : Walk). or_else (or_else (turn w word) (walk_fault top [] v words)) (end_fault (fold (walked top.rules []) v words).held)) goes.1
    ∙ ap (λ (kinds : Kinds). or_else (or_else kinds (walk_fault top [] next words)) (end_fault (fold (walked top.rules []) next words).held)) goes.0

pub along : (w next : Walk) (word : Text) (words : List Text) → Goes w word next → AlwaysFails next words → AlwaysFails w (word ∷ words)
along w next word words goes fails = ap has_fault (goes_from w next word words goes) ∙ fails

lost_fails : (text more : Text) (words : List Text) → has_separator words ≡ false → AlwaysFails (given (row_of_text text) more) words
unfolding walk_fault defaults_fault
lost_fails text more [] none = refl
lost_fails text more (word ∷ words) none = fails_from (given (row_of_text text) more) word words (lost_step text more word (neither _ _ none).0)

again_fails : (text : Text) (words : List Text) → has_separator words ≡ false → AlwaysFails (waits (row_of_text text)) words
unfolding walk_fault defaults_fault
again_fails text [] none = refl
again_fails text (word ∷ words) none =
    elim (waits_step (row_of_text text) word (neither _ _ none).0) [
      | inl fails ↦ fails_from (waits (row_of_text text)) word words fails
      | inr goes ↦ along (waits (row_of_text text)) (given (row_of_text text) word) word words goes (lost_fails text word words (neither _ _ none).1)
    ]

pub taken_fails : (text word : Text) (words : List Text) → has_separator (word ∷ words) ≡ false → AlwaysFails (taken text) (word ∷ words)
taken_fails text word words none =
    elim (taken_step text word (neither _ _ none).0) [
      | inl fails ↦ fails_from (taken text) word words fails
      | inr goes ↦ along (taken text) (waits (row_of_text text)) word words goes (again_fails text words (neither _ _ none).1)
    ]

pub given_fails : (text word : Text) (words : List Text) → has_separator (word ∷ words) ≡ false → AlwaysFails (given [] text) (word ∷ words)
given_fails text word words none =
    elim (given_step text word (neither _ _ none).0) [
      | inl fails ↦ fails_from (given [] text) word words fails
      | inr goes ↦ along (given [] text) (waits (row_of_text text)) word words goes (again_fails text words (neither _ _ none).1)
    ]
