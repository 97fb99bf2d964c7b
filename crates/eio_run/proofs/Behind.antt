-- What `clap` answers at the words behind the first.
use Rattle.std.proofs.Common.{◌≡◌, ◌≢◌, ℕ, zero, suc, List, [], ◌∷◌, map, Bool, true, false, Option, Some, None, codes, refl, sym, ap, subst, inl, inr, ◌∙◌, length}
use Rattle.std.specs.List.{list_any}
use Rattle.std.specs.Prelude.{◌||◌, slice_get}
use Rattle.std.specs.Str.{bytes_eq, chars}
use Rattle.clap.specs.Faults.{defaults_fault, fault_of, flags_fault, step_fault, turn_fault, walk_fault}
use Rattle.clap.specs.Kinds.{or_else}
use Rattle.clap.specs.Lexer.{long_of, short_of}
use Rattle.clap.specs.Simple.{Shape, built}
use Rattle.clap.specs.Walk.{Text, after_flag, bundle_met, idle, nothing_held, plain, walk_from}
use Rattle.clap.specs.Words.{Kinds}
use Rattle.clap.specs.declared.error.kind.ErrorKind.{ErrorKind}
use Rattle.clap.specs.declared.error.kind.ErrorKind.TheVariants as kind
use Rattle.eio_run.specs.Behind.{EndsBy, behind_app}

pub nothing_passes : fault_of behind_app [] ≡ []
unfolding walk_fault defaults_fault
nothing_passes = refl

-- ## The first word, by what it looks like

abbrev top : Shape
top = (built behind_app).top

abbrev unknown : Kinds
unknown = kind.UnknownArgument ∷ []

flags_fail : (k : ℕ) (word flags : Text) (first : Option ℕ) → slice_get (chars flags) 0 ≡ first
    → or_else (flags_fault [] false k flags 0 nothing_held) (step_fault top 1 (after_flag [] idle word (bundle_met [] k flags 0 plain nothing_held).0 (bundle_met [] k flags 0 plain nothing_held).1).0 (after_flag [] idle word (bundle_met [] k flags 0 plain nothing_held).0 (bundle_met [] k flags 0 plain nothing_held).1).1) ≡ unknown
unfolding flags_fault bundle_met
flags_fail zero word flags first is = refl
flags_fail (suc k) word flags None is = rw is refl
flags_fail (suc k) word flags (Some x) is = rw is refl

turn_fails : (word : Text) (long : Option (Text × Option Text)) (short : Option Text) → bytes_eq word (codes "--") ≡ false → long_of word ≡ long → short_of word ≡ short → turn_fault top [] (walk_from nothing_held) word ≡ unknown
turn_fails word (Some p) short other l s = rw (other, l) refl
turn_fails word None None other l s = rw (other, l, s) refl
turn_fails word None (Some flags) other l s = rw (other, l, s) (flags_fail (length flags) word flags (slice_get (chars flags) 0) refl)

pub any_word_fails : (word : Text) (rest : List Text) → bytes_eq word (codes "--") ≡ false → fault_of behind_app (word ∷ rest) ≡ unknown
unfolding walk_fault
any_word_fails word rest other =
    rw (turn_fails word (long_of word) (short_of word) other refl refl) refl

-- ## Whether there is a word

either_fails : (a b : Bool) → (a || b) ≡ false → a ≡ false
either_fails true b none = none
either_fails false b none = refl

-- where no word is `--`, no fault means no word
pub taken_is_none : {A : Type 0} (f : A → Text) (xs : List A) → list_any (λ x. bytes_eq (f x) (codes "--")) xs ≡ false → fault_of behind_app (map f xs) ≡ [] → xs ≡ []
taken_is_none f [] other taken = refl
taken_is_none {A} f (x ∷ xs) other taken =
    let fault : fault_of behind_app (f x ∷ map f xs) ≡ unknown = any_word_fails (f x) (map f xs) (either_fails _ _ other) in
    let differ : unknown ≡ [] = sym fault ∙ taken in
    cc

-- what is refused, but for want of memory, is a word
pub refused_is_some : {A : Type 0} (f : A → Text) (xs : List A) (refusal : ErrorKind) → EndsBy (fault_of behind_app (map f xs)) (Some refusal) → refusal ≢ kind.OutOfMemory → xs ≡ [] → ⊥
refused_is_some {A} f xs refusal ends other none =
    let here : EndsBy [] (Some refusal) = subst (λ (faults : Kinds). EndsBy faults (Some refusal)) (ap (λ (ys : List A). fault_of behind_app (map f ys)) none ∙ nothing_passes) ends in
    elim here [ inl memory ↦ other memory | inr among ↦ among ]
