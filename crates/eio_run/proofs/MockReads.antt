-- What `clap` reads of the words behind `mock` is what they mean.
--
-- The definition puts a first word to two tests: whether it begins with `--steps=`, and whether it is `--steps`. At the first two looks of a word the
-- walk of `Walk` is known, step by step; at any other word the definition has no meaning, and `clap`, which cuts a word at its first `=`, finds
-- another name than `steps` or no option at all, and fails.
use Rattle.std.proofs.Common.{◌≡◌, ◌≢◌, ℕ, List, [], ◌∷◌, ◌++◌, drop, Bool, true, false, Option, Some, None, codes, refl, sym, ap, subst, inl, inr, ◌∙◌, length, arith}
use Rattle.std.proofs.lemmas.Bool.Decides.{Decides-eqb, nat_tests}
use Rattle.std.proofs.lemmas.Bool.{false≢true}
use Rattle.std.proofs.lemmas.Slice.Eq.{bytes_eq-Decides}
use Rattle.std.specs.Prelude.{◌<◌, ◌≤◌, nat_lt, get_or, map, option_and_then, ◌||◌, ◌⊎◌, ◌==◌, nat_eq, fold, if◌then◌else◌, is_some}
use Rattle.std.specs.List.{starts_with, before_first, after_first, list_any, position_or_len}
use Rattle.std.proofs.lemmas.List.Sums.{passes_at_first, split_at_first}
use Rattle.std.proofs.lemmas.List.{take_all}
use Rattle.std.proofs.lemmas.Slice.Eq.{starts_is}
use Rattle.std.specs.Str.{bytes_eq}
use Rattle.clap.specs.Faults.{defaults_fault, fault_of, level_fault, walk_fault}
use Rattle.clap.specs.Lexer.{long_of, long_of_rest, short_of, strip_byte}
use Rattle.clap.specs.Simple.{built, entered}
use Rattle.clap.specs.Faults.{entered_fault}
use Rattle.clap.specs.Walk.{Text, Walk, finished, first_of, idle, nothing_held, walked, walk}
use Rattle.clap.specs.Words.{IsAmong}
use Rattle.clap.specs.declared.error.kind.ErrorKind.{ErrorKind}
use Rattle.clap.specs.declared.error.kind.ErrorKind.TheVariants as kind
use Rattle.spec_script.specs.Limits.{most_steps}
use Rattle.spec_script.specs.Words.{Asked, asks_number, mock_words, number_of}
use Rattle.spec_script.specs.declared.Command.TheVariants as command
use Rattle.spec_script.specs.declared.Feature.TheVariants as feature
use Rattle.eio_run.specs.Steps.{asked_with, mock_app, text_in}
use Rattle.eio_run.proofs.Walk.{top, name_of_option, has_fault, begun, taken, waits, given, from_fault, turn, Fails, Goes, has_separator, AlwaysFails, begun_takes, begun_waits, other_long, idle_word, waits_step, taken_fails, given_fails, fails_from, along, goes_from, name_in, neither}

-- ## The look of a word

-- what is behind a byte in front
stripped : (c : ℕ) (word rest : Text) → strip_byte c word ≡ Some rest → word ≡ c ∷ rest
stripped c [] rest is = cc
stripped c (x ∷ xs) rest is = by_byte (x == c) refl is where
  by_byte : (same : Bool) → (x == c) ≡ same → (if x == c then Some xs else None) ≡ Some rest → x ∷ xs ≡ c ∷ rest
  by_byte true same is =
      let behind : xs ≡ rest = some_is (rw same at is) in
      rw ((Decides-eqb x c).0 same, behind) refl where
        some_is : {a b : Text} → Some a ≡ Some b → a ≡ b
        some_is e = ap (λ (o : Option Text). elim o [ None ↦ [] | Some t ↦ t ]) e
  by_byte false same is =
      let wrong : None ≡ Some rest = rw same at is in
      cc

-- a word that is an option begins with `--`, and its name ends before the first `=`
record IsLong (word : Text) (p : Text × Option Text) : Type 0 where
  text : Text
  spelled : word ≡ 45 ∷ 45 ∷ text
  name : before_first (λ x. x == 61) text ≡ p.0

long_from : (word : Text) (p : Text × Option Text) (one two : Option Text) → strip_byte 45 word ≡ one → option_and_then (strip_byte 45) one ≡ two → option_and_then long_of_rest two ≡ Some p → IsLong word p
long_from word p None None is next rest = cc
long_from word p None (Some t) is next rest = cc
long_from word p (Some r) None is next rest = cc
long_from word p (Some r) (Some []) is next rest = cc
long_from word p (Some r) (Some (z ∷ zs)) is next rest = record {
  text = z ∷ zs;
  spelled = stripped 45 word r is ∙ ap (λ t. 45 ∷ t) (stripped 45 r (z ∷ zs) next);
  name = ap name_in rest;
}

-- a text with this name: alone, or with a `=` behind it
named : (text : Text) (has : Bool) → nat_lt (position_or_len (λ x. x == 61) text) (length text) ≡ has → before_first (λ x. x == 61) text ≡ name_of_option → (text ≡ name_of_option) ⊎ ((rest : Text) × (text ≡ name_of_option ++ 61 ∷ rest))
named text true has name =
    let within : position_or_len (λ x. x == 61) text < length text = grind (arith, nat_tests) in
    let equals : get_or text (position_or_len (λ x. x == 61) text) 0 ≡ 61 = (Decides-eqb _ 61).0 (passes_at_first (λ x. x == 61) text 0 within) in
    inr (after_first (λ x. x == 61) text, split_at_first (λ x. x == 61) text 0 within ∙ (ap (λ n. n ++ (get_or text (position_or_len (λ x. x == 61) text) 0 ∷ after_first (λ x. x == 61) text)) name ∙ ap (λ b. name_of_option ++ (b ∷ after_first (λ x. x == 61) text)) equals))
named text false has name =
    let beyond : length text ≤ position_or_len (λ x. x == 61) text = grind (arith, nat_tests) in
    inl (sym (take_all (position_or_len (λ x. x == 61) text) text beyond) ∙ name)

abbrev pub joined : Text → Text
joined text = codes "--steps=" ++ text

abbrev pub alone : Text
alone = codes "--steps"

option_named : (word : Text) (p : Text × Option Text) → long_of word ≡ Some p → bytes_eq name_of_option p.0 ≡ true → (word ≡ alone) ⊎ ((text : Text) × (word ≡ joined text))
option_named word p long same =
    let it = long_from word p (strip_byte 45 word) (option_and_then (strip_byte 45) (strip_byte 45 word)) refl refl long in
    let name : before_first (λ x. x == 61) it.text ≡ name_of_option = it.name ∙ sym ((bytes_eq-Decides name_of_option p.0).0 same) in
    elim (named it.text (nat_lt (position_or_len (λ x. x == 61) it.text) (length it.text)) refl name) [
      | inl bare ↦ inl (it.spelled ∙ ap (λ t. 45 ∷ 45 ∷ t) bare)
      | inr more ↦ inr (more.0, it.spelled ∙ ap (λ t. 45 ∷ 45 ∷ t) more.1)
    ]

-- ## The walk and the faults of the command

with_stop : (words : List Text) (stop : Option (Text × List Text)) → level_fault top [] nothing_held words (is_some (entered (built mock_app) stop)) (entered_fault (built mock_app) stop) ≡ from_fault begun words
with_stop words None = refl
with_stop words (Some p) = refl

fault_is : (words : List Text) → fault_of mock_app words ≡ from_fault begun words
fault_is words = with_stop words (walk top.rules [] nothing_held words).stopped

-- ## What the words mean

-- the words are read without a fault, and mean what the option's text says; or they are refused, and have no meaning
abbrev AreRead : List Text → Type 0
AreRead words = ((fault_of mock_app words ≡ []) × (mock_words words ≡ asked_with (text_in words))) ⊎ ((has_fault (fault_of mock_app words) ≡ true) × (mock_words words ≡ None))

refused : (words : List Text) → AlwaysFails begun words → mock_words words ≡ None → AreRead words
refused words fails means = inr (ap has_fault (fault_is words) ∙ fails, means)

-- `--steps=TEXT`
joined_goes : (text : Text) → Goes begun (joined text) (taken text)
joined_goes text = begun_takes (joined text) name_of_option text refl refl refl

joined_alone : (text : Text) → AreRead (joined text ∷ [])
unfolding walk_fault defaults_fault
joined_alone text =
    let means : mock_words (joined text ∷ []) ≡ asked_with (Some text) = refl in
    let read : text_in (joined text ∷ []) ≡ Some text = ap (λ (w : Walk). first_of name_of_option (finished top.rules w.held)) (joined_goes text).1 in
    inl (fault_is (joined text ∷ []) ∙ goes_from begun (taken text) (joined text) [] (joined_goes text), means ∙ ap asked_with (sym read))

joined_more : (text word : Text) (words : List Text) → mock_words (joined text ∷ word ∷ words) ≡ None
joined_more text word [] = refl
joined_more text word (another ∷ words) = refl

reads_joined : (text : Text) (words : List Text) → has_separator words ≡ false → AreRead (joined text ∷ words)
reads_joined text [] none = joined_alone text
reads_joined text (word ∷ words) none =
    refused (joined text ∷ word ∷ words) (along begun (taken text) (joined text) (word ∷ words) (joined_goes text) (taken_fails text word words none)) (joined_more text word words)

-- `--steps`, and what is behind it
alone_goes : Goes begun alone (waits [])
alone_goes = begun_waits alone name_of_option refl refl refl

alone_fails : AlwaysFails (waits []) []
unfolding walk_fault defaults_fault
alone_fails = refl

given_alone : (text : Text) → from_fault (given [] text) [] ≡ []
unfolding walk_fault defaults_fault
given_alone text = refl

value_reads : (text : Text) → Goes (waits []) text (given [] text) → AreRead (alone ∷ text ∷ [])
value_reads text goes =
    let means : mock_words (alone ∷ text ∷ []) ≡ asked_with (Some text) = refl in
    let ends : fold (walked top.rules []) begun (alone ∷ text ∷ []) ≡ given [] text = ap (λ (w : Walk). walked top.rules [] w text) alone_goes.1 ∙ goes.1 in
    let read : text_in (alone ∷ text ∷ []) ≡ Some text = ap (λ (w : Walk). first_of name_of_option (finished top.rules w.held)) ends in
    inl (fault_is (alone ∷ text ∷ []) ∙ (goes_from begun (waits []) alone (text ∷ []) alone_goes ∙ (goes_from (waits []) (given [] text) text [] goes ∙ given_alone text)), means ∙ ap asked_with (sym read))

-- a word that is refused as a value begins with `-`, and is no number
dashed : (x : ℕ) (xs : Text) (is : Bool) → (x == 45) ≡ is → Fails (waits []) (x ∷ xs) → number_of most_steps (x ∷ xs) ≡ None
dashed x xs true is fails = dash x xs ((Decides-eqb x 45).0 is) where
  dash : (x : ℕ) (xs : Text) → x ≡ 45 → number_of most_steps (x ∷ xs) ≡ None
  dash x [] is = rw is refl
  dash x (c ∷ cs) is = rw is refl
dashed x xs false is fails =
    let long : long_of (x ∷ xs) ≡ None = rw is refl in
    let short : short_of (x ∷ xs) ≡ None = rw is refl in
    let other : bytes_eq (x ∷ xs) (codes "--") ≡ false = rw is refl in
    absurd (false≢true (sym (ap has_fault (passes (x ∷ xs) other long short)) ∙ fails)) where
      passes : (word : Text) → bytes_eq word (codes "--") ≡ false → long_of word ≡ None → short_of word ≡ None → turn (waits []) word ≡ []
      passes word other long short = rw (other, long, short) refl

refused_value : (text : Text) → Fails (waits []) text → number_of most_steps text ≡ None
refused_value [] fails = refl
refused_value (x ∷ xs) fails = dashed x xs (x == 45) refl fails

reads_value : (text : Text) → bytes_eq text (codes "--") ≡ false → AreRead (alone ∷ text ∷ [])
reads_value text other =
    elim (waits_step [] text other) [
      | inl fails ↦
          let means : mock_words (alone ∷ text ∷ []) ≡ asked_with (Some text) = refl in
          refused (alone ∷ text ∷ []) (along begun (waits []) alone (text ∷ []) alone_goes (fails_from (waits []) text [] fails)) (means ∙ ap (λ n. asks_number feature.Steps command.Mock n) (refused_value text fails))
      | inr goes ↦ value_reads text goes
    ]

more_fails : (text word : Text) (words : List Text) → has_separator (text ∷ word ∷ words) ≡ false → AlwaysFails (waits []) (text ∷ word ∷ words)
more_fails text word words none =
    elim (waits_step [] text (neither _ _ none).0) [
      | inl fails ↦ fails_from (waits []) text (word ∷ words) fails
      | inr goes ↦ along (waits []) (given [] text) text (word ∷ words) goes (given_fails text word words (neither _ _ none).1)
    ]

reads_alone : (words : List Text) → has_separator words ≡ false → AreRead (alone ∷ words)
reads_alone [] none = refused (alone ∷ []) (along begun (waits []) alone [] alone_goes alone_fails) refl
reads_alone (text ∷ []) none = reads_value text (neither _ _ none).0
reads_alone (text ∷ word ∷ words) none = refused (alone ∷ text ∷ word ∷ words) (along begun (waits []) alone (text ∷ word ∷ words) alone_goes (more_fails text word words none)) refl

-- what one word means, and two, by the tests that the first is put to
one_word : (word : Text) → Bool → Option Asked
one_word word begins = elim (if begins then Some (drop 8 word) else None) [ None ↦ None | Some v ↦ asks_number feature.Steps command.Mock (number_of most_steps v) ]

two_words : (value : Text) → Bool → Option Asked
two_words value is = elim (if is then Some value else None) [ None ↦ None | Some v ↦ asks_number feature.Steps command.Mock (number_of most_steps v) ]

one_is : (word : Text) → mock_words (word ∷ []) ≡ one_word word (starts_with nat_eq word (codes "--steps="))
unfolding one_word
one_is word = refl

two_are : (word value : Text) → mock_words (word ∷ value ∷ []) ≡ two_words value (bytes_eq word alone)
unfolding two_words
two_are word value = refl

none_alone : (word : Text) → one_word word false ≡ None
unfolding one_word
none_alone word = refl

none_before : (value : Text) → two_words value false ≡ None
unfolding two_words
none_before value = refl

-- another word
no_option : (word : Text) (words : List Text) → starts_with nat_eq word (codes "--steps=") ≡ false → bytes_eq word alone ≡ false → mock_words (word ∷ words) ≡ None
no_option word [] begins is = one_is word ∙ (ap (one_word word) begins ∙ none_alone word)
no_option word (text ∷ []) begins is = two_are word text ∙ (ap (two_words text) is ∙ none_before text)
no_option word (text ∷ another ∷ words) begins is = refl

not_named : (word : Text) (p : Text × Option Text) (same : Bool) → starts_with nat_eq word (codes "--steps=") ≡ false → bytes_eq word alone ≡ false → long_of word ≡ Some p → bytes_eq name_of_option p.0 ≡ same → same ≡ false
not_named word p false begins is long named = refl
not_named word p true begins is long named =
    absurd (elim (option_named word p long named) [
      | inl bare ↦ false≢true (sym is ∙ ap (λ w. bytes_eq w alone) bare)
      | inr more ↦ false≢true (sym begins ∙ ap (λ w. starts_with nat_eq w (codes "--steps=")) more.1)
    ])

other_fails : (word : Text) (long : Option (Text × Option Text)) → starts_with nat_eq word (codes "--steps=") ≡ false → bytes_eq word alone ≡ false → bytes_eq word (codes "--") ≡ false → long_of word ≡ long → Fails begun word
other_fails word None begins is other long = idle_word [] None word (short_of word) other long refl
other_fails word (Some p) begins is other long =
    other_long [] None idle word p.0 p.1 other long (not_named word p (bytes_eq name_of_option p.0) begins is long refl)

reads_other : (word : Text) (words : List Text) → starts_with nat_eq word (codes "--steps=") ≡ false → bytes_eq word alone ≡ false → bytes_eq word (codes "--") ≡ false → AreRead (word ∷ words)
reads_other word words begins is other = refused (word ∷ words) (fails_from begun word words (other_fails word (long_of word) begins is other refl)) (no_option word words begins is)

-- ## All words

reads_by : (word : Text) (words : List Text) (begins is : Bool) → starts_with nat_eq word (codes "--steps=") ≡ begins → bytes_eq word alone ≡ is → has_separator (word ∷ words) ≡ false → AreRead (word ∷ words)
reads_by word words true is b e none =
    let spelled : joined (drop 8 word) ≡ word = sym ((starts_is Decides-eqb word (codes "--steps=") (starts_with nat_eq word (codes "--steps=")) refl).0 b) in
    subst (λ w. AreRead (w ∷ words)) spelled (reads_joined (drop 8 word) words (neither _ _ none).1)
reads_by word words false true b e none =
    let spelled : alone ≡ word = sym ((bytes_eq-Decides word alone).0 e) in
    subst (λ w. AreRead (w ∷ words)) spelled (reads_alone words (neither _ _ none).1)
reads_by word words false false b e none = reads_other word words b e (neither _ _ none).0

reads : (words : List Text) → has_separator words ≡ false → AreRead words
unfolding walk_fault defaults_fault
reads [] none = inl (refl, refl)
reads (word ∷ words) none = reads_by word words (starts_with nat_eq word (codes "--steps=")) (bytes_eq word alone) refl refl none

-- ## For code

pub read_means : (words : List Text) (text : Option Text) → has_separator words ≡ false → fault_of mock_app words ≡ [] → text ≡ text_in words → asked_with text ≡ mock_words words
read_means words text none passes is =
    elim (reads words none) [
      | inl it ↦ ap asked_with is ∙ sym it.1
      | inr it ↦ absurd (false≢true (sym (ap has_fault passes) ∙ it.0))
    ]

pub refused_means : (words : List Text) (refusal : ErrorKind) → has_separator words ≡ false → (refusal ≡ kind.OutOfMemory) ⊎ IsAmong refusal (fault_of mock_app words) → refusal ≢ kind.OutOfMemory → mock_words words ≡ None
refused_means words refusal none ends other =
    elim (reads words none) [
      | inl it ↦ absurd (elim ends [ inl memory ↦ other memory | inr among ↦ subst (IsAmong refusal) it.0 among ])
      | inr it ↦ it.1
    ]

no_value : (is : Bool) → two_words (codes "--") is ≡ None
unfolding two_words
no_value true = refl
no_value false = refl

separated_by : (word : Text) (words : List Text) (first : Bool) → bytes_eq word (codes "--") ≡ first → (first || has_separator words) ≡ true → mock_words (word ∷ words) ≡ None
separated_by word [] true is has = ap (λ w. mock_words (w ∷ [])) ((bytes_eq-Decides word (codes "--")).0 is)
separated_by word [] false is has = cc
separated_by word (text ∷ []) true is has = ap (λ w. mock_words (w ∷ text ∷ [])) ((bytes_eq-Decides word (codes "--")).0 is)
separated_by word (text ∷ []) false is has =
    ap (λ t. mock_words (word ∷ t ∷ [])) ((bytes_eq-Decides text (codes "--")).0 (alone_true _ has)) ∙ (two_are word (codes "--") ∙ no_value (bytes_eq word alone)) where
      alone_true : (a : Bool) → (a || false) ≡ true → a ≡ true
      alone_true true e = refl
      alone_true false e = e
separated_by word (text ∷ another ∷ words) first is has = refl

pub separated_means : (words : List Text) → has_separator words ≡ true → mock_words words ≡ None
separated_means [] has = cc
separated_means (word ∷ words) has = separated_by word words (bytes_eq word (codes "--")) refl has

pub any_along : {A : Type 0} (f : A → Text) (xs : List A) → has_separator (map f xs) ≡ list_any (λ x. bytes_eq (f x) (codes "--")) xs
any_along f [] = refl
any_along f (x ∷ xs) = ap (λ b. bytes_eq (f x) (codes "--") || b) (any_along f xs)

unprefixed : (word : Text) (begins : Bool) → starts_with nat_eq word (codes "--steps=") ≡ begins → ((rest : Text) → word ≡ joined rest → ⊥) → mock_words (word ∷ []) ≡ None
unprefixed word true is other = absurd (other (drop 8 word) ((starts_is Decides-eqb word (codes "--steps=") (starts_with nat_eq word (codes "--steps=")) refl).0 is))
unprefixed word false is other = one_is word ∙ (ap (one_word word) is ∙ none_alone word)

pub unprefixed_means : {A : Type 0} (f : A → Text) (xs : List A) (x : A) (word : Text) → 1 ≤ length xs → length xs < 2 → x ≡ get_or xs 0 x → word ≡ f x → ((rest : Text) → word ≡ joined rest → ⊥) → mock_words (map f xs) ≡ None
unprefixed_means f [] x word some one is spelled other = absurd (omega arith)
unprefixed_means f (y ∷ []) x word some one is spelled other =
    let same : word ≡ f y = spelled ∙ ap f is in
    unprefixed (f y) (starts_with nat_eq (f y) (codes "--steps=")) refl (λ rest e. other rest (same ∙ e))
unprefixed_means f (y ∷ z ∷ xs) x word some one is spelled other = absurd (omega arith)

pub many_mean : {A : Type 0} (f : A → Text) (xs : List A) → 3 ≤ length xs → mock_words (map f xs) ≡ None
many_mean f [] many = absurd (omega arith)
many_mean f (x ∷ []) many = absurd (omega arith)
many_mean f (x ∷ y ∷ []) many = absurd (omega arith)
many_mean f (x ∷ y ∷ z ∷ xs) many = refl
