-- What words mean today, by the first of them.
use Rattle.std.proofs.Common.{◌≡◌, ◌≢◌, ℕ, ◌-◌, ◌<◌, ◌≤◌, List, [], ◌∷◌, length, map, get_or, take, drop, Bool, true, false, Some, None, codes, refl, ap, sym, ◌∙◌, arith}
use Rattle.std.proofs.lemmas.Bool.{false_from_ne_true}
use Rattle.std.proofs.lemmas.Grind.{common_steps}
use Rattle.std.proofs.lemmas.Slice.Eq.{bytes_eq-Decides}
use Rattle.std.specs.Prelude.{Option, if◌then◌else◌}
use Rattle.std.specs.Str.{bytes_eq}
use Rattle.spec_script.specs.declared.Command.{Command}
use Rattle.spec_script.specs.declared.Command.TheVariants as command
use Rattle.spec_script.specs.declared.Feature.TheVariants as feature
use Rattle.spec_script.specs.Features.{is_built}
use Rattle.spec_script.specs.Limits.{most_lines, most_load}
use Rattle.mock_backend.specs.Today.{built_today}
use Rattle.spec_script.specs.Words.{Asked, asked, asks_number, number_of, option_value, mock_words, domains_words, verify_words, lone_word, load_words, meaning}
use Rattle.eio_run.specs.Words.{only_if, if_built}

-- the first of some words and the others
pub named : {A : Type 0} (f : A → List ℕ) (xs : List A) (x : A) (name : List ℕ) → 1 ≤ length xs → x ≡ get_or xs 0 x → name ≡ f x → map f xs ≡ name ∷ map f (take (length xs - 1) (drop 1 xs))
named f [] x name some is same = absurd (omega arith)
named {A} f (y ∷ ys) x name some is same =
    let rest : take (length (y ∷ ys) - 1) (drop 1 (y ∷ ys)) ≡ ys = grind (arith, common_steps) in
    ap (λ b. b ∷ map f ys) (ap f (sym is) ∙ sym same) ∙ ap (λ (zs : List A). name ∷ map f zs) (sym rest)

built_by : Option Asked → Option Command
built_by o = elim o [
  | None ↦ None
  | Some it ↦ elim (is_built built_today it.feature) [ true ↦ Some it.command | false ↦ None ]
]

picked : Bool → Command → Option Command
picked built command = elim built [ true ↦ Some command | false ↦ None ]

picked_is : (built : Bool) (command : Command) → picked built command ≡ only_if built command
unfolding picked
picked_is true command = refl
picked_is false command = refl

built_is : (o : Option Asked) → built_by o ≡ if_built o
unfolding built_by picked
built_is None = refl
built_is (Some it) = picked_is (is_built built_today it.feature) it.command

pub meaning_is : (words : List (List ℕ)) → meaning built_today words ≡ if_built (asked words)
unfolding meaning built_by
meaning_is words = built_is (asked words)

-- ## Names that are known

pub mock_means : (words rest : List (List ℕ)) (name : List ℕ) → words ≡ name ∷ rest → name ≡ codes "mock" → if_built (mock_words rest) ≡ meaning built_today words
mock_means words rest name is named = sym (ap (meaning built_today) (is ∙ ap (λ n. n ∷ rest) named) ∙ meaning_is (codes "mock" ∷ rest))

pub check_means : (words rest : List (List ℕ)) (name : List ℕ) → words ≡ name ∷ rest → name ≡ codes "check" → if_built (lone_word feature.Reading command.Check rest) ≡ meaning built_today words
check_means words rest name is named = sym (ap (meaning built_today) (is ∙ ap (λ n. n ∷ rest) named) ∙ meaning_is (codes "check" ∷ rest))

pub print_means : (words rest : List (List ℕ)) (name : List ℕ) → words ≡ name ∷ rest → name ≡ codes "print" → if_built (lone_word feature.Reading command.Print rest) ≡ meaning built_today words
print_means words rest name is named = sym (ap (meaning built_today) (is ∙ ap (λ n. n ∷ rest) named) ∙ meaning_is (codes "print" ∷ rest))

-- ## What isn't built

lines_unbuilt : (f : ℕ → Command) (n : Option ℕ) → if_built (asks_number feature.Domains f n) ≡ None
lines_unbuilt f None = refl
lines_unbuilt f (Some n) = refl

histories_unbuilt : (f : ℕ → Command) (n : Option ℕ) → if_built (asks_number feature.Histories f n) ≡ None
histories_unbuilt f None = refl
histories_unbuilt f (Some n) = refl

load_number_unbuilt : (n : Option ℕ) → if_built (asks_number feature.StreamsAndPromises command.Load n) ≡ None
load_number_unbuilt None = refl
load_number_unbuilt (Some n) = refl

domains_by : (value : Option (List ℕ)) → if_built (elim value [ None ↦ None | Some v ↦ asks_number feature.Domains command.Domains (number_of most_lines v) ]) ≡ None
domains_by None = refl
domains_by (Some v) = lines_unbuilt command.Domains (number_of most_lines v)

domains_unbuilt : (words : List (List ℕ)) → if_built (domains_words words) ≡ None
domains_unbuilt [] = refl
domains_unbuilt (word ∷ words) = domains_by (option_value (codes "--lines") (word ∷ words))

verify_by : (value : Option (List ℕ)) → if_built (elim value [ None ↦ None | Some v ↦ asks_number feature.Histories command.Verify (number_of most_lines v) ]) ≡ None
verify_by None = refl
verify_by (Some v) = histories_unbuilt command.Verify (number_of most_lines v)

verify_unbuilt : (words : List (List ℕ)) → if_built (verify_words words) ≡ None
verify_unbuilt [] = refl
verify_unbuilt (word ∷ words) = verify_by (option_value (codes "--lines") (word ∷ words))

expand_unbuilt : (words : List (List ℕ)) → if_built (lone_word feature.Lists command.Expand words) ≡ None
expand_unbuilt [] = refl
expand_unbuilt (word ∷ words) = refl

paths_unbuilt : (words : List (List ℕ)) → if_built (lone_word feature.Folders command.Paths words) ≡ None
paths_unbuilt [] = refl
paths_unbuilt (word ∷ words) = refl

migrate_unbuilt : (words : List (List ℕ)) → if_built (lone_word feature.Versions command.Migrate words) ≡ None
migrate_unbuilt [] = refl
migrate_unbuilt (word ∷ words) = refl

load_unbuilt : (words : List (List ℕ)) → if_built (load_words words) ≡ None
load_unbuilt [] = refl
load_unbuilt (word ∷ []) = load_number_unbuilt (number_of most_load word)
load_unbuilt (word ∷ another ∷ words) = refl

-- ## Other names

differs : (name other : List ℕ) → name ≢ other → bytes_eq name other ≡ false
differs name other ne = false_from_ne_true (bytes_eq name other) (λ e. ne ((bytes_eq-Decides name other).0 e))

-- the words that aren't built, in the order in which they are looked for
other_words : (load verify expand paths migrate : Bool) → List (List ℕ) → Option Asked
other_words load verify expand paths migrate words =
    if load then load_words words
    else
    (if verify then verify_words words
    else
    (if expand then lone_word feature.Lists command.Expand words
    else
    (if paths then lone_word feature.Folders command.Paths words
    else (if migrate then lone_word feature.Versions command.Migrate words else None))))

asked_by : (mock domains check print : Bool) (others : Option Asked) → List (List ℕ) → Option Asked
asked_by mock domains check print others words =
    if mock then mock_words words
    else
    (if domains then domains_words words
    else
    (if check then lone_word feature.Reading command.Check words
    else (if print then lone_word feature.Reading command.Print words else others)))

others_unbuilt : (load verify expand paths migrate : Bool) (rest : List (List ℕ)) → if_built (other_words load verify expand paths migrate rest) ≡ None
unfolding other_words
others_unbuilt true verify expand paths migrate rest = load_unbuilt rest
others_unbuilt false true expand paths migrate rest = verify_unbuilt rest
others_unbuilt false false true paths migrate rest = expand_unbuilt rest
others_unbuilt false false false true migrate rest = paths_unbuilt rest
others_unbuilt false false false false true rest = migrate_unbuilt rest
others_unbuilt false false false false false rest = refl

no_other : (domains : Bool) (others : Option Asked) (rest : List (List ℕ)) → if_built others ≡ None → if_built (asked_by false domains false false others rest) ≡ None
unfolding asked_by
no_other true others rest unbuilt = domains_unbuilt rest
no_other false others rest unbuilt = unbuilt

-- what the words behind a name ask for, where the name is none of those that are built
others_of : (name : List ℕ) (rest : List (List ℕ)) → Option Asked
others_of name rest =
    other_words (bytes_eq name (codes "load")) (bytes_eq name (codes "verify")) (bytes_eq name (codes "expand")) (bytes_eq name (codes "paths")) (bytes_eq name (codes "migrate")) rest

asked_is : (name : List ℕ) (rest : List (List ℕ)) (mock check print : Bool) → bytes_eq name (codes "mock") ≡ mock → bytes_eq name (codes "check") ≡ check → bytes_eq name (codes "print") ≡ print → asked (name ∷ rest) ≡ asked_by mock (bytes_eq name (codes "domains")) check print (others_of name rest) rest
unfolding asked_by others_of other_words
asked_is name rest mock check print m c p = rw (m, c, p) refl

others_of_unbuilt : (name : List ℕ) (rest : List (List ℕ)) → if_built (others_of name rest) ≡ None
unfolding others_of
others_of_unbuilt name rest =
    others_unbuilt (bytes_eq name (codes "load")) (bytes_eq name (codes "verify")) (bytes_eq name (codes "expand")) (bytes_eq name (codes "paths")) (bytes_eq name (codes "migrate")) rest

pub others_mean : (words rest : List (List ℕ)) (name : List ℕ) → words ≡ name ∷ rest → name ≢ codes "mock" → name ≢ codes "check" → name ≢ codes "print" → None ≡ meaning built_today words
others_mean words rest name is mock check print =
    sym (ap (meaning built_today) is
    ∙ (meaning_is (name ∷ rest)
    ∙ (ap if_built (asked_is name rest false false false (differs name _ mock) (differs name _ check) (differs name _ print))
    ∙ no_other (bytes_eq name (codes "domains")) (others_of name rest) rest (others_of_unbuilt name rest))))

pub none_means : {A : Type 0} (f : A → List ℕ) (xs : List A) → length xs < 1 → None ≡ meaning built_today (map f xs)
none_means f [] none = sym (meaning_is [])
none_means f (x ∷ xs) none = absurd (omega arith)
