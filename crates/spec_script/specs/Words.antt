-- What the words of a command line ask for. A list of words has a meaning exactly where it is one of
--   mock                      mock --steps N       mock --steps=N        N from 1 to 1,000,000
--   domains                   domains --lines N    domains --lines=N     N from 1 to 100,000
--   verify                    verify --lines N     verify --lines=N      N from 1 to 100,000
--   check                     print                expand
--   paths                     migrate
--   load N                                                               N from 1 to 1,000
-- and what it needs is built. N is spelled as a numeral: `0`, or digits that don't begin with 0.
use Rattle.std.specs.Prelude.{ℕ, ◌+◌, true, false, ◌&&◌, nat_eq, nat_le, if◌then◌else◌, List, [], ◌∷◌, ◌++◌, length, drop, codes, Option, Some, None}
use Rattle.std.specs.List.{starts_with}
use Rattle.std.specs.Str.{bytes_eq}
use Rattle.std.specs.Str.Parse.{digits_value}
use Rattle.spec_script.specs.declared.Command.{Command}
use Rattle.spec_script.specs.declared.Command.TheVariants as command
use Rattle.spec_script.specs.declared.Feature.{Feature}
use Rattle.spec_script.specs.declared.Feature.TheVariants as feature
use Rattle.spec_script.specs.Limits.{most_steps, most_lines, most_load}
use Rattle.spec_script.specs.Features.{Built, is_built}
use Rattle.spec_script.specs.Reading.{is_numeral}

-- the number that a word spells, from 1 to `most`
abbrev pub number_of : (most : ℕ) → List ℕ → Option ℕ
number_of most word =
    if is_numeral word && nat_le 1 (digits_value 10 word) && nat_le (digits_value 10 word) most then Some (digits_value 10 word) else None

-- the value of an option: the word behind it, or what follows `=` in its own word
abbrev pub option_value : (option : List ℕ) → List (List ℕ) → Option (List ℕ)
option_value option [] = None
option_value option (word ∷ []) = if starts_with nat_eq word (option ++ codes "=") then Some (drop (length option + 1) word) else None
option_value option (word ∷ value ∷ []) = if bytes_eq word option then Some value else None
option_value option (word ∷ value ∷ another ∷ words) = None

-- what words ask for, and what has to be built for them
pub record Asked : Type 0 where
  pub command : Command
  pub feature : Feature

abbrev pub asks : Feature → Command → Option Asked
asks feature command = Some (record { command = command; feature = feature })

-- a command with a number, where there is one
abbrev pub asks_number : Feature → (ℕ → Command) → Option ℕ → Option Asked
asks_number feature command None = None
asks_number feature command (Some n) = asks feature (command n)

-- a command with an option of a number up to `most`
abbrev pub asks_option : Feature → (ℕ → Command) → (option : List ℕ) → (most : ℕ) → List (List ℕ) → Option Asked
asks_option feature command option most words = elim (option_value option words) [ None ↦ None | Some value ↦ asks_number feature command (number_of most value) ]

-- the words behind `mock`, `domains` and `verify`; behind `check`, `print`, `expand`, `paths` and `migrate`, which have none; behind `load`
abbrev pub mock_words : List (List ℕ) → Option Asked
mock_words [] = asks feature.FirstForms (command.Mock most_steps)
mock_words (word ∷ words) = asks_option feature.Steps command.Mock (codes "--steps") most_steps (word ∷ words)

abbrev pub domains_words : List (List ℕ) → Option Asked
domains_words [] = asks feature.Domains (command.Domains most_lines)
domains_words (word ∷ words) = asks_option feature.Domains command.Domains (codes "--lines") most_lines (word ∷ words)

abbrev pub verify_words : List (List ℕ) → Option Asked
verify_words [] = asks feature.Histories (command.Verify most_lines)
verify_words (word ∷ words) = asks_option feature.Histories command.Verify (codes "--lines") most_lines (word ∷ words)

abbrev pub lone_word : Feature → Command → List (List ℕ) → Option Asked
lone_word feature command [] = asks feature command
lone_word feature command (word ∷ words) = None

abbrev pub load_words : List (List ℕ) → Option Asked
load_words [] = None
load_words (word ∷ []) = asks_number feature.StreamsAndPromises command.Load (number_of most_load word)
load_words (word ∷ another ∷ words) = None

-- what words ask for, built or not
abbrev pub asked : List (List ℕ) → Option Asked
asked [] = None
asked (name ∷ words) =
    if bytes_eq name (codes "mock") then mock_words words
    else
    (if bytes_eq name (codes "domains") then domains_words words
    else
    (if bytes_eq name (codes "check") then lone_word feature.Reading command.Check words
    else
    (if bytes_eq name (codes "print") then lone_word feature.Reading command.Print words
    else
    (if bytes_eq name (codes "load") then load_words words
    else
    (if bytes_eq name (codes "verify") then verify_words words
    else
    (if bytes_eq name (codes "expand") then lone_word feature.Lists command.Expand words
    else
    (if bytes_eq name (codes "paths") then lone_word feature.Folders command.Paths words
    else (if bytes_eq name (codes "migrate") then lone_word feature.Versions command.Migrate words else None))))))))

-- the command that words mean
unfoldable pub meaning : Built → List (List ℕ) → Option Command
meaning built words = elim (asked words) [
  | None ↦ None
  | Some it ↦ elim (is_built built it.feature) [ true ↦ Some it.command | false ↦ None ]
]
