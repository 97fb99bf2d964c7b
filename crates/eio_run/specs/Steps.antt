-- The command of `clap` that reads the words behind `mock`: it has one option, whose value stays a text.
use Rattle.std.specs.Prelude.{◌≡◌, ◌⊎◌, ◌&&◌, nat_le, Bool, false, codes, [], ◌∷◌, List, ℕ, Option, Some, None, Result, Ok, Err, option_map}
use Rattle.std.specs.Borrow.{Bor}
use Rattle.clap.specs.Words.{App, Rule, IsAmong, fault_of, first_of, matches_of, new_rule, with_rule}
use Rattle.clap.specs.declared.builder.action.ArgAction.TheVariants.{Set}
use Rattle.clap.specs.declared.error.kind.ErrorKind.{ErrorKind}
use Rattle.clap.specs.declared.error.kind.ErrorKind.TheVariants as kind
use Rattle.spec_script.specs.declared.Command.TheVariants as command
use Rattle.spec_script.specs.declared.Feature.TheVariants as feature
use Rattle.spec_script.specs.Limits.{most_steps}
use Rattle.spec_script.specs.Words.{Asked, asks, asks_number, number_of}
use Rattle.eio_run.specs.Behind.{behind_app}

abbrev pub steps_rule : Rule
steps_rule = record (new_rule (codes "steps")) { long = Some (codes "steps"); action = Some Set }

abbrev pub mock_app : App
mock_app = with_rule behind_app steps_rule

-- the option's text, if the words have the option
abbrev pub text_in : List (List ℕ) → Option (List ℕ)
text_in words = first_of (codes "steps") (matches_of mock_app words)

-- the words are read without a fault, and give the option this text; or they are refused, for want of memory or for a fault
abbrev pub ReadsText : List (List ℕ) → Result (Option (Bor (List ℕ))) ErrorKind → Type 0
ReadsText words (Ok text) = (fault_of mock_app words ≡ []) × (option_map (λ s. s.now) text ≡ text_in words)
ReadsText words (Err refusal) = (refusal ≡ kind.OutOfMemory) ⊎ IsAmong refusal (fault_of mock_app words)

-- what `mock` asks with this text of its option, or without the option
abbrev pub asked_with : Option (List ℕ) → Option Asked
asked_with None = asks feature.FirstForms (command.Mock most_steps)
asked_with (Some text) = asks_number feature.Steps command.Mock (number_of most_steps text)

-- the first byte is one of `1` to `9`
abbrev pub has_first_digit : List ℕ → Bool
has_first_digit [] = false
has_first_digit (b ∷ bytes) = nat_le 49 b && nat_le b 57
