-- What an input is to a command, and what `check` and `print` answer to it.
-- Of several refusals the first is the answer: the size of the input, its tree, its script, and then the forms that the command
-- doesn't run. `check` and `print` refuse no form.
use Rattle.std.specs.Prelude.{ℕ, Bool, true, false, if◌then◌else◌, List, codes, Option, Some, None, Result, Ok, Err}
use Rattle.spec_script.specs.declared.Command.{Command}
use Rattle.spec_script.specs.declared.Command.TheVariants as command
use Rattle.spec_script.specs.Trees.{Tree}
use Rattle.spec_script.specs.Results.{◌>>=◌}
use Rattle.spec_script.specs.Features.{Built}
use Rattle.spec_script.specs.Canonical.{document}
use Rattle.spec_script.specs.Refusals.{Refusal, NoScript, MockOnly, DomainOnly, Unbuilt, refusal_line, or_refused, input_tree}
use Rattle.spec_script.specs.Scripts.{Script, script_of}
use Rattle.spec_script.specs.Words.{meaning}
use Rattle.spec_script.specs.RefusedForms.{mock_only, domain_only, unbuilt}

-- the script that an input is
unfoldable pub input_script : List ℕ → Result Script Refusal
input_script bytes = input_tree bytes >>= λ tree. or_refused NoScript (script_of tree)

-- refused at this place, if there is one
abbrev pub unless_at : (ℕ → Refusal) → Option ℕ → Script → Result Script Refusal
unless_at refusal None script = Ok script
unless_at refusal (Some at) script = Err (refusal at)

-- the script that `mock` runs: it has one body, and what isn't built is refused last
unfoldable pub mocked_script : Built → List ℕ → Result Script Refusal
mocked_script built bytes =
    input_script bytes >>= λ script. unless_at DomainOnly (domain_only script) script >>= λ one. unless_at Unbuilt (unbuilt built one) one

-- the script that `domains` runs: it has no form for the mocked domain alone
unfoldable pub shared_script : Built → List ℕ → Result Script Refusal
shared_script built bytes =
    input_script bytes >>= λ script. unless_at MockOnly (mock_only script) script >>= λ plain. unless_at Unbuilt (unbuilt built plain) plain

-- what is written, and whether the input was refused
pub record Checked : Type 0 where
  pub text : List ℕ
  pub is_refused : Bool

-- the exit status
abbrev pub status_of : Checked → ℕ
status_of it = if it.is_refused then 2 else 0

abbrev pub refused_by : Refusal → Checked
refused_by refusal = record { text = refusal_line refusal; is_refused = true }

abbrev pub checked_by : List ℕ → Result Script Refusal → Checked
checked_by text (Ok script) = record { text = text; is_refused = false }
checked_by text (Err refusal) = refused_by refusal

-- `check` writes `ok`
unfoldable pub checked : List ℕ → Checked
checked bytes = checked_by (codes "ok\n") (input_script bytes)

abbrev pub printed_by : Result Tree Refusal → Checked
printed_by (Ok tree) = checked_by (document tree) (or_refused NoScript (script_of tree))
printed_by (Err refusal) = refused_by refusal

-- `print` writes the canonical spelling of the script's tree
unfoldable pub printed : List ℕ → Checked
printed bytes = printed_by (input_tree bytes)

-- the answer of a command that runs nothing
abbrev pub checked_for : Command → List ℕ → Option Checked
checked_for command.Check bytes = Some (checked bytes)
checked_for command.Print bytes = Some (printed bytes)
checked_for _ bytes = None

-- what is answered to an input where the words ask for `check` or `print`, and these are built
unfoldable pub answered : Built → (words : List (List ℕ)) → (bytes : List ℕ) → Option Checked
answered built words bytes = elim (meaning built words) [ None ↦ None | Some command ↦ checked_for command bytes ]
