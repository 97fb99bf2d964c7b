-- What `print` writes for a script stands for that script.
use Rattle.std.specs.Prelude.{◌≡◌, ℕ, ◌≤◌, false, List, length, Ok}
use Rattle.spec_script.specs.Inputs.{input_script, printed}
use Rattle.spec_script.specs.Limits.{most_input_bytes}
use Rattle.spec_script.specs.Scripts.{Script, script_of}
use Rattle.spec_script.specs.Spelling.{IsDocument}
use Rattle.spec_script.specs.Trees.{Tree}
use Rattle.law_script.specs.Scripts.Meanings.{IsSameScript}

-- bytes spell a tree that stands for a script, places aside
pub record StandsFor (bytes : List ℕ) (script : Script) : Type 0 where
  pub tree : Tree
  pub spelled : IsDocument bytes tree
  pub own : Script
  pub stands : script_of tree ≡ Ok own
  pub same : IsSameScript own script

-- bytes are read as a script, places aside, and printed as they are
pub record IsKept (bytes : List ℕ) (script : Script) : Type 0 where
  pub own : Script
  pub read : input_script bytes ≡ Ok own
  pub same : IsSameScript own script
  pub again : printed bytes ≡ record { text = bytes; is_refused = false }

abbrev pub PrintStandsForTheScript : Type 0
PrintStandsForTheScript = (bytes : List ℕ) (script : Script) → input_script bytes ≡ Ok script → StandsFor (printed bytes).text script

abbrev pub PrintIsReadAgain : Type 0
PrintIsReadAgain = (bytes : List ℕ) (script : Script) → input_script bytes ≡ Ok script → length (printed bytes).text ≤ most_input_bytes → IsKept (printed bytes).text script
