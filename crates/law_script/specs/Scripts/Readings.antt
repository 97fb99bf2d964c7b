-- What the scripts that are read have.
use Rattle.std.specs.Prelude.{◌≡◌, ℕ, List, length, Ok, None}
use Rattle.spec_script.specs.Features.{Built}
use Rattle.spec_script.specs.Inputs.{input_script, mocked_script, shared_script}
use Rattle.spec_script.specs.RefusedForms.{mock_only}
use Rattle.spec_script.specs.Scripts.{Script, script_of}
use Rattle.spec_script.specs.Trees.{Tree}
use Rattle.law_script.specs.Scripts.Numbers.{HasFittingNumbers}
use Rattle.law_script.specs.Scripts.Sharing.{IsShared}
use Rattle.law_script.specs.Scripts.Soundness.{IsSound}

-- the script of a tree is sound. A tree that is read from bytes has no numbers but such as fit
abbrev pub ReadScriptsAreSound : Type 0
ReadScriptsAreSound = (tree : Tree) (script : Script) → HasFittingNumbers tree → script_of tree ≡ Ok script → IsSound script

-- and so is the script of an input
abbrev pub InputScriptsAreSound : Type 0
InputScriptsAreSound = (bytes : List ℕ) (script : Script) → input_script bytes ≡ Ok script → IsSound script

-- and so is the script that `mock` runs, which has one body
abbrev pub MockedScriptsAreSound : Type 0
MockedScriptsAreSound = (built : Built) (bytes : List ℕ) (script : Script) → mocked_script built bytes ≡ Ok script → IsSound script × (length script.bodies ≡ 1)

-- where no form of a script is refused as one for the mocked domain alone, several domains can run it
abbrev pub SharedScriptsHaveNoMockedForm : Type 0
SharedScriptsHaveNoMockedForm = (tree : Tree) (script : Script) → script_of tree ≡ Ok script → mock_only script ≡ None → IsShared script

-- the script that `domains` runs is sound, and several domains can run it
abbrev pub DomainScriptsAreShared : Type 0
DomainScriptsAreShared = (built : Built) (bytes : List ℕ) (script : Script) → shared_script built bytes ≡ Ok script → IsSound script × IsShared script
