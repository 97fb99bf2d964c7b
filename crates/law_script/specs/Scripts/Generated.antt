-- The generator's trees stand for scripts.
use Rattle.std.specs.Prelude.{◌≡◌, ℕ, Ok}
use Rattle.spec_script.specs.Generator.{generated}
use Rattle.spec_script.specs.Scripts.{Script, script_of}
use Rattle.spec_script.specs.Trees.{Tree}

-- a tree that stands for a script, and for which one
pub record IsScript (tree : Tree) : Type 0 where
  pub script : Script
  pub read : script_of tree ≡ Ok script

-- of however many forks
abbrev pub GeneratedAreScripts : Type 0
GeneratedAreScripts = (n : ℕ) → IsScript (generated n)
