-- Laws of the blocks of a script that is read, so that each has the number of the node that it begins with (`HasNumbers`, which `Script::is_sound` gives).
use Rattle.std.specs.Prelude.{◌≡◌, ℕ, ◌<◌, slice_get, Some, All, AllPairs, Contains}
use Rattle.spec_script.specs.Scripts.{Script}
use Rattle.spec_script.specs.Syntax.{Block}
use Rattle.spec_fiber.specs.Numbered.{number_of, block_numbered, blocks_from}
use Rattle.law_script.specs.Scripts.Soundness.{IsSound}
use Rattle.script_forms.specs.Flat.{nodes_of}
use Rattle.script_code.specs.Numbered.{HasNumbers}
use Rattle.script_code.specs.Standing.{block_at}
use Rattle.script_forms.specs.declared.node.Node.{Node}
use Rattle.fiber_step.specs.Numbering.Beginnings.{blocks_in, BeginsBlock, StandsAtNumber, IsSoundSomewhere, blocks_named}

-- ## By number

-- a block of the script, looked up by its number, is that block
abbrev pub FoundByNumber : Type 0
FoundByNumber = (script : Script) → HasNumbers script → (block : Block) → Contains (blocks_in script) block → block_numbered script (number_of block) ≡ block

-- so is each of them
abbrev pub AllFoundByNumber : Type 0
AllFoundByNumber = (script : Script) → HasNumbers script → All (λ block. block_numbered script (number_of block) ≡ block) (blocks_in script)

-- what is looked up has the number by which it was
abbrev pub FoundHasNumber : Type 0
FoundHasNumber = (script : Script) (number : ℕ) → number_of (block_numbered script number) ≡ number

pub record BlocksByNumber : Type 0 where
  pub block : FoundByNumber
  pub all : AllFoundByNumber
  pub number : FoundHasNumber

-- of two blocks the one that begins first in the text has the lesser number
abbrev pub NumbersRise : Type 0
NumbersRise = (script : Script) → HasNumbers script → AllPairs (λ b c. number_of b < number_of c) (blocks_in script)

-- ## By node

-- the blocks of a script stand where their numbers say
abbrev pub BlocksStand : Type 0
BlocksStand = (script : Script) → HasNumbers script → All (StandsAtNumber (nodes_of script)) (blocks_in script)

-- and are sound where the script is, so that code may go into each
abbrev pub BlocksAreSound : Type 0
BlocksAreSound = (script : Script) → IsSound script → All IsSoundSomewhere (blocks_in script)

-- where a block begins, code that goes to the node and the definitions, which look up its number, come to the same block
abbrev pub FoundByNode : Type 0
FoundByNode = (script : Script) → HasNumbers script → (number : ℕ) → BeginsBlock script number
    → block_numbered script number ≡ block_at (nodes_of script) number

-- a block begins at the number of each body
abbrev pub BodiesBegin : Type 0
BodiesBegin = (script : Script) (body number : ℕ) → slice_get script.bodies body ≡ Some (block_at (nodes_of script) number) → BeginsBlock script number

-- and at each number by which a node names a block
abbrev pub NamedBegin : Type 0
NamedBegin = (script : Script) (at : ℕ) (n : Node) → slice_get (nodes_of script) at ≡ Some n → All (BeginsBlock script) (blocks_named n)

-- the blocks inside a block of the script are the script's too
abbrev pub InsideAreIts : Type 0
InsideAreIts = (script : Script) (block : Block) → Contains (blocks_in script) block → All (Contains (blocks_in script)) (blocks_from block)

pub record BlocksByNode : Type 0 where
  pub stand : BlocksStand
  pub sound : BlocksAreSound
  pub found : FoundByNode
  pub bodies : BodiesBegin
  pub named : NamedBegin
  pub inside : InsideAreIts
