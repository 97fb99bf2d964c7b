-- Where the blocks of a script begin.
-- A block has the number of the node that it begins with. The definitions look a block up by that number, among all blocks of the script; code goes to the
-- node, and reads the block from there on.
use Rattle.std.specs.Prelude.{◌≡◌, ℕ, ◌<◌, List, [], ◌∷◌, ◌++◌, length, drop, flat_map, Contains}
use Rattle.spec_script.specs.Scripts.{Script}
use Rattle.spec_script.specs.Syntax.{Block}
use Rattle.spec_fiber.specs.Numbered.{number_of, blocks_from}
use Rattle.law_script.specs.Scripts.Soundness.{Known, IsSoundBlock}
use Rattle.script_forms.specs.Flat.{flat_block}
use Rattle.script_code.specs.Numbered.{IsNumberedBlock}
use Rattle.script_code.specs.Standing.{block_at}
use Rattle.script_forms.specs.declared.node.Node.{Node}
use Rattle.script_forms.specs.declared.node.Node.TheVariants as node

-- the blocks of a script, each body and those inside it, in reading order
abbrev pub blocks_in : Script → List Block
blocks_in script = flat_map blocks_from script.bodies

-- a block of the script begins at this node; at others the statements of one go on
pub record BeginsBlock (script : Script) (number : ℕ) : Type 0 where
  pub block : Block
  pub its : Contains (blocks_in script) block
  pub begins : number_of block ≡ number

-- a block stands from the node of its number on: with all that belongs to it, in which each block is numbered likewise
pub record StandsAtNumber (nodes : List Node) (block : Block) : Type 0 where
  pub seen : block ≡ block_at nodes (number_of block)
  pub node : number_of block < length nodes
  pub behind : List Node
  pub is : drop (number_of block) nodes ≡ flat_block (number_of block) block ++ behind
  pub numbered : IsNumberedBlock (number_of block) block

-- a block is sound for what some place knows, as the one at which it stands
abbrev pub IsSoundSomewhere : Block → Type 0
IsSoundSomewhere block = (known : Known) × IsSoundBlock known block

-- the numbers by which a node names its blocks
abbrev pub blocks_named : Node → List ℕ
blocks_named (node.If n m after) = n ∷ m ∷ []
blocks_named (node.Try n m after) = n ∷ m ∷ []
blocks_named (node.Repeat n after) = n ∷ []
blocks_named (node.Loop n after) = n ∷ []
blocks_named (node.Sub n after) = n ∷ []
blocks_named (node.Protect n after) = n ∷ []
blocks_named (node.Switch n after) = n ∷ []
blocks_named (node.Fork forking switch n after) = n ∷ []
blocks_named (node.OnRelease switch n after) = n ∷ []
blocks_named (node.Branches group numbers after) = numbers
blocks_named (node.UseRw mutex n after) = n ∷ []
blocks_named (node.UsePool pool n after) = n ∷ []
blocks_named (node.Submit executor weight captured n after) = n ∷ []
blocks_named (node.BufRead flow limit n after) = n ∷ []
blocks_named (node.BufWrite flow n after) = n ∷ []
blocks_named (node.OpenDir directory n after) = n ∷ []
blocks_named other = []
