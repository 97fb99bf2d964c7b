-- Codes of what is kept, which stand for the blocks in the calls of its fibers by their nodes.
use Rattle.std.specs.Prelude.{ℕ, List, [], ◌∷◌, map, Option}
use Rattle.std.proofs.Common.{ap}
use Rattle.std.specs.Coded.{Coded, code_by, codes}
use Rattle.spec_script.specs.Syntax.{Block, Begins, Done}
use Rattle.script_forms.specs.declared.node.Node.{Node}
use Rattle.script_forms.specs.Flat.{number_of, flat_bodies}
use Rattle.script_code.specs.ScriptCode.{bodies_of-flat}
use Rattle.script_code.specs.Unflat.{bodies_of}
use Rattle.domain_core.specs.Keeping.{KeptFiber, KeptDomain}

abbrev pub Parted : Type 0
Parted = List ℕ × List Node

pub parted_code : Coded Parted
parted_code = hlevel codes

abbrev pub parted : Block → Parted
parted block = (map number_of (block ∷ []), flat_bodies 0 (block ∷ []))

abbrev pub first_block : List Block → Block
first_block [] = Begins 0 Done
first_block (block ∷ others) = block

abbrev pub block_code : Coded Block
block_code = code_by Parted parted_code parted (λ it. first_block (bodies_of it.0 it.1)) (λ block. ap first_block (bodies_of-flat (block ∷ [])))

pub fibers_code : Coded (List (Option KeptFiber))
fibers_code = hlevel (codes, block_code)

pub domain_code : Coded KeptDomain
domain_code = hlevel (codes, block_code)
