-- A small script with the numbers of its blocks, and what is found by them: `(main (yield) (sub c (yield)) (yield))`, and behind it a body
-- `(domain (both ((now)) ()))`.
use Rattle.std.proofs.Common.{◌≡◌, [], ◌∷◌, None, refl}
use Rattle.spec_script.specs.Scripts.{Script}
use Rattle.spec_script.specs.Syntax.{Yield, Now, Sub, Branches, Both, Block, Begins, Done, Then, NoBlocks, AndBlock}
use Rattle.spec_fiber.specs.Numbered.{blocks_from, blocks_of_statement, blocks_of_statements, blocks_of_branches, block_numbered}
use Rattle.script_forms.specs.Flat.{numbers_of, flat_statement, flat_statements, flat_blocks, flat_bodies, nodes_of}
use Rattle.script_code.specs.Numbered.{IsNumbered, IsNumberedBlock, AreNumbered, AreNumberedBlocks, AreNumberedBodies}
use Rattle.script_code.specs.Standing.{statements_at, block_at}
use Rattle.script_forms.specs.declared.node.Group.TheVariants as group
use Rattle.script_forms.specs.declared.node.Node.TheVariants as node
use Rattle.fiber_step.specs.Numbering.Beginnings.{blocks_in, blocks_named}

abbrev inner : Block
inner = Begins 2 (Then Yield Done)

abbrev main : Block
main = Begins 0 (Then Yield (Then (Sub inner) (Then Yield Done)))

abbrev first_branch : Block
first_branch = Begins 7 (Then Now Done)

abbrev second_branch : Block
second_branch = Begins 9 Done

abbrev body : Block
body = Begins 6 (Then (Branches Both (AndBlock first_branch (AndBlock second_branch NoBlocks))) Done)

abbrev script : Script
script = record { version = 1; names = []; declarations = []; bodies = main ∷ body ∷ []; texts = []; failures = []; formed = []; first_domain = None }

-- the second body begins behind the nodes of main
its_nodes : nodes_of script ≡
    node.Yield ∷ node.Sub 2 4 ∷ node.Yield ∷ node.End ∷ node.Yield ∷ node.End
    ∷ node.Branches group.Both (7 ∷ 9 ∷ []) 10 ∷ node.Now ∷ node.End ∷ node.End ∷ node.End ∷ []
unfolding flat_bodies flat_statement flat_statements flat_blocks numbers_of
its_nodes = refl

its_blocks : blocks_in script ≡ main ∷ inner ∷ body ∷ first_branch ∷ second_branch ∷ []
unfolding blocks_from blocks_of_statement blocks_of_statements blocks_of_branches
its_blocks = refl

-- so the law speaks of it
is_numbered : AreNumberedBodies 0 script.bodies
unfolding IsNumbered IsNumberedBlock AreNumbered AreNumberedBlocks AreNumberedBodies flat_statement flat_statements flat_blocks
is_numbered = ((refl, (tt, ((refl, (tt, tt)), (tt, tt)))), ((refl, (((refl, (tt, tt)), ((refl, tt), tt)), tt)), tt))

found_in_main : block_numbered script 2 ≡ inner
unfolding block_numbered blocks_from blocks_of_statement blocks_of_statements blocks_of_branches
found_in_main = refl

found_behind_main : block_numbered script 9 ≡ second_branch
unfolding block_numbered blocks_from blocks_of_statement blocks_of_statements blocks_of_branches
found_behind_main = refl

stands_in_main : block_at (nodes_of script) 2 ≡ inner
unfolding statements_at flat_bodies flat_statement flat_statements flat_blocks numbers_of
stands_in_main = refl

-- At a node within a block statements stand, but no block has its number.
none_found : block_numbered script 1 ≡ Begins 1 Done
unfolding block_numbered blocks_from blocks_of_statement blocks_of_statements blocks_of_branches
none_found = refl

others_stand : block_at (nodes_of script) 1 ≡ Begins 1 (Then (Sub inner) (Then Yield Done))
unfolding statements_at flat_bodies flat_statement flat_statements flat_blocks numbers_of
others_stand = refl

names_both : blocks_named (node.Branches group.Both (7 ∷ 9 ∷ []) 10) ≡ 7 ∷ 9 ∷ []
names_both = refl
