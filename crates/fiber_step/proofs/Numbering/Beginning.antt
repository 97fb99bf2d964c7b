-- Where a block begins, code and definitions come to the same block.
use Rattle.std.proofs.Common.{◌≡◌, ℕ, zero, suc, List, [], ◌∷◌, ◌++◌, get_or, Some, None, refl, ◌∙◌, subst, arith}
use Rattle.std.specs.Prelude.{flat_map, slice_get, Contains, All}
use Rattle.std.specs.List.{AllByRecursion as Each}
use Rattle.std.proofs.lemmas.List.Elements.{All-contains, All-weaker, All-contains_itself, All-from_recursion, recursion_from_All, Contains-get_or, Contains-append_right}
use Rattle.spec_script.specs.Scripts.{Script}
use Rattle.spec_script.specs.Syntax.{Block, Begins}
use Rattle.law_script.specs.Scripts.Soundness.{IsSoundBlock, in_body, kinds_of}
use Rattle.script_forms.specs.Flat.{nodes_of}
use Rattle.script_code.specs.Standing.{block_at}
use Rattle.script_forms.specs.declared.node.Node.{Node}
use Rattle.spec_fiber.specs.Numbered.{number_of, blocks_from, blocks_of_statements, block_numbered}
use Rattle.fiber_step.specs.Numbering.Beginnings.{blocks_in, BeginsBlock, StandsAtNumber, IsSoundSomewhere, blocks_named}
use Rattle.fiber_step.specs.Numbering.Laws.{BlocksStand, BlocksAreSound, FoundByNode, BodiesBegin, NamedBegin, InsideAreIts, BlocksByNode}
use Rattle.fiber_step.proofs.Numbering.Finding.{found_by_number}
use Rattle.fiber_step.proofs.Numbering.Inside.{From, bodies_inside}
use Rattle.fiber_step.proofs.Numbering.Naming.{AllHave, AllName, bodies_name}
use Rattle.fiber_step.proofs.Numbering.Placing.{bodies_placed}
use Rattle.fiber_step.proofs.Numbering.Sound.{bodies_good}

none_some : {A : Type 0} (x : A) → None ≡ Some x → ⊥
none_some x e = cc

some_same : {A : Type 0} (x y : A) → Some x ≡ Some y → x ≡ y
some_same x y e = cc

blocks_stand : BlocksStand
blocks_stand script has =
    let nodes = nodes_of script in
    All-from_recursion (StandsAtNumber nodes) (blocks_in script) (bodies_placed nodes 0 script.bodies refl has.numbered)

blocks_are_sound : BlocksAreSound
blocks_are_sound script sound =
    let known = in_body (kinds_of script.declarations) in
    All-from_recursion IsSoundSomewhere (blocks_in script)
    (bodies_good known script.bodies (recursion_from_All (IsSoundBlock known) script.bodies sound.bodies))

found_by_node : FoundByNode
found_by_node script has number at =
    subst (λ n. block_numbered script n ≡ block_at (nodes_of script) n) at.begins
    (found_by_number script has at.block at.its
    ∙ (All-contains (StandsAtNumber (nodes_of script)) (blocks_in script) at.block (blocks_stand script has) at.its).seen)

-- ## Where they begin

-- a block is the first of those from it on
first_from : (b : Block) (others : List Block) → Contains (blocks_from b ++ others) b
unfolding blocks_from
first_from (Begins n items) others =
    let own = blocks_of_statements items ++ others in
    Contains-get_or (Begins n items ∷ own) 0 (Begins n items) (omega arith)

body_in : (bodies : List Block) (k : ℕ) (b : Block) → slice_get bodies k ≡ Some b → Contains (flat_map blocks_from bodies) b
body_in [] k b e = absurd (none_some b e)
body_in (first ∷ bodies) zero b e =
    subst (λ (x : Block). Contains (flat_map blocks_from (first ∷ bodies)) x) (some_same first b e) (first_from first (flat_map blocks_from bodies))
body_in (first ∷ bodies) (suc k) b e = Contains-append_right (blocks_from first) (flat_map blocks_from bodies) b (body_in bodies k b e)

bodies_begin : BodiesBegin
bodies_begin script body number e =
    let block = block_at (nodes_of script) number in
    record { block = block; its = body_in script.bodies body block e; begins = refl }

-- one of the nodes
one_names : (P : ℕ → Type 0) (nodes : List Node) → AllName P nodes → (at : ℕ) (n : Node) → slice_get nodes at ≡ Some n → Each P (blocks_named n)
one_names P [] name at n e = absurd (none_some n e)
one_names P (first ∷ nodes) name zero n e = subst (λ (x : Node). Each P (blocks_named x)) (some_same first n e) name.0
one_names P (first ∷ nodes) name (suc at) n e = one_names P nodes name.1 at n e

all_begin : (script : Script) → AllHave (BeginsBlock script) (blocks_in script)
all_begin script =
    recursion_from_All (λ b. BeginsBlock script (number_of b)) (blocks_in script)
    (λ k d less. record { block = get_or (blocks_in script) k d; its = Contains-get_or (blocks_in script) k d less; begins = refl })

named_begin : NamedBegin
named_begin script at n e =
    All-from_recursion (BeginsBlock script) (blocks_named n)
    (one_names (BeginsBlock script) (nodes_of script) (bodies_name (BeginsBlock script) 0 script.bodies (all_begin script)) at n e)

-- ## Inside a block

inside_are_its : InsideAreIts
inside_are_its script block its =
    let Own : Block → Type 0 = Contains (blocks_in script) in
    let all = recursion_from_All Own (blocks_in script) (All-contains_itself (blocks_in script)) in
    All-contains (λ b. All Own (blocks_from b)) (blocks_in script) block
    (All-weaker (From Own) (λ b. All Own (blocks_from b)) (λ b inside. All-from_recursion Own (blocks_from b) inside) (blocks_in script)
    (All-from_recursion (From Own) (blocks_in script) (bodies_inside Own script.bodies all)))
    its

pub blocks_by_node : BlocksByNode
blocks_by_node = record { stand = blocks_stand; sound = blocks_are_sound; found = found_by_node; bodies = bodies_begin; named = named_begin; inside = inside_are_its }
