-- The branches of a form, and the last of them.
use Rattle.std.proofs.Common.{◌≡◌, ℕ, suc, ◌-◌, ◌<◌, ◌≤◌, List, [], ◌∷◌, ◌++◌, length, map, arith, Option, Some, None, refl, sym, ap, ◌∙◌, subst}
use Rattle.std.specs.Prelude.{slice_get}
use Rattle.std.specs.List.{last_or, AllByRecursion as Each}
use Rattle.std.specs.Option.{unwrap_or}
use Rattle.std.proofs.lemmas.List.{length_push}
use Rattle.std.proofs.lemmas.Option.{slice_get_within}
use Rattle.spec_script.specs.Syntax.{Block, Begins, Done}
use Rattle.script_code.specs.Standing.{block_at, blocks_at}
use Rattle.script_forms.specs.declared.node.Group.{Group}
use Rattle.script_forms.specs.declared.node.Node.{Node}
use Rattle.script_forms.specs.declared.node.Node.TheVariants as node
use Rattle.spec_fiber.specs.Replies.{own_branch}
use Rattle.spec_fiber.specs.Silent.{blocks_of}
use Rattle.fiber_step.specs.Entering.{HasBranches}
use Rattle.fiber_step.specs.Having.{HasStatements}
use Rattle.fiber_step.specs.Standing.{branches_in, branches_at}
use Rattle.fiber_step.specs.Stepping.{HasBranchBodies}

pub form_within : (nodes : List Node) (form : ℕ) → HasBranches nodes form → form < length nodes
form_within nodes form has = slice_get_within nodes form _ has.is

last_branch : (nodes : List Node) (found : Option Block) (others : List ℕ) (own : ℕ) → last_or found (blocks_of (blocks_at nodes (others ++ own ∷ []))) ≡ Some (block_at nodes own)
last_branch nodes found [] own = refl
last_branch nodes found (other ∷ others) own = last_branch nodes (Some (block_at nodes other)) others own

pub own_is : (nodes : List Node) (form : ℕ) (has : HasBranches nodes form) → own_branch (blocks_of (branches_at nodes form)) ≡ block_at nodes has.own
own_is nodes form has =
    ap (λ found. own_branch (blocks_of (branches_in nodes found))) has.is ∙ ap (λ found. unwrap_or found (Begins 0 Done)) (last_branch nodes None has.others has.own)

last_got : (others : List ℕ) (own : ℕ) → slice_get (others ++ own ∷ []) (length (others ++ own ∷ []) - 1) ≡ Some own
last_got [] own = refl
last_got (other ∷ others) own =
    let size = length_push others own in
    let next : length (other ∷ (others ++ own ∷ [])) - 1 ≡ suc (length (others ++ own ∷ []) - 1) = omega arith in
    ap (λ k. slice_get (other ∷ (others ++ own ∷ [])) k) next ∙ last_got others own

pub same_branches : (m n : Node) (g h : Group) (a b : List ℕ) (i j : ℕ) → m ≡ node.Branches g a i → m ≡ node.Branches h b j → a ≡ b
same_branches m n g h a b i j first second = cc

pub same_some : {A : Type 0} (x y : A) → Some x ≡ Some y → x ≡ y
same_some x y e = cc

-- the last number is that of the caller's branch
pub own_found : (nodes : List Node) (form : ℕ) (n : Node) (group : Group) (blocks : List ℕ) (after found : ℕ) (these : List ℕ) → HasBranches nodes form
    → slice_get nodes form ≡ Some n → n ≡ node.Branches group blocks after → these ≡ blocks → Some found ≡ slice_get these (length these - 1)
    → block_at nodes found ≡ own_branch (blocks_of (branches_at nodes form))
own_found nodes form n group blocks after found these has at is same last =
    let all = same_branches n n group has.group blocks (has.others ++ has.own ∷ []) after has.after is (same_some n _ (sym at ∙ has.is)) in
    let e = last ∙ (ap (λ s. slice_get s (length s - 1)) (same ∙ all) ∙ last_got has.others has.own) in
    ap (λ k. block_at nodes k) (same_some found has.own e) ∙ sym (own_is nodes form has)

-- ## All of them

blocks_mapped : (nodes : List Node) (numbers : List ℕ) → map (block_at nodes) numbers ≡ blocks_of (blocks_at nodes numbers)
blocks_mapped nodes [] = refl
blocks_mapped nodes (number ∷ numbers) = ap (λ these. block_at nodes number ∷ these) (blocks_mapped nodes numbers)

-- the numbers of the node name the blocks of the form
pub blocks_found : (nodes : List Node) (form : ℕ) (n : Node) (group : Group) (blocks : List ℕ) (after : ℕ) (these : List ℕ)
    → slice_get nodes form ≡ Some n → n ≡ node.Branches group blocks after → these ≡ blocks → map (block_at nodes) these ≡ blocks_of (branches_at nodes form)
blocks_found nodes form n group blocks after these at is same =
    ap (λ s. map (block_at nodes) s) same ∙ (blocks_mapped nodes blocks ∙ ap (λ found. blocks_of (branches_in nodes found)) (sym (at ∙ ap (λ k. Some k) is)))

-- at each of them a block begins
pub all_begin : (nodes : List Node) (form : ℕ) (n : Node) (group : Group) (blocks : List ℕ) (after : ℕ) (these : List ℕ) → HasBranchBodies nodes form
    → slice_get nodes form ≡ Some n → n ≡ node.Branches group blocks after → these ≡ blocks → Each (HasStatements nodes) these
all_begin nodes form n group blocks after these has at is same =
    let all = same_branches n n group has.group blocks has.numbers after has.after is (same_some n _ (sym at ∙ has.is)) in
    subst (λ (s : List ℕ). Each (HasStatements nodes) s) (sym (same ∙ all)) has.begin

-- there is one at least
pub some_found : (nodes : List Node) (form : ℕ) (n : Node) (group : Group) (blocks : List ℕ) (after : ℕ) (these : List ℕ) → HasBranches nodes form
    → slice_get nodes form ≡ Some n → n ≡ node.Branches group blocks after → these ≡ blocks → 1 ≤ length these
some_found nodes form n group blocks after these has at is same =
    let all = same_branches n n group has.group blocks (has.others ++ has.own ∷ []) after has.after is (same_some n _ (sym at ∙ has.is)) in
    let count = ap (λ (s : List ℕ). length s) (same ∙ all) in
    let size = length_push has.others has.own in
    omega arith
