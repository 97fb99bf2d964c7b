-- The branches of a form, as the code reads them.
use Rattle.std.proofs.Common.{◌≡◌, ℕ, ◌+◌, ◌<◌, List, [], ◌∷◌, ◌++◌, length, nat_le, nat_lt, Bool, true, false, Ok, refl, arith, ap, sym, subst, ◌∙◌, append_assoc, append-nil, length-append}
use Rattle.spec_script.specs.Limits.{most_branches}
use Rattle.spec_script.specs.Trees.{Tree, Trees, And}
use Rattle.spec_script.specs.Reads.{Made, ◌>>>◌, gives}
use Rattle.spec_script.specs.Scopes.{Scope}
use Rattle.spec_script.specs.Syntax as syntax
use Rattle.spec_script.specs.Syntax.{Blocks, NoBlocks, AndBlock, Begins, Branches}
use Rattle.spec_script.specs.Statements.{block, branches, stated}
use Rattle.script_tree.specs.Pieces.{Piece}
use Rattle.script_draft.specs.Ahead.{ahead, rest_of, tree_ahead, has_tree, IsPast}
use Rattle.script_statements.specs.Blocks.{HasBlock}
use Rattle.script_forms.specs.Calls.{group_of, group_in}
use Rattle.script_draft.specs.Drafts.{Drafted, made_of}
use Rattle.script_forms.specs.Flat.{flat_statement, flat_statements, flat_blocks, numbers_of}
use Rattle.script_forms.specs.Faults.{Fails}
use Rattle.script_draft.specs.Readings.{HasStated}
use Rattle.script_forms.specs.declared.fault.ScriptFault.{ScriptFault}
use Rattle.script_forms.specs.declared.node.Group.{Group}
use Rattle.script_forms.specs.declared.node.Group.TheVariants as group
use Rattle.script_forms.specs.declared.node.Node.TheVariants as node
use Rattle.std.specs.Prelude.{slice_set}
use Rattle.std.proofs.Common.{add-one}
use Rattle.std.proofs.Math.Dec.{leb-suc-suc}
use Rattle.script_draft.proofs.Steps.{fails_first, fill_stated}
use Rattle.script_statements.proofs.StatementsRead.{tree_here, end_here, passed_here}

-- some branches were read, with these numbers; what is left gives the whole
pub record IsAmidBlocks (scope : Scope) (whole : Trees) (old : Drafted) (numbers : List ℕ) (left : Trees) (now : Drafted) : Type 0 where
  pub after : Blocks → Blocks
  pub ok : (others : Blocks) (made : Made) → branches scope (length numbers) left (made_of now) ≡ Ok (others, made) → branches scope 0 whole (made_of old) ≡ Ok (after others, made)
  pub fails : (f : ScriptFault) → Fails f (branches scope (length numbers) left (made_of now)) → Fails f (branches scope 0 whole (made_of old))
  pub named : (others : Blocks) → numbers ++ numbers_of others ≡ numbers_of (after others)
  pub grows : (others : Blocks) → now.nodes ++ flat_blocks (length now.nodes) others ≡ old.nodes ++ flat_blocks (length old.nodes) (after others)

pub blocks_first : (scope : Scope) (whole : Trees) (old : Drafted) (numbers : List ℕ) → numbers ≡ [] → IsAmidBlocks scope whole old numbers whole old
blocks_first scope whole old numbers none = subst (λ ns. IsAmidBlocks scope whole old ns whole old) (sym none) (record {
  after = λ others. others;
  ok = λ others made e. e;
  fails = λ f e. e;
  named = λ others. refl;
  grows = λ others. refl;
})

one_branch : (scope : Scope) (n : ℕ) (tree : Tree) (row : Trees) (made : Made) → branches scope n (And tree row) made ≡ (block scope (nat_le most_branches n) tree >>> λ first. branches scope (n + 1) row >>> λ others. gives (AndBlock first others)) made
unfolding branches
one_branch scope n tree row made = refl

block_grows : (now next : Drafted) (items : syntax.Statements) (others : Blocks) → next.nodes ≡ now.nodes ++ flat_statements (length now.nodes) items → next.nodes ++ flat_blocks (length next.nodes) others ≡ now.nodes ++ flat_blocks (length now.nodes) (AndBlock (Begins (length now.nodes) items) others)
unfolding flat_blocks
block_grows now next items others e =
    let these = flat_statements (length now.nodes) items in
    let count : length next.nodes ≡ length now.nodes + length these = ap length e ∙ length-append now.nodes these in
    rw (count, e) (append_assoc now.nodes these (flat_blocks (length now.nodes + length these) others))

one_named : (numbers more : List ℕ) (n : ℕ) (items : syntax.Statements) (others : Blocks) → more ≡ numbers ++ n ∷ [] → more ++ numbers_of others ≡ numbers ++ numbers_of (AndBlock (Begins n items) others)
unfolding numbers_of
one_named numbers more n items others e = ap (λ ns. ns ++ numbers_of others) e ∙ append_assoc numbers (n ∷ []) (numbers_of others)

pub blocks_next : (scope : Scope) (whole : Trees) (numbers more : List ℕ) (full : Bool) (c c' : List Piece) (old now new : Drafted) → has_tree c ≡ true → IsPast c c' → IsAmidBlocks scope whole old numbers (ahead c) now → more ≡ numbers ++ length now.nodes ∷ [] → full ≡ nat_le most_branches (length numbers) → HasBlock (block scope full (tree_ahead c)) now new → IsAmidBlocks scope whole old more (ahead c') new
blocks_next scope whole numbers more full c c' old now new some past amid pushed is it =
    let here : ahead c ≡ And (tree_ahead c) (ahead c') = passed_here c c' some past in
    let read : block scope (nat_le most_branches (length numbers)) (tree_ahead c) (made_of now) ≡ Ok (Begins (length now.nodes) it.items, made_of new) =
    ap (λ b. block scope b (tree_ahead c) (made_of now)) (sym is) ∙ it.gives in
    let all : branches scope (length numbers) (ahead c) (made_of now) ≡ (block scope (nat_le most_branches (length numbers)) (tree_ahead c) >>> λ first. branches scope (length numbers + 1) (ahead c') >>> λ others. gives (AndBlock first others)) (made_of now) =
    ap (λ ts. branches scope (length numbers) ts (made_of now)) here ∙ one_branch scope (length numbers) (tree_ahead c) (ahead c') (made_of now) in
    let count : length more ≡ length numbers + 1 = ap length pushed ∙ length-append numbers (length now.nodes ∷ []) in
    record {
      after = λ others. amid.after (AndBlock (Begins (length now.nodes) it.items) others);
      ok = λ others made e. amid.ok (AndBlock (Begins (length now.nodes) it.items) others) made (all ∙ rw (read, rw count at e) refl);
      fails = λ f e. amid.fails f (rw (all, read) (fails_first f _ _ (rw count at e)));
      named = λ others. one_named numbers more (length now.nodes) it.items others pushed ∙ amid.named (AndBlock (Begins (length now.nodes) it.items) others);
      grows = λ others. block_grows now new it.items others it.grows ∙ amid.grows (AndBlock (Begins (length now.nodes) it.items) others);
    }

pub blocks_fail : (scope : Scope) (whole : Trees) (numbers : List ℕ) (full : Bool) (c : List Piece) (old now : Drafted) (f : ScriptFault) → has_tree c ≡ true → IsAmidBlocks scope whole old numbers (ahead c) now → full ≡ nat_le most_branches (length numbers) → Fails f (block scope full (tree_ahead c) (made_of now)) → Fails f (branches scope 0 whole (made_of old))
blocks_fail scope whole numbers full c old now f some amid is e =
    let all : branches scope (length numbers) (ahead c) (made_of now) ≡ (block scope (nat_le most_branches (length numbers)) (tree_ahead c) >>> λ first. branches scope (length numbers + 1) (rest_of (ahead c)) >>> λ others. gives (AndBlock first others)) (made_of now) =
    ap (λ ts. branches scope (length numbers) ts (made_of now)) (tree_here c some) ∙ one_branch scope (length numbers) (tree_ahead c) (rest_of (ahead c)) (made_of now) in
    amid.fails f (rw all (fails_first f _ _ (rw is at e)))

group_in_of : (g : Group) → group_in (group_of g) ≡ g
group_in_of group.Both = refl
group_in_of group.All = refl
group_in_of group.First = refl
group_in_of group.Any = refl

-- the node that a row of branches ends with
flat_branches : (g : Group) (opened count : ℕ) (blocks : Blocks) (numbers : List ℕ) (old now : Drafted) → length old.nodes ≡ opened + 1 → numbers ≡ numbers_of blocks → now.nodes ≡ old.nodes ++ flat_blocks (length old.nodes) blocks → count ≡ length now.nodes → flat_statement opened (Branches (group_of g) blocks) ≡ node.Branches g numbers count ∷ flat_blocks (length old.nodes) blocks
unfolding flat_statement
flat_branches g opened count blocks numbers old now one named grows is =
    let total : opened + 1 + length (flat_blocks (opened + 1) blocks) ≡ count = ap (λ n. n + length (flat_blocks n blocks)) (sym one) ∙ (sym (length-append old.nodes (flat_blocks (length old.nodes) blocks)) ∙ (ap length (sym grows) ∙ sym is)) in
    rw (total, group_in_of g, ← named) (ap (λ n. node.Branches g numbers count ∷ flat_blocks n blocks) (sym one))

pub blocks_end : (scope : Scope) (g : Group) (c0 c : List Piece) (opened count : ℕ) (numbers : List ℕ) (old now new : Drafted) → has_tree c ≡ false → IsAmidBlocks scope (ahead c0) old numbers (ahead c) now → length old.nodes ≡ opened + 1 → count ≡ length now.nodes → new ≡ record now { nodes = slice_set now.nodes opened (node.Branches g numbers count) } → HasStated (branches scope 0 (ahead c0) >>> λ blocks. stated scope (Branches (group_of g) blocks)) scope opened old new
unfolding branches flat_blocks numbers_of
blocks_end scope g c0 c opened count numbers old now new none amid one is filled =
    let blocks = amid.after NoBlocks in
    let read : branches scope 0 (ahead c0) (made_of old) ≡ Ok (blocks, made_of now) = amid.ok NoBlocks (made_of now) (ap (λ ts. branches scope (length numbers) ts (made_of now)) (end_here c none)) in
    let grows : now.nodes ≡ old.nodes ++ flat_blocks (length old.nodes) blocks = sym (append-nil now.nodes) ∙ amid.grows NoBlocks in
    let named : numbers ≡ numbers_of blocks = sym (append-nil numbers) ∙ amid.named NoBlocks in
    fill_stated _ scope opened old now new (Branches (group_of g) blocks) (node.Branches g numbers count) (flat_blocks (length old.nodes) blocks) one (rw read refl) grows filled (flat_branches g opened count blocks numbers old now one named grows is)

pub full_after : (n : ℕ) (numbers : List ℕ) → n ≡ length numbers + 1 → (nat_lt 64 n) ≡ nat_le most_branches (length numbers)
full_after n numbers e = ap (λ k. nat_lt 64 k) (e ∙ add-one (length numbers)) ∙ leb-suc-suc 64 (length numbers)

pub blocks_less : (scope : Scope) (whole left : Trees) (numbers : List ℕ) (opened : ℕ) (old now : Drafted) → IsAmidBlocks scope whole old numbers left now → length old.nodes ≡ opened + 1 → opened < length now.nodes
unfolding flat_blocks
blocks_less scope whole left numbers opened old now amid one =
    let grown : length now.nodes ≡ length old.nodes + length (flat_blocks (length old.nodes) (amid.after NoBlocks)) =
    ap length (sym (append-nil now.nodes) ∙ amid.grows NoBlocks) ∙ length-append old.nodes (flat_blocks (length old.nodes) (amid.after NoBlocks)) in
    omega (arith, grown, one)

pub branches_fail : (scope : Scope) (g : Group) (whole : Trees) (made : Made) (f : ScriptFault) → Fails f (branches scope 0 whole made) → Fails f ((branches scope 0 whole >>> λ blocks. stated scope (Branches (group_of g) blocks)) made)
branches_fail scope g whole made f e = fails_first f (branches scope 0 whole made) (λ found. stated scope (Branches (group_of g) found.0) found.1) e
