-- Each block of a script stands from the node of its number on.
use Rattle.std.proofs.Common.{◌≡◌, ℕ, zero, suc, ◌+◌, ◌<◌, ◌≤◌, List, [], ◌∷◌, ◌++◌, length, drop, refl, sym, ap, ◌∙◌, subst, append_assoc, length-append, length-drop, arith}
use Rattle.std.specs.Prelude.{flat_map}
use Rattle.std.specs.List.{AllByRecursion as Each}
use Rattle.std.proofs.lemmas.List.{drop-drop}
use Rattle.std.proofs.Math.Seq.{drop-append_seam}
use Rattle.spec_script.specs.Syntax as syntax
use Rattle.spec_script.specs.Syntax.{Statement, Statements, Done, Then, Block, Begins, Blocks, NoBlocks, AndBlock}
use Rattle.script_forms.specs.Flat.{flat_expression, flat_statement, flat_statements, flat_blocks, flat_bodies}
use Rattle.script_code.specs.Numbered.{IsNumbered, IsNumberedBlock, AreNumbered, AreNumberedBlocks, AreNumberedBodies}
use Rattle.script_code.specs.ScriptCode.{unflat_statements}
use Rattle.script_code.specs.Standing.{statements_at}
use Rattle.script_code.specs.Unflat.{Behind, first_rest, unflat}
use Rattle.script_forms.specs.declared.node.Node.{Node}
use Rattle.spec_fiber.specs.Numbered.{blocks_from, blocks_of_statement, blocks_of_statements, blocks_of_branches}
use Rattle.fiber_step.specs.Numbering.Beginnings.{StandsAtNumber}
use Rattle.fiber_step.proofs.Numbering.Lists.{each_both}

-- each of these blocks stands there
abbrev pub ArePlaced : List Node → List Block → Type 0
ArePlaced nodes blocks = Each (StandsAtNumber nodes) blocks

-- ## Places

-- these nodes stand from this number on
abbrev Here : List Node → (at : ℕ) → List Node → Type 0
Here nodes at these = drop at nodes ≡ these

-- so do those behind some of them
behind_these : (nodes : List Node) (at : ℕ) (these others : List Node) → Here nodes at (these ++ others) → Here nodes (at + length these) others
behind_these nodes at these others here = sym (drop-drop (length these) at nodes) ∙ (ap (drop (length these)) here ∙ drop-append_seam these others)

alone : (at : ℕ) → at + 1 ≡ at + suc zero
alone at = omega arith

behind_one : (nodes : List Node) (at : ℕ) (n : Node) (others : List Node) → Here nodes at (n ∷ others) → Here nodes (at + 1) others
behind_one nodes at n others here = ap (λ k. drop k nodes) (alone at) ∙ behind_these nodes at (n ∷ []) others here

before_three : (nodes : List Node) (at : ℕ) (first second behind : List Node) → Here nodes at ((first ++ second) ++ behind)
    → Here nodes at (first ++ (second ++ behind))
before_three nodes at first second behind here = here ∙ append_assoc first second behind

behind_two : (nodes : List Node) (at : ℕ) (first second behind : List Node) → Here nodes at ((first ++ second) ++ behind)
    → Here nodes (at + length first) (second ++ behind)
behind_two nodes at first second behind here = behind_these nodes at first (second ++ behind) (before_three nodes at first second behind here)

-- a block has a node
some_nodes : (at : ℕ) (items : Statements) → 1 ≤ length (flat_statements at items)
unfolding flat_statements
some_nodes at Done = omega arith
some_nodes at (Then it rest) =
    let first = flat_statement at it in
    let sum = length-append first (flat_statements (at + length first) rest) in
    let some = some_nodes (at + length first) rest in
    omega (arith, sum, some)

statements_here : (nodes : List Node) (at from : ℕ) (items : Statements) (behind : List Node)
    → Here nodes at (flat_statements from items ++ behind) → statements_at nodes at ≡ items
unfolding statements_at
statements_here nodes at from items behind here =
    ap (λ these. first_rest (unflat these).blocks) here ∙ ap (λ (b : Behind). first_rest b.blocks) (unflat_statements from items behind)

within : (nodes : List Node) (at : ℕ) (items : Statements) (behind : List Node) → Here nodes at (flat_statements at items ++ behind) → at < length nodes
within nodes at items behind here =
    let some = some_nodes at items in
    let sum = length-append (flat_statements at items) behind in
    let same = ap length here in
    let left = length-drop at nodes in
    omega (arith, some, sum, same, left)

block_placed : (nodes : List Node) (n at : ℕ) (items : Statements) (behind : List Node) → IsNumberedBlock at (Begins n items)
    → Here nodes at (flat_statements at items ++ behind) → StandsAtNumber nodes (Begins n items)
unfolding IsNumberedBlock
block_placed nodes n at items behind numbered here =
    let e = numbered.0 in
    let less = within nodes at items behind here in
    record {
      seen = ap (Begins n) (sym (ap (statements_at nodes) e ∙ statements_here nodes at at items behind here));
      node = omega (arith, e, less);
      behind = behind;
      is = subst (λ k. Here nodes k (flat_statements k items ++ behind)) (sym e) here;
      numbered = (refl, subst (λ k. AreNumbered k items) (sym e) numbered.1);
    }

-- a block, and those inside it
with_inner : (nodes : List Node) (n at : ℕ) (items : Statements) (behind : List Node) → IsNumberedBlock at (Begins n items)
    → Here nodes at (flat_statements at items ++ behind) → ArePlaced nodes (blocks_of_statements items) → ArePlaced nodes (blocks_from (Begins n items))
unfolding blocks_from
with_inner nodes n at items behind numbered here inner = (block_placed nodes n at items behind numbered here, inner)

-- ## Statements and blocks

mutual
  unfolding flat_statement flat_statements flat_blocks IsNumbered IsNumberedBlock AreNumbered AreNumberedBlocks blocks_from blocks_of_statement blocks_of_statements blocks_of_branches

  statement_placed : (nodes : List Node) (at : ℕ) (it : Statement) (behind : List Node) → Here nodes at (flat_statement at it ++ behind)
      → IsNumbered at it → ArePlaced nodes (blocks_of_statement it)
  statement_placed nodes at (syntax.LetForm form) behind here numbered =
      statement_placed nodes (at + 1) form behind (behind_one nodes at _ (flat_statement (at + 1) form ++ behind) here) numbered
  statement_placed nodes at (syntax.If e (Begins n then_items) (Begins m else_items)) behind here numbered =
      let test = flat_expression e in
      let one = at + 1 + length test in
      let then_nodes = flat_statements one then_items in
      let two = at + 1 + length (test ++ then_nodes) in
      let else_nodes = flat_statements two else_items in
      let here_all = behind_one nodes at _ (((test ++ then_nodes) ++ else_nodes) ++ behind) here in
      let here_else = behind_two nodes (at + 1) (test ++ then_nodes) else_nodes behind here_all in
      let here_test = before_three nodes (at + 1) (test ++ then_nodes) else_nodes behind here_all in
      let rest = else_nodes ++ behind in
      let here_then = behind_two nodes (at + 1) test then_nodes rest here_test in
      each_both (StandsAtNumber nodes) (blocks_from (Begins n then_items)) (blocks_from (Begins m else_items))
      (with_inner nodes n one then_items rest numbered.0 here_then (statements_placed nodes one then_items rest here_then numbered.0.1))
      (with_inner nodes m two else_items behind numbered.1 here_else (statements_placed nodes two else_items behind here_else numbered.1.1))
  statement_placed nodes at (syntax.Try (Begins n tried) (Begins m handler)) behind here numbered =
      let first = flat_statements (at + 1) tried in
      let two = at + 1 + length first in
      let second = flat_statements two handler in
      let rest = second ++ behind in
      let here_all = behind_one nodes at _ ((first ++ second) ++ behind) here in
      let here_tried = before_three nodes (at + 1) first second behind here_all in
      let here_handler = behind_two nodes (at + 1) first second behind here_all in
      each_both (StandsAtNumber nodes) (blocks_from (Begins n tried)) (blocks_from (Begins m handler))
      (with_inner nodes n (at + 1) tried rest numbered.0 here_tried (statements_placed nodes (at + 1) tried rest here_tried numbered.0.1))
      (with_inner nodes m two handler behind numbered.1 here_handler (statements_placed nodes two handler behind here_handler numbered.1.1))
  statement_placed nodes at (syntax.Repeat e (Begins n body)) behind here numbered =
      let first = flat_expression e in
      let from = at + 1 + length first in
      let second = flat_statements from body in
      let here_body = behind_two nodes (at + 1) first second behind (behind_one nodes at _ ((first ++ second) ++ behind) here) in
      (with_inner nodes n from body behind numbered here_body (statements_placed nodes from body behind here_body numbered.1))
  statement_placed nodes at (syntax.OpenDir directory e (Begins n body)) behind here numbered =
      let first = flat_expression e in
      let from = at + 1 + length first in
      let second = flat_statements from body in
      let here_body = behind_two nodes (at + 1) first second behind (behind_one nodes at _ ((first ++ second) ++ behind) here) in
      (with_inner nodes n from body behind numbered here_body (statements_placed nodes from body behind here_body numbered.1))
  statement_placed nodes at (syntax.Loop (Begins n body)) behind here numbered =
      let here_body = behind_one nodes at _ (flat_statements (at + 1) body ++ behind) here in
      (with_inner nodes n (at + 1) body behind numbered here_body (statements_placed nodes (at + 1) body behind here_body numbered.1))
  statement_placed nodes at (syntax.Sub (Begins n body)) behind here numbered =
      let here_body = behind_one nodes at _ (flat_statements (at + 1) body ++ behind) here in
      (with_inner nodes n (at + 1) body behind numbered here_body (statements_placed nodes (at + 1) body behind here_body numbered.1))
  statement_placed nodes at (syntax.Protect (Begins n body)) behind here numbered =
      let here_body = behind_one nodes at _ (flat_statements (at + 1) body ++ behind) here in
      (with_inner nodes n (at + 1) body behind numbered here_body (statements_placed nodes (at + 1) body behind here_body numbered.1))
  statement_placed nodes at (syntax.Switch (Begins n body)) behind here numbered =
      let here_body = behind_one nodes at _ (flat_statements (at + 1) body ++ behind) here in
      (with_inner nodes n (at + 1) body behind numbered here_body (statements_placed nodes (at + 1) body behind here_body numbered.1))
  statement_placed nodes at (syntax.Fork forking switch (Begins n body)) behind here numbered =
      let here_body = behind_one nodes at _ (flat_statements (at + 1) body ++ behind) here in
      (with_inner nodes n (at + 1) body behind numbered here_body (statements_placed nodes (at + 1) body behind here_body numbered.1))
  statement_placed nodes at (syntax.OnRelease switch (Begins n body)) behind here numbered =
      let here_body = behind_one nodes at _ (flat_statements (at + 1) body ++ behind) here in
      (with_inner nodes n (at + 1) body behind numbered here_body (statements_placed nodes (at + 1) body behind here_body numbered.1))
  statement_placed nodes at (syntax.UseRw mutex (Begins n body)) behind here numbered =
      let here_body = behind_one nodes at _ (flat_statements (at + 1) body ++ behind) here in
      (with_inner nodes n (at + 1) body behind numbered here_body (statements_placed nodes (at + 1) body behind here_body numbered.1))
  statement_placed nodes at (syntax.UsePool pool (Begins n body)) behind here numbered =
      let here_body = behind_one nodes at _ (flat_statements (at + 1) body ++ behind) here in
      (with_inner nodes n (at + 1) body behind numbered here_body (statements_placed nodes (at + 1) body behind here_body numbered.1))
  statement_placed nodes at (syntax.Submit executor weight captured (Begins n body)) behind here numbered =
      let here_body = behind_one nodes at _ (flat_statements (at + 1) body ++ behind) here in
      (with_inner nodes n (at + 1) body behind numbered here_body (statements_placed nodes (at + 1) body behind here_body numbered.1))
  statement_placed nodes at (syntax.BufRead flow limit (Begins n body)) behind here numbered =
      let here_body = behind_one nodes at _ (flat_statements (at + 1) body ++ behind) here in
      (with_inner nodes n (at + 1) body behind numbered here_body (statements_placed nodes (at + 1) body behind here_body numbered.1))
  statement_placed nodes at (syntax.BufWrite flow (Begins n body)) behind here numbered =
      let here_body = behind_one nodes at _ (flat_statements (at + 1) body ++ behind) here in
      (with_inner nodes n (at + 1) body behind numbered here_body (statements_placed nodes (at + 1) body behind here_body numbered.1))
  statement_placed nodes at (syntax.Branches group blocks) behind here numbered =
      branches_placed nodes (at + 1) blocks behind (behind_one nodes at _ (flat_blocks (at + 1) blocks ++ behind) here) numbered
  statement_placed nodes at other behind here numbered = tt

  statements_placed : (nodes : List Node) (at : ℕ) (items : Statements) (behind : List Node) → Here nodes at (flat_statements at items ++ behind)
      → AreNumbered at items → ArePlaced nodes (blocks_of_statements items)
  statements_placed nodes at Done behind here numbered = tt
  statements_placed nodes at (Then it rest) behind here numbered =
      let first = flat_statement at it in
      let others = flat_statements (at + length first) rest in
      each_both (StandsAtNumber nodes) (blocks_of_statement it) (blocks_of_statements rest)
      (statement_placed nodes at it (others ++ behind) (before_three nodes at first others behind here) numbered.0)
      (statements_placed nodes (at + length first) rest behind (behind_two nodes at first others behind here) numbered.1)

  branches_placed : (nodes : List Node) (at : ℕ) (blocks : Blocks) (behind : List Node) → Here nodes at (flat_blocks at blocks ++ behind)
      → AreNumberedBlocks at blocks → ArePlaced nodes (blocks_of_branches blocks)
  branches_placed nodes at NoBlocks behind here numbered = tt
  branches_placed nodes at (AndBlock (Begins n items) rest) behind here numbered =
      let first = flat_statements at items in
      let others = flat_blocks (at + length first) rest in
      let here_first = before_three nodes at first others behind here in
      each_both (StandsAtNumber nodes) (blocks_from (Begins n items)) (blocks_of_branches rest)
      (with_inner nodes n at items (others ++ behind) numbered.0 here_first (statements_placed nodes at items (others ++ behind) here_first numbered.0.1))
      (branches_placed nodes (at + length first) rest behind (behind_two nodes at first others behind here) numbered.1)

-- ## Scripts

pub bodies_placed : (nodes : List Node) (at : ℕ) (bodies : List Block) → drop at nodes ≡ flat_bodies at bodies
    → AreNumberedBodies at bodies → ArePlaced nodes (flat_map blocks_from bodies)
unfolding flat_bodies AreNumberedBodies IsNumberedBlock blocks_from
bodies_placed nodes at [] here numbered = tt
bodies_placed nodes at (Begins n items ∷ rest) here numbered =
    let first = flat_statements at items in
    let others = flat_bodies (at + length first) rest in
    each_both (StandsAtNumber nodes) (blocks_from (Begins n items)) (flat_map blocks_from rest)
    (with_inner nodes n at items others numbered.0 here (statements_placed nodes at items others here numbered.0.1))
    (bodies_placed nodes (at + length first) rest (behind_these nodes at first others here) numbered.1)
