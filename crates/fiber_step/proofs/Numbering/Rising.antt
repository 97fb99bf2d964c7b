-- The numbers of blocks rise in reading order.
-- The blocks inside a statement begin behind its first node and before the node behind it, and so do those inside a block, since each block has a node
-- of its own, its end.
use Rattle.std.proofs.Common.{◌≡◌, ℕ, zero, suc, ◌+◌, ◌≤◌, List, [], ◌∷◌, ◌++◌, length, length-append, arith}
use Rattle.std.specs.Prelude.{flat_map}
use Rattle.spec_script.specs.Syntax as syntax
use Rattle.spec_script.specs.Syntax.{Expression, Statement, Statements, Done, Then, Block, Begins, Blocks, NoBlocks, AndBlock}
use Rattle.script_forms.specs.Flat.{flat_expression, flat_statement, flat_statements, flat_blocks, flat_bodies}
use Rattle.script_code.specs.Numbered.{IsNumbered, IsNumberedBlock, AreNumbered, AreNumberedBlocks, AreNumberedBodies}
use Rattle.script_forms.specs.declared.node.Node.{Node}
use Rattle.spec_fiber.specs.Numbered.{number_of, blocks_from, blocks_of_statement, blocks_of_statements, blocks_of_branches}

-- the numbers of these blocks rise, from the first number on and below the second
abbrev pub Rise : (from to : ℕ) → List Block → Type 0
Rise from to [] = from ≤ to
Rise from to (b ∷ blocks) = (from ≤ number_of b) × Rise (number_of b + 1) to blocks

earlier : (before from to : ℕ) (blocks : List Block) → before ≤ from → Rise from to blocks → Rise before to blocks
earlier before from to [] less rise = omega (arith, less, rise)
earlier before from to (b ∷ blocks) less rise = let first = rise.0 in (omega (arith, less, first), rise.1)

later : (from to behind : ℕ) (blocks : List Block) → to ≤ behind → Rise from to blocks → Rise from behind blocks
later from to behind [] less rise = omega (arith, less, rise)
later from to behind (b ∷ blocks) less rise = (rise.0, later (number_of b + 1) to behind blocks less rise.1)

-- the same blocks within wider bounds
wider : (before from to behind : ℕ) (blocks : List Block) → before ≤ from → to ≤ behind → Rise from to blocks → Rise before behind blocks
wider before from to behind blocks first last rise = earlier before from behind blocks first (later from to behind blocks last rise)

in_turn : (from mid to : ℕ) (first second : List Block) → Rise from mid first → Rise mid to second → Rise from to (first ++ second)
in_turn from mid to [] second rise others = earlier from mid to second rise others
in_turn from mid to (b ∷ first) second rise others = (rise.0, in_turn (number_of b + 1) mid to first second rise.1 others)

-- ## Places

same : (n : ℕ) → n ≤ n
same n = omega arith

one_node : (at k : ℕ) → at + 1 ≤ at + suc k
one_node at k = omega arith

-- behind the first node of a statement
inner : (at k : ℕ) (blocks : List Block) → Rise (at + 1) (at + 1 + k) blocks → Rise (at + 1) (at + suc k) blocks
inner at k blocks rise = let last : at + 1 + k ≤ at + suc k = omega arith in later (at + 1) (at + 1 + k) (at + suc k) blocks last rise

-- nodes in two rows, and those of a block behind the first row
second_row : (at : ℕ) (first second : List Node) (blocks : List Block) → Rise (at + length first) (at + length first + length second) blocks
    → Rise (at + length first) (at + length (first ++ second)) blocks
second_row at first second blocks rise =
    let sum = length-append first second in
    let last : at + length first + length second ≤ at + length (first ++ second) = omega (arith, sum) in
    later (at + length first) (at + length first + length second) (at + length (first ++ second)) blocks last rise

past_row : (at : ℕ) (row : List Node) → at ≤ at + length row
past_row at row = omega arith

-- a block behind an operand
behind_row : (at : ℕ) (row second : List Node) (blocks : List Block) → Rise (at + length row) (at + length row + length second) blocks
    → Rise at (at + length (row ++ second)) blocks
behind_row at row second blocks rise =
    earlier at (at + length row) (at + length (row ++ second)) blocks (past_row at row) (second_row at row second blocks rise)

two_rows : (at : ℕ) (first second : List Node) (blocks others : List Block) → Rise at (at + length first) blocks
    → Rise (at + length first) (at + length first + length second) others → Rise at (at + length (first ++ second)) (blocks ++ others)
two_rows at first second blocks others rise next =
    in_turn at (at + length first) (at + length (first ++ second)) blocks others rise (second_row at first second others next)

-- a block whose statements' blocks rise behind its first node
block_rises : (at n : ℕ) (items : Statements) → n ≡ at → Rise (at + 1) (at + length (flat_statements at items)) (blocks_of_statements items)
    → Rise at (at + length (flat_statements at items)) (blocks_from (Begins n items))
unfolding blocks_from
block_rises at n items e rise =
    let to = at + length (flat_statements at items) in
    (omega (arith, e), earlier (n + 1) (at + 1) to (blocks_of_statements items) (omega (arith, e)) rise)

-- of a statement that has one block
one_block : (at n : ℕ) (items : Statements) → n ≡ at + 1 → Rise (at + 1 + 1) (at + 1 + length (flat_statements (at + 1) items)) (blocks_of_statements items)
    → Rise (at + 1) (at + suc (length (flat_statements (at + 1) items))) (blocks_from (Begins n items))
one_block at n items e rise = inner at (length (flat_statements (at + 1) items)) (blocks_from (Begins n items)) (block_rises (at + 1) n items e rise)

-- of one that has an operand before its block
operand_block : (at n : ℕ) (e : Expression) (items : Statements) → let from = at + 1 + length (flat_expression e) in
    n ≡ from → Rise (from + 1) (from + length (flat_statements from items)) (blocks_of_statements items)
    → Rise (at + 1) (at + suc (length (flat_expression e ++ flat_statements from items))) (blocks_from (Begins n items))
operand_block at n e items is rise =
    let first = flat_expression e in
    let from = at + 1 + length first in
    let second = flat_statements from items in
    inner at (length (first ++ second)) (blocks_from (Begins n items))
    (behind_row (at + 1) first second (blocks_from (Begins n items)) (block_rises from n items is rise))

-- ## Statements and blocks

mutual
  unfolding flat_statement flat_statements flat_blocks IsNumbered IsNumberedBlock AreNumbered AreNumberedBlocks blocks_from blocks_of_statement blocks_of_statements blocks_of_branches

  statement_rises : (at : ℕ) (it : Statement) → IsNumbered at it → Rise (at + 1) (at + length (flat_statement at it)) (blocks_of_statement it)
  statement_rises at (syntax.LetForm form) numbered =
      let blocks = blocks_of_statement form in
      let count = length (flat_statement (at + 1) form) in
      inner at count blocks (earlier (at + 1) (at + 1 + 1) (at + 1 + count) blocks (omega arith) (statement_rises (at + 1) form numbered))
  statement_rises at (syntax.If e (Begins n then_items) (Begins m else_items)) numbered =
      let test = flat_expression e in
      let one = at + 1 + length test in
      let first = flat_statements one then_items in
      let two = at + 1 + length (test ++ first) in
      let second = flat_statements two else_items in
      let these = blocks_from (Begins n then_items) in
      let those = blocks_from (Begins m else_items) in
      inner at (length ((test ++ first) ++ second)) (these ++ those)
      (two_rows (at + 1) (test ++ first) second these those
      (behind_row (at + 1) test first these (block_rises one n then_items numbered.0.0 (statements_rise one then_items numbered.0.1)))
      (block_rises two m else_items numbered.1.0 (statements_rise two else_items numbered.1.1)))
  statement_rises at (syntax.Try (Begins n tried) (Begins m handler)) numbered =
      let first = flat_statements (at + 1) tried in
      let two = at + 1 + length first in
      let second = flat_statements two handler in
      let these = blocks_from (Begins n tried) in
      let those = blocks_from (Begins m handler) in
      inner at (length (first ++ second)) (these ++ those)
      (two_rows (at + 1) first second these those
      (block_rises (at + 1) n tried numbered.0.0 (statements_rise (at + 1) tried numbered.0.1))
      (block_rises two m handler numbered.1.0 (statements_rise two handler numbered.1.1)))
  statement_rises at (syntax.Repeat e (Begins n body)) numbered =
      operand_block at n e body numbered.0 (statements_rise (at + 1 + length (flat_expression e)) body numbered.1)
  statement_rises at (syntax.OpenDir directory e (Begins n body)) numbered =
      operand_block at n e body numbered.0 (statements_rise (at + 1 + length (flat_expression e)) body numbered.1)
  statement_rises at (syntax.Branches group blocks) numbered =
      inner at (length (flat_blocks (at + 1) blocks)) (blocks_of_branches blocks) (branches_rise (at + 1) blocks numbered)
  statement_rises at (syntax.Loop (Begins n body)) numbered = one_block at n body numbered.0 (statements_rise (at + 1) body numbered.1)
  statement_rises at (syntax.Sub (Begins n body)) numbered = one_block at n body numbered.0 (statements_rise (at + 1) body numbered.1)
  statement_rises at (syntax.Protect (Begins n body)) numbered = one_block at n body numbered.0 (statements_rise (at + 1) body numbered.1)
  statement_rises at (syntax.Switch (Begins n body)) numbered = one_block at n body numbered.0 (statements_rise (at + 1) body numbered.1)
  statement_rises at (syntax.Fork forking switch (Begins n body)) numbered = one_block at n body numbered.0 (statements_rise (at + 1) body numbered.1)
  statement_rises at (syntax.OnRelease switch (Begins n body)) numbered = one_block at n body numbered.0 (statements_rise (at + 1) body numbered.1)
  statement_rises at (syntax.UseRw mutex (Begins n body)) numbered = one_block at n body numbered.0 (statements_rise (at + 1) body numbered.1)
  statement_rises at (syntax.UsePool pool (Begins n body)) numbered = one_block at n body numbered.0 (statements_rise (at + 1) body numbered.1)
  statement_rises at (syntax.Submit executor weight captured (Begins n body)) numbered =
      one_block at n body numbered.0 (statements_rise (at + 1) body numbered.1)
  statement_rises at (syntax.BufRead flow limit (Begins n body)) numbered = one_block at n body numbered.0 (statements_rise (at + 1) body numbered.1)
  statement_rises at (syntax.BufWrite flow (Begins n body)) numbered = one_block at n body numbered.0 (statements_rise (at + 1) body numbered.1)
  statement_rises at other numbered = one_node at _

  statements_rise : (at : ℕ) (items : Statements) → AreNumbered at items → Rise (at + 1) (at + length (flat_statements at items)) (blocks_of_statements items)
  statements_rise at Done numbered = one_node at zero
  statements_rise at (Then it rest) numbered =
      let first = flat_statement at it in
      let next = at + length first in
      let others = flat_statements next rest in
      let these = blocks_of_statement it in
      let those = blocks_of_statements rest in
      in_turn (at + 1) next (at + length (first ++ others)) these those (statement_rises at it numbered.0)
      (second_row at first others those (earlier next (next + 1) (next + length others) those (omega arith) (statements_rise next rest numbered.1)))

  branches_rise : (at : ℕ) (blocks : Blocks) → AreNumberedBlocks at blocks → Rise at (at + length (flat_blocks at blocks)) (blocks_of_branches blocks)
  branches_rise at NoBlocks numbered = omega arith
  branches_rise at (AndBlock (Begins n items) rest) numbered =
      let first = flat_statements at items in
      let others = flat_blocks (at + length first) rest in
      two_rows at first others (blocks_from (Begins n items)) (blocks_of_branches rest)
      (block_rises at n items numbered.0.0 (statements_rise at items numbered.0.1)) (branches_rise (at + length first) rest numbered.1)

-- ## Scripts

pub bodies_rise : (at : ℕ) (bodies : List Block) → AreNumberedBodies at bodies → Rise at (at + length (flat_bodies at bodies)) (flat_map blocks_from bodies)
unfolding flat_bodies AreNumberedBodies IsNumberedBlock
bodies_rise at [] numbered = omega arith
bodies_rise at (Begins n items ∷ rest) numbered =
    let first = flat_statements at items in
    let others = flat_bodies (at + length first) rest in
    two_rows at first others (blocks_from (Begins n items)) (flat_map blocks_from rest)
    (block_rises at n items numbered.0.0 (statements_rise at items numbered.0.1)) (bodies_rise (at + length first) rest numbered.1)
