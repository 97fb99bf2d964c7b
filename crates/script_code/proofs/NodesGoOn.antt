-- The numbers that the nodes of a script name are those of nodes.
use Rattle.std.proofs.Common.{◌≡◌, ℕ, zero, suc, ◌+◌, ◌<◌, ◌≤◌, List, [], ◌∷◌, ◌++◌, length, Some, None, sym, ap, subst, length-append, arith}
use Rattle.std.specs.Prelude.{slice_get}
use Rattle.std.specs.List.{AllByRecursion as Each}
use Rattle.spec_script.specs.Scripts.{Script}
use Rattle.spec_script.specs.Syntax as syntax
use Rattle.spec_script.specs.Syntax.{Expression, Expressions, Statement, Statements, Done, Then, Block, Begins, Blocks, NoBlocks, AndBlock}
use Rattle.script_forms.specs.Flat.{flat_expression, flat_expressions, number_of, numbers_of, flat_statement, flat_statements, flat_blocks, flat_bodies, nodes_of}
use Rattle.script_code.specs.Numbered.{IsNumbered, IsNumberedBlock, AreNumbered, AreNumberedBlocks, AreNumberedBodies, HasNumbers}
use Rattle.script_code.specs.Standing.{GoesOn}
use Rattle.script_forms.specs.declared.node.Node.{Node}

Go : (count at : ℕ) → List Node → Type 0
Go count at [] = Unit {0}
Go count at (n ∷ rest) = GoesOn count at n × Go count (at + 1) rest

index : (count at k : ℕ) (nodes : List Node) → at ≡ k → Go count k nodes → Go count at nodes
index count at k nodes e go = subst (λ m. Go count m nodes) (sym e) go

none_more : (at : ℕ) → at ≡ at + zero
none_more at = omega arith

one_more : (at k : ℕ) → at + 1 + k ≡ at + suc k
one_more at k = omega arith

both : (count at : ℕ) (first second : List Node) → Go count at first → Go count (at + length first) second → Go count at (first ++ second)
unfolding Go
both count at [] second go others = index count at (at + zero) second (none_more at) others
both count at (n ∷ first) second go others = (go.0, both count (at + 1) first second go.1 (index count (at + 1 + length first) (at + suc (length first)) second (one_more at (length first)) others))

-- more nodes stand behind
next_less : (count at k : ℕ) → at + suc k < count → at + 1 < count
next_less count at k h = omega (arith, h)

inner_less : (count at k : ℕ) → at + suc k < count → at + 1 + k < count
inner_less count at k h = omega (arith, h)

most : (count at : ℕ) → at < count → at ≤ count
most count at h = omega (arith, h)

first_less : (count at : ℕ) (first second : List Node) → at + length (first ++ second) < count → at + length first < count
first_less count at first second h = let sum = length-append first second in omega (arith, h, sum)

second_less : (count at : ℕ) (first second : List Node) → at + length (first ++ second) < count → at + length first + length second < count
second_less count at first second h = let sum = length-append first second in omega (arith, h, sum)

expression_go : (count at : ℕ) (e : Expression) → at + length (flat_expression e) < count → Go count at (flat_expression e)
unfolding flat_expression Go
expression_go count at (syntax.NumberValue z) h = (next_less count at zero h, tt)
expression_go count at (syntax.TextValue text) h = (next_less count at zero h, tt)
expression_go count at (syntax.Variable slot) h = (next_less count at zero h, tt)
expression_go count at syntax.UnitValue h = (next_less count at zero h, tt)
expression_go count at (syntax.Operation operator left right) h =
    let first = flat_expression left in
    let second = flat_expression right in
    let k = inner_less count at (length (first ++ second)) h in (
      next_less count at (length (first ++ second)) h,
      both count (at + 1) first second (expression_go count (at + 1) left (first_less count (at + 1) first second k)) (expression_go count (at + 1 + length first) right (second_less count (at + 1) first second k)),
    )

expressions_go : (count at : ℕ) (es : Expressions) → at + length (flat_expressions es) < count → Go count at (flat_expressions es)
unfolding flat_expressions Go
expressions_go count at syntax.NoExpressions h = tt
expressions_go count at (syntax.AndExpression e rest) h =
    let first = flat_expression e in
    let second = flat_expressions rest in
    both count at first second (expression_go count at e (first_less count at first second h)) (expressions_go count (at + length first) rest (second_less count at first second h))

-- a block has a node
some_nodes : (at : ℕ) (items : Statements) → 1 ≤ length (flat_statements at items)
unfolding flat_statements
some_nodes at Done = omega arith
some_nodes at (Then it rest) =
    let first = flat_statement at it in
    let sum = length-append first (flat_statements (at + length first) rest) in
    let some = some_nodes (at + length first) rest in
    omega (arith, sum, some)

number_less : (count number at k : ℕ) → number ≡ at → at + k < count → number < count
number_less count number at k e h = omega (arith, e, h)

middle_less : (count at k m : ℕ) → at + k + m < count → at + k < count
middle_less count at k m h = omega (arith, h)

blocks_less : (count at : ℕ) (blocks : Blocks) → at + length (flat_blocks at blocks) < count → AreNumberedBlocks at blocks → Each (λ n. n < count) (numbers_of blocks)
unfolding flat_blocks AreNumberedBlocks IsNumberedBlock numbers_of
blocks_less count at NoBlocks h numbered = tt
blocks_less count at (AndBlock (Begins n items) rest) h numbered =
    let first = flat_statements at items in
    let others = flat_blocks (at + length first) rest in
    (number_less count n at (length first) numbered.0.0 (first_less count at first others h), blocks_less count (at + length first) rest (second_less count at first others h) numbered.1)

mutual
  unfolding flat_statement flat_statements flat_blocks Go IsNumbered IsNumberedBlock AreNumbered AreNumberedBlocks

  statement_goes : (count at : ℕ) (it : Statement) → IsNumbered at it → at + length (flat_statement at it) < count → Go count at (flat_statement at it)
  statement_goes count at (syntax.LetForm form) numbered h =
      let k = length (flat_statement (at + 1) form) in (next_less count at k h, statement_goes count (at + 1) form numbered (inner_less count at k h))
  statement_goes count at (syntax.If e (Begins n then_items) (Begins m else_items)) numbered h =
      let test = flat_expression e in
      let one = at + 1 + length test in
      let then_nodes = flat_statements one then_items in
      let first = test ++ then_nodes in
      let two = at + 1 + length first in
      let else_nodes = flat_statements two else_items in
      let k = length (first ++ else_nodes) in
      let after = inner_less count at k h in
      let first_end = first_less count (at + 1) first else_nodes after in
      let test_end = first_less count (at + 1) test then_nodes first_end in
      let then_end = second_less count (at + 1) test then_nodes first_end in
      let else_end = second_less count (at + 1) first else_nodes after in (
        (next_less count at k h, number_less count n one (length then_nodes) numbered.0.0 then_end, number_less count m two (length else_nodes) numbered.1.0 else_end, after),
        both count (at + 1) first else_nodes
            (both count (at + 1) test then_nodes (expression_go count (at + 1) e test_end) (statements_go count one then_items numbered.0.1 (most count _ then_end)))
            (statements_go count two else_items numbered.1.1 (most count _ else_end)),
      )
  statement_goes count at (syntax.Try (Begins n tried) (Begins m handler)) numbered h =
      let first = flat_statements (at + 1) tried in
      let two = at + 1 + length first in
      let second = flat_statements two handler in
      let k = length (first ++ second) in
      let after = inner_less count at k h in
      let first_end = first_less count (at + 1) first second after in
      let second_end = second_less count (at + 1) first second after in (
        (next_less count at k h, number_less count n (at + 1) (length first) numbered.0.0 first_end, number_less count m two (length second) numbered.1.0 second_end, after),
        both count (at + 1) first second (statements_go count (at + 1) tried numbered.0.1 (most count _ first_end)) (statements_go count two handler numbered.1.1 (most count _ second_end)),
      )
  statement_goes count at (syntax.Trace es) numbered h = let k = length (flat_expressions es) in (next_less count at k h, expressions_go count (at + 1) es (inner_less count at k h))
  statement_goes count at (syntax.Branches group blocks) numbered h =
      let k = length (flat_blocks (at + 1) blocks) in
      let after = inner_less count at k h in
      ((next_less count at k h, blocks_less count (at + 1) blocks after numbered, after), blocks_go count (at + 1) blocks numbered (most count _ after))
  statement_goes count at (syntax.Save only_new directory path content) numbered h =
      let first = flat_expression path in
      let second = flat_expression content in
      let k = length (first ++ second) in
      let after = inner_less count at k h in
      (next_less count at k h, both count (at + 1) first second (expression_go count (at + 1) path (first_less count (at + 1) first second after)) (expression_go count (at + 1 + length first) content (second_less count (at + 1) first second after)))
  statement_goes count at (syntax.Repeat e (Begins n body)) numbered h =
      let first = flat_expression e in
      let two = at + 1 + length first in
      let second = flat_statements two body in
      let k = length (first ++ second) in
      let after = inner_less count at k h in
      let second_end = second_less count (at + 1) first second after in (
        (next_less count at k h, number_less count n two (length second) numbered.0 second_end, after),
        both count (at + 1) first second (expression_go count (at + 1) e (first_less count (at + 1) first second after)) (statements_go count two body numbered.1 (most count _ second_end)),
      )
  statement_goes count at (syntax.OpenDir directory e (Begins n body)) numbered h =
      let first = flat_expression e in
      let two = at + 1 + length first in
      let second = flat_statements two body in
      let k = length (first ++ second) in
      let after = inner_less count at k h in
      let second_end = second_less count (at + 1) first second after in (
        (next_less count at k h, number_less count n two (length second) numbered.0 second_end, after),
        both count (at + 1) first second (expression_go count (at + 1) e (first_less count (at + 1) first second after)) (statements_go count two body numbered.1 (most count _ second_end)),
      )
  statement_goes count at (syntax.Loop (Begins n body)) numbered h =
      let k = length (flat_statements (at + 1) body) in
      let after = inner_less count at k h in
      ((next_less count at k h, number_less count n (at + 1) k numbered.0 after, after), statements_go count (at + 1) body numbered.1 (most count _ after))
  statement_goes count at (syntax.Sub (Begins n body)) numbered h =
      let k = length (flat_statements (at + 1) body) in
      let after = inner_less count at k h in
      ((next_less count at k h, number_less count n (at + 1) k numbered.0 after, after), statements_go count (at + 1) body numbered.1 (most count _ after))
  statement_goes count at (syntax.Protect (Begins n body)) numbered h =
      let k = length (flat_statements (at + 1) body) in
      let after = inner_less count at k h in
      ((next_less count at k h, number_less count n (at + 1) k numbered.0 after, after), statements_go count (at + 1) body numbered.1 (most count _ after))
  statement_goes count at (syntax.Switch (Begins n body)) numbered h =
      let k = length (flat_statements (at + 1) body) in
      let after = inner_less count at k h in
      ((next_less count at k h, number_less count n (at + 1) k numbered.0 after, after), statements_go count (at + 1) body numbered.1 (most count _ after))
  statement_goes count at (syntax.OnRelease switch (Begins n body)) numbered h =
      let k = length (flat_statements (at + 1) body) in
      let after = inner_less count at k h in
      ((next_less count at k h, number_less count n (at + 1) k numbered.0 after, after), statements_go count (at + 1) body numbered.1 (most count _ after))
  statement_goes count at (syntax.UseRw mutex (Begins n body)) numbered h =
      let k = length (flat_statements (at + 1) body) in
      let after = inner_less count at k h in
      ((next_less count at k h, number_less count n (at + 1) k numbered.0 after, after), statements_go count (at + 1) body numbered.1 (most count _ after))
  statement_goes count at (syntax.UsePool pool (Begins n body)) numbered h =
      let k = length (flat_statements (at + 1) body) in
      let after = inner_less count at k h in
      ((next_less count at k h, number_less count n (at + 1) k numbered.0 after, after), statements_go count (at + 1) body numbered.1 (most count _ after))
  statement_goes count at (syntax.Submit executor weight captured (Begins n body)) numbered h =
      let k = length (flat_statements (at + 1) body) in
      let after = inner_less count at k h in
      ((next_less count at k h, number_less count n (at + 1) k numbered.0 after, after), statements_go count (at + 1) body numbered.1 (most count _ after))
  statement_goes count at (syntax.BufRead flow limit (Begins n body)) numbered h =
      let k = length (flat_statements (at + 1) body) in
      let after = inner_less count at k h in
      ((next_less count at k h, number_less count n (at + 1) k numbered.0 after, after), statements_go count (at + 1) body numbered.1 (most count _ after))
  statement_goes count at (syntax.BufWrite flow (Begins n body)) numbered h =
      let k = length (flat_statements (at + 1) body) in
      let after = inner_less count at k h in
      ((next_less count at k h, number_less count n (at + 1) k numbered.0 after, after), statements_go count (at + 1) body numbered.1 (most count _ after))
  statement_goes count at (syntax.Fork forking switch (Begins n body)) numbered h =
      let k = length (flat_statements (at + 1) body) in
      let after = inner_less count at k h in
      ((next_less count at k h, number_less count n (at + 1) k numbered.0 after, after), statements_go count (at + 1) body numbered.1 (most count _ after))
  statement_goes count at (syntax.Let e) numbered h = let k = length (flat_expression e) in (next_less count at k h, expression_go count (at + 1) e (inner_less count at k h))
  statement_goes count at (syntax.Give e) numbered h = let k = length (flat_expression e) in (next_less count at k h, expression_go count (at + 1) e (inner_less count at k h))
  statement_goes count at (syntax.Sleep e) numbered h = let k = length (flat_expression e) in (next_less count at k h, expression_go count (at + 1) e (inner_less count at k h))
  statement_goes count at (syntax.TakeBytes reader e) numbered h = let k = length (flat_expression e) in (next_less count at k h, expression_go count (at + 1) e (inner_less count at k h))
  statement_goes count at (syntax.Put writer e) numbered h = let k = length (flat_expression e) in (next_less count at k h, expression_go count (at + 1) e (inner_less count at k h))
  statement_goes count at (syntax.OnObjectWith call object e) numbered h = let k = length (flat_expression e) in (next_less count at k h, expression_go count (at + 1) e (inner_less count at k h))
  statement_goes count at (syntax.OnPath call directory e) numbered h = let k = length (flat_expression e) in (next_less count at k h, expression_go count (at + 1) e (inner_less count at k h))
  statement_goes count at (syntax.Raise text) numbered h = (next_less count at zero h, tt)
  statement_goes count at (syntax.Cancel context text) numbered h = (next_less count at zero h, tt)
  statement_goes count at (syntax.Fail switch text) numbered h = (next_less count at zero h, tt)
  statement_goes count at syntax.Yield numbered h = (next_less count at zero h, tt)
  statement_goes count at syntax.Check numbered h = (next_less count at zero h, tt)
  statement_goes count at syntax.AwaitCancel numbered h = (next_less count at zero h, tt)
  statement_goes count at syntax.Now numbered h = (next_less count at zero h, tt)
  statement_goes count at (syntax.Copy from to) numbered h = (next_less count at zero h, tt)
  statement_goes count at (syntax.OnObject call object) numbered h = (next_less count at zero h, tt)
  statement_goes count at (syntax.OnReader call reader) numbered h = (next_less count at zero h, tt)

  statements_go : (count at : ℕ) (items : Statements) → AreNumbered at items → at + length (flat_statements at items) ≤ count → Go count at (flat_statements at items)
  statements_go count at Done numbered h = (tt, tt)
  statements_go count at (Then it rest) numbered h =
      let first = flat_statement at it in
      let second = flat_statements (at + length first) rest in
      let sum = length-append first second in
      let some = some_nodes (at + length first) rest in
      both count at first second (statement_goes count at it numbered.0 (omega (arith, h, sum, some))) (statements_go count (at + length first) rest numbered.1 (omega (arith, h, sum)))

  blocks_go : (count at : ℕ) (blocks : Blocks) → AreNumberedBlocks at blocks → at + length (flat_blocks at blocks) ≤ count → Go count at (flat_blocks at blocks)
  blocks_go count at NoBlocks numbered h = tt
  blocks_go count at (AndBlock (Begins n items) rest) numbered h =
      let first = flat_statements at items in
      let second = flat_blocks (at + length first) rest in
      let sum = length-append first second in
      both count at first second (statements_go count at items numbered.0.1 (omega (arith, h, sum))) (blocks_go count (at + length first) rest numbered.1 (omega (arith, h, sum)))

bodies_go : (count at : ℕ) (bodies : List Block) → AreNumberedBodies at bodies → at + length (flat_bodies at bodies) ≤ count → Go count at (flat_bodies at bodies)
unfolding flat_bodies AreNumberedBodies IsNumberedBlock Go
bodies_go count at [] numbered h = tt
bodies_go count at (Begins n items ∷ rest) numbered h =
    let first = flat_statements at items in
    let second = flat_bodies (at + length first) rest in
    let sum = length-append first second in
    both count at first second (statements_go count at items numbered.0.1 (omega (arith, h, sum))) (bodies_go count (at + length first) rest numbered.1 (omega (arith, h, sum)))

none_some : {A : Type 0} (x : A) → None ≡ Some x → ⊥
none_some x e = cc

some_same : {A : Type 0} (x y : A) → Some x ≡ Some y → x ≡ y
some_same x y e = cc

one_goes : (count at : ℕ) (nodes : List Node) → Go count at nodes → (k : ℕ) (n : Node) → slice_get nodes k ≡ Some n → GoesOn count (at + k) n
unfolding Go
one_goes count at [] go k n e = absurd (none_some n e)
one_goes count at (first ∷ nodes) go zero n e = subst (λ it. GoesOn count (at + zero) it) (some_same first n e) (subst (λ k. GoesOn count k first) (none_more at) go.0)
one_goes count at (first ∷ nodes) go (suc k) n e = subst (λ m. GoesOn count m n) (one_more at k) (one_goes count (at + 1) nodes go.1 k n e)

from_zero : (n : ℕ) → 0 + n ≡ n
from_zero n = omega arith

all_of : (k : ℕ) → 0 + k ≤ k
all_of k = omega arith

-- the numbers that a node of a script names are those of nodes
pub node_goes_on : (script : Script) → HasNumbers script → (number : ℕ) (n : Node) → slice_get (nodes_of script) number ≡ Some n → GoesOn (length (nodes_of script)) number n
node_goes_on script has number n e =
    let count = length (nodes_of script) in
    subst (λ m. GoesOn count m n) (from_zero number) (one_goes count 0 (nodes_of script) (bodies_go count 0 script.bodies has.numbered (all_of count)) number n e)

-- a body begins at a node
body_less : (count at : ℕ) (bodies : List Block) → AreNumberedBodies at bodies → at + length (flat_bodies at bodies) ≤ count → (k number : ℕ) (items : Statements) → slice_get bodies k ≡ Some (Begins number items) → number < count
unfolding flat_bodies AreNumberedBodies IsNumberedBlock
body_less count at [] numbered h k number items e = absurd (none_some (Begins number items) e)
body_less count at (Begins n own ∷ rest) numbered h zero number items e =
    let first = flat_statements at own in
    let second = flat_bodies (at + length first) rest in
    let sum = length-append first second in
    let some = some_nodes at own in
    let less : at < count = omega (arith, h, sum, some) in
    let same = ap number_of (some_same (Begins n own) (Begins number items) e) in
    let own_number = numbered.0.0 in
    omega (arith, less, same, own_number)
body_less count at (Begins n own ∷ rest) numbered h (suc k) number items e =
    let first = flat_statements at own in
    let second = flat_bodies (at + length first) rest in
    let sum = length-append first second in
    body_less count (at + length first) rest numbered.1 (omega (arith, h, sum)) k number items e

pub body_is_node : (script : Script) → HasNumbers script → (k number : ℕ) (items : Statements) → slice_get script.bodies k ≡ Some (Begins number items) → number < length (nodes_of script)
body_is_node script has k number items e = body_less (length (nodes_of script)) 0 script.bodies has.numbered (all_of (length (nodes_of script))) k number items e
