-- The text of each node of a script stands in its table.
use Rattle.std.proofs.Common.{◌≡◌, ℕ, zero, suc, ◌+◌, List, [], ◌∷◌, ◌++◌, length, Some, None, subst}
use Rattle.std.specs.Prelude.{slice_get}
use Rattle.std.specs.List.{AllByRecursion as Each}
use Rattle.spec_script.specs.Scripts.{Script}
use Rattle.spec_script.specs.Syntax as syntax
use Rattle.spec_script.specs.Syntax.{Expression, Expressions, Statement, Statements, Done, Then, Block, Begins, Blocks, NoBlocks, AndBlock}
use Rattle.script_forms.specs.Flat.{flat_expression, flat_expressions, flat_statement, flat_statements, flat_blocks, flat_bodies, nodes_of}
use Rattle.script_code.specs.Texted.{HasTextsOf, HaveTextsOf, HasTextsOfStatement, HasTextsOfBlock, HaveTextsOfStatements, HaveTextsOfBlocks, HasTextOfNode, HasBodyTexts}
use Rattle.script_forms.specs.declared.node.Node.{Node}

abbrev Have : (n : ℕ) → List Node → Type 0
Have n nodes = Each (HasTextOfNode n) nodes

both : (n : ℕ) (first second : List Node) → Have n first → Have n second → Have n (first ++ second)
both n [] second have others = others
both n (one ∷ first) second have others = (have.0, both n first second have.1 others)

expression_texts : (n : ℕ) (e : Expression) → HasTextsOf n e → Have n (flat_expression e)
unfolding flat_expression HasTextsOf
expression_texts n (syntax.NumberValue z) has = (tt, tt)
expression_texts n (syntax.TextValue id) has = (has, tt)
expression_texts n (syntax.Variable slot) has = (tt, tt)
expression_texts n syntax.UnitValue has = (tt, tt)
expression_texts n (syntax.Operation operator left right) has = (tt, both n (flat_expression left) (flat_expression right) (expression_texts n left has.0) (expression_texts n right has.1))

expressions_texts : (n : ℕ) (es : Expressions) → HaveTextsOf n es → Have n (flat_expressions es)
unfolding flat_expressions HaveTextsOf
expressions_texts n syntax.NoExpressions has = tt
expressions_texts n (syntax.AndExpression e rest) has = both n (flat_expression e) (flat_expressions rest) (expression_texts n e has.0) (expressions_texts n rest has.1)

mutual
  unfolding flat_statement flat_statements flat_blocks HasTextsOfStatement HasTextsOfBlock HaveTextsOfStatements HaveTextsOfBlocks

  statement_texts : (n at : ℕ) (it : Statement) → HasTextsOfStatement n it → Have n (flat_statement at it)
  statement_texts n at (syntax.LetForm form) has = (tt, statement_texts n (at + 1) form has)
  statement_texts n at (syntax.If e (Begins k then_items) (Begins m else_items)) has =
      let test = flat_expression e in
      let then_nodes = flat_statements (at + 1 + length test) then_items in
      let first = test ++ then_nodes in (
        tt,
        both n first (flat_statements (at + 1 + length first) else_items)
            (both n test then_nodes (expression_texts n e has.0) (statements_texts n (at + 1 + length test) then_items has.1)) (statements_texts n (at + 1 + length first) else_items has.2),
      )
  statement_texts n at (syntax.Try (Begins k tried) (Begins m handler)) has =
      let first = flat_statements (at + 1) tried in
      (tt, both n first (flat_statements (at + 1 + length first) handler) (statements_texts n (at + 1) tried has.0) (statements_texts n (at + 1 + length first) handler has.1))
  statement_texts n at (syntax.Trace es) has = (tt, expressions_texts n es has)
  statement_texts n at (syntax.Raise id) has = (has, tt)
  statement_texts n at (syntax.Cancel context id) has = (has, tt)
  statement_texts n at (syntax.Fail switch id) has = (has, tt)
  statement_texts n at (syntax.Branches group blocks) has = (tt, blocks_texts n (at + 1) blocks has)
  statement_texts n at (syntax.Save only_new directory path content) has =
      (tt, both n (flat_expression path) (flat_expression content) (expression_texts n path has.0) (expression_texts n content has.1))
  statement_texts n at (syntax.Repeat e (Begins k body)) has =
      let first = flat_expression e in
      (tt, both n first (flat_statements (at + 1 + length first) body) (expression_texts n e has.0) (statements_texts n (at + 1 + length first) body has.1))
  statement_texts n at (syntax.OpenDir directory e (Begins k body)) has =
      let first = flat_expression e in
      (tt, both n first (flat_statements (at + 1 + length first) body) (expression_texts n e has.0) (statements_texts n (at + 1 + length first) body has.1))
  statement_texts n at (syntax.Loop (Begins k body)) has = (tt, statements_texts n (at + 1) body has)
  statement_texts n at (syntax.Sub (Begins k body)) has = (tt, statements_texts n (at + 1) body has)
  statement_texts n at (syntax.Protect (Begins k body)) has = (tt, statements_texts n (at + 1) body has)
  statement_texts n at (syntax.Switch (Begins k body)) has = (tt, statements_texts n (at + 1) body has)
  statement_texts n at (syntax.OnRelease switch (Begins k body)) has = (tt, statements_texts n (at + 1) body has)
  statement_texts n at (syntax.UseRw mutex (Begins k body)) has = (tt, statements_texts n (at + 1) body has)
  statement_texts n at (syntax.UsePool pool (Begins k body)) has = (tt, statements_texts n (at + 1) body has)
  statement_texts n at (syntax.Submit executor weight captured (Begins k body)) has = (tt, statements_texts n (at + 1) body has)
  statement_texts n at (syntax.BufRead flow limit (Begins k body)) has = (tt, statements_texts n (at + 1) body has)
  statement_texts n at (syntax.BufWrite flow (Begins k body)) has = (tt, statements_texts n (at + 1) body has)
  statement_texts n at (syntax.Fork forking switch (Begins k body)) has = (tt, statements_texts n (at + 1) body has)
  statement_texts n at (syntax.Let e) has = (tt, expression_texts n e has)
  statement_texts n at (syntax.Give e) has = (tt, expression_texts n e has)
  statement_texts n at (syntax.Sleep e) has = (tt, expression_texts n e has)
  statement_texts n at (syntax.TakeBytes reader e) has = (tt, expression_texts n e has)
  statement_texts n at (syntax.Put writer e) has = (tt, expression_texts n e has)
  statement_texts n at (syntax.OnObjectWith call object e) has = (tt, expression_texts n e has)
  statement_texts n at (syntax.OnPath call directory e) has = (tt, expression_texts n e has)
  statement_texts n at syntax.Yield has = (tt, tt)
  statement_texts n at syntax.Check has = (tt, tt)
  statement_texts n at syntax.AwaitCancel has = (tt, tt)
  statement_texts n at syntax.Now has = (tt, tt)
  statement_texts n at (syntax.Copy from to) has = (tt, tt)
  statement_texts n at (syntax.OnObject call object) has = (tt, tt)
  statement_texts n at (syntax.OnReader call reader) has = (tt, tt)

  statements_texts : (n at : ℕ) (items : Statements) → HaveTextsOfStatements n items → Have n (flat_statements at items)
  statements_texts n at Done has = (tt, tt)
  statements_texts n at (Then it rest) has =
      let first = flat_statement at it in
      both n first (flat_statements (at + length first) rest) (statement_texts n at it has.0) (statements_texts n (at + length first) rest has.1)

  blocks_texts : (n at : ℕ) (blocks : Blocks) → HaveTextsOfBlocks n blocks → Have n (flat_blocks at blocks)
  blocks_texts n at NoBlocks has = tt
  blocks_texts n at (AndBlock (Begins k items) rest) has =
      let first = flat_statements at items in
      both n first (flat_blocks (at + length first) rest) (statements_texts n at items has.0) (blocks_texts n (at + length first) rest has.1)

bodies_texts : (n at : ℕ) (bodies : List Block) → Each (HasTextsOfBlock n) bodies → Have n (flat_bodies at bodies)
unfolding flat_bodies HasTextsOfBlock
bodies_texts n at [] has = tt
bodies_texts n at (Begins k items ∷ rest) has =
    let first = flat_statements at items in
    both n first (flat_bodies (at + length first) rest) (statements_texts n at items has.0) (bodies_texts n (at + length first) rest has.1)

none_some : {A : Type 0} (x : A) → None ≡ Some x → ⊥
none_some x e = cc

some_same : {A : Type 0} (x y : A) → Some x ≡ Some y → x ≡ y
some_same x y e = cc

one_of : (n : ℕ) (nodes : List Node) → Have n nodes → (k : ℕ) (it : Node) → slice_get nodes k ≡ Some it → HasTextOfNode n it
one_of n [] have k it e = absurd (none_some it e)
one_of n (first ∷ nodes) have zero it e = subst (λ x. HasTextOfNode n x) (some_same first it e) have.0
one_of n (first ∷ nodes) have (suc k) it e = one_of n nodes have.1 k it e

-- the text of a node of a script stands in its table
pub node_has_text : (script : Script) → HasBodyTexts script → (k : ℕ) (it : Node) → slice_get (nodes_of script) k ≡ Some it → HasTextOfNode (length script.texts) it
node_has_text script has = one_of (length script.texts) (nodes_of script) (bodies_texts (length script.texts) 0 script.bodies has)
