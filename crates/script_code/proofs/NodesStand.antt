-- Each node of a script says what stands from it on.
use Rattle.std.proofs.Common.{◌≡◌, ℕ, zero, suc, ◌+◌, ◌<◌, List, [], ◌∷◌, ◌++◌, length, drop, get_or, Some, None, refl, sym, ap, ◌∙◌, subst, append_assoc, arith}
use Rattle.std.specs.Prelude.{map, slice_get}
use Rattle.std.proofs.lemmas.List.{drop-drop}
use Rattle.std.proofs.lemmas.Option.{slice_get-get_or}
use Rattle.std.proofs.Math.Seq.{drop-append_seam}
use Rattle.spec_script.specs.Scripts.{Script}
use Rattle.spec_script.specs.Syntax as syntax
use Rattle.spec_script.specs.Syntax.{Expression, Expressions, NoExpressions, AndExpression, Statement, Statements, Done, Then, Block, Begins, Blocks, NoBlocks, AndBlock}
use Rattle.script_forms.specs.Calls.{operator_in, operator_of, object_call_in, object_call_with_in, object_call_with_of, reader_call_in, path_call_in, path_call_of, group_in, group_of, forking_in, forking_of, directory_in, directory_of}
use Rattle.script_forms.specs.Flat.{flat_expression, flat_expressions, expression_count, numbers_of, flat_statement, flat_statements, flat_blocks, number_of, flat_bodies, nodes_of}
use Rattle.script_code.specs.Numbered.{IsNumbered, IsNumberedBlock, AreNumbered, AreNumberedBlocks, AreNumberedBodies, HasNumbers}
use Rattle.script_code.specs.ScriptCode.{unflat_expression, unflat_statement, unflat_statements, operator_back, object_call_back, object_call_with_back, reader_call_back, path_call_back, group_back, forking_back, directory_back}
use Rattle.script_code.specs.Standing.{statements_at, block_at, blocks_at, expression_at, behind_expression, expressions_at, behind_expressions, States, Stands, AllStand}
use Rattle.script_code.specs.Unflat.{Behind, first_rest, operand, bound, unflat}
use Rattle.script_forms.specs.declared.node.Node.{Node}
use Rattle.script_forms.specs.declared.node.Node.TheVariants as node
use Rattle.script_code.proofs.NodeCounts.{alone, with_inner, with_two, two_rows}

none_some : {A : Type 0} (x : A) → None ≡ Some x → ⊥
none_some x e = cc

some_same : {A : Type 0} (x y : A) → Some x ≡ Some y → x ≡ y
some_same x y e = cc

from_zero : (n : ℕ) → 0 + n ≡ n
from_zero n = omega arith

-- ## Places

-- these nodes stand from this number on
abbrev Here : List Node → (at : ℕ) → List Node → Type 0
Here nodes at these = drop at nodes ≡ these

-- so do those behind some of them
behind_these : (nodes : List Node) (at : ℕ) (these others : List Node) → Here nodes at (these ++ others) → Here nodes (at + length these) others
behind_these nodes at these others here = sym (drop-drop (length these) at nodes) ∙ (ap (drop (length these)) here ∙ drop-append_seam these others)

behind_one : (nodes : List Node) (at : ℕ) (n : Node) (others : List Node) → Here nodes at (n ∷ others) → Here nodes (at + 1) others
behind_one nodes at n others here = ap (λ k. drop k nodes) (alone at) ∙ behind_these nodes at (n ∷ []) others here

in_turn : (nodes : List Node) (at : ℕ) (one two three : List Node) → Here nodes at ((one ++ two) ++ three) → Here nodes at (one ++ (two ++ three))
in_turn nodes at one two three here = here ∙ append_assoc one two three

-- all stand, by another number or in another order of joining
from_number : (nodes these : List Node) (k m : ℕ) → k ≡ m → AllStand nodes m these → AllStand nodes k these
from_number nodes these k m e all = subst (λ n. AllStand nodes n these) (sym e) all

joined : (nodes : List Node) (at : ℕ) (one two three : List Node) → AllStand nodes at (one ++ (two ++ three)) → AllStand nodes at ((one ++ two) ++ three)
joined nodes at one two three all = subst (λ these. AllStand nodes at these) (sym (append_assoc one two three)) all

-- ## What begins there

expression_here : (nodes : List Node) (at : ℕ) (e : Expression) (behind : List Node) → Here nodes at (flat_expression e ++ behind) → expression_at nodes at ≡ e
unfolding expression_at
expression_here nodes at e behind here = ap (λ these. operand (unflat these)) here ∙ ap operand (unflat_expression e behind)

statements_here : (nodes : List Node) (at from : ℕ) (items : Statements) (behind : List Node) → Here nodes at (flat_statements from items ++ behind) → statements_at nodes at ≡ items
unfolding statements_at
statements_here nodes at from items behind here =
    ap (λ these. first_rest (unflat these).blocks) here ∙ ap (λ (b : Behind). first_rest b.blocks) (unflat_statements from items behind)

block_here : (nodes : List Node) (number at : ℕ) (items : Statements) (behind : List Node) → number ≡ at → Here nodes at (flat_statements at items ++ behind) → Begins number items ≡ block_at nodes number
block_here nodes number at items behind e here = ap (Begins number) (sym (ap (statements_at nodes) e ∙ statements_here nodes at at items behind here))

-- a statement, and what stands behind it
stated_here : (nodes : List Node) (at after : ℕ) (it : Statement) (behind : List Node) → Here nodes at (flat_statement at it ++ behind) → Here nodes after behind → States nodes at it after
unfolding statements_at
stated_here nodes at after it behind here rest =
    ap (λ these. first_rest (unflat these).blocks) here ∙ (ap (λ (b : Behind). first_rest b.blocks) (unflat_statement at it behind)
    ∙ ap (λ these. Then it (first_rest (unflat these).blocks)) (sym rest))

-- ## Expressions

expression_stands : (nodes : List Node) (at : ℕ) (e : Expression) (behind : List Node) → Here nodes at (flat_expression e ++ behind) → AllStand nodes (at + length (flat_expression e)) behind → AllStand nodes at (flat_expression e ++ behind)
unfolding flat_expression AllStand
expression_stands nodes at (syntax.NumberValue z) behind here rest = (expression_here nodes at (syntax.NumberValue z) behind here, from_number nodes behind (at + 1) (at + suc zero) (alone at) rest)
expression_stands nodes at (syntax.TextValue text) behind here rest = (expression_here nodes at (syntax.TextValue text) behind here, from_number nodes behind (at + 1) (at + suc zero) (alone at) rest)
expression_stands nodes at (syntax.Variable slot) behind here rest = (expression_here nodes at (syntax.Variable slot) behind here, from_number nodes behind (at + 1) (at + suc zero) (alone at) rest)
expression_stands nodes at syntax.UnitValue behind here rest = (expression_here nodes at syntax.UnitValue behind here, from_number nodes behind (at + 1) (at + suc zero) (alone at) rest)
expression_stands nodes at (syntax.Operation operator left right) behind here rest =
    let first = flat_expression left in
    let second = flat_expression right in
    let inner = behind_one nodes at (node.Operation (operator_in operator)) ((first ++ second) ++ behind) here in
    let left_at = in_turn nodes (at + 1) first second behind inner in
    let right_at = behind_these nodes (at + 1) first (second ++ behind) left_at in
    let left_is = expression_here nodes (at + 1) left (second ++ behind) left_at in
    let right_is = expression_here nodes (at + 1 + length first) right behind right_at in (
      expression_here nodes at (syntax.Operation operator left right) behind here
          ∙ (ap (λ it. syntax.Operation it left right) (sym (operator_back operator))
          ∙ (ap (λ e. syntax.Operation (operator_of (operator_in operator)) left e) (sym right_is)
          ∙ ap (λ e. syntax.Operation (operator_of (operator_in operator)) e (expression_at nodes (at + 1 + length (flat_expression e)))) (sym left_is))),
      joined nodes (at + 1) first second behind
          (expression_stands nodes (at + 1) left (second ++ behind) left_at
          (expression_stands nodes (at + 1 + length first) right behind right_at (from_number nodes behind (at + 1 + length first + length second) _ (with_two at first second) rest))),
    )

-- a statement with an operand says it
with_operand : (nodes : List Node) (at : ℕ) (make : Expression → Statement) (e : Expression) (behind : List Node) → Here nodes (at + 1) (flat_expression e ++ behind)
    → States nodes at (make e) (at + 1 + length (flat_expression e)) → States nodes at (make (expression_at nodes (at + 1))) (behind_expression nodes (at + 1))
with_operand nodes at make e behind here is =
    is ∙ ap (λ x. Then (make x) (statements_at nodes (at + 1 + length (flat_expression x)))) (sym (expression_here nodes (at + 1) e behind here))

none_behind : (at : ℕ) → at ≡ at + zero
none_behind at = omega arith

one_more : (n : ℕ) → n + 1 ≡ suc n
one_more n = omega arith

expressions_here : (nodes : List Node) (at : ℕ) (es : Expressions) (behind : List Node) → Here nodes at (flat_expressions es ++ behind)
    → (expressions_at nodes (expression_count es) at ≡ es) × (behind_expressions nodes (expression_count es) at ≡ at + length (flat_expressions es))
unfolding flat_expressions expression_count
expressions_here nodes at NoExpressions behind here = (refl, none_behind at)
expressions_here nodes at (AndExpression e rest) behind here =
    let first = flat_expression e in
    let others = flat_expressions rest in
    let first_at = in_turn nodes at first others behind here in
    let first_is = expression_here nodes at e (others ++ behind) first_at in
    let others_are = expressions_here nodes (at + length first) rest behind (behind_these nodes at first (others ++ behind) first_at) in (
      ap (λ n. expressions_at nodes n at) (one_more (expression_count rest))
          ∙ (ap (λ x. AndExpression x (expressions_at nodes (expression_count rest) (at + length (flat_expression x)))) first_is ∙ ap (AndExpression e) others_are.0),
      ap (λ n. behind_expressions nodes n at) (one_more (expression_count rest))
          ∙ (ap (λ x. behind_expressions nodes (expression_count rest) (at + length (flat_expression x))) first_is ∙ (others_are.1 ∙ two_rows at first others)),
    )

expressions_stand : (nodes : List Node) (at : ℕ) (es : Expressions) (behind : List Node) → Here nodes at (flat_expressions es ++ behind) → AllStand nodes (at + length (flat_expressions es)) behind → AllStand nodes at (flat_expressions es ++ behind)
unfolding flat_expressions
expressions_stand nodes at NoExpressions behind here rest = from_number nodes behind at (at + zero) (none_behind at) rest
expressions_stand nodes at (AndExpression e es) behind here rest =
    let first = flat_expression e in
    let others = flat_expressions es in
    let first_at = in_turn nodes at first others behind here in
    joined nodes at first others behind
    (expression_stands nodes at e (others ++ behind) first_at
    (expressions_stand nodes (at + length first) es behind (behind_these nodes at first (others ++ behind) first_at)
    (from_number nodes behind (at + length first + length others) _ (two_rows at first others) rest)))

-- ## Statements

blocks_here : (nodes : List Node) (at : ℕ) (blocks : Blocks) (behind : List Node) → Here nodes at (flat_blocks at blocks ++ behind) → AreNumberedBlocks at blocks → blocks ≡ blocks_at nodes (numbers_of blocks)
unfolding flat_blocks AreNumberedBlocks IsNumberedBlock numbers_of
blocks_here nodes at NoBlocks behind here numbered = refl
blocks_here nodes at (AndBlock (Begins n items) rest) behind here numbered =
    let first = flat_statements at items in
    let others = flat_blocks (at + length first) rest in
    let first_at = in_turn nodes at first others behind here in
    ap (λ b. AndBlock b rest) (block_here nodes n at items (others ++ behind) numbered.0.0 first_at)
    ∙ ap (AndBlock (block_at nodes n)) (blocks_here nodes (at + length first) rest behind (behind_these nodes at first (others ++ behind) first_at) numbered.1)

mutual
  unfolding flat_statement flat_statements flat_blocks AllStand IsNumbered IsNumberedBlock AreNumbered AreNumberedBlocks

  statement_stands : (nodes : List Node) (at : ℕ) (it : Statement) (behind : List Node) → Here nodes at (flat_statement at it ++ behind) → IsNumbered at it
      → AllStand nodes (at + length (flat_statement at it)) behind → AllStand nodes at (flat_statement at it ++ behind)
  statement_stands nodes at (syntax.LetForm form) behind here numbered rest =
      let inner = flat_statement (at + 1) form in
      let inner_at = behind_one nodes at node.LetForm (inner ++ behind) here in
      let after = behind_these nodes (at + 1) inner behind inner_at in (
        stated_here nodes at (at + 1 + length inner) (syntax.LetForm form) behind here after
            ∙ ap bound (sym (stated_here nodes (at + 1) (at + 1 + length inner) form behind inner_at after)),
        statement_stands nodes (at + 1) form behind inner_at numbered (from_number nodes behind (at + 1 + length inner) _ (with_inner at (length inner)) rest),
      )
  statement_stands nodes at (syntax.Raise text) behind here numbered rest =
      (stated_here nodes at (at + 1) (syntax.Raise text) behind here (behind_one nodes at (node.Raise text) behind here), from_number nodes behind (at + 1) (at + suc zero) (alone at) rest)
  statement_stands nodes at syntax.Yield behind here numbered rest =
      (stated_here nodes at (at + 1) syntax.Yield behind here (behind_one nodes at node.Yield behind here), from_number nodes behind (at + 1) (at + suc zero) (alone at) rest)
  statement_stands nodes at syntax.Check behind here numbered rest =
      (stated_here nodes at (at + 1) syntax.Check behind here (behind_one nodes at node.Check behind here), from_number nodes behind (at + 1) (at + suc zero) (alone at) rest)
  statement_stands nodes at syntax.AwaitCancel behind here numbered rest =
      (stated_here nodes at (at + 1) syntax.AwaitCancel behind here (behind_one nodes at node.AwaitCancel behind here), from_number nodes behind (at + 1) (at + suc zero) (alone at) rest)
  statement_stands nodes at (syntax.Cancel context text) behind here numbered rest =
      (stated_here nodes at (at + 1) (syntax.Cancel context text) behind here (behind_one nodes at (node.Cancel context text) behind here), from_number nodes behind (at + 1) (at + suc zero) (alone at) rest)
  statement_stands nodes at (syntax.Fail switch text) behind here numbered rest =
      (stated_here nodes at (at + 1) (syntax.Fail switch text) behind here (behind_one nodes at (node.Fail switch text) behind here), from_number nodes behind (at + 1) (at + suc zero) (alone at) rest)
  statement_stands nodes at syntax.Now behind here numbered rest =
      (stated_here nodes at (at + 1) syntax.Now behind here (behind_one nodes at node.Now behind here), from_number nodes behind (at + 1) (at + suc zero) (alone at) rest)
  statement_stands nodes at (syntax.Copy from to) behind here numbered rest =
      (stated_here nodes at (at + 1) (syntax.Copy from to) behind here (behind_one nodes at (node.Copy from to) behind here), from_number nodes behind (at + 1) (at + suc zero) (alone at) rest)
  statement_stands nodes at (syntax.OnObject call object) behind here numbered rest = (
    stated_here nodes at (at + 1) (syntax.OnObject call object) behind here (behind_one nodes at (node.OnObject (object_call_in call) object) behind here)
        ∙ ap (λ it. Then (syntax.OnObject it object) (statements_at nodes (at + 1))) (sym (object_call_back call)),
    from_number nodes behind (at + 1) (at + suc zero) (alone at) rest,
  )
  statement_stands nodes at (syntax.OnReader call reader) behind here numbered rest = (
    stated_here nodes at (at + 1) (syntax.OnReader call reader) behind here (behind_one nodes at (node.OnReader (reader_call_in call) reader) behind here)
        ∙ ap (λ it. Then (syntax.OnReader it reader) (statements_at nodes (at + 1))) (sym (reader_call_back call)),
    from_number nodes behind (at + 1) (at + suc zero) (alone at) rest,
  )
  statement_stands nodes at (syntax.Let e) behind here numbered rest =
      let inner = flat_expression e in
      let inner_at = behind_one nodes at node.Let (inner ++ behind) here in
      let after = behind_these nodes (at + 1) inner behind inner_at in (
        with_operand nodes at (λ e. syntax.Let e) e behind inner_at
            (stated_here nodes at (at + 1 + length inner) (syntax.Let e) behind here after),
        expression_stands nodes (at + 1) e behind inner_at (from_number nodes behind (at + 1 + length inner) _ (with_inner at (length inner)) rest),
      )
  statement_stands nodes at (syntax.Give e) behind here numbered rest =
      let inner = flat_expression e in
      let inner_at = behind_one nodes at node.Give (inner ++ behind) here in
      let after = behind_these nodes (at + 1) inner behind inner_at in (
        with_operand nodes at (λ e. syntax.Give e) e behind inner_at
            (stated_here nodes at (at + 1 + length inner) (syntax.Give e) behind here after),
        expression_stands nodes (at + 1) e behind inner_at (from_number nodes behind (at + 1 + length inner) _ (with_inner at (length inner)) rest),
      )
  statement_stands nodes at (syntax.Sleep e) behind here numbered rest =
      let inner = flat_expression e in
      let inner_at = behind_one nodes at node.Sleep (inner ++ behind) here in
      let after = behind_these nodes (at + 1) inner behind inner_at in (
        with_operand nodes at (λ e. syntax.Sleep e) e behind inner_at
            (stated_here nodes at (at + 1 + length inner) (syntax.Sleep e) behind here after),
        expression_stands nodes (at + 1) e behind inner_at (from_number nodes behind (at + 1 + length inner) _ (with_inner at (length inner)) rest),
      )
  statement_stands nodes at (syntax.TakeBytes reader e) behind here numbered rest =
      let inner = flat_expression e in
      let inner_at = behind_one nodes at (node.TakeBytes reader) (inner ++ behind) here in
      let after = behind_these nodes (at + 1) inner behind inner_at in (
        with_operand nodes at (λ e. syntax.TakeBytes reader e) e behind inner_at
            (stated_here nodes at (at + 1 + length inner) (syntax.TakeBytes reader e) behind here after),
        expression_stands nodes (at + 1) e behind inner_at (from_number nodes behind (at + 1 + length inner) _ (with_inner at (length inner)) rest),
      )
  statement_stands nodes at (syntax.Put writer e) behind here numbered rest =
      let inner = flat_expression e in
      let inner_at = behind_one nodes at (node.Put writer) (inner ++ behind) here in
      let after = behind_these nodes (at + 1) inner behind inner_at in (
        with_operand nodes at (λ e. syntax.Put writer e) e behind inner_at
            (stated_here nodes at (at + 1 + length inner) (syntax.Put writer e) behind here after),
        expression_stands nodes (at + 1) e behind inner_at (from_number nodes behind (at + 1 + length inner) _ (with_inner at (length inner)) rest),
      )
  statement_stands nodes at (syntax.OnObjectWith call object e) behind here numbered rest =
      let inner = flat_expression e in
      let inner_at = behind_one nodes at (node.OnObjectWith (object_call_with_in call) object) (inner ++ behind) here in
      let after = behind_these nodes (at + 1) inner behind inner_at in (
        with_operand nodes at (λ e. syntax.OnObjectWith (object_call_with_of (object_call_with_in call)) object e) e behind inner_at
            (stated_here nodes at (at + 1 + length inner) (syntax.OnObjectWith call object e) behind here after ∙ ap (λ it. Then (syntax.OnObjectWith it object e) (statements_at nodes (at + 1 + length inner))) (sym (object_call_with_back call))),
        expression_stands nodes (at + 1) e behind inner_at (from_number nodes behind (at + 1 + length inner) _ (with_inner at (length inner)) rest),
      )
  statement_stands nodes at (syntax.OnPath call directory e) behind here numbered rest =
      let inner = flat_expression e in
      let inner_at = behind_one nodes at (node.OnPath (path_call_in call) (directory_in directory)) (inner ++ behind) here in
      let after = behind_these nodes (at + 1) inner behind inner_at in (
        with_operand nodes at (λ e. syntax.OnPath (path_call_of (path_call_in call)) (directory_of (directory_in directory)) e) e behind inner_at
            (stated_here nodes at (at + 1 + length inner) (syntax.OnPath call directory e) behind here after
            ∙ (ap (λ it. Then (syntax.OnPath it directory e) (statements_at nodes (at + 1 + length inner))) (sym (path_call_back call)) ∙ ap (λ it. Then (syntax.OnPath (path_call_of (path_call_in call)) it e) (statements_at nodes (at + 1 + length inner))) (sym (directory_back directory)))),
        expression_stands nodes (at + 1) e behind inner_at (from_number nodes behind (at + 1 + length inner) _ (with_inner at (length inner)) rest),
      )
  statement_stands nodes at (syntax.Loop (Begins n body)) behind here numbered rest =
      let inner = flat_statements (at + 1) body in
      let inner_at = behind_one nodes at (node.Loop n (at + 1 + length inner)) (inner ++ behind) here in
      let after = behind_these nodes (at + 1) inner behind inner_at in (
        stated_here nodes at (at + 1 + length inner) (syntax.Loop (Begins n body)) behind here after
            ∙ ap (λ b. Then (syntax.Loop b) (statements_at nodes (at + 1 + length inner))) (block_here nodes n (at + 1) body behind numbered.0 inner_at),
        statements_stand nodes (at + 1) body behind inner_at numbered.1 (from_number nodes behind (at + 1 + length inner) _ (with_inner at (length inner)) rest),
      )
  statement_stands nodes at (syntax.Sub (Begins n body)) behind here numbered rest =
      let inner = flat_statements (at + 1) body in
      let inner_at = behind_one nodes at (node.Sub n (at + 1 + length inner)) (inner ++ behind) here in
      let after = behind_these nodes (at + 1) inner behind inner_at in (
        stated_here nodes at (at + 1 + length inner) (syntax.Sub (Begins n body)) behind here after
            ∙ ap (λ b. Then (syntax.Sub b) (statements_at nodes (at + 1 + length inner))) (block_here nodes n (at + 1) body behind numbered.0 inner_at),
        statements_stand nodes (at + 1) body behind inner_at numbered.1 (from_number nodes behind (at + 1 + length inner) _ (with_inner at (length inner)) rest),
      )
  statement_stands nodes at (syntax.Protect (Begins n body)) behind here numbered rest =
      let inner = flat_statements (at + 1) body in
      let inner_at = behind_one nodes at (node.Protect n (at + 1 + length inner)) (inner ++ behind) here in
      let after = behind_these nodes (at + 1) inner behind inner_at in (
        stated_here nodes at (at + 1 + length inner) (syntax.Protect (Begins n body)) behind here after
            ∙ ap (λ b. Then (syntax.Protect b) (statements_at nodes (at + 1 + length inner))) (block_here nodes n (at + 1) body behind numbered.0 inner_at),
        statements_stand nodes (at + 1) body behind inner_at numbered.1 (from_number nodes behind (at + 1 + length inner) _ (with_inner at (length inner)) rest),
      )
  statement_stands nodes at (syntax.Switch (Begins n body)) behind here numbered rest =
      let inner = flat_statements (at + 1) body in
      let inner_at = behind_one nodes at (node.Switch n (at + 1 + length inner)) (inner ++ behind) here in
      let after = behind_these nodes (at + 1) inner behind inner_at in (
        stated_here nodes at (at + 1 + length inner) (syntax.Switch (Begins n body)) behind here after
            ∙ ap (λ b. Then (syntax.Switch b) (statements_at nodes (at + 1 + length inner))) (block_here nodes n (at + 1) body behind numbered.0 inner_at),
        statements_stand nodes (at + 1) body behind inner_at numbered.1 (from_number nodes behind (at + 1 + length inner) _ (with_inner at (length inner)) rest),
      )
  statement_stands nodes at (syntax.OnRelease switch (Begins n body)) behind here numbered rest =
      let inner = flat_statements (at + 1) body in
      let inner_at = behind_one nodes at (node.OnRelease switch n (at + 1 + length inner)) (inner ++ behind) here in
      let after = behind_these nodes (at + 1) inner behind inner_at in (
        stated_here nodes at (at + 1 + length inner) (syntax.OnRelease switch (Begins n body)) behind here after
            ∙ ap (λ b. Then (syntax.OnRelease switch b) (statements_at nodes (at + 1 + length inner))) (block_here nodes n (at + 1) body behind numbered.0 inner_at),
        statements_stand nodes (at + 1) body behind inner_at numbered.1 (from_number nodes behind (at + 1 + length inner) _ (with_inner at (length inner)) rest),
      )
  statement_stands nodes at (syntax.UseRw mutex (Begins n body)) behind here numbered rest =
      let inner = flat_statements (at + 1) body in
      let inner_at = behind_one nodes at (node.UseRw mutex n (at + 1 + length inner)) (inner ++ behind) here in
      let after = behind_these nodes (at + 1) inner behind inner_at in (
        stated_here nodes at (at + 1 + length inner) (syntax.UseRw mutex (Begins n body)) behind here after
            ∙ ap (λ b. Then (syntax.UseRw mutex b) (statements_at nodes (at + 1 + length inner))) (block_here nodes n (at + 1) body behind numbered.0 inner_at),
        statements_stand nodes (at + 1) body behind inner_at numbered.1 (from_number nodes behind (at + 1 + length inner) _ (with_inner at (length inner)) rest),
      )
  statement_stands nodes at (syntax.UsePool pool (Begins n body)) behind here numbered rest =
      let inner = flat_statements (at + 1) body in
      let inner_at = behind_one nodes at (node.UsePool pool n (at + 1 + length inner)) (inner ++ behind) here in
      let after = behind_these nodes (at + 1) inner behind inner_at in (
        stated_here nodes at (at + 1 + length inner) (syntax.UsePool pool (Begins n body)) behind here after
            ∙ ap (λ b. Then (syntax.UsePool pool b) (statements_at nodes (at + 1 + length inner))) (block_here nodes n (at + 1) body behind numbered.0 inner_at),
        statements_stand nodes (at + 1) body behind inner_at numbered.1 (from_number nodes behind (at + 1 + length inner) _ (with_inner at (length inner)) rest),
      )
  statement_stands nodes at (syntax.Submit executor weight captured (Begins n body)) behind here numbered rest =
      let inner = flat_statements (at + 1) body in
      let inner_at = behind_one nodes at (node.Submit executor weight captured n (at + 1 + length inner)) (inner ++ behind) here in
      let after = behind_these nodes (at + 1) inner behind inner_at in (
        stated_here nodes at (at + 1 + length inner) (syntax.Submit executor weight captured (Begins n body)) behind here after
            ∙ ap (λ b. Then (syntax.Submit executor weight captured b) (statements_at nodes (at + 1 + length inner))) (block_here nodes n (at + 1) body behind numbered.0 inner_at),
        statements_stand nodes (at + 1) body behind inner_at numbered.1 (from_number nodes behind (at + 1 + length inner) _ (with_inner at (length inner)) rest),
      )
  statement_stands nodes at (syntax.BufRead flow limit (Begins n body)) behind here numbered rest =
      let inner = flat_statements (at + 1) body in
      let inner_at = behind_one nodes at (node.BufRead flow limit n (at + 1 + length inner)) (inner ++ behind) here in
      let after = behind_these nodes (at + 1) inner behind inner_at in (
        stated_here nodes at (at + 1 + length inner) (syntax.BufRead flow limit (Begins n body)) behind here after
            ∙ ap (λ b. Then (syntax.BufRead flow limit b) (statements_at nodes (at + 1 + length inner))) (block_here nodes n (at + 1) body behind numbered.0 inner_at),
        statements_stand nodes (at + 1) body behind inner_at numbered.1 (from_number nodes behind (at + 1 + length inner) _ (with_inner at (length inner)) rest),
      )
  statement_stands nodes at (syntax.BufWrite flow (Begins n body)) behind here numbered rest =
      let inner = flat_statements (at + 1) body in
      let inner_at = behind_one nodes at (node.BufWrite flow n (at + 1 + length inner)) (inner ++ behind) here in
      let after = behind_these nodes (at + 1) inner behind inner_at in (
        stated_here nodes at (at + 1 + length inner) (syntax.BufWrite flow (Begins n body)) behind here after
            ∙ ap (λ b. Then (syntax.BufWrite flow b) (statements_at nodes (at + 1 + length inner))) (block_here nodes n (at + 1) body behind numbered.0 inner_at),
        statements_stand nodes (at + 1) body behind inner_at numbered.1 (from_number nodes behind (at + 1 + length inner) _ (with_inner at (length inner)) rest),
      )
  statement_stands nodes at (syntax.Fork forking switch (Begins n body)) behind here numbered rest =
      let inner = flat_statements (at + 1) body in
      let inner_at = behind_one nodes at (node.Fork (forking_in forking) switch n (at + 1 + length inner)) (inner ++ behind) here in
      let after = behind_these nodes (at + 1) inner behind inner_at in (
        stated_here nodes at (at + 1 + length inner) (syntax.Fork forking switch (Begins n body)) behind here after
            ∙ (ap (λ it. Then (syntax.Fork it switch (Begins n body)) (statements_at nodes (at + 1 + length inner))) (sym (forking_back forking))
            ∙ ap (λ b. Then (syntax.Fork (forking_of (forking_in forking)) switch b) (statements_at nodes (at + 1 + length inner))) (block_here nodes n (at + 1) body behind numbered.0 inner_at)),
        statements_stand nodes (at + 1) body behind inner_at numbered.1 (from_number nodes behind (at + 1 + length inner) _ (with_inner at (length inner)) rest),
      )
  statement_stands nodes at (syntax.Branches group blocks) behind here numbered rest =
      let inner = flat_blocks (at + 1) blocks in
      let inner_at = behind_one nodes at (node.Branches (group_in group) (numbers_of blocks) (at + 1 + length inner)) (inner ++ behind) here in
      let after = behind_these nodes (at + 1) inner behind inner_at in (
        stated_here nodes at (at + 1 + length inner) (syntax.Branches group blocks) behind here after
            ∙ (ap (λ it. Then (syntax.Branches it blocks) (statements_at nodes (at + 1 + length inner))) (sym (group_back group))
            ∙ ap (λ bs. Then (syntax.Branches (group_of (group_in group)) bs) (statements_at nodes (at + 1 + length inner))) (blocks_here nodes (at + 1) blocks behind inner_at numbered)),
        blocks_stand nodes (at + 1) blocks behind inner_at numbered (from_number nodes behind (at + 1 + length inner) _ (with_inner at (length inner)) rest),
      )
  statement_stands nodes at (syntax.Trace es) behind here numbered rest =
      let inner = flat_expressions es in
      let inner_at = behind_one nodes at (node.Trace (expression_count es)) (inner ++ behind) here in
      let after = behind_these nodes (at + 1) inner behind inner_at in
      let these = expressions_here nodes (at + 1) es behind inner_at in (
        stated_here nodes at (at + 1 + length inner) (syntax.Trace es) behind here after
            ∙ (ap (λ x. Then (syntax.Trace x) (statements_at nodes (at + 1 + length inner))) (sym these.0)
            ∙ ap (λ k. Then (syntax.Trace (expressions_at nodes (expression_count es) (at + 1))) (statements_at nodes k)) (sym these.1)),
        expressions_stand nodes (at + 1) es behind inner_at (from_number nodes behind (at + 1 + length inner) _ (with_inner at (length inner)) rest),
      )
  statement_stands nodes at (syntax.Try (Begins n tried) (Begins m handler)) behind here numbered rest =
      let first = flat_statements (at + 1) tried in
      let middle = at + 1 + length first in
      let second = flat_statements middle handler in
      let inner = first ++ second in
      let inner_at = behind_one nodes at (node.Try n m (at + 1 + length inner)) (inner ++ behind) here in
      let after = behind_these nodes (at + 1) inner behind inner_at in
      let first_at = in_turn nodes (at + 1) first second behind inner_at in
      let second_at = behind_these nodes (at + 1) first (second ++ behind) first_at in (
        stated_here nodes at (at + 1 + length inner) (syntax.Try (Begins n tried) (Begins m handler)) behind here after
            ∙ (ap (λ b. Then (syntax.Try b (Begins m handler)) (statements_at nodes (at + 1 + length inner))) (block_here nodes n (at + 1) tried (second ++ behind) numbered.0.0 first_at)
            ∙ ap (λ b. Then (syntax.Try (block_at nodes n) b) (statements_at nodes (at + 1 + length inner))) (block_here nodes m middle handler behind numbered.1.0 second_at)),
        joined nodes (at + 1) first second behind
            (statements_stand nodes (at + 1) tried (second ++ behind) first_at numbered.0.1
            (statements_stand nodes middle handler behind second_at numbered.1.1 (from_number nodes behind (middle + length second) _ (with_two at first second) rest))),
      )
  statement_stands nodes at (syntax.Repeat e (Begins n body)) behind here numbered rest =
      let first = flat_expression e in
      let middle = at + 1 + length first in
      let second = flat_statements middle body in
      let inner = first ++ second in
      let inner_at = behind_one nodes at (node.Repeat n (at + 1 + length inner)) (inner ++ behind) here in
      let after = behind_these nodes (at + 1) inner behind inner_at in
      let first_at = in_turn nodes (at + 1) first second behind inner_at in
      let second_at = behind_these nodes (at + 1) first (second ++ behind) first_at in (
        stated_here nodes at (at + 1 + length inner) (syntax.Repeat e (Begins n body)) behind here after
            ∙ (ap (λ x. Then (syntax.Repeat x (Begins n body)) (statements_at nodes (at + 1 + length inner))) (sym (expression_here nodes (at + 1) e (second ++ behind) first_at))
            ∙ ap (λ b. Then (syntax.Repeat (expression_at nodes (at + 1)) b) (statements_at nodes (at + 1 + length inner))) (block_here nodes n middle body behind numbered.0 second_at)),
        joined nodes (at + 1) first second behind
            (expression_stands nodes (at + 1) e (second ++ behind) first_at
            (statements_stand nodes middle body behind second_at numbered.1 (from_number nodes behind (middle + length second) _ (with_two at first second) rest))),
      )
  statement_stands nodes at (syntax.OpenDir directory e (Begins n body)) behind here numbered rest =
      let first = flat_expression e in
      let middle = at + 1 + length first in
      let second = flat_statements middle body in
      let inner = first ++ second in
      let inner_at = behind_one nodes at (node.OpenDir (directory_in directory) n (at + 1 + length inner)) (inner ++ behind) here in
      let after = behind_these nodes (at + 1) inner behind inner_at in
      let first_at = in_turn nodes (at + 1) first second behind inner_at in
      let second_at = behind_these nodes (at + 1) first (second ++ behind) first_at in (
        stated_here nodes at (at + 1 + length inner) (syntax.OpenDir directory e (Begins n body)) behind here after
            ∙ (ap (λ x. Then (syntax.OpenDir x e (Begins n body)) (statements_at nodes (at + 1 + length inner))) (sym (directory_back directory))
            ∙ (ap (λ x. Then (syntax.OpenDir (directory_of (directory_in directory)) x (Begins n body)) (statements_at nodes (at + 1 + length inner))) (sym (expression_here nodes (at + 1) e (second ++ behind) first_at))
            ∙ ap (λ b. Then (syntax.OpenDir (directory_of (directory_in directory)) (expression_at nodes (at + 1)) b) (statements_at nodes (at + 1 + length inner))) (block_here nodes n middle body behind numbered.0 second_at))),
        joined nodes (at + 1) first second behind
            (expression_stands nodes (at + 1) e (second ++ behind) first_at
            (statements_stand nodes middle body behind second_at numbered.1 (from_number nodes behind (middle + length second) _ (with_two at first second) rest))),
      )
  statement_stands nodes at (syntax.If e (Begins n then_items) (Begins m else_items)) behind here numbered rest =
      let test = flat_expression e in
      let one = at + 1 + length test in
      let then_nodes = flat_statements one then_items in
      let first = test ++ then_nodes in
      let two = at + 1 + length first in
      let else_nodes = flat_statements two else_items in
      let inner = first ++ else_nodes in
      let inner_at = behind_one nodes at (node.If n m (at + 1 + length inner)) (inner ++ behind) here in
      let after = behind_these nodes (at + 1) inner behind inner_at in
      let first_at = in_turn nodes (at + 1) first else_nodes behind inner_at in
      let else_at = behind_these nodes (at + 1) first (else_nodes ++ behind) first_at in
      let test_at = in_turn nodes (at + 1) test then_nodes (else_nodes ++ behind) first_at in
      let then_at = behind_these nodes (at + 1) test (then_nodes ++ (else_nodes ++ behind)) test_at in (
        stated_here nodes at (at + 1 + length inner) (syntax.If e (Begins n then_items) (Begins m else_items)) behind here after
            ∙ (ap (λ x. Then (syntax.If x (Begins n then_items) (Begins m else_items)) (statements_at nodes (at + 1 + length inner))) (sym (expression_here nodes (at + 1) e (then_nodes ++ (else_nodes ++ behind)) test_at))
            ∙ (ap (λ b. Then (syntax.If (expression_at nodes (at + 1)) b (Begins m else_items)) (statements_at nodes (at + 1 + length inner))) (block_here nodes n one then_items (else_nodes ++ behind) numbered.0.0 then_at)
            ∙ ap (λ b. Then (syntax.If (expression_at nodes (at + 1)) (block_at nodes n) b) (statements_at nodes (at + 1 + length inner))) (block_here nodes m two else_items behind numbered.1.0 else_at))),
        joined nodes (at + 1) first else_nodes behind
            (joined nodes (at + 1) test then_nodes (else_nodes ++ behind)
            (expression_stands nodes (at + 1) e (then_nodes ++ (else_nodes ++ behind)) test_at
            (statements_stand nodes one then_items (else_nodes ++ behind) then_at numbered.0.1
            (from_number nodes (else_nodes ++ behind) (one + length then_nodes) two (two_rows (at + 1) test then_nodes)
            (statements_stand nodes two else_items behind else_at numbered.1.1 (from_number nodes behind (two + length else_nodes) _ (with_two at first else_nodes) rest)))))),
      )
  statement_stands nodes at (syntax.Save only_new directory path content) behind here numbered rest =
      let first = flat_expression path in
      let middle = at + 1 + length first in
      let second = flat_expression content in
      let inner = first ++ second in
      let inner_at = behind_one nodes at (node.Save only_new (directory_in directory)) (inner ++ behind) here in
      let first_at = in_turn nodes (at + 1) first second behind inner_at in
      let second_at = behind_these nodes (at + 1) first (second ++ behind) first_at in
      let after = behind_these nodes middle second behind second_at in
      let seen = directory_of (directory_in directory) in (
        stated_here nodes at (middle + length second) (syntax.Save only_new directory path content) behind here after
            ∙ (ap (λ x. Then (syntax.Save only_new x path content) (statements_at nodes (middle + length second))) (sym (directory_back directory))
            ∙ (ap (λ x. Then (syntax.Save only_new seen path x) (statements_at nodes (middle + length (flat_expression x)))) (sym (expression_here nodes middle content behind second_at))
            ∙ ap (λ x. Then (syntax.Save only_new seen x (expression_at nodes (at + 1 + length (flat_expression x)))) (statements_at nodes (behind_expression nodes (at + 1 + length (flat_expression x))))) (sym (expression_here nodes (at + 1) path (second ++ behind) first_at)))),
        joined nodes (at + 1) first second behind
            (expression_stands nodes (at + 1) path (second ++ behind) first_at
            (expression_stands nodes middle content behind second_at (from_number nodes behind (middle + length second) _ (with_two at first second) rest))),
      )

  statements_stand : (nodes : List Node) (at : ℕ) (items : Statements) (behind : List Node) → Here nodes at (flat_statements at items ++ behind) → AreNumbered at items
      → AllStand nodes (at + length (flat_statements at items)) behind → AllStand nodes at (flat_statements at items ++ behind)
  statements_stand nodes at Done behind here numbered rest = (statements_here nodes at at Done behind here, from_number nodes behind (at + 1) (at + suc zero) (alone at) rest)
  statements_stand nodes at (Then it items) behind here numbered rest =
      let first = flat_statement at it in
      let others = flat_statements (at + length first) items in
      let first_at = in_turn nodes at first others behind here in
      joined nodes at first others behind
      (statement_stands nodes at it (others ++ behind) first_at numbered.0
      (statements_stand nodes (at + length first) items behind (behind_these nodes at first (others ++ behind) first_at) numbered.1
      (from_number nodes behind (at + length first + length others) _ (two_rows at first others) rest)))

  blocks_stand : (nodes : List Node) (at : ℕ) (blocks : Blocks) (behind : List Node) → Here nodes at (flat_blocks at blocks ++ behind) → AreNumberedBlocks at blocks
      → AllStand nodes (at + length (flat_blocks at blocks)) behind → AllStand nodes at (flat_blocks at blocks ++ behind)
  blocks_stand nodes at NoBlocks behind here numbered rest = from_number nodes behind at (at + zero) (none_behind at) rest
  blocks_stand nodes at (AndBlock (Begins n items) blocks) behind here numbered rest =
      let first = flat_statements at items in
      let others = flat_blocks (at + length first) blocks in
      let first_at = in_turn nodes at first others behind here in
      joined nodes at first others behind
      (statements_stand nodes at items (others ++ behind) first_at numbered.0.1
      (blocks_stand nodes (at + length first) blocks behind (behind_these nodes at first (others ++ behind) first_at) numbered.1
      (from_number nodes behind (at + length first + length others) _ (two_rows at first others) rest)))

-- ## Scripts

bodies_stand : (nodes : List Node) (at : ℕ) (bodies : List Block) → Here nodes at (flat_bodies at bodies) → AreNumberedBodies at bodies → AllStand nodes at (flat_bodies at bodies)
unfolding flat_bodies AllStand AreNumberedBodies IsNumberedBlock
bodies_stand nodes at [] here numbered = tt
bodies_stand nodes at (Begins n items ∷ rest) here numbered =
    let first = flat_statements at items in
    let others = flat_bodies (at + length first) rest in
    statements_stand nodes at items others here numbered.0.1 (bodies_stand nodes (at + length first) rest (behind_these nodes at first others here) numbered.1)

-- one of the nodes says it too
one_stands : (nodes : List Node) (at : ℕ) (these : List Node) → AllStand nodes at these → (k : ℕ) (n : Node) → slice_get these k ≡ Some n → Stands nodes (at + k) n
unfolding AllStand
one_stands nodes at [] all k n e = absurd (none_some n e)
one_stands nodes at (first ∷ these) all zero n e = subst (λ it. Stands nodes (at + zero) it) (some_same first n e) (subst (λ k. Stands nodes k first) (none_behind at) all.0)
one_stands nodes at (first ∷ these) all (suc k) n e = subst (λ m. Stands nodes m n) (with_inner at k) (one_stands nodes (at + 1) these all.1 k n e)

-- a node of a script says what stands from it on
pub node_stands : (script : Script) → HasNumbers script → (number : ℕ) (n : Node) → slice_get (nodes_of script) number ≡ Some n → Stands (nodes_of script) number n
node_stands script has number n e =
    subst (λ m. Stands (nodes_of script) m n) (from_zero number) (one_stands (nodes_of script) 0 (nodes_of script) (bodies_stand (nodes_of script) 0 script.bodies refl has.numbered) number n e)

one_begins : (nodes : List Node) (at : ℕ) (bodies : List Block) → Here nodes at (flat_bodies at bodies) → AreNumberedBodies at bodies → (k : ℕ) (b : Block) → slice_get bodies k ≡ Some b → b ≡ block_at nodes (number_of b)
unfolding flat_bodies AreNumberedBodies IsNumberedBlock
one_begins nodes at [] here numbered k b e = absurd (none_some b e)
one_begins nodes at (Begins n items ∷ rest) here numbered zero b e =
    subst (λ it. it ≡ block_at nodes (number_of it)) (some_same (Begins n items) b e)
    (block_here nodes n at items (flat_bodies (at + length (flat_statements at items)) rest) numbered.0.0 here)
one_begins nodes at (Begins n items ∷ rest) here numbered (suc k) b e =
    let first = flat_statements at items in
    let others = flat_bodies (at + length first) rest in
    one_begins nodes (at + length first) rest (behind_these nodes at first others here) numbered.1 k b e

-- an item of a list that is seen as another
pub seen_at : {A : Type 0} (items these : List A) (k : ℕ) (x : A) → items ≡ these → k < length these → x ≡ get_or items k x → slice_get these k ≡ Some x
seen_at items these k x same less e =
    ap (λ l. slice_get l k) (sym same) ∙ (slice_get-get_or items k x (subst (λ l. k < length l) (sym same) less) ∙ ap Some (sym e))

-- the body whose number was found
numbered_at : (bodies : List Block) (k number : ℕ) → slice_get (map number_of bodies) k ≡ Some number → (b : Block) × (slice_get bodies k ≡ Some b) × (number_of b ≡ number)
numbered_at [] k number e = absurd (none_some number e)
numbered_at (b ∷ bodies) zero number e = (b, refl, some_same (number_of b) number e)
numbered_at (b ∷ bodies) (suc k) number e = numbered_at bodies k number e

-- a body of a script begins at its number
pub body_begins : (script : Script) → HasNumbers script → (k number : ℕ) → slice_get (map number_of script.bodies) k ≡ Some number → slice_get script.bodies k ≡ Some (block_at (nodes_of script) number)
body_begins script has k number e =
    let found = numbered_at script.bodies k number e in
    found.1 ∙ ap Some (one_begins (nodes_of script) 0 script.bodies refl has.numbered k found.0 found.1 ∙ ap (block_at (nodes_of script)) found.2)
