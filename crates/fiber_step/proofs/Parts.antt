-- What belongs to the node that begins a statement, where the statements of a block stand in reading order.
use Rattle.std.proofs.Common.{◌≡◌, ℕ, zero, suc, ◌+◌, ◌<◌, ◌≤◌, List, ◌∷◌, ◌++◌, length, refl, sym, ap, ◌∙◌, subst, append_assoc, length-append, arith}
use Rattle.std.specs.List.{AllByRecursion as Each}
use Rattle.spec_script.specs.Limits.{most_traced}
use Rattle.spec_script.specs.Syntax as syntax
use Rattle.spec_script.specs.Syntax.{Expression, Expressions, NoExpressions, AndExpression, Statement, Statements, Done, Then, Begins, Blocks, NoBlocks, AndBlock}
use Rattle.law_script.specs.Scripts.Soundness as sound
use Rattle.law_script.specs.Scripts.Soundness.{Known, IsSoundStatement, IsSoundBlock, AreSoundStatements, AreSoundBlocks, HasItsBranches, with_slot, in_job, behind, block_count}
use Rattle.script_forms.specs.Calls.{group_in, forking_in, object_call_in, object_call_with_in, reader_call_in, path_call_in, directory_in}
use Rattle.script_forms.specs.Flat.{flat_expression, flat_expressions, expression_count, numbers_of, flat_statement, flat_statements, flat_blocks}
use Rattle.script_code.specs.Numbered.{IsNumbered, IsNumberedBlock, AreNumbered, AreNumberedBlocks}
use Rattle.script_code.specs.ScriptCode.{group_back}
use Rattle.script_code.specs.Standing.{behind_expression, behind_expressions}
use Rattle.script_forms.specs.declared.node.Node.{Node}
use Rattle.script_forms.specs.declared.node.Node.TheVariants as node
use Rattle.spec_script.specs.Kinds.{VariableKind, ContextKind, SwitchKind, ReaderKind, WriterKind, CapabilityKind}
use Rattle.fiber_step.specs.Having.{HasExpression, HasExpressions, HasStatements, BeginsStatement, HasParts}
use Rattle.fiber_step.proofs.Places.{Here, IsAt, behind_these, behind_one, in_turn, first_here, same_node, expression_here, alone, with_inner}

-- the node that stands at a number, with its parts
record HasHead (nodes : List Node) (at : ℕ) : Type 0 where
  pub head : Node
  pub others : List Node
  pub here : Here nodes at (head ∷ others)
  pub parts : HasParts nodes at head

moved : (nodes : List Node) (k m : ℕ) → k ≡ m → HasStatements nodes k → HasStatements nodes m
moved nodes k m e has = subst (λ n. HasStatements nodes n) e has

-- ## Operands

operand_of : (nodes : List Node) (at : ℕ) (e : Expression) (behind : List Node) → Here nodes at (flat_expression e ++ behind) → HasExpression nodes at
operand_of nodes at e behind here = record { expression = e; behind = behind; is = here }

-- the number behind an operand
past : (nodes : List Node) (at : ℕ) (e : Expression) (behind : List Node) → Here nodes at (flat_expression e ++ behind) → at + length (flat_expression e) ≡ behind_expression nodes at
past nodes at e behind here = ap (λ x. at + length (flat_expression x)) (sym (expression_here nodes at e behind here))

-- a node with one operand, and what is left of the block behind it
one_operand : (nodes : List Node) (at : ℕ) (head : Node) (e : Expression) (others : List Node) → Here nodes at (head ∷ (flat_expression e ++ others))
    → HasStatements nodes (at + suc (length (flat_expression e))) → HasExpression nodes (at + 1) × HasStatements nodes (behind_expression nodes (at + 1))
one_operand nodes at head e others here next =
    let inner = behind_one nodes at head (flat_expression e ++ others) here in
    (operand_of nodes (at + 1) e others inner, moved nodes _ _ (with_inner at (length (flat_expression e)) ∙ past nodes (at + 1) e others inner) next)

two_rows : (at : ℕ) (first second : List Node) → at + length (first ++ second) ≡ at + length first + length second
two_rows at first second = let sum = length-append first second in omega (arith, sum)

two_operands : (nodes : List Node) (at : ℕ) (head : Node) (e f : Expression) (others : List Node) → Here nodes at (head ∷ ((flat_expression e ++ flat_expression f) ++ others))
    → HasStatements nodes (at + suc (length (flat_expression e ++ flat_expression f)))
    → HasExpression nodes (at + 1) × HasExpression nodes (behind_expression nodes (at + 1)) × HasStatements nodes (behind_expression nodes (behind_expression nodes (at + 1)))
two_operands nodes at head e f others here next =
    let first = flat_expression e in
    let second = flat_expression f in
    let inner = in_turn nodes (at + 1) first second others (behind_one nodes at head ((first ++ second) ++ others) here) in
    let middle : at + 1 + length first ≡ behind_expression nodes (at + 1) = past nodes (at + 1) e (second ++ others) inner in
    let rest = subst (λ k. Here nodes k (second ++ others)) middle (behind_these nodes (at + 1) first (second ++ others) inner) in (
      operand_of nodes (at + 1) e (second ++ others) inner,
      operand_of nodes (behind_expression nodes (at + 1)) f others rest,
      moved nodes _ _ (with_inner at (length (first ++ second)) ∙ (two_rows (at + 1) first second
          ∙ (ap (λ k. k + length second) middle ∙ past nodes (behind_expression nodes (at + 1)) f others rest))) next,
    )

one_more : (n : ℕ) → n + 1 ≡ suc n
one_more n = omega arith

none_behind : (at : ℕ) → at + zero ≡ at
none_behind at = omega arith

-- so many operands, and the number behind them
operands_of : (nodes : List Node) (at : ℕ) (es : Expressions) (others : List Node) → Here nodes at (flat_expressions es ++ others)
    → HasExpressions nodes (expression_count es) at × (at + length (flat_expressions es) ≡ behind_expressions nodes (expression_count es) at)
unfolding flat_expressions expression_count
operands_of nodes at NoExpressions others here = (tt, none_behind at)
operands_of nodes at (AndExpression e es) others here =
    let first = flat_expression e in
    let second = flat_expressions es in
    let inner = in_turn nodes at first second others here in
    let middle : at + length first ≡ behind_expression nodes at = past nodes at e (second ++ others) inner in
    let rest = operands_of nodes (behind_expression nodes at) es others (subst (λ k. Here nodes k (second ++ others)) middle (behind_these nodes at first (second ++ others) inner)) in (
      subst (λ n. HasExpressions nodes n at) (sym (one_more (expression_count es))) (operand_of nodes at e (second ++ others) inner, rest.0),
      two_rows at first second ∙ (ap (λ k. k + length second) middle ∙ (rest.1 ∙ ap (λ n. behind_expressions nodes n at) (sym (one_more (expression_count es))))),
    )

same_count : (es : Expressions) → expression_count es ≡ sound.expression_count es
unfolding expression_count sound.expression_count
same_count NoExpressions = refl
same_count (AndExpression e es) = ap (λ n. n + 1) (same_count es)

-- ## Blocks

block_of : (nodes : List Node) (n at : ℕ) (known : Known) (items : Statements) (others : List Node) → Here nodes at (flat_statements at items ++ others)
    → IsNumberedBlock at (Begins n items) → IsSoundBlock known (Begins n items) → HasStatements nodes n
unfolding IsNumberedBlock IsSoundBlock
block_of nodes n at known items others here numbered good =
    moved nodes at n (sym numbered.0) (record { known = known; statements = items; behind = others; is = here; numbered = numbered.1; sound = good })

-- a node with one block, and what is left behind the statement
one_block : (nodes : List Node) (at : ℕ) (head : Node) (known : Known) (n : ℕ) (items : Statements) (others : List Node) → Here nodes at (head ∷ (flat_statements (at + 1) items ++ others))
    → IsNumberedBlock (at + 1) (Begins n items) → IsSoundBlock known (Begins n items) → HasStatements nodes (at + suc (length (flat_statements (at + 1) items)))
    → HasStatements nodes n × HasStatements nodes (at + 1 + length (flat_statements (at + 1) items))
one_block nodes at head known n items others here numbered good next =
    let inner = behind_one nodes at head (flat_statements (at + 1) items ++ others) here in
    (block_of nodes n (at + 1) known items others inner numbered good, moved nodes _ _ (with_inner at (length (flat_statements (at + 1) items))) next)

-- one with an operand before its block
operand_block : (nodes : List Node) (at : ℕ) (head : Node) (known : Known) (e : Expression) (n : ℕ) (items : Statements) (others : List Node) (second : List Node)
    → second ≡ flat_statements (at + 1 + length (flat_expression e)) items → Here nodes at (head ∷ ((flat_expression e ++ second) ++ others))
    → IsNumberedBlock (at + 1 + length (flat_expression e)) (Begins n items) → IsSoundBlock known (Begins n items) → HasStatements nodes (at + suc (length (flat_expression e ++ second)))
    → HasExpression nodes (at + 1) × (HasStatements nodes n × HasStatements nodes (at + 1 + length (flat_expression e ++ second)))
operand_block nodes at head known e n items others second same here numbered good next =
    let first = flat_expression e in
    let inner = in_turn nodes (at + 1) first second others (behind_one nodes at head ((first ++ second) ++ others) here) in
    let rest = behind_these nodes (at + 1) first (second ++ others) inner in (
      operand_of nodes (at + 1) e (second ++ others) inner,
      (block_of nodes n (at + 1 + length first) known items others (rest ∙ ap (λ these. these ++ others) same) numbered good, moved nodes _ _ (with_inner at (length (first ++ second))) next),
    )

blocks_of : (nodes : List Node) (at : ℕ) (known : Known) (blocks : Blocks) (others : List Node) → Here nodes at (flat_blocks at blocks ++ others)
    → AreNumberedBlocks at blocks → AreSoundBlocks known blocks → Each (HasStatements nodes) (numbers_of blocks) × (length (numbers_of blocks) ≡ block_count blocks)
unfolding flat_blocks AreNumberedBlocks AreSoundBlocks numbers_of block_count
blocks_of nodes at known NoBlocks others here numbered good = (tt, refl)
blocks_of nodes at known (AndBlock (Begins n items) rest) others here numbered good =
    let first = flat_statements at items in
    let second = flat_blocks (at + length first) rest in
    let inner = in_turn nodes at first second others here in
    let more = blocks_of nodes (at + length first) known rest others (behind_these nodes at first (second ++ others) inner) numbered.1 good.1 in
    ((block_of nodes n at known items (second ++ others) inner numbered.0 good.0, more.0), sym (one_more (length (numbers_of rest))) ∙ ap (λ n. n + 1) more.1)

-- ## Statements

-- what is left behind a statement
behind_first : (nodes : List Node) (at : ℕ) (known : Known) (it : Statement) (rest : Statements) (others : List Node)
    → Here nodes at (flat_statement at it ++ (flat_statements (at + length (flat_statement at it)) rest ++ others))
    → AreNumbered (at + length (flat_statement at it)) rest → AreSoundStatements known rest → HasStatements nodes (at + length (flat_statement at it))
behind_first nodes at known it rest others here numbered good =
    record { known = known; statements = rest; behind = others; is = behind_these nodes at (flat_statement at it) (flat_statements (at + length (flat_statement at it)) rest ++ others) here; numbered = numbered; sound = good }

-- the form of a `let` begins a statement
form_begins : (nodes : List Node) (at : ℕ) (known later : Known) (form : Statement) (rest : Statements) (others : List Node)
    → Here nodes (at + 1) (flat_statement (at + 1) form ++ (flat_statements (at + suc (length (flat_statement (at + 1) form))) rest ++ others))
    → IsNumbered (at + 1) form → AreNumbered (at + suc (length (flat_statement (at + 1) form))) rest → IsSoundStatement known form → AreSoundStatements later rest
    → BeginsStatement nodes (at + 1)
unfolding flat_statements AreNumbered
form_begins nodes at known later form rest others here numbered more good fine =
    let first = flat_statement (at + 1) form in
    let same = with_inner at (length first) in
    let join : Here nodes (at + 1) (flat_statements (at + 1) (Then form rest) ++ others) =
    here ∙ (ap (λ k. first ++ (flat_statements k rest ++ others)) same ∙ sym (append_assoc first (flat_statements (at + 1 + length first) rest) others)) in
    record { known = known; later = later; first = form; others = rest; behind = others; is = join; numbered = (numbered, subst (λ k. AreNumbered k rest) same more); sound = good; others_sound = fine }

head_of : (nodes : List Node) (at : ℕ) (known later : Known) (it : Statement) (rest : Statements) (others : List Node)
    → Here nodes at (flat_statement at it ++ (flat_statements (at + length (flat_statement at it)) rest ++ others))
    → IsNumbered at it → AreNumbered (at + length (flat_statement at it)) rest → IsSoundStatement known it → AreSoundStatements later rest → HasHead nodes at
unfolding flat_statement IsNumbered IsSoundStatement
head_of nodes at known later (syntax.Let e) rest others here numbered more good fine =
    record { head = node.Let; others = _; here = here; parts = one_operand nodes at node.Let e _ here (behind_first nodes at _ (syntax.Let e) rest others here more fine) }
head_of nodes at known later (syntax.LetForm form) rest others here numbered more good fine =
    let inner = behind_one nodes at node.LetForm (flat_statement (at + 1) form ++ (flat_statements (at + length (flat_statement at (syntax.LetForm form))) rest ++ others)) here in
    record { head = node.LetForm; others = _; here = here; parts = form_begins nodes at known later form rest others inner numbered more good fine }
head_of nodes at known later (syntax.If e (Begins n then_items) (Begins m else_items)) rest others here numbered more good fine =
    let test = flat_expression e in
    let one = at + 1 + length test in
    let then_nodes = flat_statements one then_items in
    let first = test ++ then_nodes in
    let two = at + 1 + length first in
    let else_nodes = flat_statements two else_items in
    let after = at + 1 + length (first ++ else_nodes) in
    let end = flat_statements _ rest ++ others in
    let inner = in_turn nodes (at + 1) first else_nodes end (behind_one nodes at (node.If n m after) ((first ++ else_nodes) ++ end) here) in
    let test_at = in_turn nodes (at + 1) test then_nodes (else_nodes ++ end) inner in
    record {
      head = node.If n m after;
      others = _;
      here = here;
      parts = (
        operand_of nodes (at + 1) e (then_nodes ++ (else_nodes ++ end)) test_at,
        block_of nodes n one known then_items (else_nodes ++ end) (behind_these nodes (at + 1) test (then_nodes ++ (else_nodes ++ end)) test_at) numbered.0 good.1,
        block_of nodes m two known else_items end (behind_these nodes (at + 1) first (else_nodes ++ end) inner) numbered.1 good.2,
        moved nodes _ _ (with_inner at (length (first ++ else_nodes))) (behind_first nodes at _ (syntax.If e (Begins n then_items) (Begins m else_items)) rest others here more fine),
      );
    }
head_of nodes at known later (syntax.Give e) rest others here numbered more good fine =
    record { head = node.Give; others = _; here = here; parts = one_operand nodes at node.Give e _ here (behind_first nodes at _ (syntax.Give e) rest others here more fine) }
head_of nodes at known later (syntax.Raise text) rest others here numbered more good fine =
    record { head = (node.Raise text); others = _; here = here; parts = moved nodes _ _ (alone at) (behind_first nodes at _ (syntax.Raise text) rest others here more fine) }
head_of nodes at known later (syntax.Try (Begins n tried) (Begins m handler)) rest others here numbered more good fine =
    let first = flat_statements (at + 1) tried in
    let two = at + 1 + length first in
    let second = flat_statements two handler in
    let after = at + 1 + length (first ++ second) in
    let end = flat_statements _ rest ++ others in
    let inner = in_turn nodes (at + 1) first second end (behind_one nodes at (node.Try n m after) ((first ++ second) ++ end) here) in
    record {
      head = node.Try n m after;
      others = _;
      here = here;
      parts = (
        block_of nodes n (at + 1) known tried (second ++ end) inner numbered.0 good.0,
        block_of nodes m two (with_slot VariableKind known) handler end (behind_these nodes (at + 1) first (second ++ end) inner) numbered.1 good.1,
        moved nodes _ _ (with_inner at (length (first ++ second))) (behind_first nodes at _ (syntax.Try (Begins n tried) (Begins m handler)) rest others here more fine),
      );
    }
head_of nodes at known later (syntax.Repeat times (Begins n body)) rest others here numbered more good fine =
    record {
      head = node.Repeat n (at + 1 + length (flat_expression times ++ flat_statements (at + 1 + length (flat_expression times)) body));
      others = _;
      here = here;
      parts =
          operand_block nodes at _ (with_slot VariableKind known) times n body _ (flat_statements (at + 1 + length (flat_expression times)) body) refl here numbered good.1 (behind_first nodes at _ (syntax.Repeat times (Begins n body)) rest others here more fine);
    }
head_of nodes at known later (syntax.Loop (Begins n body)) rest others here numbered more good fine =
    record { head = (node.Loop n (at + 1 + length (flat_statements (at + 1) body))); others = _; here = here; parts = one_block nodes at (node.Loop n (at + 1 + length (flat_statements (at + 1) body))) (known) n body _ here numbered good (behind_first nodes at _ (syntax.Loop (Begins n body)) rest others here more fine) }
head_of nodes at known later (syntax.Trace es) rest others here numbered more good fine =
    let inner = flat_expressions es in
    let these = operands_of nodes (at + 1) es (flat_statements _ rest ++ others) (behind_one nodes at (node.Trace (expression_count es)) (inner ++ (flat_statements _ rest ++ others)) here) in
    record {
      head = node.Trace (expression_count es);
      others = _;
      here = here;
      parts = (
        subst (λ n. n ≤ most_traced) (sym (same_count es)) good.1,
        these.0,
        moved nodes _ _ (with_inner at (length inner) ∙ these.1) (behind_first nodes at _ (syntax.Trace es) rest others here more fine),
      );
    }
head_of nodes at known later syntax.Yield rest others here numbered more good fine =
    record { head = node.Yield; others = _; here = here; parts = moved nodes _ _ (alone at) (behind_first nodes at _ syntax.Yield rest others here more fine) }
head_of nodes at known later syntax.Check rest others here numbered more good fine =
    record { head = node.Check; others = _; here = here; parts = moved nodes _ _ (alone at) (behind_first nodes at _ syntax.Check rest others here more fine) }
head_of nodes at known later syntax.AwaitCancel rest others here numbered more good fine =
    record { head = node.AwaitCancel; others = _; here = here; parts = moved nodes _ _ (alone at) (behind_first nodes at _ syntax.AwaitCancel rest others here more fine) }
head_of nodes at known later (syntax.Sub (Begins n body)) rest others here numbered more good fine =
    record { head = (node.Sub n (at + 1 + length (flat_statements (at + 1) body))); others = _; here = here; parts = one_block nodes at (node.Sub n (at + 1 + length (flat_statements (at + 1) body))) (with_slot ContextKind known) n body _ here numbered good (behind_first nodes at _ (syntax.Sub (Begins n body)) rest others here more fine) }
head_of nodes at known later (syntax.Protect (Begins n body)) rest others here numbered more good fine =
    record { head = (node.Protect n (at + 1 + length (flat_statements (at + 1) body))); others = _; here = here; parts = one_block nodes at (node.Protect n (at + 1 + length (flat_statements (at + 1) body))) (known) n body _ here numbered good (behind_first nodes at _ (syntax.Protect (Begins n body)) rest others here more fine) }
head_of nodes at known later (syntax.Cancel context text) rest others here numbered more good fine =
    record { head = (node.Cancel context text); others = _; here = here; parts = moved nodes _ _ (alone at) (behind_first nodes at _ (syntax.Cancel context text) rest others here more fine) }
head_of nodes at known later (syntax.Switch (Begins n body)) rest others here numbered more good fine =
    record { head = (node.Switch n (at + 1 + length (flat_statements (at + 1) body))); others = _; here = here; parts = one_block nodes at (node.Switch n (at + 1 + length (flat_statements (at + 1) body))) (with_slot SwitchKind known) n body _ here numbered good (behind_first nodes at _ (syntax.Switch (Begins n body)) rest others here more fine) }
head_of nodes at known later (syntax.Fork forking switch (Begins n body)) rest others here numbered more good fine =
    record { head = (node.Fork (forking_in forking) switch n (at + 1 + length (flat_statements (at + 1) body))); others = _; here = here; parts = one_block nodes at (node.Fork (forking_in forking) switch n (at + 1 + length (flat_statements (at + 1) body))) (known) n body _ here numbered good.2 (behind_first nodes at _ (syntax.Fork forking switch (Begins n body)) rest others here more fine) }
head_of nodes at known later (syntax.Fail switch text) rest others here numbered more good fine =
    record { head = (node.Fail switch text); others = _; here = here; parts = moved nodes _ _ (alone at) (behind_first nodes at _ (syntax.Fail switch text) rest others here more fine) }
head_of nodes at known later (syntax.OnRelease switch (Begins n body)) rest others here numbered more good fine =
    record { head = (node.OnRelease switch n (at + 1 + length (flat_statements (at + 1) body))); others = _; here = here; parts = one_block nodes at (node.OnRelease switch n (at + 1 + length (flat_statements (at + 1) body))) (known) n body _ here numbered good.1 (behind_first nodes at _ (syntax.OnRelease switch (Begins n body)) rest others here more fine) }
head_of nodes at known later (syntax.Branches group blocks) rest others here numbered more good fine =
    let inner = flat_blocks (at + 1) blocks in
    let after = at + 1 + length inner in
    let head = node.Branches (group_in group) (numbers_of blocks) after in
    let these = blocks_of nodes (at + 1) known blocks (flat_statements _ rest ++ others) (behind_one nodes at head (inner ++ (flat_statements _ rest ++ others)) here) numbered good.0 in
    record {
      head = head;
      others = _;
      here = here;
      parts = (
        these.0,
        subst (λ g. HasItsBranches g (length (numbers_of blocks))) (sym (group_back group)) (subst (λ n. HasItsBranches group n) (sym these.1) good.1),
        moved nodes _ _ (with_inner at (length inner)) (behind_first nodes at _ (syntax.Branches group blocks) rest others here more fine),
      );
    }
head_of nodes at known later (syntax.OnObject call object) rest others here numbered more good fine =
    record { head = (node.OnObject (object_call_in call) object); others = _; here = here; parts = moved nodes _ _ (alone at) (behind_first nodes at _ (syntax.OnObject call object) rest others here more fine) }
head_of nodes at known later (syntax.OnObjectWith call object e) rest others here numbered more good fine =
    record { head = (node.OnObjectWith (object_call_with_in call) object); others = _; here = here; parts = one_operand nodes at (node.OnObjectWith (object_call_with_in call) object) e _ here (behind_first nodes at _ (syntax.OnObjectWith call object e) rest others here more fine) }
head_of nodes at known later (syntax.UseRw mutex (Begins n body)) rest others here numbered more good fine =
    record { head = (node.UseRw mutex n (at + 1 + length (flat_statements (at + 1) body))); others = _; here = here; parts = one_block nodes at (node.UseRw mutex n (at + 1 + length (flat_statements (at + 1) body))) (known) n body _ here numbered good.1 (behind_first nodes at _ (syntax.UseRw mutex (Begins n body)) rest others here more fine) }
head_of nodes at known later (syntax.UsePool pool (Begins n body)) rest others here numbered more good fine =
    record { head = (node.UsePool pool n (at + 1 + length (flat_statements (at + 1) body))); others = _; here = here; parts = one_block nodes at (node.UsePool pool n (at + 1 + length (flat_statements (at + 1) body))) (with_slot VariableKind known) n body _ here numbered good.1 (behind_first nodes at _ (syntax.UsePool pool (Begins n body)) rest others here more fine) }
head_of nodes at known later (syntax.Submit executor weight captured (Begins n body)) rest others here numbered more good fine =
    record { head = (node.Submit executor weight captured n (at + 1 + length (flat_statements (at + 1) body))); others = _; here = here; parts = (good.2, one_block nodes at (node.Submit executor weight captured n (at + 1 + length (flat_statements (at + 1) body))) (in_job captured known) n body _ here numbered good.4 (behind_first nodes at _ (syntax.Submit executor weight captured (Begins n body)) rest others here more fine)) }
head_of nodes at known later (syntax.Sleep e) rest others here numbered more good fine =
    record { head = node.Sleep; others = _; here = here; parts = one_operand nodes at node.Sleep e _ here (behind_first nodes at _ (syntax.Sleep e) rest others here more fine) }
head_of nodes at known later syntax.Now rest others here numbered more good fine =
    record { head = node.Now; others = _; here = here; parts = moved nodes _ _ (alone at) (behind_first nodes at _ syntax.Now rest others here more fine) }
head_of nodes at known later (syntax.BufRead flow limit (Begins n body)) rest others here numbered more good fine =
    record { head = (node.BufRead flow limit n (at + 1 + length (flat_statements (at + 1) body))); others = _; here = here; parts = one_block nodes at (node.BufRead flow limit n (at + 1 + length (flat_statements (at + 1) body))) (with_slot ReaderKind known) n body _ here numbered good.2 (behind_first nodes at _ (syntax.BufRead flow limit (Begins n body)) rest others here more fine) }
head_of nodes at known later (syntax.OnReader call reader) rest others here numbered more good fine =
    record { head = (node.OnReader (reader_call_in call) reader); others = _; here = here; parts = moved nodes _ _ (alone at) (behind_first nodes at _ (syntax.OnReader call reader) rest others here more fine) }
head_of nodes at known later (syntax.TakeBytes reader e) rest others here numbered more good fine =
    record { head = (node.TakeBytes reader); others = _; here = here; parts = one_operand nodes at (node.TakeBytes reader) e _ here (behind_first nodes at _ (syntax.TakeBytes reader e) rest others here more fine) }
head_of nodes at known later (syntax.Copy from to) rest others here numbered more good fine =
    record { head = (node.Copy from to); others = _; here = here; parts = moved nodes _ _ (alone at) (behind_first nodes at _ (syntax.Copy from to) rest others here more fine) }
head_of nodes at known later (syntax.BufWrite flow (Begins n body)) rest others here numbered more good fine =
    record { head = (node.BufWrite flow n (at + 1 + length (flat_statements (at + 1) body))); others = _; here = here; parts = one_block nodes at (node.BufWrite flow n (at + 1 + length (flat_statements (at + 1) body))) (with_slot WriterKind known) n body _ here numbered good.1 (behind_first nodes at _ (syntax.BufWrite flow (Begins n body)) rest others here more fine) }
head_of nodes at known later (syntax.Put writer e) rest others here numbered more good fine =
    record { head = (node.Put writer); others = _; here = here; parts = one_operand nodes at (node.Put writer) e _ here (behind_first nodes at _ (syntax.Put writer e) rest others here more fine) }
head_of nodes at known later (syntax.OpenDir directory path (Begins n body)) rest others here numbered more good fine =
    record {
      head = node.OpenDir (directory_in directory) n (at + 1 + length (flat_expression path ++ flat_statements (at + 1 + length (flat_expression path)) body));
      others = _;
      here = here;
      parts =
          operand_block nodes at _ (with_slot CapabilityKind known) path n body _ (flat_statements (at + 1 + length (flat_expression path)) body) refl here numbered good.2 (behind_first nodes at _ (syntax.OpenDir directory path (Begins n body)) rest others here more fine);
    }
head_of nodes at known later (syntax.OnPath call directory e) rest others here numbered more good fine =
    record { head = (node.OnPath (path_call_in call) (directory_in directory)); others = _; here = here; parts = one_operand nodes at (node.OnPath (path_call_in call) (directory_in directory)) e _ here (behind_first nodes at _ (syntax.OnPath call directory e) rest others here more fine) }
head_of nodes at known later (syntax.Save only_new directory path content) rest others here numbered more good fine =
    record {
      head = node.Save only_new (directory_in directory);
      others = _;
      here = here;
      parts =
          two_operands nodes at (node.Save only_new (directory_in directory)) path content _ here (behind_first nodes at _ (syntax.Save only_new directory path content) rest others here more fine);
    }

-- the node that begins a statement, with its parts
begins_with : (nodes : List Node) (at : ℕ) → BeginsStatement nodes at → HasHead nodes at
unfolding flat_statements AreNumbered AreSoundStatements
begins_with nodes at has =
    let first = flat_statement at has.first in
    let others = flat_statements (at + length first) has.others in
    head_of nodes at has.known has.later has.first has.others has.behind (has.is ∙ append_assoc first others has.behind) has.numbered.0 has.numbered.1 has.sound has.others_sound

pub has_parts : (nodes : List Node) (at : ℕ) (n : Node) → BeginsStatement nodes at → IsAt nodes at n → HasParts nodes at n
has_parts nodes at n has is =
    let found = begins_with nodes at has in
    subst (λ it. HasParts nodes at it) (same_node nodes at found.head n found.others found.here is) found.parts

-- at any node but an end, a statement is left
pub begins : (nodes : List Node) (at : ℕ) (n : Node) → HasStatements nodes at → IsAt nodes at n → (n ≡ node.End → ⊥) → BeginsStatement nodes at
unfolding flat_statements AreSoundStatements
begins nodes at n has is other = by has.statements has.is has.numbered has.sound
  where
    by : (items : Statements) → Here nodes at (flat_statements at items ++ has.behind) → AreNumbered at items → AreSoundStatements has.known items → BeginsStatement nodes at
    by Done here numbered good = absurd (other (sym (same_node nodes at node.End n _ here is)))
    by (Then it rest) here numbered good = record { known = has.known; later = behind it has.known; first = it; others = rest; behind = has.behind; is = here; numbered = numbered; sound = good.0; others_sound = good.1 }

-- a statement, and what is left of a block, begins at a node
pub begins_within : (nodes : List Node) (at : ℕ) → BeginsStatement nodes at → at < length nodes
begins_within nodes at has = let found = begins_with nodes at has in (first_here nodes at found.head found.others found.here).0

pub left_within : (nodes : List Node) (at : ℕ) → HasStatements nodes at → at < length nodes
unfolding flat_statements AreNumbered AreSoundStatements
left_within nodes at has = by has.statements has.is has.numbered has.sound
  where
    by : (items : Statements) → Here nodes at (flat_statements at items ++ has.behind) → AreNumbered at items → AreSoundStatements has.known items → at < length nodes
    by Done here numbered good = (first_here nodes at node.End _ here).0
    by (Then it rest) here numbered good =
        begins_within nodes at (record { known = has.known; later = behind it has.known; first = it; others = rest; behind = has.behind; is = here; numbered = numbered; sound = good.0; others_sound = good.1 })
