-- Of a script that is read, each text of its bodies stands in its table. One clause for each form, as it is read.
use Rattle.std.proofs.Common.{◌≡◌, ℕ, ◌+◌, ◌<◌, ◌≤◌, Bool, true, false, List, [], ◌∷◌, length, Option, Some, None, Result, Ok, Err, refl, subst, arith}
use Rattle.std.specs.Prelude.{nat_le, nat_lt, is_none, codes, ◌++◌, IfSome}
use Rattle.std.specs.List.{AllByRecursion as Each}
use Rattle.eio_value.specs.Table.{intern}
use Rattle.eio_value.specs.declared.value.TextId.{TextId}
use Rattle.spec_script.specs.Captures.{slots_of, job_scope}
use Rattle.spec_script.specs.Declarations.{Declaration, Stream, Promise, Semaphore, Mutex, Pool, Executor, Flow, Dir, DeclarationForm, declaration_form_of, items_of, Declared, nothing_declared, with_declaration, declare, declaration_by, declaration, declarations_behind}
use Rattle.spec_script.specs.FlowSteps.{StepHead, DataHead, FaultHead, PauseHead, step_head, step_by, step, steps}
use Rattle.eio_value.specs.declared.flow_step.FlowStep.TheVariants as flow
use Rattle.spec_script.specs.Expressions.{item, operation, expression, traced}
use Rattle.spec_script.specs.Faults.{ScriptFault, Shape, Size, Twice}
use Rattle.spec_script.specs.Forms.{ExpressionHead, UnitHead, OperatorHead, expression_head, Head, LetHead, IfHead, GiveHead, RaiseHead, TryHead, RepeatHead, LoopHead, TraceHead, YieldHead, CheckHead, AwaitCancelHead, SubHead, ProtectHead, CancelHead, SwitchHead, ForkHead, ForkDaemonHead, ForkPromiseHead, FailHead, OnReleaseHead, PairHead, RowHead, ObjectHead, ObjectHeadWith, UseRwHead, UsePoolHead, SubmitHead, SleepHead, NowHead, BufReadHead, ReaderHead, TakeBytesHead, CopyHead, BufWriteHead, PutHead, OpenDirHead, PathHead, SaveHead, Form, form_of}
use Rattle.spec_script.specs.Kinds.{Kind, StreamKind, SemaphoreKind, DirectoryKind, VariableKind, ContextKind, SwitchKind, ReaderKind, WriterKind, CapabilityKind, PromiseKind, MutexKind, PoolKind, ExecutorKind, FlowKind, object_kind, object_kind_with}
use Rattle.spec_script.specs.declared.Limits.{Limits}
use Rattle.spec_script.specs.Limits.{weights, reader_limits, most_branches, most_traced, limits_of, capacities, counts, sizes}
use Rattle.spec_script.specs.Reads.{Made, nothing_made, Reads, ◌>>>◌, gives, refuses, requires_that, one_node, interned, text_of, failure_of}
use Rattle.spec_script.specs.Scopes.{Scope, named_in}
use Rattle.spec_script.specs.Scripts.{Script, items_behind, Parts, parts_of, bodies_of, body_scope, body, domains, read_parts, script_by, script_of_parts, version_of, root_of, script_of}
use Rattle.spec_script.specs.Statements.{form_node, block_of, statements, statement, value, block, branches, form}
use Rattle.spec_script.specs.Syntax as syntax
use Rattle.spec_script.specs.Syntax.{Expression, Expressions, Statement, Block, Begins, Statements, Done, Then, Blocks, NoBlocks, AndBlock}
use Rattle.spec_script.specs.Trees.{Tree, Word, Number, Text, Branch, Trees, Nil, And, place_of}
use Rattle.script_code.specs.Texted.{IsAmong, HasTextsOf, HaveTextsOf, HasTextsOfStatement, HasTextsOfBlock, HaveTextsOfStatements, HaveTextsOfBlocks, HasTextOfStep, HasTextsOfDeclaration, HasDeclaredTexts, HasBodyTexts}
use Rattle.script_code.proofs.NodeCounts.{Keeps, kept, changed, no_shorter, test_keeps, form_keeps, expression_form_keeps, may_fail_keeps, number_keeps, bring_keeps, used_keeps, directory_keeps, captured_keeps, intern_has, same_Ok, err-ok, both_gave}
use Rattle.script_code.proofs.DeclarationsKeep.{step_keeps, data_keeps, workers_keep, entries_keep}

-- ## Steps

-- no text goes, and where no more than `n` texts are made, the step gives such a value
record Gives {A : Type 0} (n : ℕ) (P : A → Type 0) (read : Reads A) : Type 0 where
  longer : (made : Made) (x : A × Made) → read made ≡ Ok x → length made.texts ≤ length x.1.texts
  holds : (made : Made) (x : A × Made) → read made ≡ Ok x → length x.1.texts ≤ n → P x.0

given : {A : Type 0} {n : ℕ} {P : A → Type 0} (a : A) → P a → Gives n P (gives a)
given {A} {n} {P} a holds = record {
  longer = λ made x e. (kept a).longer made x e;
  holds = λ made x e most. subst (λ (found : A × Made). P found.0) (same_Ok (a, made) x e) holds;
}

refused : {A : Type 0} {n : ℕ} {P : A → Type 0} (fault : ScriptFault) → Gives n P (refuses fault)
refused fault = record { longer = λ made x e. absurd (err-ok _ _ e); holds = λ made x e most. absurd (err-ok _ _ e) }

most_before : (one two : List (List ℕ)) (n : ℕ) → length one ≤ length two → length two ≤ n → length one ≤ n
most_before one two n less most = omega (arith, less, most)

going_on : {A B : Type 0} {n : ℕ} {P : A → Type 0} {Q : B → Type 0} {read : Reads A} {next : A → Reads B}
    → Gives n P read → ((a : A) → Gives n (λ b. P a → Q b) (next a)) → Gives n Q (read >>> next)
going_on {A} {B} {n} {P} {Q} {read} {next} first others = record {
  longer = λ made y e.
      let both = both_gave (read made) (λ found. next found.0 found.1) y e in
      no_shorter made.texts both.0.1.texts y.1.texts (first.longer made both.0 both.1) ((others both.0.0).longer both.0.1 y both.2);
  holds = λ made y e most.
      let both = both_gave (read made) (λ found. next found.0 found.1) y e in
      let second = others both.0.0 in
      second.holds both.0.1 y both.2 most (first.holds made both.0 both.1 (most_before both.0.1.texts y.1.texts n (second.longer both.0.1 y both.2) most));
}

past : {A B : Type 0} {n : ℕ} {Q : B → Type 0} {read : Reads A} {next : A → Reads B} → Keeps read → ((a : A) → Gives n Q (next a)) → Gives n Q (read >>> next)
past {A} {B} {n} {Q} {read} {next} first others = record {
  longer = λ made y e.
      let both = both_gave (read made) (λ found. next found.0 found.1) y e in
      no_shorter made.texts both.0.1.texts y.1.texts (first.longer made both.0 both.1) ((others both.0.0).longer both.0.1 y both.2);
  holds = λ made y e most.
      let both = both_gave (read made) (λ found. next found.0 found.1) y e in
      (others both.0.0).holds both.0.1 y both.2 most;
}

interned_is : (n : ℕ) (text : List ℕ) → Gives n (IsAmong n) (interned text)
interned_is n text = record {
  longer = λ made x e. let found = intern made.texts text in subst (λ x. length made.texts ≤ length x.1.texts) (same_Ok (found.id, record made { texts = found.texts }) x e) (intern_has made.texts text).0;
  holds = λ made x e.
      let found = intern made.texts text in
      let has = (intern_has made.texts text).1 in
      subst (λ (x : TextId × Made). length x.1.texts ≤ n → x.0.0 < n) (same_Ok (found.id, record made { texts = found.texts }) x e) (λ most. omega (arith, has, most));
}

failure_is : (n : ℕ) (tree : Tree) → Gives n (IsAmong n) (failure_of tree)
failure_is n (Text at text) = going_on (interned_is n text) λ id. past (may_fail_keeps id) λ _. given id (λ among. among)
failure_is n tree = going_on {P = IsAmong n} (refused (Shape (place_of tree))) λ id. past (may_fail_keeps id) λ _. given id (λ among. among)

-- ## Expressions

-- a step by which no text goes
past_node : {B : Type 0} {n : ℕ} {Q : B → Type 0} {next : Unit {0} → Reads B} → ((a : Unit {0}) → Gives n Q (next a)) → Gives n Q (one_node >>> next)
past_node {B} {n} {Q} {next} others = record {
  longer = λ made y e. (others tt).longer (record made { nodes = made.nodes + 1 }) y e;
  holds = λ made y e. (others tt).holds (record made { nodes = made.nodes + 1 }) y e;
}

past_form : {B : Type 0} {n : ℕ} {Q : B → Type 0} (at : ℕ) (it : Form) (items : Trees) (next : Unit {0} → Reads B) → ((a : Unit {0}) → Gives n Q (next a)) → Gives n Q (form_node at it items >>> next)
past_form at it items next others = record {
  longer = λ made y e. (past (form_keeps at it items) (λ _. past_node {next = next} others)).longer made y e;
  holds = λ made y e. (past (form_keeps at it items) (λ _. past_node {next = next} others)).holds made y e;
}

mutual
  unfolding item operation HasTextsOf

  item_is : (n : ℕ) (scope : Scope) (full : Bool) (tree : Tree) → Gives n (HasTextsOf n) (item scope full tree)
  item_is n scope full (Word at name) = past (test_keeps _ (Size at)) λ _. past_node λ _. past (used_keeps VariableKind scope (Word at name)) λ slot. given (syntax.Variable slot) tt
  item_is n scope full (Number at z) = past (test_keeps _ (Size at)) λ _. past_node λ _. given (syntax.NumberValue z) tt
  item_is n scope full (Text at text) = past (test_keeps _ (Size at)) λ _. past_node λ _. going_on (interned_is n text) λ id. given (syntax.TextValue id) (λ among. among)
  item_is n scope full (Branch at (And (Word place word) operands)) = operation_is n scope full at (expression_head word) operands
  item_is n scope full (Branch at row) = refused (Shape at)

  operation_is : (n : ℕ) (scope : Scope) (full : Bool) (at : ℕ) (head : Option ExpressionHead) (operands : Trees) → Gives n (HasTextsOf n) (operation scope full at head operands)
  operation_is n scope full at (Some UnitHead) Nil = past (test_keeps _ (Size at)) λ _. past (expression_form_keeps at) λ _. past_node λ _. given syntax.UnitValue tt
  operation_is n scope full at (Some (OperatorHead operator)) (And first (And second Nil)) =
      past (test_keeps _ (Size at)) λ _. past (expression_form_keeps at) λ _. past_node λ _.
      going_on (item_is n scope false first) λ left. going_on (item_is n scope false second) λ right. given (syntax.Operation operator left right) (λ two one. (one, two))
  operation_is n scope full at head operands = refused (Shape at)

traced_are : (n : ℕ) (scope : Scope) (before : ℕ) (row : Trees) → Gives n (HaveTextsOf n) (traced scope before row)
unfolding traced HaveTextsOf
traced_are n scope before Nil = given syntax.NoExpressions tt
traced_are n scope before (And tree row) =
    going_on (item_is n scope (nat_le most_traced before) tree) λ first. going_on (traced_are n scope (before + 1) row) λ others. given (syntax.AndExpression first others) (λ rest one. (one, rest))

-- ## Statements

block_is : (n : ℕ) (these : Reads Statements) → Gives n (HaveTextsOfStatements n) these → Gives n (HasTextsOfBlock n) (block_of these)
unfolding HasTextsOfBlock
block_is n these are = record {
  longer = λ made y e. (going_on {Q = λ (b : Block). Unit {0}} are λ items. given (Begins made.nodes items) (λ _. tt)).longer made y e;
  holds = λ made y e most. (going_on {Q = HasTextsOfBlock n} are λ items. given (Begins made.nodes items) (λ has. has)).holds made y e most;
}

abbrev IsStated : (n : ℕ) → Statement × Scope → Type 0
IsStated n it = HasTextsOfStatement n it.0

mutual
  unfolding statements statement value block branches form HasTextsOfStatement HasTextsOfBlock HaveTextsOfStatements HaveTextsOfBlocks

  statements_are : (n : ℕ) (scope : Scope) (row : Trees) → Gives n (HaveTextsOfStatements n) (statements scope row)
  statements_are n scope Nil = past_node λ _. given Done tt
  statements_are n scope (And tree Nil) = going_on (statement_is n scope true tree) λ it. past_node λ _. given (Then it.0 Done) (λ one. (one, tt))
  statements_are n scope (And tree (And next row)) =
      going_on (statement_is n scope false tree) λ it. going_on (statements_are n it.1 (And next row)) λ others. given (Then it.0 others) (λ rest one. (one, rest))

  statement_is : (n : ℕ) (scope : Scope) (last : Bool) (tree : Tree) → Gives n (IsStated n) (statement scope last tree)
  statement_is n scope last (Branch place (And (Word word_place word) items)) =
      by (form_of word) (λ head. form_is n scope last place head (And (Word word_place word) items))
    where
      by : (found : Option Form) → ((head : Head) → Gives n (IsStated n) (form scope last place head (And (Word word_place word) items)))
          → Gives n (IsStated n) (elim found [
            | None ↦ refuses (Shape place)
            | Some it ↦ (form_node place it items >>> λ _. form scope last place it.head (And (Word word_place word) items))
          ])
      by None rest = refused (Shape place)
      by (Some it) rest = past_form place it items (λ _. form scope last place it.head (And (Word word_place word) items)) (λ _. rest it.head)
  statement_is n scope last tree = refused (Shape (place_of tree))

  value_is : (n : ℕ) (scope : Scope) (tree : Tree) → Gives n (HasTextsOfStatement n) (value scope tree)
  value_is n scope (Branch place (And (Word word_place word) items)) =
      by (form_of word) (λ head. form_is n scope true place head (And (Word word_place word) items))
    where
      by : (found : Option Form) → ((head : Head) → Gives n (IsStated n) (form scope true place head (And (Word word_place word) items)))
          → Gives n (HasTextsOfStatement n) (elim found [
            | None ↦ (expression scope (Branch place (And (Word word_place word) items)) >>> λ e. gives (syntax.Let e))
            | Some it ↦
                (requires_that it.gives (Shape place) >>> λ _.
                form_node place it items >>> λ _.
                form scope true place it.head (And (Word word_place word) items) >>> λ inner.
                gives (syntax.LetForm inner.0))
          ])
      by None rest = going_on (item_is n scope false (Branch place (And (Word word_place word) items))) λ e. given (syntax.Let e) (λ has. has)
      by (Some it) rest =
          past (test_keeps it.gives (Shape place)) λ _.
          past_form place it items (λ _. form scope true place it.head (And (Word word_place word) items) >>> λ inner. gives (syntax.LetForm inner.0))
          (λ _. going_on (rest it.head) λ inner. given (syntax.LetForm inner.0) (λ has. has))
  value_is n scope tree = going_on (item_is n scope false tree) λ e. given (syntax.Let e) (λ has. has)

  block_item_is : (n : ℕ) (scope : Scope) (full : Bool) (tree : Tree) → Gives n (HasTextsOfBlock n) (block scope full tree)
  block_item_is n scope full (Branch place row) = past (test_keeps _ (Size place)) λ _. block_is n (statements scope row) (statements_are n scope row)
  block_item_is n scope full tree = refused (Shape (place_of tree))

  branches_are : (n : ℕ) (scope : Scope) (before : ℕ) (row : Trees) → Gives n (HaveTextsOfBlocks n) (branches scope before row)
  branches_are n scope before Nil = given NoBlocks tt
  branches_are n scope before (And tree row) =
      going_on (block_item_is n scope (nat_le most_branches before) tree) λ first. going_on (branches_are n scope (before + 1) row) λ others. given (AndBlock first others) (λ rest one. (one, rest))

  form_is : (n : ℕ) (scope : Scope) (last : Bool) (place : ℕ) (head : Head) (items : Trees) → Gives n (IsStated n) (form scope last place head items)
  form_is n scope last place LetHead (And word (And name (And bound Nil))) =
      past (bring_keeps VariableKind scope name) λ behind. going_on (value_is n scope bound) λ it. given (it, behind) (λ has. has)
  form_is n scope last place IfHead (And word (And test (And then_block (And else_block Nil)))) =
      going_on (item_is n scope false test) λ e. going_on (block_item_is n scope false then_block) λ b. going_on (block_item_is n scope false else_block) λ c.
      given (syntax.If e b c, scope) (λ three two one. (one, two, three))
  form_is n scope last place GiveHead (And word (And given_value Nil)) =
      past (test_keeps last (Shape place)) λ _. going_on (item_is n scope false given_value) λ e. given (syntax.Give e, scope) (λ has. has)
  form_is n scope last place RaiseHead (And word (And text Nil)) =
      going_on (failure_is n text) λ id. given (syntax.Raise id, scope) (λ has. has)
  form_is n scope last place TryHead (And word (And tried (And name (And handler Nil)))) =
      going_on (block_item_is n scope false tried) λ b. past (bring_keeps VariableKind scope name) λ inner. going_on (block_item_is n inner false handler) λ c.
      given (syntax.Try b c, scope) (λ two one. (one, two))
  form_is n scope last place RepeatHead (And word (And name (And times items))) =
      past (bring_keeps VariableKind scope name) λ inner. going_on (item_is n scope false times) λ e.
      going_on (block_is n (statements inner items) (statements_are n inner items)) λ body. given (syntax.Repeat e body, scope) (λ two one. (one, two))
  form_is n scope last place LoopHead (And word items) =
      going_on (block_is n (statements scope items) (statements_are n scope items)) λ body. given (syntax.Loop body, scope) (λ has. has)
  form_is n scope last place TraceHead (And word items) =
      going_on (traced_are n scope 0 items) λ es. given (syntax.Trace es, scope) (λ has. has)
  form_is n scope last place YieldHead (And word Nil) =
      given (syntax.Yield, scope) tt
  form_is n scope last place CheckHead (And word Nil) =
      given (syntax.Check, scope) tt
  form_is n scope last place AwaitCancelHead (And word Nil) =
      given (syntax.AwaitCancel, scope) tt
  form_is n scope last place NowHead (And word Nil) =
      given (syntax.Now, scope) tt
  form_is n scope last place SubHead (And word (And name items)) =
      past (bring_keeps ContextKind scope name) λ inner. going_on (block_is n (statements inner items) (statements_are n inner items)) λ body. given (syntax.Sub body, scope) (λ has. has)
  form_is n scope last place ProtectHead (And word items) =
      going_on (block_is n (statements scope items) (statements_are n scope items)) λ body. given (syntax.Protect body, scope) (λ has. has)
  form_is n scope last place CancelHead (And word (And name (And text Nil))) =
      past (used_keeps ContextKind scope name) λ context. going_on (failure_is n text) λ id. given (syntax.Cancel context id, scope) (λ has. has)
  form_is n scope last place SwitchHead (And word (And name items)) =
      past (bring_keeps SwitchKind scope name) λ inner. going_on (block_is n (statements inner items) (statements_are n inner items)) λ body. given (syntax.Switch body, scope) (λ has. has)
  form_is n scope last place ForkHead (And word (And name items)) =
      past (used_keeps SwitchKind scope name) λ switch. going_on (block_is n (statements scope items) (statements_are n scope items)) λ body. given (syntax.Fork syntax.Plain switch body, scope) (λ has. has)
  form_is n scope last place ForkDaemonHead (And word (And name items)) =
      past (used_keeps SwitchKind scope name) λ switch. going_on (block_is n (statements scope items) (statements_are n scope items)) λ body. given (syntax.Fork syntax.Daemon switch body, scope) (λ has. has)
  form_is n scope last place ForkPromiseHead (And word (And name (And promise_name items))) =
      past (used_keeps SwitchKind scope name) λ switch. past (used_keeps PromiseKind scope promise_name) λ promise. going_on (block_is n (statements scope items) (statements_are n scope items)) λ body. given (syntax.Fork (syntax.Promising promise) switch body, scope) (λ has. has)
  form_is n scope last place FailHead (And word (And name (And text Nil))) =
      past (used_keeps SwitchKind scope name) λ switch. going_on (failure_is n text) λ id. given (syntax.Fail switch id, scope) (λ has. has)
  form_is n scope last place OnReleaseHead (And word (And name items)) =
      past (used_keeps SwitchKind scope name) λ switch. going_on (block_is n (statements scope items) (statements_are n scope items)) λ body. given (syntax.OnRelease switch body, scope) (λ has. has)
  form_is n scope last place (PairHead group) (And word (And first (And second Nil))) =
      going_on (branches_are n scope 0 (And first (And second Nil))) λ blocks. given (syntax.Branches group blocks, scope) (λ has. has)
  form_is n scope last place (RowHead group) (And word items) =
      going_on (branches_are n scope 0 items) λ blocks. given (syntax.Branches group blocks, scope) (λ has. has)
  form_is n scope last place (ObjectHead call) (And word (And name Nil)) =
      past (used_keeps (object_kind call) scope name) λ object. given (syntax.OnObject call object, scope) tt
  form_is n scope last place (ObjectHeadWith call) (And word (And name (And operand Nil))) =
      past (used_keeps (object_kind_with call) scope name) λ object. going_on (item_is n scope false operand) λ e. given (syntax.OnObjectWith call object e, scope) (λ has. has)
  form_is n scope last place UseRwHead (And word (And name items)) =
      past (used_keeps MutexKind scope name) λ mutex. going_on (block_is n (statements scope items) (statements_are n scope items)) λ body. given (syntax.UseRw mutex body, scope) (λ has. has)
  form_is n scope last place UsePoolHead (And word (And pool_name (And name items))) =
      past (used_keeps PoolKind scope pool_name) λ pool. past (bring_keeps VariableKind scope name) λ inner. going_on (block_is n (statements inner items) (statements_are n inner items)) λ body. given (syntax.UsePool pool body, scope) (λ has. has)
  form_is n scope last place SubmitHead (And word (And name (And weight_number (And names items)))) =
      past (used_keeps ExecutorKind scope name) λ executor. past (number_keeps weights weight_number) λ weight. past (captured_keeps scope names) λ taken.
      going_on (block_is n (statements (job_scope scope taken) items) (statements_are n (job_scope scope taken) items)) λ body. given (syntax.Submit executor weight (slots_of taken) body, scope) (λ has. has)
  form_is n scope last place SleepHead (And word (And time Nil)) =
      going_on (item_is n scope false time) λ e. given (syntax.Sleep e, scope) (λ has. has)
  form_is n scope last place BufReadHead (And word (And name (And flow_name (And limit_number items)))) =
      past (bring_keeps ReaderKind scope name) λ inner. past (used_keeps FlowKind scope flow_name) λ flow. past (number_keeps reader_limits limit_number) λ limit.
      going_on (block_is n (statements inner items) (statements_are n inner items)) λ body. given (syntax.BufRead flow limit body, scope) (λ has. has)
  form_is n scope last place (ReaderHead call) (And word (And name Nil)) =
      past (used_keeps ReaderKind scope name) λ reader. given (syntax.OnReader call reader, scope) tt
  form_is n scope last place TakeBytesHead (And word (And name (And count Nil))) =
      past (used_keeps ReaderKind scope name) λ reader. going_on (item_is n scope false count) λ e. given (syntax.TakeBytes reader e, scope) (λ has. has)
  form_is n scope last place CopyHead (And word (And from_name (And to_name Nil))) =
      past (used_keeps FlowKind scope from_name) λ from. past (used_keeps FlowKind scope to_name) λ to. given (syntax.Copy from to, scope) tt
  form_is n scope last place BufWriteHead (And word (And name (And flow_name items))) =
      past (bring_keeps WriterKind scope name) λ inner. past (used_keeps FlowKind scope flow_name) λ flow. going_on (block_is n (statements inner items) (statements_are n inner items)) λ body. given (syntax.BufWrite flow body, scope) (λ has. has)
  form_is n scope last place PutHead (And word (And name (And text Nil))) =
      past (used_keeps WriterKind scope name) λ writer. going_on (item_is n scope false text) λ e. given (syntax.Put writer e, scope) (λ has. has)
  form_is n scope last place OpenDirHead (And word (And directory_name (And path (And name items)))) =
      past (directory_keeps scope directory_name) λ directory. going_on (item_is n scope false path) λ e. past (bring_keeps CapabilityKind scope name) λ inner.
      going_on (block_is n (statements inner items) (statements_are n inner items)) λ body. given (syntax.OpenDir directory e body, scope) (λ two one. (one, two))
  form_is n scope last place (PathHead call) (And word (And name (And path Nil))) =
      past (directory_keeps scope name) λ directory. going_on (item_is n scope false path) λ e. given (syntax.OnPath call directory e, scope) (λ has. has)
  form_is n scope last place (SaveHead only_new) (And word (And name (And path (And content Nil)))) =
      past (directory_keeps scope name) λ directory. going_on (item_is n scope false path) λ e. going_on (item_is n scope false content) λ c.
      given (syntax.Save only_new directory e c, scope) (λ two one. (one, two))
  form_is n scope last place head items = refused (Shape place)

-- ## Declarations

text_is : (n : ℕ) (tree : Tree) → Gives n (IsAmong n) (text_of tree)
text_is n (Text at text) = interned_is n text
text_is n tree = refused (Shape (place_of tree))

step_by_is : (n : ℕ) (at : ℕ) (head : Option StepHead) (items : Trees) → Gives n (HasTextOfStep n) (step_by at head items)
step_by_is n at (Some DataHead) (And text Nil) = past (step_keeps at) λ _. past (data_keeps text) λ bytes. given (flow.Data bytes) tt
step_by_is n at (Some FaultHead) (And text Nil) = past (step_keeps at) λ _. going_on (text_is n text) λ id. given (flow.Fault id) (λ among. among)
step_by_is n at (Some PauseHead) Nil = past (step_keeps at) λ _. given flow.Pause tt
step_by_is n at head items = refused (Shape at)

step_is : (n : ℕ) (tree : Tree) → Gives n (HasTextOfStep n) (step tree)
step_is n (Branch at (And (Word place word) items)) = step_by_is n at (step_head word) items
step_is n tree = refused (Shape (place_of tree))

steps_are : (n : ℕ) (row : Trees) → Gives n (Each (HasTextOfStep n)) (steps row)
unfolding steps
steps_are n Nil = given [] tt
steps_are n (And tree row) = going_on (step_is n tree) λ first. going_on (steps_are n row) λ others. given (first ∷ others) (λ more one. (one, more))

items_are : (n : ℕ) (kind : Kind) (bodies : ℕ) (row : Trees) → IfSome (items_of kind bodies row) (Gives n (HasTextsOfDeclaration n))
items_are n StreamKind bodies (And capacity Nil) = past (number_keeps capacities capacity) λ k. given (Stream k) tt
items_are n PromiseKind bodies Nil = given Promise tt
items_are n SemaphoreKind bodies (And count Nil) = past (number_keeps counts count) λ k. given (Semaphore k) tt
items_are n MutexKind bodies Nil = given Mutex tt
items_are n PoolKind bodies (And size Nil) = past (number_keeps sizes size) λ k. given (Pool k) tt
items_are n ExecutorKind bodies (And first row) = past (workers_keep bodies 0 (And first row)) λ these. given (Executor these) tt
items_are n FlowKind bodies row = going_on (steps_are n row) λ these. given (Flow these) (λ has. has)
items_are n DirectoryKind bodies row = past (entries_keep [] row) λ these. given (Dir these) tt
items_are n kind bodies row = tt

each_both : {A : Type 0} (P : A → Type 0) (xs ys : List A) → Each P xs → Each P ys → Each P (xs ++ ys)
each_both P [] ys has others = others
each_both P (x ∷ xs) ys has others = (has.0, each_both P xs ys has.1 others)

abbrev AreDeclared : (n : ℕ) → Declared → Type 0
AreDeclared n it = Each (IsAmong n) it.names × Each (HasTextsOfDeclaration n) it.declarations

-- more is declared than before, so that it goes on
abbrev GoesOn : (n : ℕ) (before : Declared) → Declared → Type 0
GoesOn n before after = AreDeclared n before → AreDeclared n after

declare_is : (n : ℕ) (before : Declared) (kind : Kind) (name : Tree) (items : Reads Declaration) → Gives n (HasTextsOfDeclaration n) items → Gives n (GoesOn n before) (declare before kind name items)
declare_is n before kind (Word at name) items own =
    past (test_keeps (is_none (named_in before.scope name)) (Twice at)) λ _. going_on (interned_is n name) λ id. going_on own λ it.
    given (with_declaration before kind name id it)
    (λ has among are. (each_both (IsAmong n) before.names (id ∷ []) are.0 (among, tt), each_both (HasTextsOfDeclaration n) before.declarations (it ∷ []) are.1 (has, tt)))
declare_is n before kind tree items own = refused (Shape (place_of tree))

declaration_by_is : (n : ℕ) (limits : Limits) (before : Declared) (at : ℕ) (form : DeclarationForm) (name : Tree) (items : Option (Reads Declaration)) → IfSome items (Gives n (HasTextsOfDeclaration n))
    → Gives n (GoesOn n before) (declaration_by limits before at form name items)
declaration_by_is n limits before at form name None own = refused (Shape at)
declaration_by_is n limits before at form name (Some items) own =
    past (test_keeps (nat_lt (length before.declarations) limits.declarations) (Size at)) λ _.
    past (changed (λ made. record made { formed = made.formed ++ record { at = at; feature = form.feature; mocked = form.mocked } ∷ [] }) (λ made. refl) (λ made. refl)) λ _.
    declare_is n before form.kind name items own

declaration_is : (n : ℕ) (limits : Limits) (bodies : ℕ) (before : Declared) (tree : Tree) → Gives n (GoesOn n before) (declaration limits bodies before tree)
unfolding declaration
declaration_is n limits bodies before (Branch at (And (Word place word) (And name items))) = by (declaration_form_of word)
  where
    by : (found : Option DeclarationForm) → Gives n (GoesOn n before) (elim found [
      | None ↦ refuses (Shape at)
      | Some form ↦ declaration_by limits before at form name (items_of form.kind bodies items)
    ])
    by None = refused (Shape at)
    by (Some form) = declaration_by_is n limits before at form name (items_of form.kind bodies items) (items_are n form.kind bodies items)
declaration_is n limits bodies before tree = refused (Shape (place_of tree))

weaker : {A : Type 0} {n : ℕ} {P Q : A → Type 0} {read : Reads A} → ((a : A) → P a → Q a) → Gives n P read → Gives n Q read
weaker so is = record { longer = is.longer; holds = λ made x e most. so x.0 (is.holds made x e most) }

declarations_are : (n : ℕ) (limits : Limits) (bodies : ℕ) (before : Declared) (row : Trees) → Gives n (GoesOn n before) (declarations_behind limits bodies before row)
unfolding declarations_behind
declarations_are n limits bodies before Nil = given before (λ are. are)
declarations_are n limits bodies before (And tree row) =
    going_on (declaration_is n limits bodies before tree) λ more. weaker (λ after goes first are. goes (first are)) (declarations_are n limits bodies more row)

-- ## Scripts

abbrev HaveBodies : (n : ℕ) → List Block → Type 0
HaveBodies n bodies = Each (HasTextsOfBlock n) bodies

body_is : (n : ℕ) (declared : Declared) (items : Trees) → Gives n (HasTextsOfBlock n) (body declared items)
body_is n declared items = block_is n (statements (body_scope declared) items) (statements_are n (body_scope declared) items)

domains_are : (n : ℕ) (limits : Limits) (declared : Declared) (before : ℕ) (row : Trees) → Gives n (HaveBodies n) (domains limits declared before row)
unfolding domains
domains_are n limits declared before Nil = given [] tt
domains_are n limits declared before (And tree row) = by (items_behind (codes "domain") tree) (domains_are n limits declared (before + 1) row)
  where
    by : (found : Option Trees) → Gives n (HaveBodies n) (domains limits declared (before + 1) row)
        → Gives n (HaveBodies n) (elim found [
          | None ↦ refuses (Shape (place_of tree))
          | Some items ↦
              (requires_that (nat_lt before limits.bodies) (Size (place_of tree)) >>> λ _.
              body declared items >>> λ first.
              domains limits declared (before + 1) row >>> λ others.
              gives (first ∷ others))
        ])
    by None rest = refused (Shape (place_of tree))
    by (Some items) rest =
        past (test_keeps (nat_lt before limits.bodies) (Size (place_of tree))) λ _. going_on (body_is n declared items) λ first. going_on rest λ others. given (first ∷ others) (λ more one. (one, more))

abbrev HaveParts : (n : ℕ) → Declared × List Block → Type 0
HaveParts n read = HaveBodies n read.1 × AreDeclared n read.0

parts_are : (n : ℕ) (limits : Limits) (parts : Parts) → Gives n (HaveParts n) (read_parts limits parts)
parts_are n limits parts =
    going_on (declarations_are n limits (bodies_of parts) nothing_declared parts.before) λ declared.
    going_on (body_is n declared parts.main) λ main. going_on (domains_are n limits declared 1 parts.behind) λ others.
    given (declared, main ∷ others) (λ more one goes. ((one, more), goes (tt, tt)))

-- the texts of a script
pub record HasItsTexts (script : Script) : Type 0 where
  pub bodies : HasBodyTexts script
  pub declared : HasDeclaredTexts script

same_count : (n : ℕ) → n ≤ n
same_count n = omega arith

parts_have : (version : ℕ) (parts : Parts) (script : Script) → script_of_parts version parts ≡ Ok script → HasItsTexts script
parts_have version parts script e =
    let both = both_gave (read_parts (limits_of version) parts nothing_made) (λ found. Ok (script_by version parts found.0.0 found.0.1 found.1)) script e in
    let n = length both.0.1.texts in
    let are = (parts_are n (limits_of version) parts).holds nothing_made both.0 both.1 (same_count n) in
    subst HasItsTexts (same_Ok (script_by version parts both.0.0.0 both.0.0.1 both.0.1) script both.2)
    (record { bodies = are.0; declared = record { names = are.1.0; declarations = are.1.1 } })

root_has : (at : ℕ) (row : Trees) (script : Script) → root_of at row ≡ Ok script → HasItsTexts script
root_has at (And (Number place number) row) script e = by (parts_of row) e
  where
    by_version : (parts : Parts) (found : Option ℕ)
        → ◌≡◌ {A = Result Script ScriptFault} (elim found [ None ↦ Err (Shape place) | Some version ↦ script_of_parts version parts ]) (Ok script) → HasItsTexts script
    by_version parts (Some version) e = parts_have version parts script e
    by_version parts None e = absurd (err-ok _ _ e)

    by : (found : Option Parts) → ◌≡◌ {A = Result Script ScriptFault} (elim found [
      | None ↦ Err (Shape at)
      | Some parts ↦ elim (version_of number) [ None ↦ Err (Shape place) | Some version ↦ script_of_parts version parts ]
    ]) (Ok script) → HasItsTexts script
    by None e = absurd (err-ok _ _ e)
    by (Some parts) e = by_version parts (version_of number) e
root_has at row script e = absurd (err-ok _ _ e)

-- the texts of a script that is read stand in its table
pub script_has_texts : (tree : Tree) (script : Script) → script_of tree ≡ Ok script → HasItsTexts script
unfolding script_of
script_has_texts tree script e = by (items_behind (codes "eio") tree) e
  where
    by : (found : Option Trees) → ◌≡◌ {A = Result Script ScriptFault} (elim found [
      | None ↦ Err (Shape (place_of tree))
      | Some items ↦ root_of (place_of tree) items
    ]) (Ok script) → HasItsTexts script
    by None e = absurd (err-ok _ _ e)
    by (Some items) e = root_has (place_of tree) items script e
