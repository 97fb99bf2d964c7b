-- Statements that are read name texts that are made, and fail with those that are listed. One clause for each form, as it is read.
use Rattle.std.proofs.Common.{ℕ, ◌+◌, Bool, true, false, Option, Some, None}
use Rattle.std.specs.Prelude.{nat_le}
use Rattle.spec_script.specs.declared.Feature.TheVariants.{Exceptions}
use Rattle.spec_script.specs.Captures.{slots_of, job_scope}
use Rattle.spec_script.specs.Expressions.{item, operation, expression, traced}
use Rattle.spec_script.specs.Faults.{Shape, Size}
use Rattle.spec_script.specs.Forms.{ExpressionHead, UnitHead, OperatorHead, expression_head, Head, LetHead, IfHead, GiveHead, RaiseHead, TryHead, RepeatHead, LoopHead, TraceHead, YieldHead, CheckHead, AwaitCancelHead, SubHead, ProtectHead, CancelHead, SwitchHead, ForkHead, ForkDaemonHead, ForkPromiseHead, FailHead, OnReleaseHead, PairHead, RowHead, ObjectHead, ObjectHeadWith, UseRwHead, UsePoolHead, SubmitHead, SleepHead, NowHead, BufReadHead, ReaderHead, TakeBytesHead, CopyHead, BufWriteHead, PutHead, OpenDirHead, PathHead, SaveHead, Form, form_of}
use Rattle.spec_script.specs.Kinds.{VariableKind, ContextKind, SwitchKind, ReaderKind, WriterKind, CapabilityKind, PromiseKind, MutexKind, PoolKind, ExecutorKind, FlowKind, object_kind, object_kind_with}
use Rattle.spec_script.specs.Limits.{weights, reader_limits, most_branches, most_traced}
use Rattle.spec_script.specs.Reads.{Reads, ◌>>>◌, gives, refuses, requires_that}
use Rattle.spec_script.specs.Scopes.{Scope}
use Rattle.spec_script.specs.Statements.{form_node, block_of, statements, statement, value, block, branches, form}
use Rattle.spec_script.specs.Syntax as syntax
use Rattle.spec_script.specs.Syntax.{Expression, Expressions, Statement, Block, Begins, Statements, Done, Then, Blocks, NoBlocks, AndBlock}
use Rattle.spec_script.specs.Trees.{Tree, Word, Number, Text, Branch, Trees, Nil, And, place_of}
use Rattle.law_fiber.specs.Texts.Texts.{IsWrittenExpression, AreWrittenExpressions, IsWrittenStatement, IsWrittenBlock, AreWritten, AreWrittenBlocks}
use Rattle.law_fiber.proofs.Texts.ReadNames.{number_keeps, bring_keeps, used_keeps, directory_keeps, captured_keeps}
use Rattle.law_fiber.proofs.Texts.ReadSteps.{End, written_by, Brings, given, refused, going_on, past, test_keeps, one_node_keeps, next_node_keeps, form_keeps, form_node_keeps, interned_is, failure_is}

past_form : {end : End} {B : Type 0} {Q : B → Type 0} (at : ℕ) (it : Form) (items : Trees) (next : Unit {0} → Reads B)
    → ((a : Unit {0}) → Brings end Q (next a)) → Brings end Q (form_node at it items >>> next)
past_form at it items next others = past (form_node_keeps at it items) others

-- ## Expressions

mutual
  unfolding item operation IsWrittenExpression

  item_is : (end : End) (scope : Scope) (full : Bool) (tree : Tree) → Brings end (IsWrittenExpression (written_by end)) (item scope full tree)
  item_is end scope full (Word at name) =
      past (test_keeps _ (Size at)) λ _. past one_node_keeps λ _. past (used_keeps VariableKind scope (Word at name)) λ slot. given (syntax.Variable slot) tt
  item_is end scope full (Number at z) = past (test_keeps _ (Size at)) λ _. past one_node_keeps λ _. given (syntax.NumberValue z) tt
  item_is end scope full (Text at text) =
      past (test_keeps _ (Size at)) λ _. past one_node_keeps λ _. going_on (interned_is text) λ id. given (syntax.TextValue id) (λ among. among)
  item_is end scope full (Branch at (And (Word place word) operands)) = operation_is end scope full at (expression_head word) operands
  item_is end scope full (Branch at row) = refused (Shape at)

  operation_is : (end : End) (scope : Scope) (full : Bool) (at : ℕ) (head : Option ExpressionHead) (operands : Trees)
      → Brings end (IsWrittenExpression (written_by end)) (operation scope full at head operands)
  operation_is end scope full at (Some UnitHead) Nil =
      past (test_keeps _ (Size at)) λ _. past (form_keeps at Exceptions false) λ _. past one_node_keeps λ _. given syntax.UnitValue tt
  operation_is end scope full at (Some (OperatorHead operator)) (And first (And second Nil)) =
      past (test_keeps _ (Size at)) λ _. past (form_keeps at Exceptions false) λ _. past one_node_keeps λ _.
      going_on (item_is end scope false first) λ left. going_on (item_is end scope false second) λ right.
      given (syntax.Operation operator left right) (λ two one. (one, two))
  operation_is end scope full at head operands = refused (Shape at)

traced_are : (end : End) (scope : Scope) (before : ℕ) (row : Trees) → Brings end (AreWrittenExpressions (written_by end)) (traced scope before row)
unfolding traced AreWrittenExpressions
traced_are end scope before Nil = given syntax.NoExpressions tt
traced_are end scope before (And tree row) =
    going_on (item_is end scope (nat_le most_traced before) tree) λ first. going_on (traced_are end scope (before + 1) row) λ others.
    given (syntax.AndExpression first others) (λ rest one. (one, rest))

-- ## Statements

pub block_is : (end : End) (these : Reads Statements) → Brings end (AreWritten (written_by end)) these
    → Brings end (IsWrittenBlock (written_by end)) (block_of these)
unfolding IsWrittenBlock
block_is end these are = past next_node_keeps λ number. going_on are λ read. given (Begins number read) (λ has. has)

abbrev IsStated : (end : End) → Statement × Scope → Type 0
IsStated end it = IsWrittenStatement (written_by end) it.0

mutual
  unfolding statements statement value block branches form IsWrittenStatement IsWrittenBlock AreWritten AreWrittenBlocks

  pub statements_are : (end : End) (scope : Scope) (row : Trees) → Brings end (AreWritten (written_by end)) (statements scope row)
  statements_are end scope Nil = past one_node_keeps λ _. given Done tt
  statements_are end scope (And tree Nil) = going_on (statement_is end scope true tree) λ it. past one_node_keeps λ _. given (Then it.0 Done) (λ one. (one, tt))
  statements_are end scope (And tree (And next row)) =
      going_on (statement_is end scope false tree) λ it. going_on (statements_are end it.1 (And next row)) λ others.
      given (Then it.0 others) (λ rest one. (one, rest))

  statement_is : (end : End) (scope : Scope) (last : Bool) (tree : Tree) → Brings end (IsStated end) (statement scope last tree)
  statement_is end scope last (Branch place (And (Word word_place word) items)) =
      by (form_of word) (λ head. form_is end scope last place head (And (Word word_place word) items))
    where
      by : (found : Option Form) → ((head : Head) → Brings end (IsStated end) (form scope last place head (And (Word word_place word) items)))
          → Brings end (IsStated end) (elim found [
            | None ↦ refuses (Shape place)
            | Some it ↦ (form_node place it items >>> λ _. form scope last place it.head (And (Word word_place word) items))
          ])
      by None rest = refused (Shape place)
      by (Some it) rest = past_form place it items (λ _. form scope last place it.head (And (Word word_place word) items)) (λ _. rest it.head)
  statement_is end scope last tree = refused (Shape (place_of tree))

  value_is : (end : End) (scope : Scope) (tree : Tree) → Brings end (IsWrittenStatement (written_by end)) (value scope tree)
  value_is end scope (Branch place (And (Word word_place word) items)) =
      by (form_of word) (λ head. form_is end scope true place head (And (Word word_place word) items))
    where
      by : (found : Option Form) → ((head : Head) → Brings end (IsStated end) (form scope true place head (And (Word word_place word) items)))
          → Brings end (IsWrittenStatement (written_by end)) (elim found [
            | None ↦ (expression scope (Branch place (And (Word word_place word) items)) >>> λ e. gives (syntax.Let e))
            | Some it ↦
                (requires_that it.gives (Shape place) >>> λ _.
                form_node place it items >>> λ _.
                form scope true place it.head (And (Word word_place word) items) >>> λ inner.
                gives (syntax.LetForm inner.0))
          ])
      by None rest = going_on (item_is end scope false (Branch place (And (Word word_place word) items))) λ e. given (syntax.Let e) (λ has. has)
      by (Some it) rest =
          past (test_keeps it.gives (Shape place)) λ _.
          past_form place it items (λ _. form scope true place it.head (And (Word word_place word) items) >>> λ inner. gives (syntax.LetForm inner.0))
          (λ _. going_on (rest it.head) λ inner. given (syntax.LetForm inner.0) (λ has. has))
  value_is end scope tree = going_on (item_is end scope false tree) λ e. given (syntax.Let e) (λ has. has)

  block_item_is : (end : End) (scope : Scope) (full : Bool) (tree : Tree) → Brings end (IsWrittenBlock (written_by end)) (block scope full tree)
  block_item_is end scope full (Branch place row) = past (test_keeps _ (Size place)) λ _. block_is end (statements scope row) (statements_are end scope row)
  block_item_is end scope full tree = refused (Shape (place_of tree))

  branches_are : (end : End) (scope : Scope) (before : ℕ) (row : Trees) → Brings end (AreWrittenBlocks (written_by end)) (branches scope before row)
  branches_are end scope before Nil = given NoBlocks tt
  branches_are end scope before (And tree row) =
      going_on (block_item_is end scope (nat_le most_branches before) tree) λ first. going_on (branches_are end scope (before + 1) row) λ others.
      given (AndBlock first others) (λ rest one. (one, rest))

  form_is : (end : End) (scope : Scope) (last : Bool) (place : ℕ) (head : Head) (items : Trees) → Brings end (IsStated end) (form scope last place head items)
  form_is end scope last place LetHead (And word (And name (And bound Nil))) =
      past (bring_keeps VariableKind scope name) λ behind. going_on (value_is end scope bound) λ it. given (it, behind) (λ has. has)
  form_is end scope last place IfHead (And word (And test (And then_block (And else_block Nil)))) =
      going_on (item_is end scope false test) λ e. going_on (block_item_is end scope false then_block) λ b.
      going_on (block_item_is end scope false else_block) λ c.
      given (syntax.If e b c, scope) (λ three two one. (one, two, three))
  form_is end scope last place GiveHead (And word (And given_value Nil)) =
      past (test_keeps last (Shape place)) λ _. going_on (item_is end scope false given_value) λ e. given (syntax.Give e, scope) (λ has. has)
  form_is end scope last place RaiseHead (And word (And text Nil)) =
      going_on (failure_is text) λ id. given (syntax.Raise id, scope) (λ has. has)
  form_is end scope last place TryHead (And word (And tried (And name (And handler Nil)))) =
      going_on (block_item_is end scope false tried) λ b. past (bring_keeps VariableKind scope name) λ inner.
      going_on (block_item_is end inner false handler) λ c.
      given (syntax.Try b c, scope) (λ two one. (one, two))
  form_is end scope last place RepeatHead (And word (And name (And times items))) =
      past (bring_keeps VariableKind scope name) λ inner. going_on (item_is end scope false times) λ e.
      going_on (block_is end (statements inner items) (statements_are end inner items)) λ body. given (syntax.Repeat e body, scope) (λ two one. (one, two))
  form_is end scope last place LoopHead (And word items) =
      going_on (block_is end (statements scope items) (statements_are end scope items)) λ body. given (syntax.Loop body, scope) (λ has. has)
  form_is end scope last place TraceHead (And word items) =
      going_on (traced_are end scope 0 items) λ es. given (syntax.Trace es, scope) (λ has. has)
  form_is end scope last place YieldHead (And word Nil) =
      given (syntax.Yield, scope) tt
  form_is end scope last place CheckHead (And word Nil) =
      given (syntax.Check, scope) tt
  form_is end scope last place AwaitCancelHead (And word Nil) =
      given (syntax.AwaitCancel, scope) tt
  form_is end scope last place NowHead (And word Nil) =
      given (syntax.Now, scope) tt
  form_is end scope last place SubHead (And word (And name items)) =
      past (bring_keeps ContextKind scope name) λ inner. going_on (block_is end (statements inner items) (statements_are end inner items)) λ body.
      given (syntax.Sub body, scope) (λ has. has)
  form_is end scope last place ProtectHead (And word items) =
      going_on (block_is end (statements scope items) (statements_are end scope items)) λ body. given (syntax.Protect body, scope) (λ has. has)
  form_is end scope last place CancelHead (And word (And name (And text Nil))) =
      past (used_keeps ContextKind scope name) λ context. going_on (failure_is text) λ id. given (syntax.Cancel context id, scope) (λ has. has)
  form_is end scope last place SwitchHead (And word (And name items)) =
      past (bring_keeps SwitchKind scope name) λ inner. going_on (block_is end (statements inner items) (statements_are end inner items)) λ body.
      given (syntax.Switch body, scope) (λ has. has)
  form_is end scope last place ForkHead (And word (And name items)) =
      past (used_keeps SwitchKind scope name) λ switch. going_on (block_is end (statements scope items) (statements_are end scope items)) λ body.
      given (syntax.Fork syntax.Plain switch body, scope) (λ has. has)
  form_is end scope last place ForkDaemonHead (And word (And name items)) =
      past (used_keeps SwitchKind scope name) λ switch. going_on (block_is end (statements scope items) (statements_are end scope items)) λ body.
      given (syntax.Fork syntax.Daemon switch body, scope) (λ has. has)
  form_is end scope last place ForkPromiseHead (And word (And name (And promise_name items))) =
      past (used_keeps SwitchKind scope name) λ switch. past (used_keeps PromiseKind scope promise_name) λ promise.
      going_on (block_is end (statements scope items) (statements_are end scope items)) λ body.
      given (syntax.Fork (syntax.Promising promise) switch body, scope) (λ has. has)
  form_is end scope last place FailHead (And word (And name (And text Nil))) =
      past (used_keeps SwitchKind scope name) λ switch. going_on (failure_is text) λ id. given (syntax.Fail switch id, scope) (λ has. has)
  form_is end scope last place OnReleaseHead (And word (And name items)) =
      past (used_keeps SwitchKind scope name) λ switch. going_on (block_is end (statements scope items) (statements_are end scope items)) λ body.
      given (syntax.OnRelease switch body, scope) (λ has. has)
  form_is end scope last place (PairHead group) (And word (And first (And second Nil))) =
      going_on (branches_are end scope 0 (And first (And second Nil))) λ blocks. given (syntax.Branches group blocks, scope) (λ has. has)
  form_is end scope last place (RowHead group) (And word items) =
      going_on (branches_are end scope 0 items) λ blocks. given (syntax.Branches group blocks, scope) (λ has. has)
  form_is end scope last place (ObjectHead call) (And word (And name Nil)) =
      past (used_keeps (object_kind call) scope name) λ object. given (syntax.OnObject call object, scope) tt
  form_is end scope last place (ObjectHeadWith call) (And word (And name (And operand Nil))) =
      past (used_keeps (object_kind_with call) scope name) λ object. going_on (item_is end scope false operand) λ e.
      given (syntax.OnObjectWith call object e, scope) (λ has. has)
  form_is end scope last place UseRwHead (And word (And name items)) =
      past (used_keeps MutexKind scope name) λ mutex. going_on (block_is end (statements scope items) (statements_are end scope items)) λ body.
      given (syntax.UseRw mutex body, scope) (λ has. has)
  form_is end scope last place UsePoolHead (And word (And pool_name (And name items))) =
      past (used_keeps PoolKind scope pool_name) λ pool. past (bring_keeps VariableKind scope name) λ inner.
      going_on (block_is end (statements inner items) (statements_are end inner items)) λ body. given (syntax.UsePool pool body, scope) (λ has. has)
  form_is end scope last place SubmitHead (And word (And name (And weight_number (And names items)))) =
      past (used_keeps ExecutorKind scope name) λ executor. past (number_keeps weights weight_number) λ weight. past (captured_keeps scope names) λ taken.
      going_on (block_is end (statements (job_scope scope taken) items) (statements_are end (job_scope scope taken) items)) λ body.
      given (syntax.Submit executor weight (slots_of taken) body, scope) (λ has. has)
  form_is end scope last place SleepHead (And word (And time Nil)) =
      going_on (item_is end scope false time) λ e. given (syntax.Sleep e, scope) (λ has. has)
  form_is end scope last place BufReadHead (And word (And name (And flow_name (And limit_number items)))) =
      past (bring_keeps ReaderKind scope name) λ inner. past (used_keeps FlowKind scope flow_name) λ flow.
      past (number_keeps reader_limits limit_number) λ limit.
      going_on (block_is end (statements inner items) (statements_are end inner items)) λ body. given (syntax.BufRead flow limit body, scope) (λ has. has)
  form_is end scope last place (ReaderHead call) (And word (And name Nil)) =
      past (used_keeps ReaderKind scope name) λ reader. given (syntax.OnReader call reader, scope) tt
  form_is end scope last place TakeBytesHead (And word (And name (And count Nil))) =
      past (used_keeps ReaderKind scope name) λ reader. going_on (item_is end scope false count) λ e. given (syntax.TakeBytes reader e, scope) (λ has. has)
  form_is end scope last place CopyHead (And word (And from_name (And to_name Nil))) =
      past (used_keeps FlowKind scope from_name) λ from. past (used_keeps FlowKind scope to_name) λ to. given (syntax.Copy from to, scope) tt
  form_is end scope last place BufWriteHead (And word (And name (And flow_name items))) =
      past (bring_keeps WriterKind scope name) λ inner. past (used_keeps FlowKind scope flow_name) λ flow.
      going_on (block_is end (statements inner items) (statements_are end inner items)) λ body. given (syntax.BufWrite flow body, scope) (λ has. has)
  form_is end scope last place PutHead (And word (And name (And text Nil))) =
      past (used_keeps WriterKind scope name) λ writer. going_on (item_is end scope false text) λ e. given (syntax.Put writer e, scope) (λ has. has)
  form_is end scope last place OpenDirHead (And word (And directory_name (And path (And name items)))) =
      past (directory_keeps scope directory_name) λ directory. going_on (item_is end scope false path) λ e.
      past (bring_keeps CapabilityKind scope name) λ inner.
      going_on (block_is end (statements inner items) (statements_are end inner items)) λ body.
      given (syntax.OpenDir directory e body, scope) (λ two one. (one, two))
  form_is end scope last place (PathHead call) (And word (And name (And path Nil))) =
      past (directory_keeps scope name) λ directory. going_on (item_is end scope false path) λ e. given (syntax.OnPath call directory e, scope) (λ has. has)
  form_is end scope last place (SaveHead only_new) (And word (And name (And path (And content Nil)))) =
      past (directory_keeps scope name) λ directory. going_on (item_is end scope false path) λ e. going_on (item_is end scope false content) λ c.
      given (syntax.Save only_new directory e c, scope) (λ two one. (one, two))
  form_is end scope last place head items = refused (Shape place)
