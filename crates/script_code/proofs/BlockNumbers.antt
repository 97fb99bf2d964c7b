-- Of what is read, each block has the number of the node that it begins with. One clause for each form, as it is read.
use Rattle.std.proofs.Common.{◌≡◌, ℕ, zero, ◌+◌, Bool, true, false, ◌++◌, length, Option, Some, None, Ok, refl, sym, subst, arith}
use Rattle.std.specs.Prelude.{nat_le}
use Rattle.spec_script.specs.Captures.{slots_of, job_scope}
use Rattle.spec_script.specs.Expressions.{expression}
use Rattle.spec_script.specs.Faults.{Shape, Size}
use Rattle.spec_script.specs.Forms.{Head, LetHead, IfHead, GiveHead, RaiseHead, TryHead, RepeatHead, LoopHead, TraceHead, YieldHead, CheckHead, AwaitCancelHead, SubHead, ProtectHead, CancelHead, SwitchHead, ForkHead, ForkDaemonHead, ForkPromiseHead, FailHead, OnReleaseHead, PairHead, RowHead, ObjectHead, ObjectHeadWith, UseRwHead, UsePoolHead, SubmitHead, SleepHead, NowHead, BufReadHead, ReaderHead, TakeBytesHead, CopyHead, BufWriteHead, PutHead, OpenDirHead, PathHead, SaveHead, Form, form_of}
use Rattle.spec_script.specs.Kinds.{VariableKind, ContextKind, SwitchKind, ReaderKind, WriterKind, CapabilityKind, PromiseKind, MutexKind, PoolKind, ExecutorKind, FlowKind, object_kind, object_kind_with}
use Rattle.spec_script.specs.Limits.{weights, reader_limits, most_branches}
use Rattle.spec_script.specs.Reads.{Made, Reads, ◌>>>◌, gives, refuses, requires_that}
use Rattle.spec_script.specs.Scopes.{Scope}
use Rattle.spec_script.specs.Statements.{form_node, block_of, statements, statement, value, block, branches, form}
use Rattle.spec_script.specs.Syntax as syntax
use Rattle.spec_script.specs.Syntax.{Statement, Block, Begins, Statements, Done, Then, Blocks, NoBlocks, AndBlock}
use Rattle.spec_script.specs.Trees.{Tree, Word, Branch, Trees, Nil, And, place_of}
use Rattle.script_forms.specs.Flat.{flat_expression, flat_expressions, flat_statement, flat_statements, flat_blocks, flat_block}
use Rattle.script_code.specs.Numbered.{IsNumbered, IsNumberedBlock, AreNumbered, AreNumberedBlocks}
use Rattle.script_code.proofs.NodeCounts.{From, given, refused, going_on, moved, past, test_keeps, failure_keeps, number_keeps, bring_keeps, used_keeps, directory_keeps, captured_keeps, node_counts, form_node_counts, alone, with_inner, with_two, two_rows, expression_counts, traced_counts, same_Ok, both_gave}

-- ## Blocks

abbrev behind_block : (from : ℕ) → Block → ℕ
behind_block from b = from + length (flat_block from b)

-- a block is read with the number of the next node
pub block_counts : (from : ℕ) (these : Reads Statements) → From {A = Statements} from (λ items. from + length (flat_statements from items)) (AreNumbered from) these → From from (behind_block from) (IsNumberedBlock from) (block_of these)
unfolding IsNumberedBlock
block_counts from these are = record {
  holds = λ made y at e.
      let both = both_gave (these made) (λ found. Ok (Begins made.nodes found.0, found.1)) y e in
      let first = are.holds made both.0 at both.1 in
      subst (λ (found : Block × Made). (found.1.nodes ≡ behind_block from found.0) × IsNumberedBlock from found.0) (same_Ok (Begins made.nodes both.0.0, both.0.1) y both.2) (first.0, (at, first.1));
}

-- a block of this number is any that is numbered so
of_number : (from : ℕ) (X : Block → Type 0) → ((items : Statements) → AreNumbered from items → X (Begins from items)) → (b : Block) → IsNumberedBlock from b → X b
unfolding IsNumberedBlock
of_number from X holds (Begins n items) numbered = subst (λ (k : ℕ). X (Begins k items)) (sym numbered.0) (holds items numbered.1)

pub with_block : {B : Type 0} {from : ℕ} {to : B → ℕ} {Q : B → Type 0} {read : Reads Block} (next : Block → Reads B)
    → From from (behind_block from) (IsNumberedBlock from) read → ((items : Statements) → AreNumbered from items → From (from + length (flat_statements from items)) to Q (next (Begins from items))) → From from to Q (read >>> next)
with_block {B} {from} {to} {Q} {read} next is others = going_on is (of_number from (λ b. From (behind_block from b) to Q (next b)) others)

-- ## Statements

abbrev behind_statement : (at : ℕ) → Statement × Scope → ℕ
behind_statement at it = at + length (flat_statement at it.0)

abbrev IsStated : (at : ℕ) → Statement × Scope → Type 0
IsStated at it = IsNumbered at it.0

-- nothing behind a node
none_behind : (from : ℕ) → from ≡ from + zero
none_behind from = omega arith

mutual
  unfolding statements statement value block branches form flat_statement flat_statements flat_blocks IsNumbered IsNumberedBlock AreNumbered AreNumberedBlocks

  pub statements_count : (from : ℕ) (scope : Scope) (row : Trees) → From {A = Statements} from (λ items. from + length (flat_statements from items)) (AreNumbered from) (statements scope row)
  statements_count from scope Nil = going_on (node_counts from) λ _ _. given Done (alone from) tt
  statements_count from scope (And tree Nil) =
      going_on (statement_counts from scope true tree) λ it numbered. going_on (node_counts (behind_statement from it)) λ _ _.
      given (Then it.0 Done) (two_rows from (flat_statement from it.0) (flat_statements (behind_statement from it) Done)) (numbered, tt)
  statements_count from scope (And tree (And next row)) =
      going_on (statement_counts from scope false tree) λ it numbered. going_on (statements_count (behind_statement from it) it.1 (And next row)) λ others are.
      given (Then it.0 others) (two_rows from (flat_statement from it.0) (flat_statements (behind_statement from it) others)) (numbered, are)

  statement_counts : (at : ℕ) (scope : Scope) (last : Bool) (tree : Tree) → From at (behind_statement at) (IsStated at) (statement scope last tree)
  statement_counts at scope last (Branch place (And (Word word_place word) items)) =
      by (form_of word) (λ head. form_counts at scope last place head (And (Word word_place word) items))
    where
      by : (found : Option Form) → ((head : Head) → From (at + 1) (behind_statement at) (IsStated at) (form scope last place head (And (Word word_place word) items)))
          → From at (behind_statement at) (IsStated at) (elim found [
            | None ↦ refuses (Shape place)
            | Some it ↦ (form_node place it items >>> λ _. form scope last place it.head (And (Word word_place word) items))
          ])
      by None rest = refused (Shape place)
      by (Some it) rest = going_on (form_node_counts at place it items) λ _ _. rest it.head
  statement_counts at scope last tree = refused (Shape (place_of tree))

  value_counts : (at : ℕ) (scope : Scope) (tree : Tree) → From {A = Statement} (at + 1) (λ it. at + length (flat_statement at it)) (IsNumbered at) (value scope tree)
  value_counts at scope (Branch place (And (Word word_place word) items)) =
      by (form_of word) (λ head. form_counts (at + 1) scope true place head (And (Word word_place word) items))
    where
      by : (found : Option Form) → ((head : Head) → From (at + 1 + 1) (behind_statement (at + 1)) (IsStated (at + 1)) (form scope true place head (And (Word word_place word) items)))
          → From {A = Statement} (at + 1) (λ it. at + length (flat_statement at it)) (IsNumbered at) (elim found [
            | None ↦ (expression scope (Branch place (And (Word word_place word) items)) >>> λ e. gives (syntax.Let e))
            | Some it ↦
                (requires_that it.gives (Shape place) >>> λ _.
                form_node place it items >>> λ _.
                form scope true place it.head (And (Word word_place word) items) >>> λ inner.
                gives (syntax.LetForm inner.0))
          ])
      by None rest = going_on (expression_counts (at + 1) scope (Branch place (And (Word word_place word) items))) λ e _. given (syntax.Let e) (with_inner at (length (flat_expression e))) tt
      by (Some it) rest =
          past (test_keeps it.gives (Shape place)) λ _. going_on (form_node_counts (at + 1) place it items) λ _ _. going_on (rest it.head) λ inner numbered.
          given (syntax.LetForm inner.0) (with_inner at (length (flat_statement (at + 1) inner.0))) numbered
  value_counts at scope tree = going_on (expression_counts (at + 1) scope tree) λ e _. given (syntax.Let e) (with_inner at (length (flat_expression e))) tt

  block_item_counts : (from : ℕ) (scope : Scope) (full : Bool) (tree : Tree) → From from (behind_block from) (IsNumberedBlock from) (block scope full tree)
  block_item_counts from scope full (Branch place row) = past (test_keeps _ (Size place)) λ _. block_counts from (statements scope row) (statements_count from scope row)
  block_item_counts from scope full tree = refused (Shape (place_of tree))

  branches_count : (from : ℕ) (scope : Scope) (n : ℕ) (row : Trees) → From {A = Blocks} from (λ blocks. from + length (flat_blocks from blocks)) (AreNumberedBlocks from) (branches scope n row)
  branches_count from scope n Nil = given NoBlocks (none_behind from) tt
  branches_count from scope n (And tree row) =
      with_block _ (block_item_counts from scope (nat_le most_branches n) tree) λ items numbered.
      going_on (branches_count (from + length (flat_statements from items)) scope (n + 1) row) λ others are.
      given (AndBlock (Begins from items) others) (two_rows from (flat_statements from items) (flat_blocks (from + length (flat_statements from items)) others)) ((refl, numbered), are)

  form_counts : (at : ℕ) (scope : Scope) (last : Bool) (place : ℕ) (head : Head) (items : Trees) → From (at + 1) (behind_statement at) (IsStated at) (form scope last place head items)
  form_counts at scope last place LetHead (And word (And name (And bound Nil))) =
      past (bring_keeps VariableKind scope name) λ behind. going_on (value_counts at scope bound) λ it numbered. given (it, behind) refl numbered
  form_counts at scope last place IfHead (And word (And test (And then_block (And else_block Nil)))) =
      going_on (expression_counts (at + 1) scope test) λ e _.
      let first = at + 1 + length (flat_expression e) in
      with_block _ (block_item_counts first scope false then_block) λ then_items then_numbered.
      let then_nodes = flat_statements first then_items in
      let second = at + 1 + length (flat_expression e ++ then_nodes) in
      moved (two_rows (at + 1) (flat_expression e) then_nodes)
      (with_block _ (block_item_counts second scope false else_block) λ else_items else_numbered.
      given (syntax.If e (Begins first then_items) (Begins second else_items), scope)
      (with_two at (flat_expression e ++ then_nodes) (flat_statements second else_items)) ((refl, then_numbered), (refl, else_numbered)))
  form_counts at scope last place GiveHead (And word (And given_value Nil)) =
      past (test_keeps last (Shape place)) λ _. going_on (expression_counts (at + 1) scope given_value) λ e _. given (syntax.Give e, scope) (with_inner at (length (flat_expression e))) tt
  form_counts at scope last place RaiseHead (And word (And text Nil)) =
      past (failure_keeps text) λ id. given (syntax.Raise id, scope) (alone at) tt
  form_counts at scope last place TryHead (And word (And tried (And name (And handler Nil)))) =
      with_block _ (block_item_counts (at + 1) scope false tried) λ tried_items tried_numbered.
      let tried_nodes = flat_statements (at + 1) tried_items in
      let second = at + 1 + length tried_nodes in
      past (bring_keeps VariableKind scope name) λ inner.
      with_block _ (block_item_counts second inner false handler) λ handler_items handler_numbered.
      given (syntax.Try (Begins (at + 1) tried_items) (Begins second handler_items), scope)
      (with_two at tried_nodes (flat_statements second handler_items)) ((refl, tried_numbered), (refl, handler_numbered))
  form_counts at scope last place RepeatHead (And word (And name (And times items))) =
      past (bring_keeps VariableKind scope name) λ inner. going_on (expression_counts (at + 1) scope times) λ e _.
      let first = at + 1 + length (flat_expression e) in
      with_block _ (block_counts first (statements inner items) (statements_count first inner items)) λ body numbered.
      given (syntax.Repeat e (Begins first body), scope) (with_two at (flat_expression e) (flat_statements first body)) (refl, numbered)
  form_counts at scope last place LoopHead (And word items) =
      with_block _ (block_counts (at + 1) (statements scope items) (statements_count (at + 1) scope items)) λ body numbered.
      given (syntax.Loop (Begins (at + 1) body), scope) (with_inner at (length (flat_statements (at + 1) body))) (refl, numbered)
  form_counts at scope last place TraceHead (And word items) =
      going_on (traced_counts (at + 1) scope 0 items) λ es _. given (syntax.Trace es, scope) (with_inner at (length (flat_expressions es))) tt
  form_counts at scope last place YieldHead (And word Nil) =
      given (syntax.Yield, scope) (alone at) tt
  form_counts at scope last place CheckHead (And word Nil) =
      given (syntax.Check, scope) (alone at) tt
  form_counts at scope last place AwaitCancelHead (And word Nil) =
      given (syntax.AwaitCancel, scope) (alone at) tt
  form_counts at scope last place NowHead (And word Nil) =
      given (syntax.Now, scope) (alone at) tt
  form_counts at scope last place SubHead (And word (And name items)) =
      past (bring_keeps ContextKind scope name) λ inner. with_block _ (block_counts (at + 1) (statements inner items) (statements_count (at + 1) inner items)) λ body numbered.
      given (syntax.Sub (Begins (at + 1) body), scope) (with_inner at (length (flat_statements (at + 1) body))) (refl, numbered)
  form_counts at scope last place ProtectHead (And word items) =
      with_block _ (block_counts (at + 1) (statements scope items) (statements_count (at + 1) scope items)) λ body numbered.
      given (syntax.Protect (Begins (at + 1) body), scope) (with_inner at (length (flat_statements (at + 1) body))) (refl, numbered)
  form_counts at scope last place CancelHead (And word (And name (And text Nil))) =
      past (used_keeps ContextKind scope name) λ context. past (failure_keeps text) λ id. given (syntax.Cancel context id, scope) (alone at) tt
  form_counts at scope last place SwitchHead (And word (And name items)) =
      past (bring_keeps SwitchKind scope name) λ inner. with_block _ (block_counts (at + 1) (statements inner items) (statements_count (at + 1) inner items)) λ body numbered.
      given (syntax.Switch (Begins (at + 1) body), scope) (with_inner at (length (flat_statements (at + 1) body))) (refl, numbered)
  form_counts at scope last place ForkHead (And word (And name items)) =
      past (used_keeps SwitchKind scope name) λ switch. with_block _ (block_counts (at + 1) (statements scope items) (statements_count (at + 1) scope items)) λ body numbered.
      given (syntax.Fork syntax.Plain switch (Begins (at + 1) body), scope) (with_inner at (length (flat_statements (at + 1) body))) (refl, numbered)
  form_counts at scope last place ForkDaemonHead (And word (And name items)) =
      past (used_keeps SwitchKind scope name) λ switch. with_block _ (block_counts (at + 1) (statements scope items) (statements_count (at + 1) scope items)) λ body numbered.
      given (syntax.Fork syntax.Daemon switch (Begins (at + 1) body), scope) (with_inner at (length (flat_statements (at + 1) body))) (refl, numbered)
  form_counts at scope last place ForkPromiseHead (And word (And name (And promise_name items))) =
      past (used_keeps SwitchKind scope name) λ switch. past (used_keeps PromiseKind scope promise_name) λ promise. with_block _ (block_counts (at + 1) (statements scope items) (statements_count (at + 1) scope items)) λ body numbered.
      given (syntax.Fork (syntax.Promising promise) switch (Begins (at + 1) body), scope) (with_inner at (length (flat_statements (at + 1) body))) (refl, numbered)
  form_counts at scope last place FailHead (And word (And name (And text Nil))) =
      past (used_keeps SwitchKind scope name) λ switch. past (failure_keeps text) λ id. given (syntax.Fail switch id, scope) (alone at) tt
  form_counts at scope last place OnReleaseHead (And word (And name items)) =
      past (used_keeps SwitchKind scope name) λ switch. with_block _ (block_counts (at + 1) (statements scope items) (statements_count (at + 1) scope items)) λ body numbered.
      given (syntax.OnRelease switch (Begins (at + 1) body), scope) (with_inner at (length (flat_statements (at + 1) body))) (refl, numbered)
  form_counts at scope last place (PairHead group) (And word (And first (And second Nil))) =
      going_on (branches_count (at + 1) scope 0 (And first (And second Nil))) λ blocks are. given (syntax.Branches group blocks, scope) (with_inner at (length (flat_blocks (at + 1) blocks))) are
  form_counts at scope last place (RowHead group) (And word items) =
      going_on (branches_count (at + 1) scope 0 items) λ blocks are. given (syntax.Branches group blocks, scope) (with_inner at (length (flat_blocks (at + 1) blocks))) are
  form_counts at scope last place (ObjectHead call) (And word (And name Nil)) =
      past (used_keeps (object_kind call) scope name) λ object. given (syntax.OnObject call object, scope) (alone at) tt
  form_counts at scope last place (ObjectHeadWith call) (And word (And name (And operand Nil))) =
      past (used_keeps (object_kind_with call) scope name) λ object. going_on (expression_counts (at + 1) scope operand) λ e _. given (syntax.OnObjectWith call object e, scope) (with_inner at (length (flat_expression e))) tt
  form_counts at scope last place UseRwHead (And word (And name items)) =
      past (used_keeps MutexKind scope name) λ mutex. with_block _ (block_counts (at + 1) (statements scope items) (statements_count (at + 1) scope items)) λ body numbered.
      given (syntax.UseRw mutex (Begins (at + 1) body), scope) (with_inner at (length (flat_statements (at + 1) body))) (refl, numbered)
  form_counts at scope last place UsePoolHead (And word (And pool_name (And name items))) =
      past (used_keeps PoolKind scope pool_name) λ pool. past (bring_keeps VariableKind scope name) λ inner. with_block _ (block_counts (at + 1) (statements inner items) (statements_count (at + 1) inner items)) λ body numbered.
      given (syntax.UsePool pool (Begins (at + 1) body), scope) (with_inner at (length (flat_statements (at + 1) body))) (refl, numbered)
  form_counts at scope last place SubmitHead (And word (And name (And weight_number (And names items)))) =
      past (used_keeps ExecutorKind scope name) λ executor. past (number_keeps weights weight_number) λ weight. past (captured_keeps scope names) λ taken.
      with_block _ (block_counts (at + 1) (statements (job_scope scope taken) items) (statements_count (at + 1) (job_scope scope taken) items)) λ body numbered.
      given (syntax.Submit executor weight (slots_of taken) (Begins (at + 1) body), scope) (with_inner at (length (flat_statements (at + 1) body))) (refl, numbered)
  form_counts at scope last place SleepHead (And word (And time Nil)) =
      going_on (expression_counts (at + 1) scope time) λ e _. given (syntax.Sleep e, scope) (with_inner at (length (flat_expression e))) tt
  form_counts at scope last place BufReadHead (And word (And name (And flow_name (And limit_number items)))) =
      past (bring_keeps ReaderKind scope name) λ inner. past (used_keeps FlowKind scope flow_name) λ flow. past (number_keeps reader_limits limit_number) λ limit.
      with_block _ (block_counts (at + 1) (statements inner items) (statements_count (at + 1) inner items)) λ body numbered.
      given (syntax.BufRead flow limit (Begins (at + 1) body), scope) (with_inner at (length (flat_statements (at + 1) body))) (refl, numbered)
  form_counts at scope last place (ReaderHead call) (And word (And name Nil)) =
      past (used_keeps ReaderKind scope name) λ reader. given (syntax.OnReader call reader, scope) (alone at) tt
  form_counts at scope last place TakeBytesHead (And word (And name (And count Nil))) =
      past (used_keeps ReaderKind scope name) λ reader. going_on (expression_counts (at + 1) scope count) λ e _. given (syntax.TakeBytes reader e, scope) (with_inner at (length (flat_expression e))) tt
  form_counts at scope last place CopyHead (And word (And from_name (And to_name Nil))) =
      past (used_keeps FlowKind scope from_name) λ from. past (used_keeps FlowKind scope to_name) λ to. given (syntax.Copy from to, scope) (alone at) tt
  form_counts at scope last place BufWriteHead (And word (And name (And flow_name items))) =
      past (bring_keeps WriterKind scope name) λ inner. past (used_keeps FlowKind scope flow_name) λ flow. with_block _ (block_counts (at + 1) (statements inner items) (statements_count (at + 1) inner items)) λ body numbered.
      given (syntax.BufWrite flow (Begins (at + 1) body), scope) (with_inner at (length (flat_statements (at + 1) body))) (refl, numbered)
  form_counts at scope last place PutHead (And word (And name (And text Nil))) =
      past (used_keeps WriterKind scope name) λ writer. going_on (expression_counts (at + 1) scope text) λ e _. given (syntax.Put writer e, scope) (with_inner at (length (flat_expression e))) tt
  form_counts at scope last place OpenDirHead (And word (And directory_name (And path (And name items)))) =
      past (directory_keeps scope directory_name) λ directory. going_on (expression_counts (at + 1) scope path) λ e _.
      let first = at + 1 + length (flat_expression e) in
      past (bring_keeps CapabilityKind scope name) λ inner.
      with_block _ (block_counts first (statements inner items) (statements_count first inner items)) λ body numbered.
      given (syntax.OpenDir directory e (Begins first body), scope) (with_two at (flat_expression e) (flat_statements first body)) (refl, numbered)
  form_counts at scope last place (PathHead call) (And word (And name (And path Nil))) =
      past (directory_keeps scope name) λ directory. going_on (expression_counts (at + 1) scope path) λ e _. given (syntax.OnPath call directory e, scope) (with_inner at (length (flat_expression e))) tt
  form_counts at scope last place (SaveHead only_new) (And word (And name (And path (And content Nil)))) =
      past (directory_keeps scope name) λ directory. going_on (expression_counts (at + 1) scope path) λ e _.
      going_on (expression_counts (at + 1 + length (flat_expression e)) scope content) λ c _.
      given (syntax.Save only_new directory e c, scope) (with_two at (flat_expression e) (flat_expression c)) tt
  form_counts at scope last place head items = refused (Shape place)
