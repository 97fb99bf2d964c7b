-- Statements that are read are shared ones where no form is for the mocked domain alone. One clause for each form, as it is read.
use Rattle.std.proofs.Common.{◌≡◌, ℕ, ◌+◌, Bool, true, false, ◌||◌, not, List, Option, Some, None, refl, sym}
use Rattle.std.specs.Prelude.{nat_le}
use Rattle.std.specs.Str.{bytes_eq}
use Rattle.std.proofs.lemmas.Bool.{false≢true}
use Rattle.spec_script.specs.Captures.{slots_of, job_scope}
use Rattle.spec_script.specs.Expressions.{expression}
use Rattle.spec_script.specs.Faults.{Shape, Size}
use Rattle.spec_script.specs.Forms.{Head, LetHead, IfHead, GiveHead, RaiseHead, TryHead, RepeatHead, LoopHead, TraceHead, YieldHead, CheckHead, AwaitCancelHead, SubHead, ProtectHead, CancelHead, SwitchHead, ForkHead, ForkDaemonHead, ForkPromiseHead, FailHead, OnReleaseHead, PairHead, RowHead, ObjectHead, ObjectHeadWith, UseRwHead, UsePoolHead, SubmitHead, SleepHead, NowHead, BufReadHead, ReaderHead, TakeBytesHead, CopyHead, BufWriteHead, PutHead, OpenDirHead, PathHead, SaveHead, Form, forms, form_of, feature_of}
use Rattle.spec_script.specs.Kinds.{VariableKind, ContextKind, SwitchKind, ReaderKind, WriterKind, CapabilityKind, PromiseKind, MutexKind, PoolKind, ExecutorKind, FlowKind, object_kind, object_kind_with}
use Rattle.spec_script.specs.Limits.{weights, reader_limits, most_branches}
use Rattle.spec_script.specs.Reads.{Formed, Reads, ◌>>>◌, gives, refuses, requires_that}
use Rattle.spec_script.specs.Scopes.{Scope}
use Rattle.spec_script.specs.Statements.{form_node, block_of, statements, statement, value, block, branches, form}
use Rattle.spec_script.specs.Syntax.{Statement, Let, LetForm, If, Give, Raise, Try, Repeat, Loop, Trace, Yield, Check, AwaitCancel, Sub, Protect, Cancel, Switch, Fork, Fail, OnRelease, Branches, OnObject, OnObjectWith, UseRw, UsePool, Submit, Sleep, Now, BufRead, OnReader, TakeBytes, Copy, BufWrite, Put, OpenDir, OnPath, Save, Plain, Daemon, Promising, Begins, Statements, Done, Then, NoBlocks, AndBlock}
use Rattle.spec_script.specs.Trees.{Tree, Word, Branch, Trees, Nil, And, place_of}
use Rattle.law_script.specs.Scripts.Sharing.{IsSharedStatement, IsSharedBlock, AreSharedStatements, AreSharedBlocks}
use Rattle.law_script.proofs.Scripts.Lists.{found_passes}
use Rattle.law_script.proofs.Scripts.FormedOperands.{failure_keeps, number_keeps, bring_keeps, used_keeps, directory_keeps, captured_keeps, expression_keeps, operands_keep}
use Rattle.law_script.proofs.Scripts.FormedSteps.{Brings, given, refused, going_on, past, met, weaker, next_node_keeps, one_node_keeps, one_form_brings}

-- ## Forms for the mocked domain alone

-- a form that isn't such a one
abbrev pub IsPlain : Formed → Type 0
IsPlain it = it.mocked ≡ false

-- where the step gives a value and no form is such a one then, none was so before, and that is such a value
abbrev pub Shares : {A : Type 0} → (A → Type 0) → Reads A → Type 0
Shares {A} P read = Brings IsPlain {A = A} P read

abbrev is_mocked : Head → Bool
is_mocked SleepHead = true
is_mocked NowHead = true
is_mocked BufReadHead = true
is_mocked (ReaderHead call) = true
is_mocked TakeBytesHead = true
is_mocked CopyHead = true
is_mocked BufWriteHead = true
is_mocked PutHead = true
is_mocked OpenDirHead = true
is_mocked (PathHead call) = true
is_mocked (SaveHead only_new) = true
is_mocked head = false

-- a form is marked as such a one where its head is
pub mark_holds : (head marked : Bool) → (not head || marked) ≡ true → marked ≡ false → head ≡ false
mark_holds true true holds plain = plain
mark_holds true false holds plain = absurd (false≢true holds)
mark_holds false marked holds plain = refl

plain_head : (word : List ℕ) (it : Form) → form_of word ≡ Some it → it.mocked ≡ false → is_mocked it.head ≡ false
unfolding form_of
plain_head word it e plain =
    mark_holds (is_mocked it.head) it.mocked (found_passes (λ form. not (is_mocked form.head) || form.mocked) (λ form. bytes_eq form.word word) forms it refl e) plain

form_node_shares : (at : ℕ) (it : Form) (items : Trees) → Shares (λ _. it.mocked ≡ false) (form_node at it items)
form_node_shares at it items = going_on (one_form_brings at (feature_of it items) it.mocked) λ _. weaker (λ a u is. is) one_node_keeps

-- ## Statements

-- a shared statement, where its head isn't one for the mocked domain alone
abbrev IsStated : Head → Statement × Scope → Type 0
IsStated head it = is_mocked head ≡ false → IsSharedStatement it.0

pub block_is_shared : (these : Reads Statements) → Shares AreSharedStatements these → Shares IsSharedBlock (block_of these)
unfolding IsSharedBlock
block_is_shared these are = past next_node_keeps λ number. going_on are λ read. given (Begins number read) (λ shared. shared)

mutual
  unfolding statements statement value block branches form IsSharedStatement IsSharedBlock AreSharedStatements AreSharedBlocks

  pub statements_are_shared : (scope : Scope) (row : Trees) → Shares AreSharedStatements (statements scope row)
  statements_are_shared scope Nil = past one_node_keeps λ _. given Done tt
  statements_are_shared scope (And tree Nil) = going_on (statement_is_shared scope true tree) λ it. past one_node_keeps λ _. given (Then it.0 Done) (λ shared. (shared, tt))
  statements_are_shared scope (And tree (And next row)) =
      going_on (statement_is_shared scope false tree) λ it. going_on (statements_are_shared it.1 (And next row)) λ others. given (Then it.0 others) (λ rest first. (first, rest))

  statement_is_shared : (scope : Scope) (last : Bool) (tree : Tree) → Shares (λ it. IsSharedStatement it.0) (statement scope last tree)
  statement_is_shared scope last (Branch at (And (Word place word) items)) = by (form_of word) refl (λ head. form_is_shared scope last at head (And (Word place word) items))
    where
      by : (found : Option Form) → form_of word ≡ found → ((head : Head) → Shares (IsStated head) (form scope last at head (And (Word place word) items)))
          → Shares (λ (it : Statement × Scope). IsSharedStatement it.0) (elim found [
            | None ↦ refuses (Shape at)
            | Some it ↦ (form_node at it items >>> λ _. form scope last at it.head (And (Word place word) items))
          ])
      by None e rest = refused (Shape at)
      by (Some it) e rest = going_on (form_node_shares at it items) λ _. weaker (λ a shared plain. shared (plain_head word it e plain)) (rest it.head)
  statement_is_shared scope last tree = refused (Shape (place_of tree))

  value_is_shared : (scope : Scope) (tree : Tree) → Shares IsSharedStatement (value scope tree)
  value_is_shared scope (Branch at (And (Word place word) items)) = by (form_of word) refl (λ head. form_is_shared scope true at head (And (Word place word) items))
    where
      by : (found : Option Form) → form_of word ≡ found → ((head : Head) → Shares (IsStated head) (form scope true at head (And (Word place word) items)))
          → Shares IsSharedStatement (elim found [
            | None ↦ (expression scope (Branch at (And (Word place word) items)) >>> λ e. gives (Let e))
            | Some it ↦
                (requires_that it.gives (Shape at) >>> λ _.
                form_node at it items >>> λ _.
                form scope true at it.head (And (Word place word) items) >>> λ inner.
                gives (LetForm inner.0))
          ])
      by None none rest = past (expression_keeps scope (Branch at (And (Word place word) items))) λ e. given (Let e) tt
      by (Some it) is rest =
          met it.gives (Shape at)
          (going_on (form_node_shares at it items) λ _. going_on (rest it.head) λ inner. given (LetForm inner.0) (λ shared plain. shared (plain_head word it is plain)))
  value_is_shared scope tree = past (expression_keeps scope tree) λ e. given (Let e) tt

  block_item_is_shared : (scope : Scope) (full : Bool) (tree : Tree) → Shares IsSharedBlock (block scope full tree)
  block_item_is_shared scope full (Branch at row) = met (not full) (Size at) (block_is_shared (statements scope row) (statements_are_shared scope row))
  block_item_is_shared scope full tree = refused (Shape (place_of tree))

  branches_are_shared : (scope : Scope) (before : ℕ) (row : Trees) → Shares AreSharedBlocks (branches scope before row)
  branches_are_shared scope before Nil = given NoBlocks tt
  branches_are_shared scope before (And tree row) =
      going_on (block_item_is_shared scope (nat_le most_branches before) tree) λ first.
      going_on (branches_are_shared scope (before + 1) row) λ others. given (AndBlock first others) (λ rest own. (own, rest))

  form_is_shared : (scope : Scope) (last : Bool) (at : ℕ) (head : Head) (items : Trees) → Shares (IsStated head) (form scope last at head items)
  form_is_shared scope last at LetHead (And word (And name (And bound Nil))) =
      past (bring_keeps VariableKind scope name) λ inner. going_on (value_is_shared scope bound) λ it. given (it, inner) (λ shared plain. shared)
  form_is_shared scope last at IfHead (And word (And test (And then_block (And else_block Nil)))) =
      past (expression_keeps scope test) λ e. going_on (block_item_is_shared scope false then_block) λ b. going_on (block_item_is_shared scope false else_block) λ c.
      given (If e b c, scope) (λ c_shared b_shared plain. (b_shared, c_shared))
  form_is_shared scope last at GiveHead (And word (And given_value Nil)) =
      met last (Shape at) (past (expression_keeps scope given_value) λ e. given (Give e, scope) (λ plain. tt))
  form_is_shared scope last at RaiseHead (And word (And text Nil)) = past (failure_keeps text) λ id. given (Raise id, scope) (λ plain. tt)
  form_is_shared scope last at TryHead (And word (And tried (And name (And handler Nil)))) =
      going_on (block_item_is_shared scope false tried) λ b. past (bring_keeps VariableKind scope name) λ inner. going_on (block_item_is_shared inner false handler) λ c.
      given (Try b c, scope) (λ c_shared b_shared plain. (b_shared, c_shared))
  form_is_shared scope last at RepeatHead (And word (And name (And times items))) =
      past (bring_keeps VariableKind scope name) λ inner. past (expression_keeps scope times) λ e.
      going_on (block_is_shared (statements inner items) (statements_are_shared inner items)) λ b. given (Repeat e b, scope) (λ shared plain. shared)
  form_is_shared scope last at LoopHead (And word items) =
      going_on (block_is_shared (statements scope items) (statements_are_shared scope items)) λ b. given (Loop b, scope) (λ shared plain. shared)
  form_is_shared scope last at TraceHead (And word items) = past (operands_keep scope 0 items) λ es. given (Trace es, scope) (λ plain. tt)
  form_is_shared scope last at YieldHead (And word Nil) = given (Yield, scope) (λ plain. tt)
  form_is_shared scope last at CheckHead (And word Nil) = given (Check, scope) (λ plain. tt)
  form_is_shared scope last at AwaitCancelHead (And word Nil) = given (AwaitCancel, scope) (λ plain. tt)
  form_is_shared scope last at NowHead (And word Nil) = given (Now, scope) (λ plain. absurd (false≢true (sym plain)))
  form_is_shared scope last at SubHead (And word (And name items)) =
      past (bring_keeps ContextKind scope name) λ inner. going_on (block_is_shared (statements inner items) (statements_are_shared inner items)) λ b.
      given (Sub b, scope) (λ shared plain. shared)
  form_is_shared scope last at ProtectHead (And word items) =
      going_on (block_is_shared (statements scope items) (statements_are_shared scope items)) λ b. given (Protect b, scope) (λ shared plain. shared)
  form_is_shared scope last at CancelHead (And word (And name (And text Nil))) =
      past (used_keeps ContextKind scope name) λ context. past (failure_keeps text) λ id. given (Cancel context id, scope) (λ plain. tt)
  form_is_shared scope last at SwitchHead (And word (And name items)) =
      past (bring_keeps SwitchKind scope name) λ inner. going_on (block_is_shared (statements inner items) (statements_are_shared inner items)) λ b.
      given (Switch b, scope) (λ shared plain. shared)
  form_is_shared scope last at ForkHead (And word (And name items)) =
      past (used_keeps SwitchKind scope name) λ switch. going_on (block_is_shared (statements scope items) (statements_are_shared scope items)) λ b.
      given (Fork Plain switch b, scope) (λ shared plain. shared)
  form_is_shared scope last at ForkDaemonHead (And word (And name items)) =
      past (used_keeps SwitchKind scope name) λ switch. going_on (block_is_shared (statements scope items) (statements_are_shared scope items)) λ b.
      given (Fork Daemon switch b, scope) (λ shared plain. shared)
  form_is_shared scope last at ForkPromiseHead (And word (And name (And promise_name items))) =
      past (used_keeps SwitchKind scope name) λ switch. past (used_keeps PromiseKind scope promise_name) λ promise.
      going_on (block_is_shared (statements scope items) (statements_are_shared scope items)) λ b. given (Fork (Promising promise) switch b, scope) (λ shared plain. shared)
  form_is_shared scope last at FailHead (And word (And name (And text Nil))) =
      past (used_keeps SwitchKind scope name) λ switch. past (failure_keeps text) λ id. given (Fail switch id, scope) (λ plain. tt)
  form_is_shared scope last at OnReleaseHead (And word (And name items)) =
      past (used_keeps SwitchKind scope name) λ switch. going_on (block_is_shared (statements scope items) (statements_are_shared scope items)) λ b.
      given (OnRelease switch b, scope) (λ shared plain. shared)
  form_is_shared scope last at (PairHead group) (And word (And first (And second Nil))) =
      going_on (branches_are_shared scope 0 (And first (And second Nil))) λ bs. given (Branches group bs, scope) (λ shared plain. shared)
  form_is_shared scope last at (RowHead group) (And word items) =
      going_on (branches_are_shared scope 0 items) λ bs. given (Branches group bs, scope) (λ shared plain. shared)
  form_is_shared scope last at (ObjectHead call) (And word (And name Nil)) =
      past (used_keeps (object_kind call) scope name) λ object. given (OnObject call object, scope) (λ plain. tt)
  form_is_shared scope last at (ObjectHeadWith call) (And word (And name (And operand Nil))) =
      past (used_keeps (object_kind_with call) scope name) λ object. past (expression_keeps scope operand) λ e. given (OnObjectWith call object e, scope) (λ plain. tt)
  form_is_shared scope last at UseRwHead (And word (And name items)) =
      past (used_keeps MutexKind scope name) λ mutex. going_on (block_is_shared (statements scope items) (statements_are_shared scope items)) λ b.
      given (UseRw mutex b, scope) (λ shared plain. shared)
  form_is_shared scope last at UsePoolHead (And word (And pool_name (And name items))) =
      past (used_keeps PoolKind scope pool_name) λ pool. past (bring_keeps VariableKind scope name) λ inner.
      going_on (block_is_shared (statements inner items) (statements_are_shared inner items)) λ b. given (UsePool pool b, scope) (λ shared plain. shared)
  form_is_shared scope last at SubmitHead (And word (And name (And weight_number (And names items)))) =
      past (used_keeps ExecutorKind scope name) λ executor. past (number_keeps weights weight_number) λ weight. past (captured_keeps scope names) λ taken.
      going_on (block_is_shared (statements (job_scope scope taken) items) (statements_are_shared (job_scope scope taken) items)) λ b.
      given (Submit executor weight (slots_of taken) b, scope) (λ shared plain. shared)
  form_is_shared scope last at SleepHead (And word (And time Nil)) =
      past (expression_keeps scope time) λ e. given (Sleep e, scope) (λ plain. absurd (false≢true (sym plain)))
  form_is_shared scope last at BufReadHead (And word (And name (And flow_name (And limit_number items)))) =
      past (bring_keeps ReaderKind scope name) λ inner. past (used_keeps FlowKind scope flow_name) λ flow. past (number_keeps reader_limits limit_number) λ limit.
      going_on (block_is_shared (statements inner items) (statements_are_shared inner items)) λ b. given (BufRead flow limit b, scope) (λ shared plain. absurd (false≢true (sym plain)))
  form_is_shared scope last at (ReaderHead call) (And word (And name Nil)) =
      past (used_keeps ReaderKind scope name) λ reader. given (OnReader call reader, scope) (λ plain. absurd (false≢true (sym plain)))
  form_is_shared scope last at TakeBytesHead (And word (And name (And count Nil))) =
      past (used_keeps ReaderKind scope name) λ reader. past (expression_keeps scope count) λ e. given (TakeBytes reader e, scope) (λ plain. absurd (false≢true (sym plain)))
  form_is_shared scope last at CopyHead (And word (And from_name (And to_name Nil))) =
      past (used_keeps FlowKind scope from_name) λ from. past (used_keeps FlowKind scope to_name) λ to. given (Copy from to, scope) (λ plain. absurd (false≢true (sym plain)))
  form_is_shared scope last at BufWriteHead (And word (And name (And flow_name items))) =
      past (bring_keeps WriterKind scope name) λ inner. past (used_keeps FlowKind scope flow_name) λ flow.
      going_on (block_is_shared (statements inner items) (statements_are_shared inner items)) λ b. given (BufWrite flow b, scope) (λ shared plain. absurd (false≢true (sym plain)))
  form_is_shared scope last at PutHead (And word (And name (And text Nil))) =
      past (used_keeps WriterKind scope name) λ writer. past (expression_keeps scope text) λ e. given (Put writer e, scope) (λ plain. absurd (false≢true (sym plain)))
  form_is_shared scope last at OpenDirHead (And word (And directory_name (And path (And name items)))) =
      past (directory_keeps scope directory_name) λ directory. past (expression_keeps scope path) λ e. past (bring_keeps CapabilityKind scope name) λ inner.
      going_on (block_is_shared (statements inner items) (statements_are_shared inner items)) λ b. given (OpenDir directory e b, scope) (λ shared plain. absurd (false≢true (sym plain)))
  form_is_shared scope last at (PathHead call) (And word (And name (And path Nil))) =
      past (directory_keeps scope name) λ directory. past (expression_keeps scope path) λ e. given (OnPath call directory e, scope) (λ plain. absurd (false≢true (sym plain)))
  form_is_shared scope last at (SaveHead only_new) (And word (And name (And path (And content Nil)))) =
      past (directory_keeps scope name) λ directory. past (expression_keeps scope path) λ e. past (expression_keeps scope content) λ c.
      given (Save only_new directory e c, scope) (λ plain. absurd (false≢true (sym plain)))
  form_is_shared scope last at head items = refused (Shape at)
