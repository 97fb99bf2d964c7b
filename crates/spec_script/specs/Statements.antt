-- The statements that trees stand for, or the first refused node in reading order: a list before its items, and of one node first Shape,
-- then Size, then Twice, then Name. Above each form stands how it is written; any other number of items is Shape at the list.
-- A new name is in scope from the block behind it on, in which it stands; that of `let` for the rest of the block that the `let` is in.
use Rattle.std.specs.Prelude.{ℕ, ◌+◌, Bool, true, false, nat_le, Some, None}
use Rattle.spec_script.specs.Limits.{weights, reader_limits, most_branches}
use Rattle.spec_script.specs.Trees.{Tree, Word, Branch, Trees, Nil, And, place_of}
use Rattle.spec_script.specs.Faults.{Shape}
use Rattle.spec_script.specs.Syntax.{Statement, Let, LetForm, If, Give, Raise, Try, Repeat, Loop, Trace, Yield, Check, AwaitCancel, Sub, Protect, Cancel, Switch, Fork, Fail, OnRelease, Branches, OnObject, OnObjectWith, UseRw, UsePool, Submit, Sleep, Now, BufRead, OnReader, TakeBytes, Copy, BufWrite, Put, OpenDir, OnPath, Save, Plain, Daemon, Promising, Block, Begins, Statements, Done, Then, Blocks, NoBlocks, AndBlock}
use Rattle.spec_script.specs.Kinds.{VariableKind, ContextKind, SwitchKind, ReaderKind, WriterKind, CapabilityKind, PromiseKind, MutexKind, PoolKind, ExecutorKind, FlowKind, object_kind, object_kind_with}
use Rattle.spec_script.specs.Reads.{Reads, Makes, ◌>>>◌, gives, refuses, requires_that, next_node, one_node, one_form, failure_of, number_within}
use Rattle.spec_script.specs.Scopes.{Scope, bring, used, directory_of}
use Rattle.spec_script.specs.Forms.{Head, LetHead, IfHead, GiveHead, RaiseHead, TryHead, RepeatHead, LoopHead, TraceHead, YieldHead, CheckHead, AwaitCancelHead, SubHead, ProtectHead, CancelHead, SwitchHead, ForkHead, ForkDaemonHead, ForkPromiseHead, FailHead, OnReleaseHead, PairHead, RowHead, ObjectHead, ObjectHeadWith, UseRwHead, UsePoolHead, SubmitHead, SleepHead, NowHead, BufReadHead, ReaderHead, TakeBytesHead, CopyHead, BufWriteHead, PutHead, OpenDirHead, PathHead, SaveHead, Form, form_of, feature_of}
use Rattle.spec_script.specs.Expressions.{has_room, expression, traced}
use Rattle.spec_script.specs.Captures.{captured, slots_of, job_scope}

-- the node of a form with these items
abbrev pub form_node : (at : ℕ) → Form → Trees → Makes
form_node at it items = one_form at (feature_of it items) it.mocked >>> λ _. one_node

-- a statement, and the scope behind it
abbrev pub Stated : Type 0
Stated = Reads (Statement × Scope)

-- a statement that leaves the scope as it is
abbrev pub stated : Scope → Statement → Stated
stated scope it = gives (it, scope)

-- a block of these statements, by the number of its first node
abbrev pub block_of : Reads Statements → Reads Block
block_of these = next_node >>> λ number. these >>> λ read. gives (Begins number read)

unfoldable mutual
  -- the statements of a block, and the node of its end
  pub statements : Scope → Trees → Reads Statements
  statements scope Nil = one_node >>> λ _. gives Done
  statements scope (And tree Nil) = statement scope true tree >>> λ it. one_node >>> λ _. gives (Then it.0 Done)
  statements scope (And tree (And next row)) =
      statement scope false tree >>> λ it. statements it.1 (And next row) >>> λ others. gives (Then it.0 others)

  -- a statement, and the scope behind it; `last` says that it ends its block
  pub statement : Scope → (last : Bool) → Tree → Stated
  statement scope last (Branch at (And (Word place word) items)) = elim (form_of word) [
    | None ↦ refuses (Shape at)
    | Some it ↦ (form_node at it items >>> λ _. form scope last at it.head (And (Word place word) items))
  ]
  statement scope last tree = refuses (Shape (place_of tree))

  -- what a `let` binds: a form that gives a value, or an expression
  pub value : Scope → Tree → Reads Statement
  value scope (Branch at (And (Word place word) items)) = elim (form_of word) [
    | None ↦ (expression scope (Branch at (And (Word place word) items)) >>> λ e. gives (Let e))
    | Some it ↦
        (requires_that it.gives (Shape at) >>> λ _.
        form_node at it items >>> λ _.
        form scope true at it.head (And (Word place word) items) >>> λ inner.
        gives (LetForm inner.0))
  ]
  value scope tree = expression scope tree >>> λ e. gives (Let e)

  -- an item that is a block; `full` says that as many stand before it as may be
  pub block : Scope → (full : Bool) → Tree → Reads Block
  block scope full (Branch at row) = has_room full at >>> λ _. block_of (statements scope row)
  block scope full tree = refuses (Shape (place_of tree))

  -- branches, of which n came before
  pub branches : Scope → (n : ℕ) → Trees → Reads Blocks
  branches scope n Nil = gives NoBlocks
  branches scope n (And tree row) =
      block scope (nat_le most_branches n) tree >>> λ first. branches scope (n + 1) row >>> λ others. gives (AndBlock first others)

  -- a form by its head, with the items of its list, the word first
  pub form : Scope → (last : Bool) → (at : ℕ) → Head → Trees → Stated
  -- (let NAME VALUE)
  form scope last at LetHead (And word (And name (And bound Nil))) =
      bring VariableKind scope name >>> λ behind. value scope bound >>> λ it. gives (it, behind)
  -- (if EXPRESSION BLOCK BLOCK)
  form scope last at IfHead (And word (And test (And then_block (And else_block Nil)))) =
      expression scope test >>> λ e. block scope false then_block >>> λ b. block scope false else_block >>> λ c. stated scope (If e b c)
  -- (give EXPRESSION), which ends a block
  form scope last at GiveHead (And word (And given Nil)) =
      requires_that last (Shape at) >>> λ _. expression scope given >>> λ e. stated scope (Give e)
  -- (raise TEXT)
  form scope last at RaiseHead (And word (And text Nil)) = failure_of text >>> λ id. stated scope (Raise id)
  -- (try BLOCK NAME BLOCK)
  form scope last at TryHead (And word (And tried (And name (And handler Nil)))) =
      block scope false tried >>> λ b. bring VariableKind scope name >>> λ inner. block inner false handler >>> λ c. stated scope (Try b c)
  -- (repeat NAME EXPRESSION STATEMENT*)
  form scope last at RepeatHead (And word (And name (And times items))) =
      bring VariableKind scope name >>> λ inner. expression scope times >>> λ e. block_of (statements inner items) >>> λ b. stated scope (Repeat e b)
  -- (loop STATEMENT*)
  form scope last at LoopHead (And word items) = block_of (statements scope items) >>> λ b. stated scope (Loop b)
  -- (trace EXPRESSION*)
  form scope last at TraceHead (And word items) = traced scope 0 items >>> λ es. stated scope (Trace es)
  -- (yield), (check), (await-cancel), (now)
  form scope last at YieldHead (And word Nil) = stated scope Yield
  form scope last at CheckHead (And word Nil) = stated scope Check
  form scope last at AwaitCancelHead (And word Nil) = stated scope AwaitCancel
  form scope last at NowHead (And word Nil) = stated scope Now
  -- (sub NAME STATEMENT*), (protect STATEMENT*)
  form scope last at SubHead (And word (And name items)) =
      bring ContextKind scope name >>> λ inner. block_of (statements inner items) >>> λ b. stated scope (Sub b)
  form scope last at ProtectHead (And word items) = block_of (statements scope items) >>> λ b. stated scope (Protect b)
  -- (cancel CONTEXT TEXT)
  form scope last at CancelHead (And word (And name (And text Nil))) =
      used ContextKind scope name >>> λ context. failure_of text >>> λ id. stated scope (Cancel context id)
  -- (switch NAME STATEMENT*)
  form scope last at SwitchHead (And word (And name items)) =
      bring SwitchKind scope name >>> λ inner. block_of (statements inner items) >>> λ b. stated scope (Switch b)
  -- (fork SWITCH STATEMENT*), (fork-daemon SWITCH STATEMENT*), (fork-promise SWITCH PROMISE STATEMENT*)
  form scope last at ForkHead (And word (And name items)) =
      used SwitchKind scope name >>> λ switch. block_of (statements scope items) >>> λ b. stated scope (Fork Plain switch b)
  form scope last at ForkDaemonHead (And word (And name items)) =
      used SwitchKind scope name >>> λ switch. block_of (statements scope items) >>> λ b. stated scope (Fork Daemon switch b)
  form scope last at ForkPromiseHead (And word (And name (And promise_name items))) =
      used SwitchKind scope name >>> λ switch. used PromiseKind scope promise_name >>> λ promise. block_of (statements scope items) >>> λ b. stated scope (Fork (Promising promise) switch b)
  -- (fail SWITCH TEXT), (on-release SWITCH STATEMENT*)
  form scope last at FailHead (And word (And name (And text Nil))) =
      used SwitchKind scope name >>> λ switch. failure_of text >>> λ id. stated scope (Fail switch id)
  form scope last at OnReleaseHead (And word (And name items)) =
      used SwitchKind scope name >>> λ switch. block_of (statements scope items) >>> λ b. stated scope (OnRelease switch b)
  -- (both BLOCK BLOCK), (first BLOCK BLOCK)
  form scope last at (PairHead group) (And word (And first (And second Nil))) =
      branches scope 0 (And first (And second Nil)) >>> λ bs. stated scope (Branches group bs)
  -- (all BLOCK*), (any BLOCK*)
  form scope last at (RowHead group) (And word items) = branches scope 0 items >>> λ bs. stated scope (Branches group bs)
  -- (take STREAM), (length STREAM), (await PROMISE), (lock MUTEX) and so on
  form scope last at (ObjectHead call) (And word (And name Nil)) =
      used (object_kind call) scope name >>> λ object. stated scope (OnObject call object)
  -- (add STREAM EXPRESSION), (resolve PROMISE EXPRESSION), (try-resolve PROMISE EXPRESSION)
  form scope last at (ObjectHeadWith call) (And word (And name (And operand Nil))) =
      used (object_kind_with call) scope name >>> λ object. expression scope operand >>> λ e. stated scope (OnObjectWith call object e)
  -- (use-rw MUTEX STATEMENT*)
  form scope last at UseRwHead (And word (And name items)) =
      used MutexKind scope name >>> λ mutex. block_of (statements scope items) >>> λ b. stated scope (UseRw mutex b)
  -- (use-pool POOL NAME STATEMENT*)
  form scope last at UsePoolHead (And word (And pool_name (And name items))) =
      used PoolKind scope pool_name >>> λ pool. bring VariableKind scope name >>> λ inner. block_of (statements inner items) >>> λ b. stated scope (UsePool pool b)
  -- (submit EXECUTOR WEIGHT (VARIABLE*) STATEMENT*)
  form scope last at SubmitHead (And word (And name (And weight_number (And names items)))) =
      used ExecutorKind scope name >>> λ executor. number_within weights weight_number >>> λ weight. captured scope names >>> λ taken.
      block_of (statements (job_scope scope taken) items) >>> λ b. stated scope (Submit executor weight (slots_of taken) b)
  -- (sleep EXPRESSION)
  form scope last at SleepHead (And word (And time Nil)) = expression scope time >>> λ e. stated scope (Sleep e)
  -- (buf-read NAME FLOW LIMIT STATEMENT*)
  form scope last at BufReadHead (And word (And name (And flow_name (And limit_number items)))) =
      bring ReaderKind scope name >>> λ inner. used FlowKind scope flow_name >>> λ flow. number_within reader_limits limit_number >>> λ limit.
      block_of (statements inner items) >>> λ b. stated scope (BufRead flow limit b)
  -- (line READER), (take-all READER), (char READER), (at-end READER), (take-bytes READER EXPRESSION)
  form scope last at (ReaderHead call) (And word (And name Nil)) =
      used ReaderKind scope name >>> λ reader. stated scope (OnReader call reader)
  form scope last at TakeBytesHead (And word (And name (And count Nil))) =
      used ReaderKind scope name >>> λ reader. expression scope count >>> λ e. stated scope (TakeBytes reader e)
  -- (copy FLOW FLOW)
  form scope last at CopyHead (And word (And from_name (And to_name Nil))) =
      used FlowKind scope from_name >>> λ from. used FlowKind scope to_name >>> λ to. stated scope (Copy from to)
  -- (buf-write NAME FLOW STATEMENT*), (put WRITER EXPRESSION)
  form scope last at BufWriteHead (And word (And name (And flow_name items))) =
      bring WriterKind scope name >>> λ inner. used FlowKind scope flow_name >>> λ flow. block_of (statements inner items) >>> λ b. stated scope (BufWrite flow b)
  form scope last at PutHead (And word (And name (And text Nil))) =
      used WriterKind scope name >>> λ writer. expression scope text >>> λ e. stated scope (Put writer e)
  -- (open-dir DIRECTORY EXPRESSION NAME STATEMENT*)
  form scope last at OpenDirHead (And word (And directory_name (And path (And name items)))) =
      directory_of scope directory_name >>> λ directory. expression scope path >>> λ e. bring CapabilityKind scope name >>> λ inner.
      block_of (statements inner items) >>> λ b. stated scope (OpenDir directory e b)
  -- (load DIRECTORY EXPRESSION), (mkdir DIRECTORY EXPRESSION) and so on
  form scope last at (PathHead call) (And word (And name (And path Nil))) =
      directory_of scope name >>> λ directory. expression scope path >>> λ e. stated scope (OnPath call directory e)
  -- (save DIRECTORY EXPRESSION EXPRESSION), (save-new DIRECTORY EXPRESSION EXPRESSION)
  form scope last at (SaveHead only_new) (And word (And name (And path (And content Nil)))) =
      directory_of scope name >>> λ directory. expression scope path >>> λ e. expression scope content >>> λ c. stated scope (Save only_new directory e c)
  form scope last at head items = refuses (Shape at)
