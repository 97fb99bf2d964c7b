-- Statements that are read have forms of the features that are built, where no form is unbuilt. One clause for each form, as it is read.
use Rattle.std.proofs.Common.{◌≡◌, ℕ, ◌+◌, Bool, true, false, not, Option, Some, None, refl, sym, ap, subst}
use Rattle.std.specs.Prelude.{nat_le, if◌then◌else◌}
use Rattle.std.proofs.lemmas.Bool.{false≢true}
use Rattle.spec_script.specs.Captures.{slots_of, job_scope}
use Rattle.spec_script.specs.declared.Feature.TheVariants.{FirstForms, Exceptions}
use Rattle.spec_script.specs.Expressions.{item, operation, expression, traced}
use Rattle.spec_script.specs.Faults.{Shape, Size}
use Rattle.spec_script.specs.Features.{Built, is_built}
use Rattle.spec_script.specs.Forms.{ExpressionHead, UnitHead, OperatorHead, expression_head, are_texts, trace_feature, Head, LetHead, IfHead, GiveHead, RaiseHead, TryHead, RepeatHead, LoopHead, TraceHead, YieldHead, CheckHead, AwaitCancelHead, SubHead, ProtectHead, CancelHead, SwitchHead, ForkHead, ForkDaemonHead, ForkPromiseHead, FailHead, OnReleaseHead, PairHead, RowHead, ObjectHead, ObjectHeadWith, UseRwHead, UsePoolHead, SubmitHead, SleepHead, NowHead, BufReadHead, ReaderHead, TakeBytesHead, CopyHead, BufWriteHead, PutHead, OpenDirHead, PathHead, SaveHead, Form, form_of}
use Rattle.spec_script.specs.Kinds.{VariableKind, ContextKind, SwitchKind, ReaderKind, WriterKind, CapabilityKind, PromiseKind, MutexKind, PoolKind, ExecutorKind, FlowKind, object_kind, object_kind_with}
use Rattle.spec_script.specs.Limits.{most_traced, weights, reader_limits, most_branches}
use Rattle.spec_script.specs.Reads.{Reads, ◌>>>◌, gives, refuses, requires_that}
use Rattle.spec_script.specs.Scopes.{Scope}
use Rattle.spec_script.specs.Statements.{form_node, block_of, statements, statement, value, block, branches, form}
use Rattle.spec_script.specs.Syntax.{NumberValue, TextValue, Variable, UnitValue, Operation, Expression, Expressions, NoExpressions, AndExpression, Statement, Let, LetForm, If, Give, Raise, Try, Repeat, Loop, Trace, Yield, Check, AwaitCancel, Sub, Protect, Cancel, Switch, Fork, Fail, OnRelease, Branches, OnObject, OnObjectWith, UseRw, UsePool, Submit, Sleep, Now, BufRead, OnReader, TakeBytes, Copy, BufWrite, Put, OpenDir, OnPath, Save, Plain, Daemon, Promising, Group, Both, First, Begins, Statements, Done, Then, Blocks, NoBlocks, AndBlock}
use Rattle.spec_script.specs.Trees.{Tree, Word, Number, Text, Branch, Trees, Nil, And, place_of}
use Rattle.law_script.proofs.Scripts.FormedOperands.{failure_keeps, number_keeps, bring_keeps, used_keeps, directory_keeps, captured_keeps, expression_keeps, item_keeps, interned_keeps}
use Rattle.law_script.proofs.Scripts.FormedSteps.{given, refused, going_on, past, met, weaker, next_node_keeps, one_node_keeps, form_keeps}
use Rattle.law_domain.specs.Sound.BuiltForms.{HasBranches}
use Rattle.law_domain.specs.Forms.FeatureForms.{is_text, texts_alone, traced_by, Under, IsOf, IsBlockOf, AreBranchesOf, AreOf}
use Rattle.law_domain.proofs.Forms.Steps.{Finds, HasHead, is_written, found_head, node_is_among}

stands_under : (in_list : Bool) {inside : Type 0} → in_list ≡ true → inside → Under in_list inside
stands_under true e is = is
stands_under false e is = absurd (false≢true e)

-- ## Operands of `trace`

abbrev is_text_tree : Tree → Bool
is_text_tree (Text at text) = true
is_text_tree tree = false

text_or_not : (built : Built) (scope : Scope) (full : Bool) (tree : Tree) → Finds built (λ e. is_text_tree tree ≡ is_text e) (item scope full tree)
unfolding item operation
text_or_not built scope full (Word at name) =
    met (not full) (Size at) (past one_node_keeps λ _. past (used_keeps VariableKind scope (Word at name)) λ slot. given (Variable slot) refl)
text_or_not built scope full (Number at z) = met (not full) (Size at) (past one_node_keeps λ _. given (NumberValue z) refl)
text_or_not built scope full (Text at text) = met (not full) (Size at) (past one_node_keeps λ _. past (interned_keeps text) λ id. given (TextValue id) refl)
text_or_not built scope full (Branch at (And (Word place word) operands)) = by (expression_head word) operands
  where
    by : (head : Option ExpressionHead) (operands : Trees) → Finds built (λ e. false ≡ is_text e) (operation scope full at head operands)
    by (Some UnitHead) Nil = met (not full) (Size at) (past (form_keeps at Exceptions false) λ _. past one_node_keeps λ _. given UnitValue refl)
    by (Some (OperatorHead operator)) (And first (And second Nil)) =
        met (not full) (Size at)
        (past (form_keeps at Exceptions false) λ _. past one_node_keeps λ _.
        past (item_keeps scope false first) λ left. past (item_keeps scope false second) λ right. given (Operation operator left right) refl)
    by head operands = refused (Shape at)
text_or_not built scope full (Branch at row) = refused (Shape at)

first_text : (tree : Tree) (row : Trees) (e : Expression) (others : Expressions) → are_texts row ≡ texts_alone others → is_text_tree tree ≡ is_text e
    → are_texts (And tree row) ≡ texts_alone (AndExpression e others)
first_text (Text at text) row (TextValue id) others rest own = rest
first_text (Text at text) row e others rest own = absurd (false≢true (sym own))
first_text tree row (TextValue id) others rest own = absurd (false≢true own)
first_text tree row e others rest own = refl

abbrev AreTraced : Trees → Expressions → Type 0
AreTraced row es = (are_texts row ≡ texts_alone es) × (trace_feature row ≡ traced_by es)

operands_are_traced : (built : Built) (scope : Scope) (n : ℕ) (row : Trees) → Finds built (AreTraced row) (traced scope n row)
unfolding traced
operands_are_traced built scope n Nil = given NoExpressions (refl, refl)
operands_are_traced built scope n (And tree row) =
    going_on (text_or_not built scope (nat_le most_traced n) tree) λ first.
    going_on (operands_are_traced built scope (n + 1) row) λ others.
    given (AndExpression first others) (λ rest own.
    let same = first_text tree row first others rest.0 own in
    (same, ap (λ b. if b then FirstForms else Exceptions) same))

-- ## Branches

abbrev has_tree : Trees → Bool
has_tree Nil = false
has_tree (And tree row) = true

abbrev has_block : Blocks → Bool
has_block NoBlocks = false
has_block (AndBlock first rest) = true

some_branches : (group : Group) (these : Blocks) → has_block these ≡ true → HasBranches group these
some_branches Both NoBlocks e = absurd (false≢true e)
some_branches First NoBlocks e = absurd (false≢true e)
some_branches group these e = tt

any_branches : (group : Group) (these : Blocks) → is_written (RowHead group) ≡ true → HasBranches group these
any_branches Both these e = absurd (false≢true e)
any_branches First these e = absurd (false≢true e)
any_branches group these e = tt

-- ## Statements

abbrev behind_word : Trees → Trees
behind_word Nil = Nil
behind_word (And word items) = items

-- a form of the list, where its head is that of one
abbrev IsStated : Built → Head → Trees → Statement × Scope → Type 0
IsStated built head items it = HasHead built head (behind_word items) → IsOf built it.0

-- what a `let` binds stands under the feature of `let`
abbrev IsBound : Built → Statement → Type 0
IsBound built it = is_built built Exceptions ≡ true → IsOf built it

abbrev AreBranches : Built → Trees → Blocks → Type 0
AreBranches built row these = (has_tree row ≡ has_block these) × AreBranchesOf built these

pub block_is_of : (built : Built) (these : Reads Statements) → Finds built (AreOf built) these → Finds built (IsBlockOf built) (block_of these)
unfolding IsBlockOf
block_is_of built these are = past next_node_keeps λ number. going_on are λ read. given (Begins number read) (λ so. so)

mutual
  unfolding statements statement value block branches form IsOf IsBlockOf AreBranchesOf AreOf

  pub statements_are_of : (built : Built) (scope : Scope) (row : Trees) → Finds built (AreOf built) (statements scope row)
  statements_are_of built scope Nil = past one_node_keeps λ _. given Done tt
  statements_are_of built scope (And tree Nil) = going_on (statement_is_of built scope true tree) λ it. past one_node_keeps λ _. given (Then it.0 Done) (λ so. (so, tt))
  statements_are_of built scope (And tree (And next row)) =
      going_on (statement_is_of built scope false tree) λ it. going_on (statements_are_of built it.1 (And next row)) λ others. given (Then it.0 others) (λ rest own. (own, rest))

  statement_is_of : (built : Built) (scope : Scope) (last : Bool) (tree : Tree) → Finds built (λ it. IsOf built it.0) (statement scope last tree)
  statement_is_of built scope last (Branch at (And (Word place word) items)) = by (form_of word) refl (λ head. form_is_of built scope last at head (And (Word place word) items))
    where
      by : (found : Option Form) → form_of word ≡ found → ((head : Head) → Finds built (IsStated built head (And (Word place word) items)) (form scope last at head (And (Word place word) items)))
          → Finds built (λ (it : Statement × Scope). IsOf built it.0) (elim found [
            | None ↦ refuses (Shape at)
            | Some it ↦ (form_node at it items >>> λ _. form scope last at it.head (And (Word place word) items))
          ])
      by None e rest = refused (Shape at)
      by (Some it) e rest = going_on (node_is_among built at it items) λ _. weaker (λ a stated is. stated (found_head built word it items e is)) (rest it.head)
  statement_is_of built scope last tree = refused (Shape (place_of tree))

  value_is_of : (built : Built) (scope : Scope) (tree : Tree) → Finds built (IsBound built) (value scope tree)
  value_is_of built scope (Branch at (And (Word place word) items)) = by (form_of word) refl (λ head. form_is_of built scope true at head (And (Word place word) items))
    where
      by : (found : Option Form) → form_of word ≡ found → ((head : Head) → Finds built (IsStated built head (And (Word place word) items)) (form scope true at head (And (Word place word) items)))
          → Finds built (IsBound built) (elim found [
            | None ↦ (expression scope (Branch at (And (Word place word) items)) >>> λ e. gives (Let e))
            | Some it ↦
                (requires_that it.gives (Shape at) >>> λ _.
                form_node at it items >>> λ _.
                form scope true at it.head (And (Word place word) items) >>> λ inner.
                gives (LetForm inner.0))
          ])
      by None e rest = past (expression_keeps scope (Branch at (And (Word place word) items))) λ e. given (Let e) (λ is. stands_under (is_built built Exceptions) is tt)
      by (Some it) e rest =
          met it.gives (Shape at)
          (going_on (node_is_among built at it items) λ _. going_on (rest it.head) λ inner.
          given (LetForm inner.0) (λ stated is let_is. stands_under (is_built built Exceptions) let_is (stated (found_head built word it items e is))))
  value_is_of built scope tree = past (expression_keeps scope tree) λ e. given (Let e) (λ is. stands_under (is_built built Exceptions) is tt)

  block_item_is_of : (built : Built) (scope : Scope) (full : Bool) (tree : Tree) → Finds built (IsBlockOf built) (block scope full tree)
  block_item_is_of built scope full (Branch at row) = met (not full) (Size at) (block_is_of built (statements scope row) (statements_are_of built scope row))
  block_item_is_of built scope full tree = refused (Shape (place_of tree))

  branches_are_of : (built : Built) (scope : Scope) (before : ℕ) (row : Trees) → Finds built (AreBranches built row) (branches scope before row)
  branches_are_of built scope before Nil = given NoBlocks (refl, tt)
  branches_are_of built scope before (And tree row) =
      going_on (block_item_is_of built scope (nat_le most_branches before) tree) λ first.
      going_on (branches_are_of built scope (before + 1) row) λ others. given (AndBlock first others) (λ rest own. (refl, (own, rest.1)))

  form_is_of : (built : Built) (scope : Scope) (last : Bool) (at : ℕ) (head : Head) (items : Trees) → Finds built (IsStated built head items) (form scope last at head items)
  form_is_of built scope last at LetHead (And word (And name (And bound Nil))) =
      past (bring_keeps VariableKind scope name) λ inner. going_on (value_is_of built scope bound) λ it. given (it, inner) (λ is head. is head.among)
  form_is_of built scope last at IfHead (And word (And test (And then_block (And else_block Nil)))) =
      past (expression_keeps scope test) λ e. going_on (block_item_is_of built scope false then_block) λ b. going_on (block_item_is_of built scope false else_block) λ c.
      given (If e b c, scope) (λ second first head. stands_under _ head.among (first, second))
  form_is_of built scope last at GiveHead (And word (And given_value Nil)) =
      met last (Shape at) (past (expression_keeps scope given_value) λ e. given (Give e, scope) (λ head. stands_under _ head.among tt))
  form_is_of built scope last at RaiseHead (And word (And text Nil)) = past (failure_keeps text) λ id. given (Raise id, scope) (λ head. stands_under _ head.among tt)
  form_is_of built scope last at TryHead (And word (And tried (And name (And handler Nil)))) =
      going_on (block_item_is_of built scope false tried) λ b. past (bring_keeps VariableKind scope name) λ inner. going_on (block_item_is_of built inner false handler) λ c.
      given (Try b c, scope) (λ second first head. stands_under _ head.among (first, second))
  form_is_of built scope last at RepeatHead (And word (And name (And times items))) =
      past (bring_keeps VariableKind scope name) λ inner. past (expression_keeps scope times) λ e.
      going_on (block_is_of built (statements inner items) (statements_are_of built inner items)) λ b. given (Repeat e b, scope) (λ own head. stands_under _ head.among own)
  form_is_of built scope last at LoopHead (And word items) =
      going_on (block_is_of built (statements scope items) (statements_are_of built scope items)) λ b. given (Loop b, scope) (λ own head. stands_under _ head.among own)
  form_is_of built scope last at TraceHead (And word items) =
      going_on (operands_are_traced built scope 0 items) λ es.
      given (Trace es, scope) (λ same head. stands_under (is_built built (traced_by es)) (subst (λ f. is_built built f ≡ true) same.1 head.among) tt)
  form_is_of built scope last at YieldHead (And word Nil) = given (Yield, scope) (λ head. stands_under _ head.among tt)
  form_is_of built scope last at CheckHead (And word Nil) = given (Check, scope) (λ head. stands_under _ head.among tt)
  form_is_of built scope last at AwaitCancelHead (And word Nil) = given (AwaitCancel, scope) (λ head. stands_under _ head.among tt)
  form_is_of built scope last at NowHead (And word Nil) = given (Now, scope) (λ head. stands_under _ head.among tt)
  form_is_of built scope last at SubHead (And word (And name items)) =
      past (bring_keeps ContextKind scope name) λ inner. going_on (block_is_of built (statements inner items) (statements_are_of built inner items)) λ b.
      given (Sub b, scope) (λ own head. stands_under _ head.among own)
  form_is_of built scope last at ProtectHead (And word items) =
      going_on (block_is_of built (statements scope items) (statements_are_of built scope items)) λ b. given (Protect b, scope) (λ own head. stands_under _ head.among own)
  form_is_of built scope last at CancelHead (And word (And name (And text Nil))) =
      past (used_keeps ContextKind scope name) λ context. past (failure_keeps text) λ id. given (Cancel context id, scope) (λ head. stands_under _ head.among tt)
  form_is_of built scope last at SwitchHead (And word (And name items)) =
      past (bring_keeps SwitchKind scope name) λ inner. going_on (block_is_of built (statements inner items) (statements_are_of built inner items)) λ b.
      given (Switch b, scope) (λ own head. stands_under _ head.among own)
  form_is_of built scope last at ForkHead (And word (And name items)) =
      past (used_keeps SwitchKind scope name) λ switch. going_on (block_is_of built (statements scope items) (statements_are_of built scope items)) λ b.
      given (Fork Plain switch b, scope) (λ own head. stands_under _ head.among own)
  form_is_of built scope last at ForkDaemonHead (And word (And name items)) =
      past (used_keeps SwitchKind scope name) λ switch. going_on (block_is_of built (statements scope items) (statements_are_of built scope items)) λ b.
      given (Fork Daemon switch b, scope) (λ own head. stands_under _ head.among own)
  form_is_of built scope last at ForkPromiseHead (And word (And name (And promise_name items))) =
      past (used_keeps SwitchKind scope name) λ switch. past (used_keeps PromiseKind scope promise_name) λ promise.
      going_on (block_is_of built (statements scope items) (statements_are_of built scope items)) λ b.
      given (Fork (Promising promise) switch b, scope) (λ own head. stands_under _ head.among own)
  form_is_of built scope last at FailHead (And word (And name (And text Nil))) =
      past (used_keeps SwitchKind scope name) λ switch. past (failure_keeps text) λ id. given (Fail switch id, scope) (λ head. stands_under _ head.among tt)
  form_is_of built scope last at OnReleaseHead (And word (And name items)) =
      past (used_keeps SwitchKind scope name) λ switch. going_on (block_is_of built (statements scope items) (statements_are_of built scope items)) λ b.
      given (OnRelease switch b, scope) (λ own head. stands_under _ head.among own)
  form_is_of built scope last at (PairHead group) (And word (And first (And second Nil))) =
      going_on (branches_are_of built scope 0 (And first (And second Nil))) λ bs.
      given (Branches group bs, scope) (λ own head. stands_under _ head.among (some_branches group bs (sym own.0), own.1))
  form_is_of built scope last at (RowHead group) (And word items) =
      going_on (branches_are_of built scope 0 items) λ bs. given (Branches group bs, scope) (λ own head. stands_under _ head.among (any_branches group bs head.written, own.1))
  form_is_of built scope last at (ObjectHead call) (And word (And name Nil)) =
      past (used_keeps (object_kind call) scope name) λ object. given (OnObject call object, scope) (λ head. stands_under _ head.among tt)
  form_is_of built scope last at (ObjectHeadWith call) (And word (And name (And operand Nil))) =
      past (used_keeps (object_kind_with call) scope name) λ object. past (expression_keeps scope operand) λ e.
      given (OnObjectWith call object e, scope) (λ head. stands_under _ head.among tt)
  form_is_of built scope last at UseRwHead (And word (And name items)) =
      past (used_keeps MutexKind scope name) λ mutex. going_on (block_is_of built (statements scope items) (statements_are_of built scope items)) λ b.
      given (UseRw mutex b, scope) (λ own head. stands_under _ head.among own)
  form_is_of built scope last at UsePoolHead (And word (And pool_name (And name items))) =
      past (used_keeps PoolKind scope pool_name) λ pool. past (bring_keeps VariableKind scope name) λ inner.
      going_on (block_is_of built (statements inner items) (statements_are_of built inner items)) λ b. given (UsePool pool b, scope) (λ own head. stands_under _ head.among own)
  form_is_of built scope last at SubmitHead (And word (And name (And weight_number (And names items)))) =
      past (used_keeps ExecutorKind scope name) λ executor. past (number_keeps weights weight_number) λ weight. past (captured_keeps scope names) λ taken.
      going_on (block_is_of built (statements (job_scope scope taken) items) (statements_are_of built (job_scope scope taken) items)) λ b.
      given (Submit executor weight (slots_of taken) b, scope) (λ own head. stands_under _ head.among own)
  form_is_of built scope last at SleepHead (And word (And time Nil)) = past (expression_keeps scope time) λ e. given (Sleep e, scope) (λ head. stands_under _ head.among tt)
  form_is_of built scope last at BufReadHead (And word (And name (And flow_name (And limit_number items)))) =
      past (bring_keeps ReaderKind scope name) λ inner. past (used_keeps FlowKind scope flow_name) λ flow. past (number_keeps reader_limits limit_number) λ limit.
      going_on (block_is_of built (statements inner items) (statements_are_of built inner items)) λ b. given (BufRead flow limit b, scope) (λ own head. stands_under _ head.among own)
  form_is_of built scope last at (ReaderHead call) (And word (And name Nil)) =
      past (used_keeps ReaderKind scope name) λ reader. given (OnReader call reader, scope) (λ head. stands_under _ head.among tt)
  form_is_of built scope last at TakeBytesHead (And word (And name (And count Nil))) =
      past (used_keeps ReaderKind scope name) λ reader. past (expression_keeps scope count) λ e. given (TakeBytes reader e, scope) (λ head. stands_under _ head.among tt)
  form_is_of built scope last at CopyHead (And word (And from_name (And to_name Nil))) =
      past (used_keeps FlowKind scope from_name) λ from. past (used_keeps FlowKind scope to_name) λ to. given (Copy from to, scope) (λ head. stands_under _ head.among tt)
  form_is_of built scope last at BufWriteHead (And word (And name (And flow_name items))) =
      past (bring_keeps WriterKind scope name) λ inner. past (used_keeps FlowKind scope flow_name) λ flow.
      going_on (block_is_of built (statements inner items) (statements_are_of built inner items)) λ b. given (BufWrite flow b, scope) (λ own head. stands_under _ head.among own)
  form_is_of built scope last at PutHead (And word (And name (And text Nil))) =
      past (used_keeps WriterKind scope name) λ writer. past (expression_keeps scope text) λ e. given (Put writer e, scope) (λ head. stands_under _ head.among tt)
  form_is_of built scope last at OpenDirHead (And word (And directory_name (And path (And name items)))) =
      past (directory_keeps scope directory_name) λ directory. past (expression_keeps scope path) λ e. past (bring_keeps CapabilityKind scope name) λ inner.
      going_on (block_is_of built (statements inner items) (statements_are_of built inner items)) λ b. given (OpenDir directory e b, scope) (λ own head. stands_under _ head.among own)
  form_is_of built scope last at (PathHead call) (And word (And name (And path Nil))) =
      past (directory_keeps scope name) λ directory. past (expression_keeps scope path) λ e. given (OnPath call directory e, scope) (λ head. stands_under _ head.among tt)
  form_is_of built scope last at (SaveHead only_new) (And word (And name (And path (And content Nil)))) =
      past (directory_keeps scope name) λ directory. past (expression_keeps scope path) λ e. past (expression_keeps scope content) λ c.
      given (Save only_new directory e c, scope) (λ head. stands_under _ head.among tt)
  form_is_of built scope last at head items = refused (Shape at)
