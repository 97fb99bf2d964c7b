-- A script is read alike from trees that are the same but for their places: each step of its reading makes the same, the places of forms and of faults aside.
use Rattle.std.proofs.Common.{◌≡◌, ℕ, ◌+◌, ◌&&◌, Bool, true, false, List, [], ◌∷◌, ◌++◌, length, nat_lt, nat_le, Option, Some, None, refl, sym, ap, subst, ◌∙◌}
use Rattle.std.specs.Prelude.{map, is_none, if◌then◌else◌, not, Result, Ok, Err, pos, negsuc}
use Rattle.std.proofs.lemmas.List.{map-append}
use Rattle.spec_script.specs.declared.Feature.{Feature}
use Rattle.spec_script.specs.declared.Feature.TheVariants.{FirstForms, Exceptions}
use Rattle.spec_script.specs.Expressions.{expression, has_room, item, operation, traced}
use Rattle.spec_script.specs.Faults.{ScriptFault, Shape, Size, Twice, Name}
use Rattle.spec_script.specs.Forms.{AwaitCancelHead, BufReadHead, BufWriteHead, CancelHead, CheckHead, CopyHead, ExpressionHead, FailHead, ForkDaemonHead, ForkHead, ForkPromiseHead, Form, GiveHead, Head, IfHead, LetHead, LoopHead, NowHead, ObjectHead, ObjectHeadWith, OnReleaseHead, OpenDirHead, OperatorHead, PairHead, PathHead, ProtectHead, PutHead, RaiseHead, ReaderHead, RepeatHead, RowHead, SaveHead, SleepHead, SubHead, SubmitHead, SwitchHead, TakeBytesHead, TraceHead, TryHead, UnitHead, UsePoolHead, UseRwHead, YieldHead, are_texts, expression_head, feature_of, form_of, trace_feature}
use Rattle.spec_script.specs.Kinds.{object_kind, object_kind_with, Kind, VariableKind, ContextKind, SwitchKind, ReaderKind, WriterKind, CapabilityKind, PromiseKind, MutexKind, PoolKind, ExecutorKind, FlowKind, DirectoryKind, is_same_kind}
use Rattle.spec_script.specs.Limits.{Range, most_branches, most_captured, most_names, most_traced, reader_limits, weights}
use Rattle.spec_script.specs.Reads.{Formed, Made, Reads, ◌>>>◌, gives, refuses, requires_that, one_node, one_form, interned, text_of, failure_of, number_within, may_fail}
use Rattle.spec_script.specs.Results.{◌>>=◌}
use Rattle.spec_script.specs.Scopes.{Named, Scope, named, named_in, is_variable, bring_by, bring, used_by, used, directory_by, directory_of, with_name}
use Rattle.eio_value.specs.declared.value.TextId.{TextId}
use Rattle.spec_script.specs.Captures.{captured_behind, captured, slots_of, job_scope}
use Rattle.spec_script.specs.Statements.{form_node, block_of, statements, statement, value, block, branches, form}
use Rattle.spec_script.specs.Syntax.{AndBlock, AndExpression, AwaitCancel, Begins, Branches, BufRead, BufWrite, Cancel, Check, Copy, Daemon, Declared, Directory, Done, Fail, Fork, Give, If, Let, LetForm, Loop, NoBlocks, NoExpressions, Now, NumberValue, OnObject, OnObjectWith, OnPath, OnReader, OnRelease, OpenDir, Opened, Operation, Plain, Promising, Protect, Put, Raise, Repeat, Save, Sleep, Statements, Sub, Submit, Switch, TakeBytes, TextValue, Then, Trace, Try, UnitValue, UsePool, UseRw, Variable, Yield}
use Rattle.spec_script.specs.Trees.{Tree, Word, Number, Text, Branch, Trees, Nil, And}
use Rattle.law_script.specs.Trees.Places.{bare, bare_row}
use Rattle.law_script.specs.Scripts.Meanings.{bare_formed}

-- ## Places set to 0

abbrev pub bare_made : Made → Made
bare_made made = record made { formed = map bare_formed made.formed }

abbrev pub bare_fault : ScriptFault → ScriptFault
bare_fault (Shape at) = Shape 0
bare_fault (Size at) = Size 0
bare_fault (Twice at) = Twice 0
bare_fault (Name at) = Name 0

abbrev pub bare_result : {A : Type 0} → Result (A × Made) ScriptFault → Result (A × Made) ScriptFault
bare_result (Ok found) = Ok (found.0, bare_made found.1)
bare_result (Err e) = Err (bare_fault e)

-- two steps that make the same, places aside
pub record Alike {A : Type 0} (r s : Reads A) : Type 0 where
  pub same : (made : Made) → bare_result (r made) ≡ s (bare_made made)

pub behind : {A B : Type 0} {r s : Reads A} {k l : A → Reads B} → Alike r s → ((a : A) → Alike (k a) (l a)) → Alike (r >>> k) (s >>> l)
behind {A} {B} {r} {s} {k} {l} rs kl = record { same = (λ made. by made (r made) (rs.same made)) }
  where
    by : (made : Made) (x : Result (A × Made) ScriptFault) → bare_result x ≡ s (bare_made made) → bare_result (x >>= λ found. k found.0 found.1) ≡ (s (bare_made made) >>= λ found. l found.0 found.1)
    by made (Ok found) e = (kl found.0).same found.1 ∙ ap (λ (y : Result (A × Made) ScriptFault). y >>= λ found. l found.0 found.1) e
    by made (Err fault) e = ap (λ (y : Result (A × Made) ScriptFault). y >>= λ found. l found.0 found.1) e

pub given : {A : Type 0} (a : A) → Alike (gives a) (gives a)
given a = record { same = (λ made. refl) }

pub refused : {A : Type 0} (e : ScriptFault) → Alike {A = A} (refuses e) (refuses (bare_fault e))
refused e = record { same = (λ made. refl) }

pub required : (b : Bool) (e : ScriptFault) → Alike (requires_that b e) (requires_that b (bare_fault e))
required true e = record { same = (λ made. refl) }
required false e = record { same = (λ made. refl) }

pub node_alike : Alike one_node one_node
node_alike = record { same = (λ made. refl) }

pub form_one : (at : ℕ) (feature : Feature) (mocked : Bool) → Alike (one_form at feature mocked) (one_form 0 feature mocked)
form_one at feature mocked = record { same = (λ made. ap (λ (l : List Formed). Ok (tt {0}, record made { formed = l })) (map-append bare_formed made.formed (record { at = at; feature = feature; mocked = mocked } ∷ []))) }

pub interned_alike : (text : List ℕ) → Alike (interned text) (interned text)
interned_alike text = record { same = (λ made. refl) }

-- ## Operands and names

may_alike : (text : TextId) → Alike (may_fail text) (may_fail text)
may_alike text = record { same = (λ made. refl) }

pub text_alike : (tree : Tree) → Alike (text_of tree) (text_of (bare tree))
unfolding bare
text_alike (Text at text) = interned_alike text
text_alike (Word at word) = refused (Shape at)
text_alike (Number at z) = refused (Shape at)
text_alike (Branch at row) = refused (Shape at)

pub failure_alike : (tree : Tree) → Alike (failure_of tree) (failure_of (bare tree))
failure_alike tree = behind (text_alike tree) (λ text. behind (may_alike text) (λ done. given text))

pub number_alike : (range : Range) (tree : Tree) → Alike (number_within range tree) (number_within range (bare tree))
unfolding bare
number_alike range (Number at (pos n)) = behind (required (nat_le range.least n && nat_le n range.most) (Size at)) (λ done. given n)
number_alike range (Number at (negsuc n)) = refused (Size at)
number_alike range (Word at word) = refused (Shape at)
number_alike range (Text at text) = refused (Shape at)
number_alike range (Branch at row) = refused (Shape at)

used_by_alike : (kind : Kind) (at : ℕ) (found : Option Named) → Alike (used_by kind at found) (used_by kind 0 found)
used_by_alike kind at None = refused (Name at)
used_by_alike kind at (Some it) = behind (required (is_same_kind it.kind kind) (Name at)) (λ done. given it.number)

pub used_alike : (kind : Kind) (scope : Scope) (tree : Tree) → Alike (used kind scope tree) (used kind scope (bare tree))
unfolding bare used
used_alike kind scope (Word at name) = used_by_alike kind at (named scope name)
used_alike kind scope (Number at z) = refused (Shape at)
used_alike kind scope (Text at text) = refused (Shape at)
used_alike kind scope (Branch at row) = refused (Shape at)

bring_by_alike : (kind : Kind) (scope : Scope) (at : ℕ) (name : List ℕ) (before : Option Named) → Alike (bring_by kind scope at name before) (bring_by kind scope 0 name before)
bring_by_alike kind scope at name before = by (is_variable before)
  where
    by : (b : Bool) → Alike
        (elim b as (λ _. Reads Scope) [ true ↦ gives (with_name kind name scope) | false ↦ (requires_that (nat_lt (length scope.names) most_names) (Size at) >>> λ _. requires_that (is_none before) (Twice at) >>> λ _. gives (with_name kind name scope)) ])
        (elim b as (λ _. Reads Scope) [ true ↦ gives (with_name kind name scope) | false ↦ (requires_that (nat_lt (length scope.names) most_names) (Size 0) >>> λ _. requires_that (is_none before) (Twice 0) >>> λ _. gives (with_name kind name scope)) ])
    by true = given (with_name kind name scope)
    by false = behind (required (nat_lt (length scope.names) most_names) (Size at)) (λ a. behind (required (is_none before) (Twice at)) (λ b. given (with_name kind name scope)))

pub bring_alike : (kind : Kind) (scope : Scope) (tree : Tree) → Alike (bring kind scope tree) (bring kind scope (bare tree))
unfolding bare bring
bring_alike kind scope (Word at name) = bring_by_alike kind scope at name (named scope name)
bring_alike kind scope (Number at z) = refused (Shape at)
bring_alike kind scope (Text at text) = refused (Shape at)
bring_alike kind scope (Branch at row) = refused (Shape at)

directory_kind_alike : (at number : ℕ) (kind : Kind) → Alike
    (elim kind as (λ _. Reads Directory) [ CapabilityKind ↦ gives (Opened number) | DirectoryKind ↦ gives (Declared number) | _ ↦ refuses (Name at) ])
    (elim kind as (λ _. Reads Directory) [ CapabilityKind ↦ gives (Opened number) | DirectoryKind ↦ gives (Declared number) | _ ↦ refuses (Name 0) ])
directory_kind_alike at number CapabilityKind = given (Opened number)
directory_kind_alike at number DirectoryKind = given (Declared number)
directory_kind_alike at number kind = refused (Name at)

directory_by_alike : (at : ℕ) (found : Option Named) → Alike (directory_by at found) (directory_by 0 found)
directory_by_alike at None = refused (Name at)
directory_by_alike at (Some it) = directory_kind_alike at it.number it.kind

pub directory_alike : (scope : Scope) (tree : Tree) → Alike (directory_of scope tree) (directory_of scope (bare tree))
unfolding bare directory_of
directory_alike scope (Word at name) = directory_by_alike at (named scope name)
directory_alike scope (Number at z) = refused (Shape at)
directory_alike scope (Text at text) = refused (Shape at)
directory_alike scope (Branch at row) = refused (Shape at)

captured_behind_alike : (scope : Scope) (before : List Named) (row : Trees) → Alike (captured_behind scope before row) (captured_behind scope before (bare_row row))
unfolding bare bare_row captured_behind
captured_behind_alike scope before Nil = given before
captured_behind_alike scope before (And (Word at name) row) =
    behind (required (nat_lt (length before) most_captured) (Size at)) (λ a. behind (required (is_none (named_in before name)) (Twice at)) (λ b.
    behind (used_alike VariableKind scope (Word at name)) (λ slot. captured_behind_alike scope (before ++ record { name = name; kind = VariableKind; number = slot } ∷ []) row)))
captured_behind_alike scope before (And (Number at z) row) = refused (Shape at)
captured_behind_alike scope before (And (Text at text) row) = refused (Shape at)
captured_behind_alike scope before (And (Branch at items) row) = refused (Shape at)

captured_alike : (scope : Scope) (tree : Tree) → Alike (captured scope tree) (captured scope (bare tree))
unfolding bare bare_row
captured_alike scope (Branch at row) = captured_behind_alike scope [] row
captured_alike scope (Word at name) = refused (Shape at)
captured_alike scope (Number at z) = refused (Shape at)
captured_alike scope (Text at text) = refused (Shape at)

-- ## Expressions

room_alike : (full : Bool) (at : ℕ) → Alike (has_room full at) (has_room full 0)
room_alike full at = required (not full) (Size at)

mutual
  unfolding bare bare_row item operation

  pub item_alike : (scope : Scope) (full : Bool) (tree : Tree) → Alike (item scope full tree) (item scope full (bare tree))
  item_alike scope full (Word at name) = behind (room_alike full at) (λ a. behind node_alike (λ b. behind (used_alike VariableKind scope (Word at name)) (λ slot. given (Variable slot))))
  item_alike scope full (Number at z) = behind (room_alike full at) (λ a. behind node_alike (λ b. given (NumberValue z)))
  item_alike scope full (Text at text) = behind (room_alike full at) (λ a. behind node_alike (λ b. behind (interned_alike text) (λ id. given (TextValue id))))
  item_alike scope full (Branch at (And (Word place word) operands)) = operation_alike scope full at (expression_head word) operands
  item_alike scope full (Branch at row) = refused (Shape at)

  operation_alike : (scope : Scope) (full : Bool) (at : ℕ) (head : Option ExpressionHead) (operands : Trees) → Alike (operation scope full at head operands) (operation scope full 0 head (bare_row operands))
  operation_alike scope full at (Some UnitHead) Nil = behind (room_alike full at) (λ a. behind (form_one at Exceptions false) (λ b. behind node_alike (λ c. given UnitValue)))
  operation_alike scope full at (Some (OperatorHead operator)) (And first (And second Nil)) =
      behind (room_alike full at) (λ a. behind (form_one at Exceptions false) (λ b. behind node_alike (λ c. behind (item_alike scope false first) (λ left. behind (item_alike scope false second) (λ right. given (Operation operator left right))))))
  operation_alike scope full at head operands = refused (Shape at)

pub traced_alike : (scope : Scope) (n : ℕ) (row : Trees) → Alike (traced scope n row) (traced scope n (bare_row row))
unfolding bare_row traced
traced_alike scope n Nil = given NoExpressions
traced_alike scope n (And tree row) = behind (item_alike scope (nat_le most_traced n) tree) (λ first. behind (traced_alike scope (n + 1) row) (λ others. given (AndExpression first others)))

-- ## Statements

texts_alike : (row : Trees) → are_texts (bare_row row) ≡ are_texts row
unfolding bare bare_row
texts_alike Nil = refl
texts_alike (And (Text at text) row) = texts_alike row
texts_alike (And (Word at word) row) = refl
texts_alike (And (Number at z) row) = refl
texts_alike (And (Branch at items) row) = refl

trace_feature_alike : (row : Trees) → trace_feature (bare_row row) ≡ trace_feature row
unfolding bare bare_row
trace_feature_alike Nil = refl
trace_feature_alike (And tree row) = ap (λ b. if b then FirstForms else Exceptions) (texts_alike (And tree row))

feature_alike : (it : Form) (row : Trees) → feature_of it (bare_row row) ≡ feature_of it row
feature_alike it row = ap (λ (t : Feature). elim it.head as (λ _. Feature) [ TraceHead ↦ t | _ ↦ it.feature ]) (trace_feature_alike row)

form_node_alike : (at : ℕ) (it : Form) (row : Trees) → Alike (form_node at it row) (form_node 0 it (bare_row row))
form_node_alike at it row =
    subst (λ (t : Feature). Alike (form_node at it row) (one_form 0 t it.mocked >>> λ _. one_node)) (sym (feature_alike it row)) (behind (form_one at (feature_of it row) it.mocked) (λ a. node_alike))

pub block_of_alike : {r s : Reads Statements} → Alike r s → Alike (block_of r) (block_of s)
block_of_alike {r} {s} rs = record { same = (λ made. (behind rs (λ read. given (Begins made.nodes read))).same made) }

pub if_form : {A X : Type 0} (f g : Reads A) (h k : X → Reads A) (found : Option X) → Alike f g → ((it : X) → Alike (h it) (k it)) → Alike (elim found as (λ _. Reads A) [ None ↦ f | Some it ↦ h it ]) (elim found as (λ _. Reads A) [ None ↦ g | Some it ↦ k it ])
if_form f g h k None fg hk = fg
if_form f g h k (Some it) fg hk = hk it

let_alike : (scope : Scope) (tree : Tree) → Alike (expression scope tree >>> λ e. gives (Let e)) (expression scope (bare tree) >>> λ e. gives (Let e))
let_alike scope tree = behind (item_alike scope false tree) (λ e. given (Let e))

mutual
  unfolding bare bare_row statements statement value block branches form

  pub statements_alike : (scope : Scope) (row : Trees) → Alike (statements scope row) (statements scope (bare_row row))
  statements_alike scope Nil = behind node_alike (λ a. given Done)
  statements_alike scope (And tree Nil) = behind (statement_alike scope true tree) (λ it. behind node_alike (λ a. given (Then it.0 Done)))
  statements_alike scope (And tree (And next row)) = behind (statement_alike scope false tree) (λ it. behind (statements_alike it.1 (And next row)) (λ others. given (Then it.0 others)))

  statement_alike : (scope : Scope) (last : Bool) (tree : Tree) → Alike (statement scope last tree) (statement scope last (bare tree))
  statement_alike scope last (Branch at (And (Word place word) items)) =
      if_form _ _ _ _ (form_of word) (refused (Shape at)) (λ it. behind (form_node_alike at it items) (λ a. form_alike scope last at it.head (And (Word place word) items)))
  statement_alike scope last (Branch at Nil) = refused (Shape at)
  statement_alike scope last (Branch at (And (Number place z) items)) = refused (Shape at)
  statement_alike scope last (Branch at (And (Text place text) items)) = refused (Shape at)
  statement_alike scope last (Branch at (And (Branch place row) items)) = refused (Shape at)
  statement_alike scope last (Word at word) = refused (Shape at)
  statement_alike scope last (Number at z) = refused (Shape at)
  statement_alike scope last (Text at text) = refused (Shape at)

  value_alike : (scope : Scope) (tree : Tree) → Alike (value scope tree) (value scope (bare tree))
  value_alike scope (Branch at (And (Word place word) items)) =
      if_form _ _ _ _ (form_of word) (let_alike scope (Branch at (And (Word place word) items)))
      (λ it. behind (required it.gives (Shape at)) (λ a. behind (form_node_alike at it items) (λ b. behind (form_alike scope true at it.head (And (Word place word) items)) (λ inner. given (LetForm inner.0)))))
  value_alike scope (Branch at Nil) = let_alike scope (Branch at Nil)
  value_alike scope (Branch at (And (Number place z) items)) = let_alike scope (Branch at (And (Number place z) items))
  value_alike scope (Branch at (And (Text place text) items)) = let_alike scope (Branch at (And (Text place text) items))
  value_alike scope (Branch at (And (Branch place row) items)) = let_alike scope (Branch at (And (Branch place row) items))
  value_alike scope (Word at word) = let_alike scope (Word at word)
  value_alike scope (Number at z) = let_alike scope (Number at z)
  value_alike scope (Text at text) = let_alike scope (Text at text)

  block_alike : (scope : Scope) (full : Bool) (tree : Tree) → Alike (block scope full tree) (block scope full (bare tree))
  block_alike scope full (Branch at row) = behind (room_alike full at) (λ a. block_of_alike (statements_alike scope row))
  block_alike scope full (Word at word) = refused (Shape at)
  block_alike scope full (Number at z) = refused (Shape at)
  block_alike scope full (Text at text) = refused (Shape at)

  branches_alike : (scope : Scope) (n : ℕ) (row : Trees) → Alike (branches scope n row) (branches scope n (bare_row row))
  branches_alike scope n Nil = given NoBlocks
  branches_alike scope n (And tree row) = behind (block_alike scope (nat_le most_branches n) tree) (λ first. behind (branches_alike scope (n + 1) row) (λ others. given (AndBlock first others)))

  form_alike : (scope : Scope) (last : Bool) (at : ℕ) (head : Head) (row : Trees) → Alike (form scope last at head row) (form scope last 0 head (bare_row row))
  form_alike scope last at LetHead (And word (And name (And bound Nil))) = behind (bring_alike VariableKind scope name) (λ scope_behind. behind (value_alike scope bound) (λ it. given (it, scope_behind)))
  form_alike scope last at IfHead (And word (And test (And then_block (And else_block Nil)))) = behind (item_alike scope false test) (λ e. behind (block_alike scope false then_block) (λ b. behind (block_alike scope false else_block) (λ c. given ((If e b c), scope))))
  form_alike scope last at GiveHead (And word (And operand Nil)) = behind (required last (Shape at)) (λ done. behind (item_alike scope false operand) (λ e. given ((Give e), scope)))
  form_alike scope last at RaiseHead (And word (And text Nil)) = behind (failure_alike text) (λ id. given ((Raise id), scope))
  form_alike scope last at TryHead (And word (And tried (And name (And handler Nil)))) = behind (block_alike scope false tried) (λ b. behind (bring_alike VariableKind scope name) (λ inner. behind (block_alike inner false handler) (λ c. given ((Try b c), scope))))
  form_alike scope last at RepeatHead (And word (And name (And times items))) = behind (bring_alike VariableKind scope name) (λ inner. behind (item_alike scope false times) (λ e. behind (block_of_alike (statements_alike inner items)) (λ b. given ((Repeat e b), scope))))
  form_alike scope last at LoopHead (And word items) = behind (block_of_alike (statements_alike scope items)) (λ b. given ((Loop b), scope))
  form_alike scope last at TraceHead (And word items) = behind (traced_alike scope 0 items) (λ es. given ((Trace es), scope))
  form_alike scope last at YieldHead (And word Nil) = given (Yield, scope)
  form_alike scope last at CheckHead (And word Nil) = given (Check, scope)
  form_alike scope last at AwaitCancelHead (And word Nil) = given (AwaitCancel, scope)
  form_alike scope last at NowHead (And word Nil) = given (Now, scope)
  form_alike scope last at SubHead (And word (And name items)) = behind (bring_alike ContextKind scope name) (λ inner. behind (block_of_alike (statements_alike inner items)) (λ b. given ((Sub b), scope)))
  form_alike scope last at ProtectHead (And word items) = behind (block_of_alike (statements_alike scope items)) (λ b. given ((Protect b), scope))
  form_alike scope last at CancelHead (And word (And name (And text Nil))) = behind (used_alike ContextKind scope name) (λ context. behind (failure_alike text) (λ id. given ((Cancel context id), scope)))
  form_alike scope last at SwitchHead (And word (And name items)) = behind (bring_alike SwitchKind scope name) (λ inner. behind (block_of_alike (statements_alike inner items)) (λ b. given ((Switch b), scope)))
  form_alike scope last at ForkHead (And word (And name items)) = behind (used_alike SwitchKind scope name) (λ switch. behind (block_of_alike (statements_alike scope items)) (λ b. given ((Fork Plain switch b), scope)))
  form_alike scope last at ForkDaemonHead (And word (And name items)) = behind (used_alike SwitchKind scope name) (λ switch. behind (block_of_alike (statements_alike scope items)) (λ b. given ((Fork Daemon switch b), scope)))
  form_alike scope last at ForkPromiseHead (And word (And name (And promise_name items))) = behind (used_alike SwitchKind scope name) (λ switch. behind (used_alike PromiseKind scope promise_name) (λ promise. behind (block_of_alike (statements_alike scope items)) (λ b. given ((Fork (Promising promise) switch b), scope))))
  form_alike scope last at FailHead (And word (And name (And text Nil))) = behind (used_alike SwitchKind scope name) (λ switch. behind (failure_alike text) (λ id. given ((Fail switch id), scope)))
  form_alike scope last at OnReleaseHead (And word (And name items)) = behind (used_alike SwitchKind scope name) (λ switch. behind (block_of_alike (statements_alike scope items)) (λ b. given ((OnRelease switch b), scope)))
  form_alike scope last at (PairHead group) (And word (And first (And second Nil))) = behind (branches_alike scope 0 (And first (And second Nil))) (λ bs. given ((Branches group bs), scope))
  form_alike scope last at (RowHead group) (And word items) = behind (branches_alike scope 0 items) (λ bs. given ((Branches group bs), scope))
  form_alike scope last at (ObjectHead call) (And word (And name Nil)) = behind (used_alike (object_kind call) scope name) (λ object. given ((OnObject call object), scope))
  form_alike scope last at (ObjectHeadWith call) (And word (And name (And operand Nil))) = behind (used_alike (object_kind_with call) scope name) (λ object. behind (item_alike scope false operand) (λ e. given ((OnObjectWith call object e), scope)))
  form_alike scope last at UseRwHead (And word (And name items)) = behind (used_alike MutexKind scope name) (λ mutex. behind (block_of_alike (statements_alike scope items)) (λ b. given ((UseRw mutex b), scope)))
  form_alike scope last at UsePoolHead (And word (And pool_name (And name items))) = behind (used_alike PoolKind scope pool_name) (λ pool. behind (bring_alike VariableKind scope name) (λ inner. behind (block_of_alike (statements_alike inner items)) (λ b. given ((UsePool pool b), scope))))
  form_alike scope last at SubmitHead (And word (And name (And weight_number (And names items)))) = behind (used_alike ExecutorKind scope name) (λ executor. behind (number_alike weights weight_number) (λ weight. behind (captured_alike scope names) (λ taken. behind (block_of_alike (statements_alike (job_scope scope taken) items)) (λ b. given ((Submit executor weight (slots_of taken) b), scope)))))
  form_alike scope last at SleepHead (And word (And time Nil)) = behind (item_alike scope false time) (λ e. given ((Sleep e), scope))
  form_alike scope last at BufReadHead (And word (And name (And flow_name (And limit_number items)))) = behind (bring_alike ReaderKind scope name) (λ inner. behind (used_alike FlowKind scope flow_name) (λ flow. behind (number_alike reader_limits limit_number) (λ limit. behind (block_of_alike (statements_alike inner items)) (λ b. given ((BufRead flow limit b), scope)))))
  form_alike scope last at (ReaderHead call) (And word (And name Nil)) = behind (used_alike ReaderKind scope name) (λ reader. given ((OnReader call reader), scope))
  form_alike scope last at TakeBytesHead (And word (And name (And count Nil))) = behind (used_alike ReaderKind scope name) (λ reader. behind (item_alike scope false count) (λ e. given ((TakeBytes reader e), scope)))
  form_alike scope last at CopyHead (And word (And from_name (And to_name Nil))) = behind (used_alike FlowKind scope from_name) (λ from. behind (used_alike FlowKind scope to_name) (λ to. given ((Copy from to), scope)))
  form_alike scope last at BufWriteHead (And word (And name (And flow_name items))) = behind (bring_alike WriterKind scope name) (λ inner. behind (used_alike FlowKind scope flow_name) (λ flow. behind (block_of_alike (statements_alike inner items)) (λ b. given ((BufWrite flow b), scope))))
  form_alike scope last at PutHead (And word (And name (And text Nil))) = behind (used_alike WriterKind scope name) (λ writer. behind (item_alike scope false text) (λ e. given ((Put writer e), scope)))
  form_alike scope last at OpenDirHead (And word (And directory_name (And path (And name items)))) = behind (directory_alike scope directory_name) (λ directory. behind (item_alike scope false path) (λ e. behind (bring_alike CapabilityKind scope name) (λ inner. behind (block_of_alike (statements_alike inner items)) (λ b. given ((OpenDir directory e b), scope)))))
  form_alike scope last at (PathHead call) (And word (And name (And path Nil))) = behind (directory_alike scope name) (λ directory. behind (item_alike scope false path) (λ e. given ((OnPath call directory e), scope)))
  form_alike scope last at (SaveHead only_new) (And word (And name (And path (And content Nil)))) = behind (directory_alike scope name) (λ directory. behind (item_alike scope false path) (λ e. behind (item_alike scope false content) (λ c. given ((Save only_new directory e c), scope))))
  form_alike scope last at head items = refused (Shape at)
