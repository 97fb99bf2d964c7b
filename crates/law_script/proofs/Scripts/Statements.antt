-- Statements that are read are sound, and the scope behind each is as what is known there. One clause for each form, as it is read.
use Rattle.std.proofs.Common.{◌≡◌, ℕ, ◌+◌, ◌≤◌, Bool, true, false, ◌&&◌, List, Option, Some, None, refl, sym, ap, subst, arith}
use Rattle.std.specs.Prelude.{nat_le, pos, negsuc}
use Rattle.std.specs.Str.{bytes_eq}
use Rattle.std.proofs.lemmas.Bool.{leb-true, leb-false, and_parts, false≢true}
use Rattle.std.proofs.lemmas.List.{length-map}
use Rattle.spec_script.specs.Captures.{slots_of, job_scope}
use Rattle.spec_script.specs.Expressions.{expression}
use Rattle.spec_script.specs.Faults.{Shape, Size}
use Rattle.spec_script.specs.Forms.{Head, LetHead, IfHead, GiveHead, RaiseHead, TryHead, RepeatHead, LoopHead, TraceHead, YieldHead, CheckHead, AwaitCancelHead, SubHead, ProtectHead, CancelHead, SwitchHead, ForkHead, ForkDaemonHead, ForkPromiseHead, FailHead, OnReleaseHead, PairHead, RowHead, ObjectHead, ObjectHeadWith, UseRwHead, UsePoolHead, SubmitHead, SleepHead, NowHead, BufReadHead, ReaderHead, TakeBytesHead, CopyHead, BufWriteHead, PutHead, OpenDirHead, PathHead, SaveHead, Form, forms, form_of}
use Rattle.spec_script.specs.Kinds.{VariableKind, ContextKind, SwitchKind, ReaderKind, WriterKind, CapabilityKind, PromiseKind, MutexKind, PoolKind, ExecutorKind, FlowKind, object_kind, object_kind_with}
use Rattle.spec_script.specs.Limits.{Range, weights, reader_limits, most_branches}
use Rattle.spec_script.specs.Reads.{Reads, ◌>>>◌, gives, refuses, requires_that, next_node, one_node, failure_of, number_within}
use Rattle.spec_script.specs.Scopes.{Scope}
use Rattle.spec_script.specs.Statements.{form_node, block_of, statements, statement, value, block, branches, form}
use Rattle.spec_script.specs.Syntax as syntax
use Rattle.spec_script.specs.Syntax.{Statement, Let, LetForm, If, Give, Raise, Try, Repeat, Loop, Trace, Yield, Check, AwaitCancel, Sub, Protect, Cancel, Switch, Fork, Fail, OnRelease, Branches, OnObject, OnObjectWith, UseRw, UsePool, Submit, Sleep, Now, BufRead, OnReader, TakeBytes, Copy, BufWrite, Put, OpenDir, OnPath, Save, Plain, Daemon, Promising, Group, Both, First, Any, Block, Begins, Statements, Done, Then, Blocks, NoBlocks, AndBlock}
use Rattle.spec_script.specs.Trees.{Tree, Word, Number, Branch, Trees, Nil, And, place_of}
use Rattle.law_script.specs.Scripts.Numbers.{HasFittingNumbers, HaveFittingNumbers}
use Rattle.law_script.specs.Scripts.Soundness.{Known, with_slot, in_job, IsIn, block_count, HasItsBranches, behind, IsSoundStatement, IsSoundBlock, AreSoundStatements, AreSoundBlocks}
use Rattle.law_script.proofs.Scripts.Captures.{captured_are, slots_are, job_fits}
use Rattle.law_script.proofs.Scripts.Expressions.{expression_is_sound, operands_are_sound}
use Rattle.law_script.proofs.Scripts.Lists.{found_passes}
use Rattle.law_script.proofs.Scripts.Names.{Fits, bring_fits, used_has, directory_is_sound}
use Rattle.law_script.proofs.Scripts.Steps.{Gives, given, refused, going_on, past, met, weaker, with_room}

-- ## Numbers

pub number_is_in : (range : Range) (tree : Tree) → Gives (IsIn range) (number_within range tree)
number_is_in range (Number at (pos n)) =
    met (nat_le range.least n && nat_le n range.most) (Size at) λ both.
    let parts = and_parts (nat_le range.least n) (nat_le n range.most) both in
    given n (leb-true range.least n parts.0, leb-true n range.most parts.1)
number_is_in range (Number at (negsuc n)) = refused (Size at)
number_is_in range tree = refused (Shape (place_of tree))

-- ## Branches

-- of the forms with branches those have two that are listed with two
abbrev is_listed : Head → Bool
is_listed (PairHead Both) = true
is_listed (PairHead First) = true
is_listed (PairHead group) = false
is_listed (RowHead syntax.All) = true
is_listed (RowHead Any) = true
is_listed (RowHead group) = false
is_listed head = true

form_is_listed : (word : List ℕ) (it : Form) → form_of word ≡ Some it → is_listed it.head ≡ true
unfolding form_of
form_is_listed word it e = found_passes (λ form. is_listed form.head) (λ form. bytes_eq form.word word) forms it refl e

pair_has_two : (group : Group) (n : ℕ) → is_listed (PairHead group) ≡ true → n ≡ 2 → HasItsBranches group n
pair_has_two Both n listed two = two
pair_has_two First n listed two = two
pair_has_two syntax.All n listed two = absurd (false≢true listed)
pair_has_two Any n listed two = absurd (false≢true listed)

row_has_few : (group : Group) (n : ℕ) → is_listed (RowHead group) ≡ true → n ≤ most_branches → HasItsBranches group n
row_has_few Both n listed few = absurd (false≢true listed)
row_has_few First n listed few = absurd (false≢true listed)
row_has_few syntax.All n listed few = few
row_has_few Any n listed few = few

abbrev tree_count : Trees → ℕ
tree_count Nil = 0
tree_count (And tree row) = tree_count row + 1

-- sound branches of a list, and those before them are as many as may be at most
abbrev AreBranches : Known → (before : ℕ) → Trees → Blocks → Type 0
AreBranches known before row bs = AreSoundBlocks known bs × (block_count bs + before ≤ most_branches) × (block_count bs ≡ tree_count row)

-- ## Statements

-- a sound statement, with a scope that fits behind it
abbrev IsStated : Known → Statement × Scope → Type 0
IsStated known it = IsSoundStatement known it.0 × Fits (behind it.0 known) it.1

-- what a `let` binds
abbrev IsBound : Known → Statement → Type 0
IsBound known it = IsSoundStatement known it × (behind it known ≡ with_slot VariableKind known)

pub block_is_sound : (known : Known) (these : Reads Statements) → Gives (AreSoundStatements known) these → Gives (IsSoundBlock known) (block_of these)
unfolding IsSoundBlock
block_is_sound known these are = past next_node λ number. going_on are λ read sound. given (Begins number read) sound

mutual
  unfolding statements statement value block branches form IsSoundStatement IsSoundBlock AreSoundStatements AreSoundBlocks block_count HasFittingNumbers HaveFittingNumbers

  pub statements_are_sound : (known : Known) (scope : Scope) → Fits known scope → (row : Trees) → HaveFittingNumbers row → Gives (AreSoundStatements known) (statements scope row)
  statements_are_sound known scope fits Nil n = past one_node λ _. given Done tt
  statements_are_sound known scope fits (And tree Nil) n =
      going_on (statement_is_sound known scope fits true tree n.0) λ it sound. past one_node λ _. given (Then it.0 Done) (sound.0, tt)
  statements_are_sound known scope fits (And tree (And next row)) n =
      going_on (statement_is_sound known scope fits false tree n.0) λ it sound.
      going_on (statements_are_sound (behind it.0 known) it.1 sound.1 (And next row) n.1) λ others others_sound. given (Then it.0 others) (sound.0, others_sound)

  statement_is_sound : (known : Known) (scope : Scope) → Fits known scope → (last : Bool) (tree : Tree) → HasFittingNumbers tree → Gives (IsStated known) (statement scope last tree)
  statement_is_sound known scope fits last (Branch at (And (Word place word) items)) n =
      by (form_of word) refl (λ head listed. form_is_sound known scope fits last at head listed (And (Word place word) items) n)
    where
      by : (found : Option Form) → form_of word ≡ found
          → ((head : Head) → is_listed head ≡ true → Gives (IsStated known) (form scope last at head (And (Word place word) items)))
          → Gives (IsStated known) (elim found [
            | None ↦ refuses (Shape at)
            | Some it ↦ (form_node at it items >>> λ _. form scope last at it.head (And (Word place word) items))
          ])
      by None e rest = refused (Shape at)
      by (Some it) e rest = past (form_node at it items) λ _. rest it.head (form_is_listed word it e)
  statement_is_sound known scope fits last tree n = refused (Shape (place_of tree))

  value_is_sound : (known : Known) (scope : Scope) → Fits known scope → (tree : Tree) → HasFittingNumbers tree → Gives (IsBound known) (value scope tree)
  value_is_sound known scope fits (Branch at (And (Word place word) items)) n =
      by (form_of word) refl (λ head listed. form_is_sound known scope fits true at head listed (And (Word place word) items) n)
    where
      by : (found : Option Form) → form_of word ≡ found
          → ((head : Head) → is_listed head ≡ true → Gives (IsStated known) (form scope true at head (And (Word place word) items)))
          → Gives (IsBound known) (elim found [
            | None ↦ (expression scope (Branch at (And (Word place word) items)) >>> λ e. gives (Let e))
            | Some it ↦
                (requires_that it.gives (Shape at) >>> λ _.
                form_node at it items >>> λ _.
                form scope true at it.head (And (Word place word) items) >>> λ inner.
                gives (LetForm inner.0))
          ])
      by None none rest = going_on (expression_is_sound known scope fits (Branch at (And (Word place word) items)) n) λ e sound. given (Let e) (sound, refl)
      by (Some it) is rest =
          met it.gives (Shape at) λ gives_it. past (form_node at it items) λ _. going_on (rest it.head (form_is_listed word it is)) λ inner sound. given (LetForm inner.0) (sound.0, refl)
  value_is_sound known scope fits tree n = going_on (expression_is_sound known scope fits tree n) λ e sound. given (Let e) (sound, refl)

  block_item_is_sound : (known : Known) (scope : Scope) → Fits known scope → (full : Bool) (tree : Tree) → HasFittingNumbers tree
      → Gives (λ b. (full ≡ false) × IsSoundBlock known b) (block scope full tree)
  block_item_is_sound known scope fits full (Branch at row) n =
      with_room full at λ room. weaker (λ b sound. (room, sound)) (block_is_sound known (statements scope row) (statements_are_sound known scope fits row n))
  block_item_is_sound known scope fits full tree n = refused (Shape (place_of tree))

  branches_are_sound : (known : Known) (scope : Scope) → Fits known scope → (before : ℕ) → before ≤ most_branches → (row : Trees) → HaveFittingNumbers row
      → Gives (AreBranches known before row) (branches scope before row)
  branches_are_sound known scope fits before few Nil n = given NoBlocks (tt, omega (arith, few), refl)
  branches_are_sound known scope fits before few (And tree row) n =
      going_on (block_item_is_sound known scope fits (nat_le most_branches before) tree n.0) λ first first_sound.
      let more : before + 1 ≤ most_branches = let less = leb-false most_branches before first_sound.0 in omega (arith, less) in
      going_on (branches_are_sound known scope fits (before + 1) more row n.1) λ others others_sound.
      given (AndBlock first others) ((first_sound.1, others_sound.0), omega (arith, others_sound.1), ap (λ (m : ℕ). m + 1) others_sound.2)

  form_is_sound : (known : Known) (scope : Scope) → Fits known scope → (last : Bool) (at : ℕ) (head : Head) → is_listed head ≡ true → (items : Trees) → HaveFittingNumbers items
      → Gives (IsStated known) (form scope last at head items)
  form_is_sound known scope fits last at LetHead listed (And word (And name (And bound Nil))) n =
      going_on (bring_fits VariableKind known scope refl fits name) λ inner inner_fits.
      going_on (value_is_sound known scope fits bound n.1.1.0) λ it sound.
      given (it, inner) (sound.0, subst (λ (k : Known). Fits k inner) (sym sound.1) inner_fits)
  form_is_sound known scope fits last at IfHead listed (And word (And test (And then_block (And else_block Nil)))) n =
      going_on (expression_is_sound known scope fits test n.1.0) λ e e_sound.
      going_on (block_item_is_sound known scope fits false then_block n.1.1.0) λ b b_sound.
      going_on (block_item_is_sound known scope fits false else_block n.1.1.1.0) λ c c_sound.
      given (If e b c, scope) ((e_sound, b_sound.1, c_sound.1), fits)
  form_is_sound known scope fits last at GiveHead listed (And word (And given_value Nil)) n =
      met last (Shape at) λ is_last. going_on (expression_is_sound known scope fits given_value n.1.0) λ e sound. given (Give e, scope) (sound, fits)
  form_is_sound known scope fits last at RaiseHead listed (And word (And text Nil)) n = past (failure_of text) λ id. given (Raise id, scope) (tt, fits)
  form_is_sound known scope fits last at TryHead listed (And word (And tried (And name (And handler Nil)))) n =
      going_on (block_item_is_sound known scope fits false tried n.1.0) λ b b_sound.
      going_on (bring_fits VariableKind known scope refl fits name) λ inner inner_fits.
      going_on (block_item_is_sound (with_slot VariableKind known) inner inner_fits false handler n.1.1.1.0) λ c c_sound.
      given (Try b c, scope) ((b_sound.1, c_sound.1), fits)
  form_is_sound known scope fits last at RepeatHead listed (And word (And name (And times items))) n =
      going_on (bring_fits VariableKind known scope refl fits name) λ inner inner_fits.
      going_on (expression_is_sound known scope fits times n.1.1.0) λ e e_sound.
      going_on (block_is_sound (with_slot VariableKind known) (statements inner items) (statements_are_sound (with_slot VariableKind known) inner inner_fits items n.1.1.1)) λ b b_sound.
      given (Repeat e b, scope) ((e_sound, b_sound), fits)
  form_is_sound known scope fits last at LoopHead listed (And word items) n =
      going_on (block_is_sound known (statements scope items) (statements_are_sound known scope fits items n.1)) λ b sound. given (Loop b, scope) (sound, fits)
  form_is_sound known scope fits last at TraceHead listed (And word items) n =
      going_on (operands_are_sound known scope fits 0 (omega arith) items n.1) λ es sound. given (Trace es, scope) ((sound.0, omega (arith, sound.1)), fits)
  form_is_sound known scope fits last at YieldHead listed (And word Nil) n = given (Yield, scope) (tt, fits)
  form_is_sound known scope fits last at CheckHead listed (And word Nil) n = given (Check, scope) (tt, fits)
  form_is_sound known scope fits last at AwaitCancelHead listed (And word Nil) n = given (AwaitCancel, scope) (tt, fits)
  form_is_sound known scope fits last at NowHead listed (And word Nil) n = given (Now, scope) (tt, fits)
  form_is_sound known scope fits last at SubHead listed (And word (And name items)) n =
      going_on (bring_fits ContextKind known scope refl fits name) λ inner inner_fits.
      going_on (block_is_sound (with_slot ContextKind known) (statements inner items) (statements_are_sound (with_slot ContextKind known) inner inner_fits items n.1.1)) λ b sound.
      given (Sub b, scope) (sound, fits)
  form_is_sound known scope fits last at ProtectHead listed (And word items) n =
      going_on (block_is_sound known (statements scope items) (statements_are_sound known scope fits items n.1)) λ b sound. given (Protect b, scope) (sound, fits)
  form_is_sound known scope fits last at CancelHead listed (And word (And name (And text Nil))) n =
      going_on (used_has ContextKind known scope fits name) λ context has. past (failure_of text) λ id. given (Cancel context id, scope) (has, fits)
  form_is_sound known scope fits last at SwitchHead listed (And word (And name items)) n =
      going_on (bring_fits SwitchKind known scope refl fits name) λ inner inner_fits.
      going_on (block_is_sound (with_slot SwitchKind known) (statements inner items) (statements_are_sound (with_slot SwitchKind known) inner inner_fits items n.1.1)) λ b sound.
      given (Switch b, scope) (sound, fits)
  form_is_sound known scope fits last at ForkHead listed (And word (And name items)) n =
      going_on (used_has SwitchKind known scope fits name) λ switch has.
      going_on (block_is_sound known (statements scope items) (statements_are_sound known scope fits items n.1.1)) λ b sound.
      given (Fork Plain switch b, scope) ((tt, has, sound), fits)
  form_is_sound known scope fits last at ForkDaemonHead listed (And word (And name items)) n =
      going_on (used_has SwitchKind known scope fits name) λ switch has.
      going_on (block_is_sound known (statements scope items) (statements_are_sound known scope fits items n.1.1)) λ b sound.
      given (Fork Daemon switch b, scope) ((tt, has, sound), fits)
  form_is_sound known scope fits last at ForkPromiseHead listed (And word (And name (And promise_name items))) n =
      going_on (used_has SwitchKind known scope fits name) λ switch has.
      going_on (used_has PromiseKind known scope fits promise_name) λ promise has_promise.
      going_on (block_is_sound known (statements scope items) (statements_are_sound known scope fits items n.1.1.1)) λ b sound.
      given (Fork (Promising promise) switch b, scope) ((has_promise, has, sound), fits)
  form_is_sound known scope fits last at FailHead listed (And word (And name (And text Nil))) n =
      going_on (used_has SwitchKind known scope fits name) λ switch has. past (failure_of text) λ id. given (Fail switch id, scope) (has, fits)
  form_is_sound known scope fits last at OnReleaseHead listed (And word (And name items)) n =
      going_on (used_has SwitchKind known scope fits name) λ switch has.
      going_on (block_is_sound known (statements scope items) (statements_are_sound known scope fits items n.1.1)) λ b sound.
      given (OnRelease switch b, scope) ((has, sound), fits)
  form_is_sound known scope fits last at (PairHead group) listed (And word (And first (And second Nil))) n =
      going_on (branches_are_sound known scope fits 0 (omega arith) (And first (And second Nil)) n.1) λ bs sound.
      given (Branches group bs, scope) ((sound.0, pair_has_two group (block_count bs) listed sound.2), fits)
  form_is_sound known scope fits last at (RowHead group) listed (And word items) n =
      going_on (branches_are_sound known scope fits 0 (omega arith) items n.1) λ bs sound.
      given (Branches group bs, scope) ((sound.0, row_has_few group (block_count bs) listed (omega (arith, sound.1))), fits)
  form_is_sound known scope fits last at (ObjectHead call) listed (And word (And name Nil)) n =
      going_on (used_has (object_kind call) known scope fits name) λ object has. given (OnObject call object, scope) (has, fits)
  form_is_sound known scope fits last at (ObjectHeadWith call) listed (And word (And name (And operand Nil))) n =
      going_on (used_has (object_kind_with call) known scope fits name) λ object has.
      going_on (expression_is_sound known scope fits operand n.1.1.0) λ e sound. given (OnObjectWith call object e, scope) ((has, sound), fits)
  form_is_sound known scope fits last at UseRwHead listed (And word (And name items)) n =
      going_on (used_has MutexKind known scope fits name) λ mutex has.
      going_on (block_is_sound known (statements scope items) (statements_are_sound known scope fits items n.1.1)) λ b sound.
      given (UseRw mutex b, scope) ((has, sound), fits)
  form_is_sound known scope fits last at UsePoolHead listed (And word (And pool_name (And name items))) n =
      going_on (used_has PoolKind known scope fits pool_name) λ pool has.
      going_on (bring_fits VariableKind known scope refl fits name) λ inner inner_fits.
      going_on (block_is_sound (with_slot VariableKind known) (statements inner items) (statements_are_sound (with_slot VariableKind known) inner inner_fits items n.1.1.1)) λ b sound.
      given (UsePool pool b, scope) ((has, sound), fits)
  form_is_sound known scope fits last at SubmitHead listed (And word (And name (And weight_number (And names items)))) n =
      going_on (used_has ExecutorKind known scope fits name) λ executor has.
      going_on (number_is_in weights weight_number) λ weight is_in.
      going_on (captured_are known scope fits names) λ taken are.
      let own = in_job (slots_of taken) known in
      going_on (block_is_sound own (statements (job_scope scope taken) items) (statements_are_sound own (job_scope scope taken) (job_fits known scope fits taken are.0) items n.1.1.1.1)) λ b sound.
      given (Submit executor weight (slots_of taken) b, scope)
      ((has, is_in, (let count = length-map taken (λ it. it.number) in let few = are.1 in omega (arith, count, few)), slots_are known taken are.0, sound), fits)
  form_is_sound known scope fits last at SleepHead listed (And word (And time Nil)) n =
      going_on (expression_is_sound known scope fits time n.1.0) λ e sound. given (Sleep e, scope) (sound, fits)
  form_is_sound known scope fits last at BufReadHead listed (And word (And name (And flow_name (And limit_number items)))) n =
      going_on (bring_fits ReaderKind known scope refl fits name) λ inner inner_fits.
      going_on (used_has FlowKind known scope fits flow_name) λ flow has.
      going_on (number_is_in reader_limits limit_number) λ limit is_in.
      going_on (block_is_sound (with_slot ReaderKind known) (statements inner items) (statements_are_sound (with_slot ReaderKind known) inner inner_fits items n.1.1.1.1)) λ b sound.
      given (BufRead flow limit b, scope) ((has, is_in, sound), fits)
  form_is_sound known scope fits last at (ReaderHead call) listed (And word (And name Nil)) n =
      going_on (used_has ReaderKind known scope fits name) λ reader has. given (OnReader call reader, scope) (has, fits)
  form_is_sound known scope fits last at TakeBytesHead listed (And word (And name (And count Nil))) n =
      going_on (used_has ReaderKind known scope fits name) λ reader has.
      going_on (expression_is_sound known scope fits count n.1.1.0) λ e sound. given (TakeBytes reader e, scope) ((has, sound), fits)
  form_is_sound known scope fits last at CopyHead listed (And word (And from_name (And to_name Nil))) n =
      going_on (used_has FlowKind known scope fits from_name) λ from has_from.
      going_on (used_has FlowKind known scope fits to_name) λ to has_to. given (Copy from to, scope) ((has_from, has_to), fits)
  form_is_sound known scope fits last at BufWriteHead listed (And word (And name (And flow_name items))) n =
      going_on (bring_fits WriterKind known scope refl fits name) λ inner inner_fits.
      going_on (used_has FlowKind known scope fits flow_name) λ flow has.
      going_on (block_is_sound (with_slot WriterKind known) (statements inner items) (statements_are_sound (with_slot WriterKind known) inner inner_fits items n.1.1.1)) λ b sound.
      given (BufWrite flow b, scope) ((has, sound), fits)
  form_is_sound known scope fits last at PutHead listed (And word (And name (And text Nil))) n =
      going_on (used_has WriterKind known scope fits name) λ writer has.
      going_on (expression_is_sound known scope fits text n.1.1.0) λ e sound. given (Put writer e, scope) ((has, sound), fits)
  form_is_sound known scope fits last at OpenDirHead listed (And word (And directory_name (And path (And name items)))) n =
      going_on (directory_is_sound known scope fits directory_name) λ directory has.
      going_on (expression_is_sound known scope fits path n.1.1.0) λ e e_sound.
      going_on (bring_fits CapabilityKind known scope refl fits name) λ inner inner_fits.
      going_on (block_is_sound (with_slot CapabilityKind known) (statements inner items) (statements_are_sound (with_slot CapabilityKind known) inner inner_fits items n.1.1.1.1)) λ b sound.
      given (OpenDir directory e b, scope) ((has, e_sound, sound), fits)
  form_is_sound known scope fits last at (PathHead call) listed (And word (And name (And path Nil))) n =
      going_on (directory_is_sound known scope fits name) λ directory has.
      going_on (expression_is_sound known scope fits path n.1.1.0) λ e sound. given (OnPath call directory e, scope) ((has, sound), fits)
  form_is_sound known scope fits last at (SaveHead only_new) listed (And word (And name (And path (And content Nil)))) n =
      going_on (directory_is_sound known scope fits name) λ directory has.
      going_on (expression_is_sound known scope fits path n.1.1.0) λ e e_sound.
      going_on (expression_is_sound known scope fits content n.1.1.1.0) λ c c_sound.
      given (Save only_new directory e c, scope) ((has, e_sound, c_sound), fits)
  form_is_sound known scope fits last at head listed items n = refused (Shape at)
