-- The forms of statements and of expressions: their words, and what kind of form each word begins.
-- How many items stand behind a word, and which, is said where forms are read.
use Rattle.std.specs.Prelude.{Bool, true, false, if◌then◌else◌, ℕ, List, [], ◌∷◌, Option, Some, None, codes}
use Rattle.std.specs.List.{find}
use Rattle.std.specs.Str.{bytes_eq}
use Rattle.spec_script.specs.declared.Feature.{Feature}
use Rattle.spec_script.specs.declared.Feature.TheVariants.{FirstForms, Exceptions, Switches, Groups, StreamsAndPromises, Resources, Flows, Paths, Executors}
use Rattle.spec_script.specs.Trees.{Text, Trees, Nil, And}
use Rattle.spec_script.specs.Syntax.{Operator, Plus, Minus, Same, Less, Group, Both, All, First, Any, ObjectCall, Take, TakeNonblocking, Length, Await, Acquire, Release, Lock, TryLock, Unlock, ObjectCallWith, Add, Resolve, TryResolve, ReaderCall, Line, TakeAll, Char, AtEnd, PathCall, Load, Mkdir, ReadDir, Unlink, Rmdir, Kind}

-- ## Statements

-- what a statement's word begins; those that are read alike have one head
pub data Head : Type 0 where
  LetHead : Head
  IfHead : Head
  GiveHead : Head
  RaiseHead : Head
  TryHead : Head
  RepeatHead : Head
  LoopHead : Head
  TraceHead : Head
  YieldHead : Head
  CheckHead : Head
  AwaitCancelHead : Head
  SubHead : Head
  ProtectHead : Head
  CancelHead : Head
  SwitchHead : Head
  ForkHead : Head
  ForkDaemonHead : Head
  ForkPromiseHead : Head
  FailHead : Head
  OnReleaseHead : Head
  -- two branches, or any number of them
  PairHead : Group → Head
  RowHead : Group → Head
  ObjectHead : ObjectCall → Head
  ObjectHeadWith : ObjectCallWith → Head
  UseRwHead : Head
  UsePoolHead : Head
  SubmitHead : Head
  SleepHead : Head
  NowHead : Head
  BufReadHead : Head
  ReaderHead : ReaderCall → Head
  TakeBytesHead : Head
  CopyHead : Head
  BufWriteHead : Head
  PutHead : Head
  OpenDirHead : Head
  PathHead : PathCall → Head
  SaveHead : (only_new : Bool) → Head

-- a form: its word, what the word begins, whether it gives a value, so that it may stand in `let`, whether it is for the mocked domain
-- alone, and the feature that brings it
pub record Form : Type 0 where
  pub word : List ℕ
  pub head : Head
  pub gives : Bool
  pub mocked : Bool
  pub feature : Feature

abbrev pub plain_form : List ℕ → Head → Feature → Form
plain_form word head feature = record { word = word; head = head; gives = false; mocked = false; feature = feature }

abbrev pub giving : Form → Form
giving form = record form { gives = true }

abbrev pub mocked_alone : Form → Form
mocked_alone form = record form { mocked = true }

abbrev pub forms : List Form
forms =
    plain_form (codes "let") LetHead Exceptions
    ∷ plain_form (codes "if") IfHead Exceptions
    ∷ plain_form (codes "give") GiveHead Exceptions
    ∷ plain_form (codes "raise") RaiseHead Exceptions
    ∷ giving (plain_form (codes "try") TryHead Exceptions)
    ∷ plain_form (codes "repeat") RepeatHead Exceptions
    ∷ plain_form (codes "loop") LoopHead Exceptions
    ∷ plain_form (codes "trace") TraceHead FirstForms
    ∷ plain_form (codes "yield") YieldHead FirstForms
    ∷ plain_form (codes "check") CheckHead Exceptions
    ∷ plain_form (codes "await-cancel") AwaitCancelHead Exceptions
    ∷ giving (plain_form (codes "sub") SubHead Exceptions)
    ∷ giving (plain_form (codes "protect") ProtectHead Exceptions)
    ∷ plain_form (codes "cancel") CancelHead Exceptions
    ∷ giving (plain_form (codes "switch") SwitchHead FirstForms)
    ∷ plain_form (codes "fork") ForkHead FirstForms
    ∷ plain_form (codes "fork-daemon") ForkDaemonHead Switches
    ∷ plain_form (codes "fork-promise") ForkPromiseHead StreamsAndPromises
    ∷ plain_form (codes "fail") FailHead Switches
    ∷ plain_form (codes "on-release") OnReleaseHead Switches
    ∷ plain_form (codes "both") (PairHead Both) Groups
    ∷ plain_form (codes "all") (RowHead All) Groups
    ∷ giving (plain_form (codes "first") (PairHead First) Groups)
    ∷ giving (plain_form (codes "any") (RowHead Any) Groups)
    ∷ plain_form (codes "add") (ObjectHeadWith Add) StreamsAndPromises
    ∷ giving (plain_form (codes "take") (ObjectHead Take) StreamsAndPromises)
    ∷ giving (plain_form (codes "take-nonblocking") (ObjectHead TakeNonblocking) StreamsAndPromises)
    ∷ giving (plain_form (codes "length") (ObjectHead Length) StreamsAndPromises)
    ∷ plain_form (codes "resolve") (ObjectHeadWith Resolve) StreamsAndPromises
    ∷ giving (plain_form (codes "try-resolve") (ObjectHeadWith TryResolve) StreamsAndPromises)
    ∷ giving (plain_form (codes "await") (ObjectHead Await) StreamsAndPromises)
    ∷ plain_form (codes "acquire") (ObjectHead Acquire) Resources
    ∷ plain_form (codes "release") (ObjectHead Release) Resources
    ∷ plain_form (codes "lock") (ObjectHead Lock) Resources
    ∷ giving (plain_form (codes "try-lock") (ObjectHead TryLock) Resources)
    ∷ plain_form (codes "unlock") (ObjectHead Unlock) Resources
    ∷ giving (plain_form (codes "use-rw") UseRwHead Resources)
    ∷ giving (plain_form (codes "use-pool") UsePoolHead Resources)
    ∷ giving (plain_form (codes "submit") SubmitHead Executors)
    ∷ mocked_alone (plain_form (codes "sleep") SleepHead Resources)
    ∷ giving (mocked_alone (plain_form (codes "now") NowHead Resources))
    ∷ giving (mocked_alone (plain_form (codes "buf-read") BufReadHead Flows))
    ∷ giving (mocked_alone (plain_form (codes "line") (ReaderHead Line) Flows))
    ∷ giving (mocked_alone (plain_form (codes "take-bytes") TakeBytesHead Flows))
    ∷ giving (mocked_alone (plain_form (codes "take-all") (ReaderHead TakeAll) Flows))
    ∷ giving (mocked_alone (plain_form (codes "char") (ReaderHead Char) Flows))
    ∷ giving (mocked_alone (plain_form (codes "at-end") (ReaderHead AtEnd) Flows))
    ∷ mocked_alone (plain_form (codes "copy") CopyHead Flows)
    ∷ giving (mocked_alone (plain_form (codes "buf-write") BufWriteHead Flows))
    ∷ mocked_alone (plain_form (codes "put") PutHead Flows)
    ∷ giving (mocked_alone (plain_form (codes "open-dir") OpenDirHead Paths))
    ∷ giving (mocked_alone (plain_form (codes "load") (PathHead Load) Paths))
    ∷ mocked_alone (plain_form (codes "save") (SaveHead false) Paths)
    ∷ mocked_alone (plain_form (codes "save-new") (SaveHead true) Paths)
    ∷ mocked_alone (plain_form (codes "mkdir") (PathHead Mkdir) Paths)
    ∷ giving (mocked_alone (plain_form (codes "read-dir") (PathHead ReadDir) Paths))
    ∷ mocked_alone (plain_form (codes "unlink") (PathHead Unlink) Paths)
    ∷ mocked_alone (plain_form (codes "rmdir") (PathHead Rmdir) Paths)
    ∷ giving (mocked_alone (plain_form (codes "kind") (PathHead Kind) Paths)) ∷ []

-- the form that a word begins
unfoldable pub form_of : List ℕ → Option Form
form_of word = find (λ form. bytes_eq form.word word) forms

abbrev pub are_texts : Trees → Bool
are_texts Nil = true
are_texts (And (Text at text) row) = are_texts row
are_texts (And tree row) = false

-- of `trace` the first forms have one or more texts; any other `trace` comes with the exceptions
abbrev pub trace_feature : Trees → Feature
trace_feature Nil = Exceptions
trace_feature (And tree row) = if are_texts (And tree row) then FirstForms else Exceptions

-- the feature that brings a form with these items
abbrev pub feature_of : Form → Trees → Feature
feature_of form items = elim form.head [ TraceHead ↦ trace_feature items | _ ↦ form.feature ]

-- ## Expressions

-- what an expression's word begins
pub data ExpressionHead : Type 0 where
  UnitHead : ExpressionHead
  OperatorHead : Operator → ExpressionHead

abbrev pub expression_head : List ℕ → Option ExpressionHead
expression_head word =
    if bytes_eq word (codes "unit") then Some UnitHead
    else
    (if bytes_eq word (codes "plus") then Some (OperatorHead Plus)
    else
    (if bytes_eq word (codes "minus") then Some (OperatorHead Minus)
    else
    (if bytes_eq word (codes "same") then Some (OperatorHead Same)
    else (if bytes_eq word (codes "less") then Some (OperatorHead Less) else None))))
