-- The forms of features: which statements and declarations a script may have where these features are built.
-- What an expression is made of isn't looked at, but for the texts of a `trace`.
use Rattle.std.specs.Prelude.{◌≡◌, Bool, true, false, if◌then◌else◌, All}
use Rattle.spec_script.specs.Declarations.{Declaration, Stream, Promise, Semaphore, Mutex, Pool, Executor, Flow, Dir}
use Rattle.spec_script.specs.declared.Feature.{Feature}
use Rattle.spec_script.specs.declared.Feature.TheVariants.{FirstForms, Exceptions, Switches, Groups, StreamsAndPromises, Resources, Flows, Paths, Executors}
use Rattle.spec_script.specs.Features.{Built, is_built}
use Rattle.spec_script.specs.Scripts.{Script}
use Rattle.spec_script.specs.Syntax.{Expression, TextValue, Expressions, NoExpressions, AndExpression, ObjectCall, Take, TakeNonblocking, Length, Await, Acquire, Release, Lock, TryLock, Unlock, Forking, Plain, Daemon, Promising, Statement, Let, LetForm, If, Give, Raise, Try, Repeat, Loop, Trace, Yield, Check, AwaitCancel, Sub, Protect, Cancel, Switch, Fork, Fail, OnRelease, Branches, OnObject, OnObjectWith, UseRw, UsePool, Submit, Sleep, Now, BufRead, OnReader, TakeBytes, Copy, BufWrite, Put, OpenDir, OnPath, Save, Block, Begins, Statements, Done, Then, Blocks, NoBlocks, AndBlock}
use Rattle.law_domain.specs.Sound.BuiltForms.{HasBranches}

-- ## What brings a form

abbrev pub is_text : Expression → Bool
is_text (TextValue text) = true
is_text e = false

abbrev pub texts_alone : Expressions → Bool
texts_alone NoExpressions = true
texts_alone (AndExpression (TextValue text) rest) = texts_alone rest
texts_alone (AndExpression e rest) = false

-- of `trace` the first forms have one or more texts
abbrev pub traced_by : Expressions → Feature
traced_by NoExpressions = Exceptions
traced_by (AndExpression e rest) = if texts_alone (AndExpression e rest) then FirstForms else Exceptions

abbrev pub forked_by : Forking → Feature
forked_by Plain = FirstForms
forked_by Daemon = Switches
forked_by (Promising promise) = StreamsAndPromises

abbrev pub called_by : ObjectCall → Feature
called_by Take = StreamsAndPromises
called_by TakeNonblocking = StreamsAndPromises
called_by Length = StreamsAndPromises
called_by Await = StreamsAndPromises
called_by Acquire = Resources
called_by Release = Resources
called_by Lock = Resources
called_by TryLock = Resources
called_by Unlock = Resources

abbrev pub declared_by : Declaration → Feature
declared_by (Stream capacity) = StreamsAndPromises
declared_by Promise = StreamsAndPromises
declared_by (Semaphore count) = Resources
declared_by Mutex = Resources
declared_by (Pool size) = Resources
declared_by (Executor workers) = Executors
declared_by (Flow steps) = Flows
declared_by (Dir directory) = Paths

-- ## What is built

-- a form is one of the list where its feature is, and where what stands inside it is so too
abbrev pub Under : (in_list : Bool) → (inside : Type 0) → Type 0
Under true inside = inside
Under false inside = ⊥

-- a form with nothing inside
abbrev pub Alone : (in_list : Bool) → Type 0
Alone in_list = Under in_list (Unit {0})

unfoldable mutual
  pub IsOf : Built → Statement → Type 0
  IsOf built (Let e) = Alone (is_built built Exceptions)
  IsOf built (LetForm form) = Under (is_built built Exceptions) (IsOf built form)
  IsOf built (If test first second) = Under (is_built built Exceptions) (IsBlockOf built first × IsBlockOf built second)
  IsOf built (Give e) = Alone (is_built built Exceptions)
  IsOf built (Raise text) = Alone (is_built built Exceptions)
  IsOf built (Try tried handler) = Under (is_built built Exceptions) (IsBlockOf built tried × IsBlockOf built handler)
  IsOf built (Repeat times body) = Under (is_built built Exceptions) (IsBlockOf built body)
  IsOf built (Loop body) = Under (is_built built Exceptions) (IsBlockOf built body)
  IsOf built (Trace operands) = Alone (is_built built (traced_by operands))
  IsOf built Yield = Alone (is_built built FirstForms)
  IsOf built Check = Alone (is_built built Exceptions)
  IsOf built AwaitCancel = Alone (is_built built Exceptions)
  IsOf built (Sub body) = Under (is_built built Exceptions) (IsBlockOf built body)
  IsOf built (Protect body) = Under (is_built built Exceptions) (IsBlockOf built body)
  IsOf built (Cancel context text) = Alone (is_built built Exceptions)
  IsOf built (Switch body) = Under (is_built built FirstForms) (IsBlockOf built body)
  IsOf built (Fork forking switch body) = Under (is_built built (forked_by forking)) (IsBlockOf built body)
  IsOf built (Fail switch text) = Alone (is_built built Switches)
  IsOf built (OnRelease switch handler) = Under (is_built built Switches) (IsBlockOf built handler)
  IsOf built (Branches group branches) = Under (is_built built Groups) (HasBranches group branches × AreBranchesOf built branches)
  IsOf built (OnObject call object) = Alone (is_built built (called_by call))
  IsOf built (OnObjectWith call object operand) = Alone (is_built built StreamsAndPromises)
  IsOf built (UseRw mutex body) = Under (is_built built Resources) (IsBlockOf built body)
  IsOf built (UsePool pool body) = Under (is_built built Resources) (IsBlockOf built body)
  IsOf built (Submit executor weight captured body) = Under (is_built built Executors) (IsBlockOf built body)
  IsOf built (Sleep time) = Alone (is_built built Resources)
  IsOf built Now = Alone (is_built built Resources)
  IsOf built (BufRead flow limit body) = Under (is_built built Flows) (IsBlockOf built body)
  IsOf built (OnReader call reader) = Alone (is_built built Flows)
  IsOf built (TakeBytes reader count) = Alone (is_built built Flows)
  IsOf built (Copy from to) = Alone (is_built built Flows)
  IsOf built (BufWrite flow body) = Under (is_built built Flows) (IsBlockOf built body)
  IsOf built (Put writer text) = Alone (is_built built Flows)
  IsOf built (OpenDir directory path body) = Under (is_built built Paths) (IsBlockOf built body)
  IsOf built (OnPath call directory path) = Alone (is_built built Paths)
  IsOf built (Save only_new directory path content) = Alone (is_built built Paths)

  pub IsBlockOf : Built → Block → Type 0
  IsBlockOf built (Begins number items) = AreOf built items

  pub AreBranchesOf : Built → Blocks → Type 0
  AreBranchesOf built NoBlocks = Unit {0}
  AreBranchesOf built (AndBlock block rest) = IsBlockOf built block × AreBranchesOf built rest

  pub AreOf : Built → Statements → Type 0
  AreOf built Done = Unit {0}
  AreOf built (Then it rest) = IsOf built it × AreOf built rest

-- each statement and each declaration comes with a feature of the list
pub record HasFormsOf (built : Built) (script : Script) : Type 0 where
  pub declarations : All (λ it. is_built built (declared_by it) ≡ true) script.declarations
  pub bodies : All (IsBlockOf built) script.bodies
