-- What every script that is read has: each name that it uses stands for what its place wants, and each number is within its limits.
-- It is a judgement on the syntax alone. A place knows the kinds of the declarations, by their numbers, and those of the names of the
-- blocks around it, by their slots.
use Rattle.std.specs.Prelude.{◌≡◌, ℕ, ◌+◌, ◌<◌, ◌≤◌, Bool, true, false, IsTrue, List, [], ◌∷◌, ◌++◌, length, map, slice_get, All, Some, None}
use Rattle.spec_script.specs.Limits.{Range, is_within, limits_of, most_traced, most_branches, most_captured, most_workers, capacities, counts, sizes, weights, reader_limits}
use Rattle.spec_script.specs.Kinds.{Kind, VariableKind, ContextKind, SwitchKind, ReaderKind, WriterKind, CapabilityKind, StreamKind, PromiseKind, SemaphoreKind, MutexKind, PoolKind, ExecutorKind, FlowKind, DirectoryKind, object_kind, object_kind_with}
use Rattle.spec_script.specs.Syntax as syntax
use Rattle.spec_script.specs.Syntax.{Expression, NumberValue, TextValue, Variable, UnitValue, Operation, Directory, Declared, Opened, Group, Both, First, Any, Forking, Plain, Daemon, Promising, Statement, Let, LetForm, If, Give, Raise, Try, Repeat, Loop, Trace, Yield, Check, AwaitCancel, Sub, Protect, Cancel, Switch, Fork, Fail, OnRelease, Branches, OnObject, OnObjectWith, UseRw, UsePool, Submit, Sleep, Now, BufRead, OnReader, TakeBytes, Copy, BufWrite, Put, OpenDir, OnPath, Save, Expressions, NoExpressions, AndExpression, Block, Begins, Statements, Done, Then, Blocks, NoBlocks, AndBlock}
use Rattle.spec_script.specs.Declarations.{Declaration, Stream, Promise, Semaphore, Mutex, Pool, Executor, Flow, Dir}
use Rattle.spec_script.specs.Scripts.{Script}

-- ## What a place knows

-- the kinds of the declarations, by their numbers, and of the names of the blocks around, by their slots
pub record Known : Type 0 where
  pub declared : List Kind
  pub slots : List Kind

-- whether a name of this kind is one of a block; else it is one of a declaration
abbrev pub is_of_block : Kind → Bool
is_of_block VariableKind = true
is_of_block ContextKind = true
is_of_block SwitchKind = true
is_of_block ReaderKind = true
is_of_block WriterKind = true
is_of_block CapabilityKind = true
is_of_block kind = false

abbrev pub kinds_beside : Kind → Known → List Kind
kinds_beside kind known = elim (is_of_block kind) [ true ↦ known.slots | false ↦ known.declared ]

-- the slot, or the declaration, of this number exists and has this kind
abbrev pub Has : Known → Kind → (number : ℕ) → Type 0
Has known kind number = slice_get (kinds_beside kind known) number ≡ Some kind

-- with one name of a block more, which has the next slot
abbrev pub with_slot : Kind → Known → Known
with_slot kind known = record known { slots = known.slots ++ kind ∷ [] }

-- what a job knows: its captured variables from slot 0 on, and the declarations
abbrev pub in_job : (captured : List ℕ) → Known → Known
in_job captured known = record known { slots = map (λ slot. VariableKind) captured }

-- what a body knows: the declarations alone
abbrev pub in_body : (declared : List Kind) → Known
in_body declared = record { declared = declared; slots = [] }

-- ## Numbers

abbrev pub IsIn : Range → ℕ → Type 0
IsIn range n = (range.least ≤ n) × (n ≤ range.most)

-- ## Expressions

unfoldable pub IsSoundExpression : Known → Expression → Type 0
IsSoundExpression known (NumberValue z) = IsTrue (is_within z)
IsSoundExpression known (TextValue text) = Unit {0}
IsSoundExpression known (Variable slot) = Has known VariableKind slot
IsSoundExpression known UnitValue = Unit {0}
IsSoundExpression known (Operation operator left right) = IsSoundExpression known left × IsSoundExpression known right

unfoldable pub AreSoundExpressions : Known → Expressions → Type 0
AreSoundExpressions known NoExpressions = Unit {0}
AreSoundExpressions known (AndExpression e rest) = IsSoundExpression known e × AreSoundExpressions known rest

unfoldable pub expression_count : Expressions → ℕ
expression_count NoExpressions = 0
expression_count (AndExpression e rest) = expression_count rest + 1

-- ## Statements

abbrev pub IsSoundDirectory : Known → Directory → Type 0
IsSoundDirectory known (Declared number) = Has known DirectoryKind number
IsSoundDirectory known (Opened slot) = Has known CapabilityKind slot

abbrev pub IsSoundForking : Known → Forking → Type 0
IsSoundForking known (Promising promise) = Has known PromiseKind promise
IsSoundForking known forking = Unit {0}

unfoldable pub block_count : Blocks → ℕ
block_count NoBlocks = 0
block_count (AndBlock block rest) = block_count rest + 1

-- `both` and `first` have two branches, `all` and `any` at most so many
abbrev pub HasItsBranches : Group → (branches : ℕ) → Type 0
HasItsBranches Both n = n ≡ 2
HasItsBranches First n = n ≡ 2
HasItsBranches syntax.All n = n ≤ most_branches
HasItsBranches Any n = n ≤ most_branches

-- what is known behind a statement: a `let` brings a variable for the rest of its block
abbrev pub behind : Statement → Known → Known
behind (Let e) known = with_slot VariableKind known
behind (LetForm form) known = with_slot VariableKind known
behind statement known = known

unfoldable mutual
  pub IsSoundStatement : Known → Statement → Type 0
  IsSoundStatement known (Let e) = IsSoundExpression known e
  IsSoundStatement known (LetForm form) = IsSoundStatement known form
  IsSoundStatement known (If test first second) = IsSoundExpression known test × IsSoundBlock known first × IsSoundBlock known second
  IsSoundStatement known (Give e) = IsSoundExpression known e
  IsSoundStatement known (Raise text) = Unit {0}
  IsSoundStatement known (Try tried handler) = IsSoundBlock known tried × IsSoundBlock (with_slot VariableKind known) handler
  IsSoundStatement known (Repeat times body) = IsSoundExpression known times × IsSoundBlock (with_slot VariableKind known) body
  IsSoundStatement known (Loop body) = IsSoundBlock known body
  IsSoundStatement known (Trace operands) = AreSoundExpressions known operands × (expression_count operands ≤ most_traced)
  IsSoundStatement known Yield = Unit {0}
  IsSoundStatement known Check = Unit {0}
  IsSoundStatement known AwaitCancel = Unit {0}
  IsSoundStatement known (Sub body) = IsSoundBlock (with_slot ContextKind known) body
  IsSoundStatement known (Protect body) = IsSoundBlock known body
  IsSoundStatement known (Cancel context text) = Has known ContextKind context
  IsSoundStatement known (Switch body) = IsSoundBlock (with_slot SwitchKind known) body
  IsSoundStatement known (Fork forking switch body) = IsSoundForking known forking × Has known SwitchKind switch × IsSoundBlock known body
  IsSoundStatement known (Fail switch text) = Has known SwitchKind switch
  IsSoundStatement known (OnRelease switch handler) = Has known SwitchKind switch × IsSoundBlock known handler
  IsSoundStatement known (Branches group blocks) = AreSoundBlocks known blocks × HasItsBranches group (block_count blocks)
  IsSoundStatement known (OnObject call object) = Has known (object_kind call) object
  IsSoundStatement known (OnObjectWith call object operand) = Has known (object_kind_with call) object × IsSoundExpression known operand
  IsSoundStatement known (UseRw mutex body) = Has known MutexKind mutex × IsSoundBlock known body
  IsSoundStatement known (UsePool pool body) = Has known PoolKind pool × IsSoundBlock (with_slot VariableKind known) body
  IsSoundStatement known (Submit executor weight captured job) =
      Has known ExecutorKind executor
      × IsIn weights weight
      × (length captured ≤ most_captured)
      × All (Has known VariableKind) captured
      × IsSoundBlock (in_job captured known) job
  IsSoundStatement known (Sleep time) = IsSoundExpression known time
  IsSoundStatement known Now = Unit {0}
  IsSoundStatement known (BufRead flow limit body) = Has known FlowKind flow × IsIn reader_limits limit × IsSoundBlock (with_slot ReaderKind known) body
  IsSoundStatement known (OnReader call reader) = Has known ReaderKind reader
  IsSoundStatement known (TakeBytes reader count) = Has known ReaderKind reader × IsSoundExpression known count
  IsSoundStatement known (Copy from to) = Has known FlowKind from × Has known FlowKind to
  IsSoundStatement known (BufWrite flow body) = Has known FlowKind flow × IsSoundBlock (with_slot WriterKind known) body
  IsSoundStatement known (Put writer operand) = Has known WriterKind writer × IsSoundExpression known operand
  IsSoundStatement known (OpenDir directory path body) =
      IsSoundDirectory known directory × IsSoundExpression known path × IsSoundBlock (with_slot CapabilityKind known) body
  IsSoundStatement known (OnPath call directory path) = IsSoundDirectory known directory × IsSoundExpression known path
  IsSoundStatement known (Save only_new directory path content) =
      IsSoundDirectory known directory × IsSoundExpression known path × IsSoundExpression known content

  pub IsSoundBlock : Known → Block → Type 0
  IsSoundBlock known (Begins number items) = AreSoundStatements known items

  -- the statements of a block, each with what is known behind those before it
  pub AreSoundStatements : Known → Statements → Type 0
  AreSoundStatements known Done = Unit {0}
  AreSoundStatements known (Then it rest) = IsSoundStatement known it × AreSoundStatements (behind it known) rest

  pub AreSoundBlocks : Known → Blocks → Type 0
  AreSoundBlocks known NoBlocks = Unit {0}
  AreSoundBlocks known (AndBlock block rest) = IsSoundBlock known block × AreSoundBlocks known rest

-- ## Scripts

-- what the name of a declaration stands for
abbrev pub kind_of : Declaration → Kind
kind_of (Stream capacity) = StreamKind
kind_of Promise = PromiseKind
kind_of (Semaphore count) = SemaphoreKind
kind_of Mutex = MutexKind
kind_of (Pool size) = PoolKind
kind_of (Executor workers) = ExecutorKind
kind_of (Flow steps) = FlowKind
kind_of (Dir items) = DirectoryKind

abbrev pub kinds_of : List Declaration → List Kind
kinds_of = map kind_of

-- an executor has at least one worker, and each names one of the script's bodies
abbrev pub IsSoundDeclaration : (bodies : ℕ) → Declaration → Type 0
IsSoundDeclaration bodies (Stream capacity) = IsIn capacities capacity
IsSoundDeclaration bodies (Semaphore count) = IsIn counts count
IsSoundDeclaration bodies (Pool size) = IsIn sizes size
IsSoundDeclaration bodies (Executor workers) = (1 ≤ length workers) × (length workers ≤ most_workers) × All (λ body. body < bodies) workers
IsSoundDeclaration bodies other = Unit {0}

-- the version is the one that is read; the declarations have a name each; main is the first body, and the only one where no further body stands
pub record IsSound (script : Script) : Type 0 where
  pub version : script.version ≡ 1
  pub names : length script.names ≡ length script.declarations
  pub few_declarations : length script.declarations ≤ (limits_of script.version).declarations
  pub declarations : All (IsSoundDeclaration (length script.bodies)) script.declarations
  pub has_main : 1 ≤ length script.bodies
  pub few_bodies : length script.bodies ≤ (limits_of script.version).bodies
  pub main_alone : script.first_domain ≡ None → length script.bodies ≡ 1
  pub bodies : All (IsSoundBlock (in_body (kinds_of script.declarations))) script.bodies
