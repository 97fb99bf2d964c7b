-- What a name can stand for: something of a block, or something declared.
use Rattle.std.specs.Prelude.{ℕ, Bool, ◌==◌}
use Rattle.spec_script.specs.Syntax.{ObjectCall, Take, TakeNonblocking, Length, Await, Acquire, Release, Lock, TryLock, Unlock, ObjectCallWith, Add, Resolve, TryResolve}

pub data Kind : Type 0 where
  VariableKind : Kind
  ContextKind : Kind
  SwitchKind : Kind
  ReaderKind : Kind
  WriterKind : Kind
  CapabilityKind : Kind
  StreamKind : Kind
  PromiseKind : Kind
  SemaphoreKind : Kind
  MutexKind : Kind
  PoolKind : Kind
  ExecutorKind : Kind
  FlowKind : Kind
  DirectoryKind : Kind

-- a number for each, by which they are told apart
abbrev pub kind_number : Kind → ℕ
kind_number VariableKind = 0
kind_number ContextKind = 1
kind_number SwitchKind = 2
kind_number ReaderKind = 3
kind_number WriterKind = 4
kind_number CapabilityKind = 5
kind_number StreamKind = 6
kind_number PromiseKind = 7
kind_number SemaphoreKind = 8
kind_number MutexKind = 9
kind_number PoolKind = 10
kind_number ExecutorKind = 11
kind_number FlowKind = 12
kind_number DirectoryKind = 13

abbrev pub is_same_kind : Kind → Kind → Bool
is_same_kind a b = kind_number a == kind_number b

-- what a call on an object is made on
abbrev pub object_kind : ObjectCall → Kind
object_kind Take = StreamKind
object_kind TakeNonblocking = StreamKind
object_kind Length = StreamKind
object_kind Await = PromiseKind
object_kind Acquire = SemaphoreKind
object_kind Release = SemaphoreKind
object_kind Lock = MutexKind
object_kind TryLock = MutexKind
object_kind Unlock = MutexKind

abbrev pub object_kind_with : ObjectCallWith → Kind
object_kind_with Add = StreamKind
object_kind_with Resolve = PromiseKind
object_kind_with TryResolve = PromiseKind
