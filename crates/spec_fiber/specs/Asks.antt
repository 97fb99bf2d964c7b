-- The calls that a fiber can make, with their operands evaluated: values by value, objects and directories by their numbers, texts by their numbers in
-- the table, blocks with the numbers of their first nodes. The variables that a block takes with it are those of the fiber at the call.
use Rattle.std.specs.Prelude.{ℕ, Bool, true, List, ℤ, Option, Some, None}
use Rattle.eio_value.specs.declared.value.TextId.{TextId}
use Rattle.eio_value.specs.declared.value.Value.{Value}
use Rattle.eio_value.specs.declared.raised.Outcome.{Outcome}
use Rattle.eio_value.specs.declared.raised.Outcome.TheVariants as outcome
use Rattle.eio_value.specs.declared.raised.Raised.{Raised}
use Rattle.spec_script.specs.Syntax.{Block, Forking, Group, ObjectCall, ObjectCallWith, ReaderCall, PathCall}

-- a directory: a declared one by its number in order of declaration, or an opened one by the number that its opening answered
pub data DirectoryRef : Type 0 where
  Declared : (number : ℕ) → DirectoryRef
  Opened : (number : ℕ) → DirectoryRef

pub data Ask : Type 0 where
  Trace : List Value → Ask
  Yield : Ask
  Check : Ask
  AwaitCancel : Ask
  -- a turn of a loop begins
  Turn : Ask
  -- contexts and switches
  Sub : Block → Ask
  Protect : Block → Ask
  Cancel : (context : ℕ) → (text : TextId) → Ask
  Switch : Block → Ask
  Fork : Forking → (switch : ℕ) → Block → Ask
  Fail : (switch : ℕ) → (text : TextId) → Ask
  OnRelease : (switch : ℕ) → Block → Ask
  -- branches, of which there is at least one; the caller runs the last
  Branches : Group → List Block → Ask
  -- shared objects
  OnObject : ObjectCall → (object : ℕ) → Ask
  OnObjectWith : ObjectCallWith → (object : ℕ) → Value → Ask
  Use : (pool : ℕ) → Ask
  Submit : (executor weight : ℕ) → (given : List Value) → Block → Ask
  -- the clock
  Sleep : (time : ℤ) → Ask
  Now : Ask
  -- flows
  OpenReader : (flow limit : ℕ) → Block → Ask
  OnReader : ReaderCall → (reader : ℕ) → Ask
  TakeBytes : (reader : ℕ) → (count : ℤ) → Ask
  Copy : (from to : ℕ) → Ask
  OpenWriter : (flow : ℕ) → Block → Ask
  PutText : (writer : ℕ) → (text : TextId) → Ask
  -- paths
  OpenDirectory : DirectoryRef → (path : TextId) → Block → Ask
  OnPath : PathCall → DirectoryRef → (path : TextId) → Ask
  Save : (only_new : Bool) → DirectoryRef → (path content : TextId) → Ask
  -- the end of a block of a context; `late` where the block is a handler of a switch that had finished, whose value is refused
  Leave : (context : ℕ) → (late : Bool) → Outcome → Ask
  -- the end of a switch, of its handlers, or a further call: an exception that came, and the value of the body
  Close : (switch : ℕ) → Option Raised → (kept : Value) → Ask
  -- the end of the caller's branch, or a further call, which brings nothing
  Join : (group : ℕ) → Option Outcome → Ask
  ShutReader : (reader : ℕ) → Outcome → Ask
  ShutWriter : (writer : ℕ) → Outcome → Ask
  UnlockEnd : (mutex : ℕ) → Value → Ask
  PoisonEnd : (mutex : ℕ) → Raised → Ask
  PutEnd : (pool resource : ℕ) → Outcome → Ask
  -- the end of a fiber that resolves a promise, and of any fiber
  ResolveEnd : (promise : ℕ) → Outcome → Ask
  End : Outcome → Ask

-- ## Ends of blocks

-- what goes on behind an end that answers `()`: the value or exception that came to it. None where the end raises by itself, for the value of a late
-- handler, and for every other call
abbrev pub passing : Ask → Option Outcome
passing (Leave context true (outcome.Ok value)) = None
passing (Leave context late it) = Some it
passing (ShutReader reader it) = Some it
passing (ShutWriter writer it) = Some it
passing (UnlockEnd mutex value) = Some (outcome.Ok value)
passing (PoisonEnd mutex raised) = Some (outcome.Err raised)
passing (PutEnd pool resource it) = Some it
passing ask = None

-- the call of a fiber that waited in it and is woken to make it again: what was brought the first time isn't brought again
abbrev pub again : Ask → Ask
again (Close switch failed kept) = Close switch None kept
again (Join group own) = Join group None
again ask = ask
