-- When the calls of two fibers are alike: the same call, with the same numbers and blocks, and with operands that are alike.
-- The blocks see what is in sight, so that the fibers that go into them are alike again; a job's block is the same, and no more is asked of it.
use Rattle.std.specs.Prelude.{ℕ, ℤ, Bool, List, Option, All}
use Rattle.eio_value.specs.declared.value.TextId.{TextId}
use Rattle.eio_value.specs.declared.value.Value.{Value}
use Rattle.eio_value.specs.declared.raised.Outcome.{Outcome}
use Rattle.eio_value.specs.declared.raised.Raised.{Raised}
use Rattle.spec_script.specs.Syntax.{Block, Forking, Group, ObjectCall, ObjectCallWith, ReaderCall, PathCall}
use Rattle.spec_fiber.specs.Asks.{Ask, DirectoryRef}
use Rattle.spec_fiber.specs.Asks as ask
use Rattle.law_fiber.specs.Calls.Sights.{Sight, SeesBlock}
use Rattle.law_fiber.specs.Calls.Alike.{Tables, IsSameText, AlikeLists, AlikeOptions, AlikeValue, AlikeRaised, AlikeOutcome}

pub data AlikeAsk (sight : Sight) (tables : Tables) : Ask → Ask → Type 0 where
  Traces : {these those : List Value} → AlikeLists (AlikeValue tables) these those → AlikeAsk sight tables (ask.Trace these) (ask.Trace those)
  Yields : AlikeAsk sight tables ask.Yield ask.Yield
  Checks : AlikeAsk sight tables ask.Check ask.Check
  Awaits : AlikeAsk sight tables ask.AwaitCancel ask.AwaitCancel
  Turns : AlikeAsk sight tables ask.Turn ask.Turn
  Subs : (body : Block) → SeesBlock sight body → AlikeAsk sight tables (ask.Sub body) (ask.Sub body)
  Protects : (body : Block) → SeesBlock sight body → AlikeAsk sight tables (ask.Protect body) (ask.Protect body)
  Cancels : (context : ℕ) {a b : TextId} → IsSameText tables a b → AlikeAsk sight tables (ask.Cancel context a) (ask.Cancel context b)
  Switches : (body : Block) → SeesBlock sight body → AlikeAsk sight tables (ask.Switch body) (ask.Switch body)
  Forks : (forking : Forking) (switch : ℕ) (body : Block) → SeesBlock sight body
      → AlikeAsk sight tables (ask.Fork forking switch body) (ask.Fork forking switch body)
  Fails : (switch : ℕ) {a b : TextId} → IsSameText tables a b → AlikeAsk sight tables (ask.Fail switch a) (ask.Fail switch b)
  OnReleases : (switch : ℕ) (handler : Block) → SeesBlock sight handler
      → AlikeAsk sight tables (ask.OnRelease switch handler) (ask.OnRelease switch handler)
  Branchings : (group : Group) (blocks : List Block) → All (SeesBlock sight) blocks
      → AlikeAsk sight tables (ask.Branches group blocks) (ask.Branches group blocks)
  OnObjects : (call : ObjectCall) (object : ℕ) → AlikeAsk sight tables (ask.OnObject call object) (ask.OnObject call object)
  OnObjectsWith : (call : ObjectCallWith) (object : ℕ) {a b : Value} → AlikeValue tables a b
      → AlikeAsk sight tables (ask.OnObjectWith call object a) (ask.OnObjectWith call object b)
  Uses : (pool : ℕ) → AlikeAsk sight tables (ask.Use pool) (ask.Use pool)
  Submits : (executor weight : ℕ) {these those : List Value} (job : Block) → AlikeLists (AlikeValue tables) these those
      → AlikeAsk sight tables (ask.Submit executor weight these job) (ask.Submit executor weight those job)
  Sleeps : (time : ℤ) → AlikeAsk sight tables (ask.Sleep time) (ask.Sleep time)
  Nows : AlikeAsk sight tables ask.Now ask.Now
  OpenReaders : (flow limit : ℕ) (body : Block) → SeesBlock sight body
      → AlikeAsk sight tables (ask.OpenReader flow limit body) (ask.OpenReader flow limit body)
  OnReaders : (call : ReaderCall) (reader : ℕ) → AlikeAsk sight tables (ask.OnReader call reader) (ask.OnReader call reader)
  Takes : (reader : ℕ) (count : ℤ) → AlikeAsk sight tables (ask.TakeBytes reader count) (ask.TakeBytes reader count)
  Copies : (from to : ℕ) → AlikeAsk sight tables (ask.Copy from to) (ask.Copy from to)
  OpenWriters : (flow : ℕ) (body : Block) → SeesBlock sight body → AlikeAsk sight tables (ask.OpenWriter flow body) (ask.OpenWriter flow body)
  Puts : (writer : ℕ) {a b : TextId} → IsSameText tables a b → AlikeAsk sight tables (ask.PutText writer a) (ask.PutText writer b)
  Openings : (place : DirectoryRef) {a b : TextId} (body : Block) → IsSameText tables a b → SeesBlock sight body
      → AlikeAsk sight tables (ask.OpenDirectory place a body) (ask.OpenDirectory place b body)
  OnPaths : (call : PathCall) (place : DirectoryRef) {a b : TextId} → IsSameText tables a b
      → AlikeAsk sight tables (ask.OnPath call place a) (ask.OnPath call place b)
  Saves : (only_new : Bool) (place : DirectoryRef) {a b content text : TextId} → IsSameText tables a b → IsSameText tables content text
      → AlikeAsk sight tables (ask.Save only_new place a content) (ask.Save only_new place b text)
  Leaves : (context : ℕ) (late : Bool) {a b : Outcome} → AlikeOutcome tables a b
      → AlikeAsk sight tables (ask.Leave context late a) (ask.Leave context late b)
  Closes : (switch : ℕ) {a b : Option Raised} {kept left : Value} → AlikeOptions (AlikeRaised tables) a b → AlikeValue tables kept left
      → AlikeAsk sight tables (ask.Close switch a kept) (ask.Close switch b left)
  Joins : (group : ℕ) {a b : Option Outcome} → AlikeOptions (AlikeOutcome tables) a b → AlikeAsk sight tables (ask.Join group a) (ask.Join group b)
  ShutReaders : (reader : ℕ) {a b : Outcome} → AlikeOutcome tables a b → AlikeAsk sight tables (ask.ShutReader reader a) (ask.ShutReader reader b)
  ShutWriters : (writer : ℕ) {a b : Outcome} → AlikeOutcome tables a b → AlikeAsk sight tables (ask.ShutWriter writer a) (ask.ShutWriter writer b)
  UnlockEnds : (mutex : ℕ) {a b : Value} → AlikeValue tables a b → AlikeAsk sight tables (ask.UnlockEnd mutex a) (ask.UnlockEnd mutex b)
  PoisonEnds : (mutex : ℕ) {a b : Raised} → AlikeRaised tables a b → AlikeAsk sight tables (ask.PoisonEnd mutex a) (ask.PoisonEnd mutex b)
  PutEnds : (pool resource : ℕ) {a b : Outcome} → AlikeOutcome tables a b
      → AlikeAsk sight tables (ask.PutEnd pool resource a) (ask.PutEnd pool resource b)
  ResolveEnds : (promise : ℕ) {a b : Outcome} → AlikeOutcome tables a b → AlikeAsk sight tables (ask.ResolveEnd promise a) (ask.ResolveEnd promise b)
  Ends : {a b : Outcome} → AlikeOutcome tables a b → AlikeAsk sight tables (ask.End a) (ask.End b)
