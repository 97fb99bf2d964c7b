-- When the work of two fibers is alike, and what they carry: the same statements and marks, which see no more than is in sight, and values that are
-- alike.
use Rattle.std.specs.Prelude.{ℕ, Bool, List}
use Rattle.eio_value.specs.declared.value.Value.{Value}
use Rattle.spec_script.specs.Syntax.{Block, Statements}
use Rattle.spec_fiber.specs.Replies.{Position}
use Rattle.spec_fiber.specs.Settling.{Settled}
use Rattle.spec_fiber.specs.Work.{Work, Carry}
use Rattle.spec_fiber.specs.Work as work
use Rattle.law_fiber.specs.Calls.Sights.{Sight, SeesBlock, SeesStatements}
use Rattle.law_fiber.specs.Calls.Alike.{Tables, AlikeLists, AlikeValue, AlikeVariables, AlikeTables}
use Rattle.law_fiber.specs.Calls.AlikeCalls.{AlikeAsk}

pub data AlikeItem (sight : Sight) (tables : Tables) : Work → Work → Type 0 where
  Runs : (items : Statements) → SeesStatements sight items → AlikeItem sight tables (work.Run items) (work.Run items)
  Cuts : (keep : ℕ) → AlikeItem sight tables (work.Cut keep) (work.Cut keep)
  Restores : {these those : List Value} → AlikeVariables sight tables these those → AlikeItem sight tables (work.Restore these) (work.Restore those)
  Tries : (handler : Block) (keep : ℕ) → SeesBlock sight handler → AlikeItem sight tables (work.Try handler keep) (work.Try handler keep)
  Binds : (slot : ℕ) → AlikeItem sight tables (work.Bind slot) (work.Bind slot)
  Loops : (body : Block) (keep : ℕ) → SeesBlock sight body → AlikeItem sight tables (work.Loop body keep) (work.Loop body keep)
  Repeats : (turn left : ℕ) (body : Block) (keep : ℕ) → SeesBlock sight body
      → AlikeItem sight tables (work.Repeat turn left body keep) (work.Repeat turn left body keep)
  Leaves : (context : ℕ) (late : Bool) (keep : ℕ) → AlikeItem sight tables (work.Leave context late keep) (work.Leave context late keep)
  Closes : (switch keep : ℕ) → AlikeItem sight tables (work.Close switch keep) (work.Close switch keep)
  Closings : (switch : ℕ) {kept left : Value} → AlikeValue tables kept left
      → AlikeItem sight tables (work.Closing switch kept) (work.Closing switch left)
  Joins : (group keep : ℕ) → AlikeItem sight tables (work.Join group keep) (work.Join group keep)
  ShutReaders : (reader keep : ℕ) → AlikeItem sight tables (work.ShutReader reader keep) (work.ShutReader reader keep)
  ShutWriters : (writer keep : ℕ) → AlikeItem sight tables (work.ShutWriter writer keep) (work.ShutWriter writer keep)
  Lockings : (mutex : ℕ) (body : Block) → SeesBlock sight body → AlikeItem sight tables (work.Locking mutex body) (work.Locking mutex body)
  Unlocks : (mutex keep : ℕ) → AlikeItem sight tables (work.Unlock mutex keep) (work.Unlock mutex keep)
  Usings : (pool : ℕ) (body : Block) → SeesBlock sight body → AlikeItem sight tables (work.Using pool body) (work.Using pool body)
  Puts : (pool resource keep : ℕ) → AlikeItem sight tables (work.Put pool resource keep) (work.Put pool resource keep)
  Resolves : (promise : ℕ) → AlikeItem sight tables (work.Resolve promise) (work.Resolve promise)

abbrev pub AlikeWork : Sight → Tables → List Work → List Work → Type 0
AlikeWork sight tables these those = AlikeLists (AlikeItem sight tables) these those

-- ## Fibers

-- the tables of two fibers
abbrev pub tables_of : Carry → Carry → Tables
tables_of c d = record { one = c.texts; other = d.texts }

-- what two fibers carry: tables that are alike, and variables of which those in scope are. The number of the next raise and the raises so far don't
-- count
pub record AlikeCarry (sight : Sight) (c d : Carry) : Type 0 where
  pub tables : AlikeTables sight (tables_of c d)
  pub variables : AlikeVariables sight (tables_of c d) c.variables d.variables

-- where two fibers stand between two calls
pub record AlikePosition (sight : Sight) (tables : Tables) (p q : Position) : Type 0 where
  pub work : AlikeWork sight tables p.work q.work
  pub variables : AlikeVariables sight tables p.variables q.variables

-- the next calls of two fibers are alike, and so are the work behind them and what the fibers carry then
pub record AlikeSettled (sight : Sight) (s t : Settled) : Type 0 where
  pub call : AlikeAsk sight (tables_of s.carry t.carry) s.call t.call
  pub behind : AlikeWork sight (tables_of s.carry t.carry) s.behind t.behind
  pub carry : AlikeCarry sight s.carry t.carry
