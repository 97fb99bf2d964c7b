-- What contracts see: of a list its waiting fibers, and of an object its row, with the number of cells beside it.
use Rattle.std.specs.Prelude.{ℕ, List}
use Rattle.spec_parts.specs.Data.{Data}
use Rattle.spec_parts.specs.Row.{Row, Queued, Side, Takers, opening, with_queue}

-- the fibers that wait, the oldest first, and how many cells there are
pub record WaitingList : Type 0 where
  pub waiting : List Queued
  pub cells : ℕ

-- the row of a shared object, and how many cells there are
pub record Core : Type 0 where
  pub row : Row
  pub cells : ℕ

-- the row with these data where fibers wait on one side alone
abbrev pub only_side : Side → List Queued → Data → Row
only_side side list values = with_queue side list values (opening values)

-- an object for which fibers wait on one side alone
abbrev pub core_of : Data → WaitingList → Core
core_of values list = record { row = only_side Takers list.waiting values; cells = list.cells }
