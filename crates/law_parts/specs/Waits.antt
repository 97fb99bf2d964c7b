-- Who stands in a row: each cell at most once; and a strike that comes too late changes nothing.
use Rattle.std.specs.Prelude.{◌≡◌, ℕ, ◌+◌, ◌≤◌, ◌==◌, Bool, false, length}
use Rattle.eio_value.specs.declared.call.Call.{Call}
use Rattle.eio_value.specs.declared.message.Waiter.{Waiter}
use Rattle.spec_parts.specs.Objects.{called}
use Rattle.spec_parts.specs.Row.{Row, only_row}
use Rattle.spec_parts.specs.Strikes.{struck, waits_in}

-- the waiter has this cell
abbrev pub has_cell : ℕ → Waiter → Bool
has_cell cell who = who.cell == cell

-- how many waiters of a row have this cell
abbrev pub waiters_of : ℕ → Row → ℕ
waiters_of cell row = length (only_row (has_cell cell) row).takers + length (only_row (has_cell cell) row).adders

abbrev pub HasEachCellOnce : Row → Type 0
HasEachCellOnce row = (cell : ℕ) → waiters_of cell row ≤ 1

abbrev pub CallsKeepCells : Type 0
CallsKeepCells = (row : Row) (who : Waiter) (off : Bool) (serial : ℕ) (call : Call) → HasEachCellOnce row → HasEachCellOnce (called row who off serial call).row

abbrev pub StrikesKeepCells : Type 0
StrikesKeepCells = (row : Row) (who : Waiter) → HasEachCellOnce row → HasEachCellOnce (struck row who)

abbrev pub LateStrikesDoNothing : Type 0
LateStrikesDoNothing = (row : Row) (who : Waiter) → waits_in row who ≡ false → struck row who ≡ row
