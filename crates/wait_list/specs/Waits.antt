-- Each cell stands in a list at most once, and each is one of the cells that there are.
use Rattle.std.specs.Prelude.{ℕ, ◌==◌, ◌<◌, ◌≤◌, Bool, List, length, filter}
use Rattle.std.specs.List.{All, list_any}
use Rattle.law_parts.specs.Waits.{has_cell}
use Rattle.spec_parts.specs.Row.{Queued, has_other_cell}

-- whether a fiber with this cell stands in a list
abbrev pub stands : ℕ → List Queued → Bool
stands cell list = list_any (λ queued. has_cell cell queued.who) list

-- how many fibers of a list have this cell
abbrev pub count : ℕ → List Queued → ℕ
count cell list = length (filter (λ queued. has_cell cell queued.who) list)

-- those with another cell
abbrev pub others : ℕ → List Queued → List Queued
others cell list = filter (λ queued. has_other_cell cell queued.who) list

abbrev pub EachCellOnce : List Queued → Type 0
EachCellOnce list = (cell : ℕ) → count cell list ≤ 1

-- all cells are below this number
abbrev pub AreBelow : ℕ → List Queued → Type 0
AreBelow cells list = All (λ queued. queued.who.cell < cells) list

-- the fiber waits with this number
abbrev pub has_number : ℕ → Queued → Bool
has_number number queued = queued.number == number
