-- What callers see of the cells and of a seat.
use Rattle.std.specs.Prelude.{◌≡◌, ℕ, zero, suc, ◌+◌, ◌/◌, List, [], ◌∷◌, length}
use Rattle.atomic_table.specs.Seated.{TableId}
use Rattle.resume_cells.specs.declared.view.Mark.{Mark}
use Rattle.resume_cells.specs.declared.view.SeatLog.{SeatLog}
use Rattle.resume_cells.specs.declared.view.View.{View}
use Rattle.resume_cells.specs.Views.{nothing_told}

-- which cells they are, how many, how many seats they have, and how many cells each seat owns
pub record AllCells : Type 0 where
  pub table : TableId
  pub count : ℕ
  pub seats : ℕ
  pub each : ℕ

-- of which cells it is a seat, which one, how many cells it owns, and what it made and found
pub record Seated : Type 0 where
  pub table : TableId
  pub number : ℕ
  pub each : ℕ
  pub told : SeatLog

abbrev pub seated : TableId → View → Seated
seated table v = record { table = table; number = v.number; each = v.each; told = v.own }

-- one more mark
abbrev pub with_mark : Seated → Mark → Seated
with_mark s m = record s { told = record { marks = m ∷ s.told.marks; finds = s.told.finds } }

-- one more word found
abbrev pub with_found : Seated → (cell : ℕ) → (word : ℕ) → Seated
with_found s cell word = record s { told = record { marks = s.told.marks; finds = record { cell = cell; word = word } ∷ s.told.finds } }

-- the seat owns the cell: seat s owns those from s * each on, each of them
abbrev pub Owns : Seated → (cell : ℕ) → Type 0
Owns s cell = cell / s.each ≡ s.number

-- so many seats that have made and found nothing, numbered from n on
abbrev pub new_seats : TableId → (each : ℕ) → (n : ℕ) → (count : ℕ) → List Seated
new_seats table each n zero = []
new_seats table each n (suc count) = record { table = table; number = n; each = each; told = nothing_told } ∷ new_seats table each (n + 1) count

-- seats of these cells, numbered from n on
abbrev pub AreNumbered : TableId → (n : ℕ) → List Seated → Type 0
AreNumbered table n [] = Unit {0}
AreNumbered table n (s ∷ ss) = (s.table ≡ table) × (s.number ≡ n) × AreNumbered table (n + 1) ss

-- all seats of these cells, in the order of their numbers
abbrev pub AreAll : AllCells → List Seated → Type 0
AreAll cells seats = (length seats ≡ cells.seats) × AreNumbered cells.table 0 seats

-- what the seats made and found
abbrev pub told_all : List Seated → List SeatLog
told_all [] = []
told_all (s ∷ ss) = s.told ∷ told_all ss
