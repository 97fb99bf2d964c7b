-- What tests say of a seat whose waits race.
use Rattle.std.specs.Prelude.{◌≡◌, ℕ, ◌<◌, ◌≤◌, List, [], ◌∷◌}
use Rattle.atomic_table.specs.Seated.{TableId}
use Rattle.resume_cells.specs.Seats.{Seated, Owns}
use Rattle.resume_cells.specs.Known.{IsLast}
use Rattle.resume_cells.specs.Views.{nothing_told}

-- the first seat, which owns so many cells, before it made a mark
abbrev pub IsFirstNew : (waits : ℕ) → Seated → Type 0
IsFirstNew waits s = (s.number ≡ 0) × (s.each ≡ waits) × (s.told ≡ nothing_told)

-- from some cell on it owns each of so many, and its last wait there began with the stamp 1 and wasn't cancelled by it
abbrev pub AreWaiting : (waits : ℕ) → Seated → (first : ℕ) → Type 0
AreWaiting waits s first = (cell : ℕ) → first ≤ cell → cell < waits → Owns s cell × IsLast s.told cell 1

-- seats of these cells
abbrev pub AreOf : TableId → List Seated → Type 0
AreOf table [] = Unit {0}
AreOf table (s ∷ ss) = (s.table ≡ table) × AreOf table ss
