-- What a seat knows of waits, by the words that it found and its own marks.
use Rattle.std.specs.Prelude.{◌≡◌, ℕ, ◌+◌, ◌*◌, ◌/◌, ◌<◌, Bool, true, false, not, List, [], ◌∷◌, ◌==◌, ◌&&◌, ◌||◌, nat_le, nat_lt, Option, Some, None, if◌then◌else◌}
use Rattle.std.specs.List.{list_any}
use Rattle.resume_cells.specs.declared.view.Deed.{Deed}
use Rattle.resume_cells.specs.declared.view.Deed.TheVariants.{Arm, Wake, Cancel}
use Rattle.resume_cells.specs.declared.view.Mark.{Mark}
use Rattle.resume_cells.specs.declared.view.Found.{Found}
use Rattle.resume_cells.specs.declared.view.SeatLog.{SeatLog}

-- the word of a wait that isn't decided
abbrev pub waiting : (armed : ℕ) → ℕ
waiting armed = 4 * armed + 1

-- this word of the cell says that the wait was decided, if it ever began
abbrev pub tells_decided : (cell : ℕ) → (armed : ℕ) → Found → Bool
tells_decided cell armed f = f.cell == cell && (nat_le armed (f.word / 4) && not (f.word == waiting armed))

abbrev pub is_arm : Deed → Bool
is_arm Arm = true
is_arm Wake = false
is_arm Cancel = false

abbrev pub is_cancel : Deed → Bool
is_cancel Arm = false
is_cancel Wake = false
is_cancel Cancel = true

-- this mark decides the wait
abbrev pub decides : (cell : ℕ) → (armed : ℕ) → Mark → Bool
decides cell armed m = m.cell == cell && (m.armed == armed && not (is_arm m.deed))

-- this mark cancels the wait
abbrev pub cancels : (cell : ℕ) → (armed : ℕ) → Mark → Bool
cancels cell armed m = m.cell == cell && (m.armed == armed && is_cancel m.deed)

-- it knows that the wait was decided
abbrev pub knows : SeatLog → (cell : ℕ) → (armed : ℕ) → Bool
knows t cell armed = list_any (tells_decided cell armed) t.finds || list_any (decides cell armed) t.marks

-- and that this was below a stamp
abbrev pub knows_below : SeatLog → (cell : ℕ) → (armed : ℕ) → (stamp : ℕ) → Bool
knows_below t cell armed stamp =
    list_any (λ f. tells_decided cell armed f && nat_lt (f.word / 4) stamp) t.finds || list_any (λ m. decides cell armed m && nat_lt m.stamp stamp) t.marks

-- the last wait of the cell that these marks begin
abbrev pub last_armed : (cell : ℕ) → List Mark → Option ℕ
last_armed cell [] = None
last_armed cell (m ∷ ms) = if m.cell == cell && is_arm m.deed then Some m.stamp else last_armed cell ms

-- a seat that knows this may begin a wait of its cell with this stamp: the last one, if there was one, is decided, below the stamp
abbrev pub CanArm : SeatLog → (cell : ℕ) → (stamp : ℕ) → Type 0
CanArm t cell stamp = elim (last_armed cell t.marks) [ None ↦ 0 < stamp | Some armed ↦ knows_below t cell armed stamp ≡ true ]

-- the wait is the last one of the cell, and these marks don't cancel it
abbrev pub IsLast : SeatLog → (cell : ℕ) → (armed : ℕ) → Type 0
IsLast t cell armed = (last_armed cell t.marks ≡ Some armed) × (list_any (cancels cell armed) t.marks ≡ false)

-- a word that says: woken, with a stamp above that of the wait
abbrev pub SaysWoken : (armed : ℕ) → (word : ℕ) → Type 0
SaysWoken armed word = (stamp : ℕ) × (armed < stamp) × (word ≡ 4 * stamp + 2)
