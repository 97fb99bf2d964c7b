-- How what a seat knows changes.
use Rattle.std.specs.Prelude.{ℕ, ◌+◌, true, false, [], ◌∷◌, ◌++◌}
use Rattle.resume_cells.specs.declared.view.Deed.{Deed}
use Rattle.resume_cells.specs.declared.view.Deed.TheVariants.{Arm}
use Rattle.resume_cells.specs.declared.view.Mark.{Mark}
use Rattle.resume_cells.specs.declared.view.SeatLog.{SeatLog}
use Rattle.resume_cells.specs.declared.view.View.{View}

-- a wait begins
abbrev pub arm_of : (cell : ℕ) → (stamp : ℕ) → Mark
arm_of cell stamp = record { cell = cell; deed = Arm; armed = stamp; stamp = stamp }

-- a wait is decided
abbrev pub decision_of : Deed → (cell : ℕ) → (armed : ℕ) → (stamp : ℕ) → Mark
decision_of deed cell armed stamp = record { cell = cell; deed = deed; armed = armed; stamp = stamp }

-- one more mark
abbrev pub marked : View → Mark → View
marked v m = record v { own = record { marks = m ∷ v.own.marks; finds = v.own.finds } }

-- one more word found
abbrev pub found : View → (cell : ℕ) → (word : ℕ) → View
found v cell word = record v { own = record { marks = v.own.marks; finds = record { cell = cell; word = word } ∷ v.own.finds } }

abbrev pub nothing_told : SeatLog
nothing_told = record { marks = []; finds = [] }

-- the first seat, which has made no other
abbrev pub first_view : (each : ℕ) → View
first_view each = record { number = 0; live = true; each = each; own = nothing_told; dealt = 1; known = [] }

-- the first seat deals the next number
abbrev pub dealing : View → View
dealing v = record v { dealt = v.dealt + 1 }

-- the seat that has it
abbrev pub dealt_to : View → View
dealt_to v = record { number = v.dealt; live = true; each = v.each; own = nothing_told; dealt = 0; known = [] }

-- the first seat takes in the next one
abbrev pub taking_in : View → View → View
taking_in v w = record v { known = v.known ++ w.own ∷ [] }

-- a seat that was taken in
abbrev pub spent : View
spent = record { number = 0; live = false; each = 0; own = nothing_told; dealt = 0; known = [] }
