-- What was, once the cells are closed: each cell has a history, as `spec_parts` defines it, that fits the words and the seats.
use Rattle.std.specs.Prelude.{◌≡◌, ℕ, ◌<◌, List, [], ◌∷◌, ◌++◌, ◌==◌, length, slice_index, slice_index_or, if◌then◌else◌, Option, Some, None}
use Rattle.spec_parts.specs.ResumeWords as words
use Rattle.resume_cells.specs.declared.view.Deed.TheVariants.{Arm, Wake, Cancel}
use Rattle.resume_cells.specs.declared.view.Found.{Found}
use Rattle.resume_cells.specs.declared.view.SeatLog.{SeatLog}
use Rattle.resume_cells.specs.Marks.{Entry, marks_by, AreByOwners}
use Rattle.resume_cells.specs.Views.{nothing_told}

-- a mark as the definition of histories has it, with its maker
abbrev pub mark_of : Entry → words.Mark
mark_of e = elim e.1.deed [ Arm ↦ words.Arms e.1.stamp e.0 | Wake ↦ words.Decides words.Woken e.1.armed e.1.stamp e.0 | Cancel ↦ words.Decides words.Cancelled e.1.armed e.1.stamp e.0 ]

-- the history of a cell, oldest first
abbrev pub history_of : (cell : ℕ) → List Entry → List words.Mark
history_of cell [] = []
history_of cell (e ∷ es) = if e.1.cell == cell then history_of cell es ++ mark_of e ∷ [] else history_of cell es

-- behind an open wait, or none: no wait begins before the one that stands open is decided
abbrev pub InTurn : (standing : Option ℕ) → List words.Mark → Type 0
InTurn standing [] = Unit {0}
InTurn None (words.Arms armed maker ∷ marks) = InTurn (Some armed) marks
InTurn (Some other) (words.Arms armed maker ∷ marks) = ⊥
InTurn standing (words.Decides decision armed stamp maker ∷ marks) = InTurn None marks

-- a history in which each wait but the last is decided
abbrev pub IsDecidedInTurn : List words.Mark → Type 0
IsDecidedInTurn history = words.IsHistory history × InTurn None history

-- the word stood at some time: it is that of the history up to then
abbrev pub Stood : (word : ℕ) → List words.Mark → Type 0
Stood word history = (before : List words.Mark) × (after : List words.Mark) × (history ≡ before ++ after) × (words.word_of before ≡ word)

-- each word that was found stood at some time
abbrev pub AllStood : List Entry → List Found → Type 0
AllStood log [] = Unit {0}
AllStood log (f ∷ fs) = Stood f.word (history_of f.cell log) × AllStood log fs

-- what the seat of this number made and found; where there is none, nothing
abbrev pub told_by : ℕ → List SeatLog → SeatLog
told_by n seats = slice_index_or seats n nothing_told

-- There is one log of all marks, the newest first, each with the number of the seat that made it. The marks of each cell are its history, in which
-- each wait but the last is decided, and its word shows the last mark. Arms and cancellations of a cell are its owner's. The marks of each seat are just those that it made, in its order, and each word
-- that it found stood at some time.
pub record Histories (each : ℕ) (shown : List ℕ) (seats : List SeatLog) : Type 0 where
  pub log : List Entry
  pub legal : (cell : ℕ) → IsDecidedInTurn (history_of cell log)
  pub shows : (cell : ℕ) → cell < length shown → slice_index shown cell ≡ words.word_of (history_of cell log)
  pub owned : AreByOwners each log
  pub made : (n : ℕ) → marks_by n log ≡ (told_by n seats).marks
  pub stood : (n : ℕ) → AllStood log (told_by n seats).finds
