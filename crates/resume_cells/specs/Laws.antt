-- What histories mean for waits and winners.
use Rattle.std.specs.Prelude.{◌≡◌, ◌≢◌, ◌↔◌, ◌⊎◌, ℕ, ◌+◌, ◌*◌, ◌/◌, ◌<◌, ◌≤◌, true, List, [], ◌∷◌, ◌++◌, ◌==◌, length, Contains, if◌then◌else◌}
use Rattle.spec_parts.specs.ResumeWords as words
use Rattle.resume_cells.specs.declared.view.Deed.TheVariants.{Arm}
use Rattle.resume_cells.specs.declared.view.Mark.{Mark}
use Rattle.resume_cells.specs.declared.view.Found.{Found}
use Rattle.resume_cells.specs.declared.view.SeatLog.{SeatLog}
use Rattle.resume_cells.specs.Marks.{Entry, IsHistory, IsDecision, of_cell, word_of}
use Rattle.resume_cells.specs.Known.{waiting, decides, tells_decided}
use Rattle.resume_cells.specs.Histories.{history_of, IsDecidedInTurn, Histories, told_by}

-- the decisions of the wait that has this stamp
abbrev pub decisions_of : (armed : ℕ) → List words.Mark → List words.Mark
decisions_of armed [] = []
decisions_of armed (words.Arms other maker ∷ marks) = decisions_of armed marks
decisions_of armed (words.Decides decision other stamp maker ∷ marks) = if other == armed then words.Decides decision other stamp maker ∷ decisions_of armed marks else decisions_of armed marks

-- the wait that has this stamp begins
abbrev pub Begins : (armed : ℕ) → List words.Mark → Type 0
Begins armed [] = ⊥
Begins armed (words.Arms other maker ∷ marks) = (other ≡ armed) ⊎ Begins armed marks
Begins armed (words.Decides decision other stamp maker ∷ marks) = Begins armed marks

-- the wait has one decision, and its stamp isn't above the last one
pub record IsDecided (armed last : ℕ) (marks : List words.Mark) : Type 0 where
  pub decision : words.Decision
  pub stamp : ℕ
  pub maker : ℕ
  pub one : decisions_of armed marks ≡ words.Decides decision armed stamp maker ∷ []
  pub at_most : stamp ≤ last

-- each wait has at most one decision
abbrev pub DecidedOnce : Type 0
DecidedOnce = (history : List words.Mark) → words.IsHistory history → (armed : ℕ) → length (decisions_of armed history) ≤ 1

-- Where the word at some step has a stamp that isn't below a wait's, and isn't that of this wait undecided: a wait that begins at some
-- time had its one decision before that step, with a stamp that isn't above the word's, and is decided no more.
abbrev pub FoundStays : Type 0
FoundStays = (before later : List words.Mark) → IsDecidedInTurn (before ++ later) → (armed : ℕ) → armed ≤ words.word_of before / 4 → words.word_of before ≢ waiting armed
    → Begins armed (before ++ later) → IsDecided armed (words.word_of before / 4) before × (decisions_of armed later ≡ [])

-- two decisions of one wait are one, by one seat
abbrev pub OneWinner : Type 0
OneWinner = (each : ℕ) (shown : List ℕ) (seats : List SeatLog) → Histories each shown seats → (n k : ℕ) (m p : Mark) → Contains (told_by n seats).marks m → Contains (told_by k seats).marks p
    → IsDecision m → IsDecision p → m.cell ≡ p.cell → m.armed ≡ p.armed → (n ≡ k) × (m ≡ p)

-- a seat decided the wait, with a stamp that isn't above this one
pub record IsDecidedBy (cell armed last : ℕ) (seats : List SeatLog) : Type 0 where
  pub by : ℕ
  pub mark : Mark
  pub its : Contains (told_by by seats).marks mark
  pub decides : decides cell armed mark ≡ true
  pub at_most : mark.stamp ≤ last

-- where a word that a seat found tells that a wait was decided, and some seat began that wait, some seat decided it, with a stamp that isn't above the word's
abbrev pub FoundIsDecided : Type 0
FoundIsDecided = (each : ℕ) (shown : List ℕ) (seats : List SeatLog) → Histories each shown seats → (n k : ℕ) (f : Found) (a : Mark) → Contains (told_by n seats).finds f → Contains (told_by k seats).marks a
    → a.deed ≡ Arm → a.cell ≡ f.cell → tells_decided f.cell a.stamp f ≡ true → IsDecidedBy f.cell a.stamp (f.word / 4) seats

-- in the log a cell's marks, the newest first, are legal exactly where its history is one in which each wait but the last is decided; and they show the same word
abbrev pub RulesAgree : Type 0
RulesAgree = (cell : ℕ) (log : List Entry) → (IsHistory (of_cell cell log) ↔ IsDecidedInTurn (history_of cell log)) × (word_of (of_cell cell log) ≡ words.word_of (history_of cell log))

-- the cells that a seat owns lie side by side: as many as each seat owns, from its number times that on
abbrev pub CellsLieTogether : Type 0
CellsLieTogether = (each number cell : ℕ) → 0 < each → (cell / each ≡ number) ↔ ((number * each ≤ cell) × (cell < number * each + each))
