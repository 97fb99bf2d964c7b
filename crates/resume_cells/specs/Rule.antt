-- The rule of the resume words: between any two steps there is one log that all words and all seats fit.
use Rattle.std.specs.Prelude.{◌≡◌, ◌≢◌, ℕ, ◌+◌, ◌<◌, ◌≤◌, true, List, [], length, slice_index}
use mathlib.Core.Option.{some}
use lib.ListN.{get_elem?}
use Rattle.atomic_table.specs.Table.{State}
use Rattle.resume_cells.specs.declared.view.SeatLog.{SeatLog}
use Rattle.resume_cells.specs.declared.view.View.{View}
use Rattle.resume_cells.specs.declared.rule.Plan.{Plan}
use Rattle.resume_cells.specs.Marks.{Entry, word_bound, word_of, IsHistory, of_cell, marks_by, AreByOwners, AllWere}

-- no seat has this number
abbrev pub IsFree : ℕ → List View → Type 0
IsFree n views = (by : ℕ) (v : View) → get_elem? views by ≡ some v → v.live ≡ true → v.number ≢ n

-- a seat fits the log: it is the one of its number, its marks are just those of that number, and each word that it found stood
pub record Fits (each : ℕ) (log : List Entry) (who : ℕ → ℕ) (by : ℕ) (v : View) : Type 0 where
  pub is : who v.number ≡ by
  pub owns : v.each ≡ each
  pub made : marks_by v.number log ≡ v.own.marks
  pub stood : AllWere log v.own.finds

-- the first seat knows that later numbers made no mark, and what those made and found that it took in
pub record Leads (seats : ℕ) (log : List Entry) (views : List View) (v : View) : Type 0 where
  pub most : v.dealt ≤ seats
  pub few : length v.known < v.dealt
  pub later : (n : ℕ) → v.dealt ≤ n → (marks_by n log ≡ []) × IsFree n views
  pub ended : (k : ℕ) (t : SeatLog) → get_elem? v.known k ≡ some t → (marks_by (k + 1) log ≡ t.marks) × AllWere log t.finds × IsFree (k + 1) views

pub record KeptWords (each seats : ℕ) (words : List ℕ) (views : List View) : Type 0 where
  pub log : List Entry
  pub who : ℕ → ℕ
  pub legal : (cell : ℕ) → IsHistory (of_cell cell log)
  pub shows : (cell : ℕ) → cell < length words → slice_index words cell ≡ word_of (of_cell cell log)
  pub bounded : (cell : ℕ) → cell < length words → slice_index words cell < word_bound
  pub owned : AreByOwners each log
  pub fits : (by : ℕ) (v : View) → get_elem? views by ≡ some v → v.live ≡ true → Fits each log who by v
  pub leads : (by : ℕ) (v : View) → get_elem? views by ≡ some v → v.live ≡ true → v.number ≡ 0 → Leads seats log views v

-- what is said when the table is made: how many cells and seats there are, and how many cells each seat owns
abbrev pub Keeps : Plan → State (Unit {0}) View → Type 0
Keeps plan s = (length s.words ≡ plan.cells) × KeptWords plan.each plan.seats s.words s.views
