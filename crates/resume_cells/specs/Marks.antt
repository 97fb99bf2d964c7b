-- The marks of the cells, as the rule over threads has them: in one log, with the number of the seat that made each. All lists have the newest first.
use Rattle.std.specs.Prelude.{◌≡◌, ◌≢◌, ℕ, ◌+◌, ◌*◌, ◌/◌, ◌^◌, ◌<◌, ◌⊎◌, List, [], ◌∷◌, ◌==◌, if◌then◌else◌}
use Rattle.resume_cells.specs.declared.view.Deed.{Deed}
use Rattle.resume_cells.specs.declared.view.Deed.TheVariants.{Arm, Wake, Cancel}
use Rattle.resume_cells.specs.declared.view.Mark.{Mark}
use Rattle.resume_cells.specs.declared.view.Found.{Found}

-- the last two bits of the word that a mark leaves
abbrev pub code_of : Deed → ℕ
code_of Arm = 1
code_of Wake = 2
code_of Cancel = 3

-- the word that a mark leaves
abbrev pub word : Mark → ℕ
word m = 4 * m.stamp + code_of m.deed

-- no stamp of a mark reaches 2^60, so that no word reaches this
abbrev pub word_bound : ℕ
word_bound = 2 ^ 62

-- a cell's word is that of its newest mark, and 0 before the first
abbrev pub word_of : List Mark → ℕ
word_of [] = 0
word_of (m ∷ ms) = word m

-- the word stood at some time
abbrev pub WasWord : ℕ → List Mark → Type 0
WasWord n [] = n ≡ 0
WasWord n (m ∷ ms) = (n ≡ word m) ⊎ WasWord n ms

abbrev pub IsArm : Mark → Type 0
IsArm m = m.deed ≡ Arm

abbrev pub IsDecision : Mark → Type 0
IsDecision m = (m.deed ≡ Wake) ⊎ (m.deed ≡ Cancel)

-- an arm comes first or after a decision, and a decision after its arm; stamps rise
abbrev pub Follows : Mark → List Mark → Type 0
Follows m [] = IsArm m × (0 < m.stamp)
Follows m (n ∷ ns) = (IsArm m × IsDecision n × (n.stamp < m.stamp)) ⊎ (IsDecision m × IsArm n × (m.armed ≡ n.stamp) × (n.stamp < m.stamp))

-- the marks of one cell
abbrev pub IsHistory : List Mark → Type 0
IsHistory [] = Unit {0}
IsHistory (m ∷ ms) = Follows m ms × IsHistory ms

-- a mark, and the number of the seat that made it
abbrev pub Entry : Type 0
Entry = ℕ × Mark

-- the marks of a cell
abbrev pub of_cell : ℕ → List Entry → List Mark
of_cell cell [] = []
of_cell cell (e ∷ es) = if e.1.cell == cell then e.1 ∷ of_cell cell es else of_cell cell es

-- the marks that a seat made
abbrev pub marks_by : ℕ → List Entry → List Mark
marks_by by [] = []
marks_by by (e ∷ es) = if e.0 == by then e.1 ∷ marks_by by es else marks_by by es

-- a cell is armed and cancelled by its owner alone, and each seat owns so many cells
abbrev pub AreByOwners : ℕ → List Entry → Type 0
AreByOwners each [] = Unit {0}
AreByOwners each (e ∷ es) = (e.1.deed ≢ Wake → e.1.cell / each ≡ e.0) × AreByOwners each es

-- each word that was found stood at some time
abbrev pub AllWere : List Entry → List Found → Type 0
AllWere log [] = Unit {0}
AllWere log (f ∷ fs) = WasWord f.word (of_cell f.cell log) × AllWere log fs
