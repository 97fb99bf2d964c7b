-- Words on what came of a call that decides a wait.
use Rattle.std.specs.Prelude.{ℕ, ◌==◌, if◌then◌else◌}
use Rattle.resume_cells.specs.declared.cells.Decided.{Decided}
use Rattle.resume_cells.specs.declared.cells.Decided.TheVariants.{Won, Lost}

abbrev pub IfWon : Decided → Type 0 → Type 0
IfWon Won P = P
IfWon (Lost word) P = Unit {0}

abbrev pub IfLost : Decided → (ℕ → Type 0) → Type 0
IfLost Won P = Unit {0}
IfLost (Lost word) P = P word

-- what a call comes to that finds this word
abbrev pub outcome_of : (word : ℕ) → (waiting : ℕ) → Decided
outcome_of word waiting = if word == waiting then Won else Lost word
