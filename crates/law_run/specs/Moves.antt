-- Where a move exists, and where a run stops.
use Rattle.std.specs.Prelude.{◌≡◌, ℕ, ◌<◌, false, is_some, length}
use Rattle.spec_script.specs.Scripts.{Script}
use Rattle.spec_machine.specs.Mock.{Mock, move, can_move}
use Rattle.spec_machine.specs.Trace.{run}

-- a move exists exactly where something is left to be done
abbrev pub MovesWhereSomethingIsLeft : Type 0
MovesWhereSomethingIsLeft = (script : Script) (m : Mock) → is_some (move script m) ≡ can_move m.local

-- a run that made fewer moves than it may has come to a state where nothing is left
abbrev pub ShortRunsAreOver : Type 0
ShortRunsAreOver = (script : Script) (n : ℕ) → length (run script n).moves < n → can_move (run script n).last.local ≡ false
