-- A run of more moves begins as one of fewer does.
use Rattle.std.specs.Prelude.{◌≡◌, ℕ, ◌+◌, List, ◌++◌}
use Rattle.spec_script.specs.Scripts.{Script}
use Rattle.spec_machine.specs.Mock.{mock}
use Rattle.spec_machine.specs.Trace.{run, trace}

-- a list begins with another: that, and then more
pub record BeginsWith {A : Type 0} (whole front : List A) : Type 0 where
  pub more : List A
  pub same : whole ≡ front ++ more

-- the moves of at most n + k begin with those of at most n
abbrev pub MovesBeginAlike : Type 0
MovesBeginAlike = (script : Script) (n k : ℕ) → BeginsWith (run script (n + k)).moves (run script n).moves

-- so do the states
abbrev pub StatesBeginAlike : Type 0
StatesBeginAlike = (script : Script) (n k : ℕ) → BeginsWith (mock script (n + k)) (mock script n)

-- and so does what is written
abbrev pub TracesBeginAlike : Type 0
TracesBeginAlike = (script : Script) (n k : ℕ) → BeginsWith (trace script (run script (n + k)).moves) (trace script (run script n).moves)
