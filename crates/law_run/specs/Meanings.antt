-- What a run depends on in a script.
use Rattle.std.specs.Prelude.{◌≡◌, ℕ}
use Rattle.spec_script.specs.Scripts.{Script}
use Rattle.law_script.specs.Scripts.Meanings.{MeanTheSame}
use Rattle.spec_machine.specs.Mock.{mock}
use Rattle.spec_machine.specs.Trace.{run, trace}
use Rattle.spec_machine.specs.Answers.{ran}

-- the same moves, states, trace and answer
pub record RunAlike (a b : Script) (n : ℕ) : Type 0 where
  pub moves : (run a n).moves ≡ (run b n).moves
  pub states : mock a n ≡ mock b n
  pub trace : trace a (run a n).moves ≡ trace b (run b n).moves
  pub answer : ran a n ≡ ran b n

abbrev pub RunsGoByMeaning : Type 0
RunsGoByMeaning = (a b : Script) → MeanTheSame a b → (n : ℕ) → RunAlike a b n
