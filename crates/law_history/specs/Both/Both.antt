-- Scripts that both `mock` and `domains` run. Such a script has one body, and nothing in it is for the mocked domain alone. So its run on one mocked domain is a
-- legal history of that one domain, and ends as the history does.
use Rattle.std.specs.Prelude.{◌≡◌, ℕ, ◌<◌, List, [], Ok}
use Rattle.spec_script.specs.Features.{Built}
use Rattle.spec_script.specs.Inputs.{mocked_script, shared_script}
use Rattle.spec_script.specs.Scripts.{Script}
use Rattle.spec_machine.specs.Histories.{domains_in, ending_of}
use Rattle.spec_machine.specs.Runs.{stamps_below}
use Rattle.spec_machine.specs.Trace.{run, ending_in}
use Rattle.law_history.specs.Waits.Mocked.{AsksOnlyShared, IsHistory}

-- a run of at most n moves asks nothing of the mocked outside and calls only declared objects, and no timer stands at its end
pub record IsOfDomain (script : Script) (n : ℕ) : Type 0 where
  pub asks : AsksOnlyShared script n
  pub untimed : (run script n).last.local.timers.standing ≡ []

-- so is each run of the script that both commands run of an input
abbrev pub RunsOfBothAreOfDomains : Type 0
RunsOfBothAreOfDomains = (built : Built) (bytes : List ℕ) (script : Script) (n : ℕ) → mocked_script built bytes ≡ Ok script → shared_script built bytes ≡ Ok script → IsOfDomain script n

-- the moves of a run are the lines of a legal history, which ends as the run does
pub record IsLegal (script : Script) (n : ℕ) : Type 0 where
  pub history : IsHistory script (run script n)
  pub ending : ending_of script (domains_in script history.final) ≡ ending_in script (run script n).last

-- and so are those of each run of that script, while stamps are below their bound
abbrev pub MockRunsOfBothAreLegal : Type 0
MockRunsOfBothAreLegal =
    (built : Built) (bytes : List ℕ) (script : Script) (n : ℕ) → n < stamps_below → mocked_script built bytes ≡ Ok script → shared_script built bytes ≡ Ok script → IsLegal script n
