-- A domain that the loop of a run may have come to.
use Rattle.std.specs.Prelude.{ℕ, List}
use Rattle.domain_core.specs.Keeping.{KeptDomain}
use Rattle.domain_core.specs.Turns.{StandsForSome}
use Rattle.spec_script.specs.Scripts.{Script}
use Rattle.law_domain.specs.Well.WellStates.{IsRunnable}

-- what is kept stands for some domain of a script that can be run
pub record IsOfRun (texts : List (List ℕ)) (kept : KeptDomain) : Type 0 where
  pub script : Script
  pub runnable : IsRunnable script
  pub stands : StandsForSome script texts kept
