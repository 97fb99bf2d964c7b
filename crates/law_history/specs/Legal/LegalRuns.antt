-- That parts which fit together are the parts of a legal run.
-- The lines of all logs, in order of stamp and domain, lead from the opening to where each domain's own run ends.
use Rattle.std.specs.Prelude.{ℕ, List}
use Rattle.spec_script.specs.Scripts.{Script}
use Rattle.spec_machine.specs.Domain.{DomainState}
use Rattle.spec_machine.specs.PartsOfRuns.{Parts, Fit, IsDeclared, IsMerged, Reaches}
use Rattle.spec_machine.specs.Runs.{Noted, DomainMoves, LocalRun}

abbrev pub PartsMakeALegalRun : Type 0
PartsMakeALegalRun =
    (script : Script) (p : Parts) (first ends : ℕ → DomainState) (lines : List Noted)
    → IsDeclared p.declared → Fit p → IsMerged p.logs lines
    → ((d : ℕ) → LocalRun (DomainMoves script) (first d) (p.logs d) (ends d))
    → Reaches (DomainMoves script) p first ends lines
