-- The end of a run in code: what was written is its whole text, and it ended as the definitions say.
use Rattle.std.proofs.Common.{◌≡◌, ℕ, ◌≤◌, List, ◌++◌, Option, Result, Ok, Err, refl, ap, sym, ◌∙◌, subst, arith}
use Rattle.std.specs.Prelude.{IfOk, ◌↔◌}
use Rattle.spec_script.specs.Scripts.{Script}
use Rattle.spec_machine.specs.declared.Ending.{Ending}
use Rattle.spec_machine.specs.declared.Ending.TheVariants as ending
use Rattle.spec_machine.specs.Answers.{ran}
use Rattle.spec_machine.specs.Mock.{Mock}
use Rattle.spec_machine.specs.Trace.{run, ending_in, last_line}
use Rattle.domain_core.specs.Keeping.{KeptDomain}
use Rattle.domain_core.specs.Turns.{StandsFor}
use Rattle.mock_backend.specs.declared.fault.RunFault.{RunFault}
use Rattle.mock_backend.specs.Causes.{EndsRaised, IsStuck}
use Rattle.mock_backend.specs.Faults.{HasRunCause, WritesText}
use Rattle.mock_backend.proofs.Answered.{ran_ending, text_with_line}
use Rattle.mock_backend.proofs.EndCauses.{raised_exactly, stuck_exactly}
use Rattle.mock_backend.proofs.Running.{IsWhole, cause_before}

-- how a run has ended that has come to this domain
abbrev pub EndsThere : (texts : List (List ℕ)) → KeptDomain → Ending → Type 0
EndsThere texts kept e = (s : Script) (m : Mock) → StandsFor s texts kept m.local → e ≡ ending_in s m

-- what was written at its end: what is held back and the line behind its trace
abbrev pub WritesThere : (texts : List (List ℕ)) → KeptDomain → (mid now : Option (List ℕ)) → (pending : List ℕ) → Result Ending RunFault → Type 0
WritesThere texts kept mid now pending result = (s : Script) (m : Mock) → StandsFor s texts kept m.local → WritesText mid now (pending ++ last_line (ending_in s m) m) result

module _ (script : Script) (steps : ℕ) (old mid : Option (List ℕ)) (pending : List ℕ) (texts : List (List ℕ)) (kept : KeptDomain) (whole : IsWhole script steps old mid pending texts kept) where
  ends_so : (e : Ending) → EndsThere texts kept e → e ≡ ending_in script (run script steps).last
  ends_so e ends = ends script whole.state whole.stands ∙ ap (ending_in script) (sym whole.last)

  pub whole_ending : (result : Result Ending RunFault) → IfOk result (EndsThere texts kept) → IfOk result (λ e. e ≡ (ran script steps).ending)
  whole_ending (Ok e) ends = ends_so e ends ∙ sym (ran_ending script steps)
  whole_ending (Err it) ends = tt

  pub whole_raised : (result : Result Ending RunFault) → IfOk result (EndsThere texts kept) → IfOk result (λ e. (e ≡ ending.Raised) ↔ EndsRaised (run script steps).last.local)
  whole_raised (Ok e) ends = raised_exactly script (run script steps).last e (ends_so e ends)
  whole_raised (Err it) ends = tt

  pub whole_stuck : (result : Result Ending RunFault) → IfOk result (EndsThere texts kept) → IfOk result (λ e. (e ≡ ending.Deadlock) ↔ IsStuck (run script steps).last.local)
  whole_stuck (Ok e) ends = stuck_exactly script (run script steps).last e (ends_so e ends)
  whole_stuck (Err it) ends = tt

  pub whole_written : (now : Option (List ℕ)) (result : Result Ending RunFault) → WritesThere texts kept mid now pending result → WritesText old now (ran script steps).text result
  whole_written now result writes =
      text_with_line old mid now pending script steps result whole.passed
      (subst (λ (m : Mock). WritesText mid now (pending ++ last_line (ending_in script m) m) result) (sym whole.last) (writes script whole.state whole.stands))

-- the count of faults rose behind the trace, if it did
pub cause_behind : (first mid now : ℕ) (result : Result Ending RunFault) → first ≤ mid → HasRunCause mid now result → HasRunCause first now result
cause_behind first mid now (Ok e) later cause = record { later = omega (arith, cause.later); failed = tt }
cause_behind first mid now (Err it) later cause = cause_before first mid now (Err it) it it refl refl later cause
