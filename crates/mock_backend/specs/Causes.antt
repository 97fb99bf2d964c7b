-- Why a run ends as it does, in the words of the state that it has come to.
use Rattle.std.specs.Prelude.{◌≡◌, ◌⊎◌, ℕ, false, List, [], Some, None, Ok}
use Rattle.eio_value.specs.declared.raised.Outcome.TheVariants as outcome
use Rattle.eio_value.specs.declared.raised.Raised.{Raised}
use Rattle.spec_machine.specs.Domain.{DomainState}
use Rattle.spec_machine.specs.Trace.{body_end, run}
use Rattle.spec_script.specs.Inputs.{mocked_script}
use Rattle.spec_script.specs.Scripts.{Script}
use Rattle.trace_lines.specs.declared.status.Status.{Status}
use Rattle.trace_lines.specs.declared.status.Status.TheVariants as status
use Rattle.mock_backend.specs.Today.{built_today}

-- ## States

-- nothing is left to be done, and no limit was met: no strike is owed, no fiber is ready, and no timer stands
pub record IsAtRest (l : DomainState) : Type 0 where
  pub unhalted : l.halted ≡ false
  pub nothing_owed : l.duties ≡ []
  pub nobody_ready : l.ready ≡ []
  pub no_timer : l.timers.standing ≡ []

-- then main has ended with an exception
pub record EndsRaised (l : DomainState) : Type 0 where
  pub rests : IsAtRest l
  pub raised : Raised
  pub main : body_end l ≡ Some (outcome.Err raised)

-- or main hasn't ended, and never will
pub record IsStuck (l : DomainState) : Type 0 where
  pub rests : IsAtRest l
  pub main : body_end l ≡ None

-- ## Answers

-- the bytes are a script that is run, and in at most so many moves it comes to such a state
abbrev pub RunsTo : (state : DomainState → Type 0) → (steps : ℕ) → (bytes : List ℕ) → Type 0
RunsTo state steps bytes = (script : Script) × (mocked_script built_today bytes ≡ Ok script) × state (run script steps).last.local

-- a device failed, or memory was refused
abbrev pub IsFault : Status → Type 0
IsFault result = (result ≡ status.ReadFault) ⊎ ((result ≡ status.WriteFault) ⊎ (result ≡ status.NoMemory))

-- the status comes of this cause alone, and whenever the cause is there, unless there was a fault
pub record ComesExactlyOf (Cause : Type 0) (expected result : Status) : Type 0 where
  pub only : result ≡ expected → Cause
  pub always : Cause → (result ≡ expected) ⊎ IsFault result
